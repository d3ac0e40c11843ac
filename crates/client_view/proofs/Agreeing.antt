-- A block that was fetched goes into what a client knows, which agrees with the whole still.
use Rattle.std.proofs.Common.{◌≡◌, inl, inr, ℕ, ◌+◌, ◌-◌, ◌*◌, min, true, cond, List, length, drop, Option, Some, None, refl, ap, sym, ◌∙◌, arith}
use Rattle.std.specs.Prelude.{◌==◌, ◌&&◌, nat_le, nat_lt, option_map}
use Rattle.std.proofs.lemmas.Bool.{cases_Bool, and_parts, cond-true, cond-false}
use Rattle.std.proofs.lemmas.Bool.Decides.{nat_tests}
use Rattle.std.proofs.lemmas.List.{length-take, length-drop}
use Rattle.posix_calls.specs.Tree.{Descriptors}
use Rattle.posix_calls.specs.declared.limits.TheConstants.{UNIT_BYTES}
use Rattle.client_plan.specs.file_graph.Graph.{Graph, Node, FileBody, DirBody, file_bytes}
use Rattle.client_plan.specs.file_graph.Numbers.{in_run}
use Rattle.client_plan.specs.log_record.declared.format.Record.{Record}
use Rattle.client_plan.specs.call_effects.Blocks.{block_of}
use Rattle.client_plan.specs.call_effects.Knowledge.{Knowledge, Agrees, IsForgetful, with_blocks}
use Rattle.client_plan.specs.call_effects.NodeView.{FileView, view_of_node}
use Rattle.client_plan.proofs.call_effects_lemmas.Served.{blocks_agree, less_agrees}
use Rattle.world_invariant.specs.Logs.{after_records}
use Rattle.client_view.specs.After.{block_laid, bytes_at}
use Rattle.client_view.proofs.Laid.{block_is}

-- a block over which records are laid
module _ (k : Knowledge) (g whole : Graph) (held : Descriptors) (rs : List Record) (i : ℕ) (agrees : Agrees k whole held) (same : whole i ≡ after_records g rs i) where
  file_is : (o : Option Node) (bytes : List ℕ) → file_bytes o ≡ Some bytes → (names : ℕ) × (o ≡ Some (record { names = names; body = FileBody bytes }))
  file_is None bytes is = absurd (cc)
  file_is (Some n) bytes is = elim (n.body) as (λ y. n.body ≡ y → file_bytes (Some (record { names = n.names; body = y })) ≡ Some bytes → (names : ℕ) × (Some n ≡ Some (record { names = names; body = FileBody bytes }))) [
    | FileBody old ↦ λ at e. let these : old ≡ bytes = cc in (n.names, ap (λ y. Some (record { names = n.names; body = y })) (at ∙ ap FileBody these))
    | DirBody es ↦ λ at e. absurd (cc)
  ] refl is

  size_is : (o : Option Node) (bytes : List ℕ) (names size : ℕ) → file_bytes o ≡ Some bytes → option_map view_of_node o ≡ Some (FileView names size) → length bytes ≡ size
  size_is o bytes names size is view =
      let file = file_is o bytes is in
      let seen : Some (FileView file.0 (length bytes)) ≡ Some (FileView names size) = sym (ap (option_map view_of_node) file.1) ∙ view in
      cc

  module _ (b : ℕ) (bytes block : List ℕ) (file : file_bytes (whole i) ≡ Some bytes) (laid : block_laid rs i b (Some (block_of b (bytes_at g i))) ≡ Some block) where
    block_there : block ≡ block_of b bytes
    block_there =
        let both : Some block ≡ Some (block_of b bytes) = sym laid ∙ block_is g rs i b bytes (sym (ap file_bytes same) ∙ file) in
        cc

    stands_back : agrees.back i ≡ whole i
    stands_back = elim (agrees.put_back i) [
      | inl stands ↦ stands
      | inr gone ↦ absurd (let clash : None ≡ Some bytes = sym (ap file_bytes gone.nothing) ∙ file in cc)
    ]

    pub block_long : (names size : ℕ) → k.copies i ≡ Some (Some (FileView names size)) → length block ≡ min UNIT_BYTES (size - UNIT_BYTES * b)
    block_long names size copy =
        let seen : option_map view_of_node (whole i) ≡ Some (FileView names size) = ap (option_map view_of_node) (sym stands_back) ∙ agrees.copies i (Some (FileView names size)) copy in
        let many : length bytes ≡ size = size_is (whole i) bytes names size file seen in
        ap length block_there ∙ length-take UNIT_BYTES (drop (UNIT_BYTES * b) bytes) ∙ ap (min UNIT_BYTES) (length-drop (UNIT_BYTES * b) bytes ∙ ap (λ n. n - UNIT_BYTES * b) many)

    only_one : (n : ℕ) → in_run b 1 n ≡ true → n ≡ b
    only_one n is = let parts = and_parts (nat_le b n) (nat_lt n (b + 1)) is in grind (arith, nat_tests, parts.0, parts.1)

    same_block : (j n : ℕ) (v : List ℕ) → cond ((j == i) && in_run b 1 n) (Some block) (k.blocks j n) ≡ Some v → cond ((j == i) && in_run b 1 n) (Some (block_of n bytes)) (k.blocks j n) ≡ Some v
    same_block j n v is = elim (cases_Bool ((j == i) && in_run b 1 n)) [
      | inl on ↦
          cond-true ((j == i) && in_run b 1 n) (Some (block_of n bytes)) (k.blocks j n) on
          ∙ ap (λ m. Some (block_of m bytes)) (only_one n (and_parts (j == i) (in_run b 1 n) on).1)
          ∙ ap (λ xs. Some xs) (sym block_there)
          ∙ sym (cond-true ((j == i) && in_run b 1 n) (Some block) (k.blocks j n) on)
          ∙ is
      | inr off ↦ cond-false ((j == i) && in_run b 1 n) (Some (block_of n bytes)) (k.blocks j n) off ∙ sym (cond-false ((j == i) && in_run b 1 n) (Some block) (k.blocks j n) off) ∙ is
    ]

    pub block_agrees : (less : Knowledge) → IsForgetful (with_blocks k i b 1 (λ n. block)) less → Agrees less whole held
    block_agrees less forgets =
        let at = file_is (whole i) bytes file in
        less_agrees (with_blocks k i b 1 (λ n. block_of n bytes)) whole held (blocks_agree k whole held agrees i b 1 at.0 bytes at.1) less
        (record {
          client = forgets.client;
          own = forgets.own;
          copies = record { nodes = forgets.copies.nodes; blocks = λ j n v is. same_block j n v (forgets.copies.blocks j n v is) };
          granted = forgets.granted;
        })
