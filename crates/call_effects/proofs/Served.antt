-- What a client gets of the whole agrees with it, and what it forgets does no harm.
use Rattle.std.proofs.Common.{◌≡◌, inl, inr, ℕ, List, refl, Some, None, cond, ap, sym, subst, ◌∙◌, true, false, Bool, ◌==◌}
use Rattle.std.specs.Prelude.{option_map, ◌&&◌, ◌||◌}
use Rattle.call_effects.specs.Fits.{IsNew}
use Rattle.std.proofs.lemmas.Bool.{eqb-true}
use Rattle.std.proofs.lemmas.Bool.Decides.{eqb_tells}
use Rattle.posix_calls.specs.Operations.{is_client}
use Rattle.posix_calls.specs.Tree.{Descriptors}
use Rattle.log_record.specs.file_graph.Graph.{Graph, FileBody, file_bytes}
use Rattle.call_effects.specs.Blocks.{block_of, block_at}
use Rattle.call_effects.specs.NodeView.{view_of_node, view_at}
use Rattle.call_effects.specs.Knowledge.{Knowledge, Agrees, IsForgetful, in_run, with_copy, with_blocks, with_granted}
use Rattle.call_effects.proofs.Changes.{file}
use Rattle.call_effects.proofs.KnownTold.{both_hold}
use Rattle.call_effects.proofs.PutBack.{stands_back}

module _ (k : Knowledge) (g : Graph) (d : Descriptors) (agrees : Agrees k g d) where
  -- ---- a copy of a node

  module _ (i : ℕ) (no_blocks : g i ≡ None → (b : ℕ) → k.blocks i b ≡ None) where
    -- at its inode the whole stands as it is
    abbrev back : Graph
    back j = cond (j == i) (g j) (agrees.back j)

    back_there : (j : ℕ) → j ≡ i → (b : ℕ) (bytes : List ℕ) → k.blocks j b ≡ Some bytes → agrees.back j ≡ g j
    back_there j same b bytes is = elim (agrees.put_back j) [
      | inl stands ↦ stands
      | inr gone ↦ absurd (let clash : None ≡ Some bytes = sym (ap (λ x. k.blocks x b) same ∙ no_blocks (ap g (sym same) ∙ gone.nothing) b) ∙ is in cc)
    ]

    pub copy_agrees : Agrees (with_copy k i (view_at g i)) g d
    copy_agrees = record {
      client = agrees.client;
      own = agrees.own;
      back = back;
      put_back = λ j. elim (eqb_tells j i) [
        | inl same ↦ inl (ap (λ t. cond t (g j) (agrees.back j)) same.0)
        | inr off ↦ elim (agrees.put_back j) [
          | inl stands ↦ inl (ap (λ t. cond t (g j) (agrees.back j)) off.0 ∙ stands)
          | inr gone ↦ inr (record { nothing = gone.nothing; bytes = gone.bytes; file = ap (λ t. cond t (g j) (agrees.back j)) off.0 ∙ gone.file })
        ]
      ];
      copies = λ j copy is. elim (eqb_tells j i) [
        | inl same ↦
            let here : Some (view_at g i) ≡ Some copy = sym (ap (λ t. cond t (Some (view_at g i)) (k.copies j)) same.0) ∙ is in
            ap (λ t. option_map view_of_node (cond t (g j) (agrees.back j))) same.0 ∙ ap (view_at g) same.1 ∙ (let e : view_at g i ≡ copy = cc in e)
        | inr off ↦ ap (λ t. option_map view_of_node (cond t (g j) (agrees.back j))) off.0 ∙ agrees.copies j copy (sym (ap (λ t. cond t (Some (view_at g i)) (k.copies j)) off.0) ∙ is)
      ];
      blocks = λ j b bytes is. elim (eqb_tells j i) [
        | inl same ↦ ap (λ t. option_map (block_of b) (file_bytes (cond t (g j) (agrees.back j)))) same.0 ∙ ap (λ o. option_map (block_of b) (file_bytes o)) (sym (back_there j same.1 b bytes is)) ∙ agrees.blocks j b bytes is
        | inr off ↦ ap (λ t. option_map (block_of b) (file_bytes (cond t (g j) (agrees.back j)))) off.0 ∙ agrees.blocks j b bytes is
      ];
      granted = agrees.granted;
    }

  -- ---- blocks of a file

  module _ (i first count names : ℕ) (bytes : List ℕ) (is_file : g i ≡ file names bytes) where
    served_block : (j b : ℕ) (t : Bool) (block : List ℕ) → (j == i && in_run first count b) ≡ t → cond t (Some (block_of b bytes)) (k.blocks j b) ≡ Some block → block_at agrees.back j b ≡ Some block
    served_block j b true block test is =
        let at = both_hold (j == i) (in_run first count b) test in
        ap (λ x. block_at agrees.back x b) (eqb-true j i at.0)
        ∙ ap (λ o. option_map (block_of b) (file_bytes o)) (stands_back g agrees.back agrees.put_back i (record { names = names; body = FileBody bytes }) is_file)
        ∙ is
    served_block j b false block test is = agrees.blocks j b block is

    pub blocks_agree : Agrees (with_blocks k i first count (λ b. block_of b bytes)) g d
    blocks_agree = record {
      client = agrees.client;
      own = agrees.own;
      back = agrees.back;
      put_back = agrees.put_back;
      copies = agrees.copies;
      blocks = λ j b block is. served_block j b (j == i && in_run first count b) block refl is;
      granted = agrees.granted;
    }

  -- ---- less of it

  pub less_agrees : (less : Knowledge) → IsForgetful k less → Agrees less g d
  less_agrees less forgets = record {
    client = ap is_client forgets.client ∙ agrees.client;
    own = λ number. ap (λ c. d c number) forgets.client ∙ agrees.own number ∙ sym (forgets.own number);
    back = agrees.back;
    put_back = agrees.put_back;
    copies = λ i copy is. agrees.copies i copy (forgets.copies.nodes i copy is);
    blocks = λ i b bytes is. agrees.blocks i b bytes (forgets.copies.blocks i b bytes is);
    granted = λ i is. agrees.granted i (forgets.granted i is);
  }

  -- ---- a number that is granted

  granted_or : (i j : ℕ) (b : Bool) → (j == i) ≡ b → IsNew g i → (b || k.granted j) ≡ true → IsNew g j
  granted_or i j true same free is = subst (IsNew g) (sym (eqb-true j i same)) free
  granted_or i j false apart free is = agrees.granted j is

  pub granted_agrees : (i : ℕ) → IsNew g i → Agrees (with_granted k i) g d
  granted_agrees i free = record { client = agrees.client; own = agrees.own; back = agrees.back; put_back = agrees.put_back; copies = agrees.copies; blocks = agrees.blocks; granted = λ j is. granted_or i j (j == i) refl free is }
