-- What a client misses it has no copy of, and what it knows it still knows with more copies.
use Rattle.std.proofs.Common.{◌≡◌, inl, inr, ℕ, ◌+◌, ◌≤◌, ◌<◌, List, refl, Some, None, Option, Result, cond, ap, sym, ◌∙◌, subst, true, false, Bool, ◌==◌}
use Rattle.std.specs.Prelude.{unwrap_or, option_map, ◌&&◌, nat_lt}
use Rattle.std.proofs.lemmas.Bool.{eq-eqb, le-leb, lt-ltb}
use Rattle.std.proofs.lemmas.Bool.Decides.{eqb_tells}
use Rattle.posix_calls.specs.Tree.{Descriptors}
use Rattle.posix_calls.specs.declared.errno.Errno.{Errno}
use Rattle.posix_calls.specs.declared.operation.Missing.TheVariants as missing
use Rattle.posix_calls.specs.Query.{Seen, Query, Gives, Refuses, IsDir, Look, Range}
use Rattle.posix_calls.specs.Part.{Part, Found, Known, Unknown, IsBeyond, blocks_missing, run_part}
use Rattle.posix_calls.proofs.Parts.{missing_is_left}
use Rattle.posix_calls.proofs.Sums.{any_is, any_there}
use Rattle.log_record.specs.file_graph.Graph.{Graph}
use Rattle.log_record.specs.file_graph.declared.effect.Kind.{Kind}
use Rattle.log_record.specs.file_graph.declared.effect.Kind.TheVariants as kind
use Rattle.call_effects.specs.Blocks.{blocks_joined}
use Rattle.call_effects.specs.NodeView.{NodeView, view_seen}
use Rattle.call_effects.specs.Wholes.{node_is_dir}
use Rattle.call_effects.specs.Knowledge.{Knowledge, Agrees, HasCopies, with_copy, with_blocks, in_run, copy_of, lists_as, is_listed, is_dir_by, part_of}
use Rattle.call_effects.proofs.Changes.{IsFair}
use Rattle.call_effects.proofs.JoinedBlocks.{a_block, not_joined, range_more}
use Rattle.call_effects.proofs.KnownTold.{told_is, dir_stands, file_stands, part_is}

-- ---- what is missing

no_copy : (i : ℕ) (copy : Option (Option NodeView)) → option_map (λ c. option_map view_seen c) copy ≡ None → copy ≡ None
no_copy i None e = refl
no_copy i (Some c) e = absurd (cc)

no_copy_by : (copy : Option (Option NodeView)) (dir file : Bool) → is_dir_by copy dir file ≡ None → copy ≡ None
no_copy_by None dir file e = refl
no_copy_by (Some c) dir file e = absurd (cc)

no_kind : (k : Knowledge) (i : ℕ) → (part_of k).is_dir i ≡ None → k.copies i ≡ None
no_kind k i e = elim (eqb_tells i 1) [
  | inl same ↦ absurd (let clash : Some (Some true) ≡ None = sym (ap (λ b. cond b (Some (Some true)) (is_dir_by (k.copies i) (is_listed k i kind.Directory) (is_listed k i kind.File))) same.0) ∙ e in cc)
  | inr off ↦ no_copy_by (k.copies i) (is_listed k i kind.Directory) (is_listed k i kind.File) (sym (ap (λ b. cond b (Some (Some true)) (is_dir_by (k.copies i) (is_listed k i kind.Directory) (is_listed k i kind.File))) off.0) ∙ e)
]

-- a node that is missing was not copied
node_beyond : {A : Type 0} (k : Knowledge) (i : ℕ) (q : Query A) → IsBeyond (part_of k) (missing.Node i) q → k.copies i ≡ None
node_beyond k i (Gives x) at = absurd at
node_beyond k i (Refuses e) at = absurd at
node_beyond k i (IsDir j next) at = let here : missing.Node j ≡ missing.Node i = at.0 in let same : j ≡ i = cc in subst (λ x. k.copies x ≡ None) same (no_kind k j at.1)
node_beyond k i (Look j next) at = let here : missing.Node j ≡ missing.Node i = at.0 in let same : j ≡ i = cc in subst (λ x. k.copies x ≡ None) same (no_copy j (k.copies j) at.1)
node_beyond k i (Range j from many next) at = absurd (let clash : blocks_missing j from many ≡ missing.Node i = at.0 in cc)

pub missing_no_copy : {A : Type 0} (k : Knowledge) (q : Query A) (i : ℕ) → run_part (part_of k) q ≡ Unknown (missing.Node i) → k.copies i ≡ None
missing_no_copy k q i e = let left = missing_is_left (part_of k) q (missing.Node i) e in node_beyond k i left.rest left.beyond

-- blocks that are missing are not all known
blocks_beyond : {A : Type 0} (k : Knowledge) (i first count : ℕ) (q : Query A) → IsBeyond (part_of k) (missing.Blocks i first count) q → blocks_joined (k.blocks i) first count ≡ None
blocks_beyond k i first count (Gives x) at = absurd at
blocks_beyond k i first count (Refuses e) at = absurd at
blocks_beyond k i first count (IsDir j next) at = absurd (let clash : missing.Node j ≡ missing.Blocks i first count = at.0 in cc)
blocks_beyond k i first count (Look j next) at = absurd (let clash : missing.Node j ≡ missing.Blocks i first count = at.0 in cc)
blocks_beyond k i first count (Range j from many next) at =
    let unknown = not_joined (k.blocks j) from many at.1 in
    let here : blocks_missing j from many ≡ missing.Blocks i first count = at.0 in
    cc

pub missing_not_joined : {A : Type 0} (k : Knowledge) (q : Query A) (i first count : ℕ) → run_part (part_of k) q ≡ Unknown (missing.Blocks i first count) → blocks_joined (k.blocks i) first count ≡ None
missing_not_joined k q i first count e = let left = missing_is_left (part_of k) q (missing.Blocks i first count) e in blocks_beyond k i first count left.rest left.beyond

-- ---- what is served

pub copy_is_enough : {A : Type 0} (k : Knowledge) (i : ℕ) (copy : Option NodeView) (q : Query A) → run_part (part_of (with_copy k i copy)) q ≡ Unknown (missing.Node i) → ⊥
copy_is_enough k i copy q e =
    let clash : Some copy ≡ None = sym (ap (λ b. cond b (Some copy) (k.copies i)) (eq-eqb i i refl)) ∙ missing_no_copy (with_copy k i copy) q i e in
    absurd (cc)

within_is : (first count b : ℕ) → first ≤ b → b < first + count → in_run first count b ≡ true
within_is first count b low high = ap (λ t. t && nat_lt b (first + count)) (le-leb first b low) ∙ lt-ltb b (first + count) high

pub blocks_are_enough : {A : Type 0} (k : Knowledge) (i first count : ℕ) (block : ℕ → List ℕ) (q : Query A) → run_part (part_of (with_blocks k i first count block)) q ≡ Unknown (missing.Blocks i first count) → ⊥
blocks_are_enough k i first count block q e =
    let lacks = a_block ((with_blocks k i first count block).blocks i) first count (missing_not_joined (with_blocks k i first count block) q i first count e) in
    let b = lacks.block in
    let test : (i == i && in_run first count b) ≡ true = ap (λ t. t && in_run first count b) (eq-eqb i i refl) ∙ within_is first count b lacks.low lacks.high in
    let clash : Some (block b) ≡ None = sym (ap (λ t. cond t (Some (block b)) (k.blocks i b)) test) ∙ lacks.unknown in
    absurd (cc)

-- ---- with more copies

known_more : {A : Type 0} (p more : Part) (q : Query A) (r : Result A Errno) → ((i : ℕ) (o : Option Bool) → p.is_dir i ≡ Some o → more.is_dir i ≡ Some o) → ((i : ℕ) (o : Option Seen) → p.node i ≡ Some o → more.node i ≡ Some o) → ((i at count : ℕ) (bytes : List ℕ) → p.bytes i at count ≡ Some bytes → more.bytes i at count ≡ Some bytes) → run_part p q ≡ Known r → run_part more q ≡ Known r
unfolding run_part
known_more p more (Gives x) r dirs nodes ranges e = e
known_more p more (Refuses x) r dirs nodes ranges e = e
known_more {A = A} p more (IsDir i next) r dirs nodes ranges e =
    elim (p.is_dir i) as (λ o. p.is_dir i ≡ o → ◌≡◌ {A = Found A} (elim o [ None ↦ Unknown (missing.Node i) | Some a ↦ run_part p (next a) ]) (Known r) → ◌≡◌ {A = Found A} (elim (more.is_dir i) [ None ↦ Unknown (missing.Node i) | Some a ↦ run_part more (next a) ]) (Known r)) [
      | None ↦ λ is lacking. absurd (cc)
      | Some a ↦ λ is known. subst (λ o. ◌≡◌ {A = Found A} (elim o [ None ↦ Unknown (missing.Node i) | Some a ↦ run_part more (next a) ]) (Known r)) (sym (dirs i a is)) (known_more p more (next a) r dirs nodes ranges known)
    ] refl e
known_more {A = A} p more (Look i next) r dirs nodes ranges e =
    elim (p.node i) as (λ o. p.node i ≡ o → ◌≡◌ {A = Found A} (elim o [ None ↦ Unknown (missing.Node i) | Some a ↦ run_part p (next a) ]) (Known r) → ◌≡◌ {A = Found A} (elim (more.node i) [ None ↦ Unknown (missing.Node i) | Some a ↦ run_part more (next a) ]) (Known r)) [
      | None ↦ λ is lacking. absurd (cc)
      | Some a ↦ λ is known. subst (λ o. ◌≡◌ {A = Found A} (elim o [ None ↦ Unknown (missing.Node i) | Some a ↦ run_part more (next a) ]) (Known r)) (sym (nodes i a is)) (known_more p more (next a) r dirs nodes ranges known)
    ] refl e
known_more {A = A} p more (Range i at count next) r dirs nodes ranges e =
    elim (p.bytes i at count) as (λ o. p.bytes i at count ≡ o → ◌≡◌ {A = Found A} (elim o [ None ↦ Unknown (blocks_missing i at count) | Some a ↦ run_part p (next a) ]) (Known r) → ◌≡◌ {A = Found A} (elim (more.bytes i at count) [ None ↦ Unknown (blocks_missing i at count) | Some a ↦ run_part more (next a) ]) (Known r)) [
      | None ↦ λ is lacking. absurd (cc)
      | Some a ↦ λ is known. subst (λ o. ◌≡◌ {A = Found A} (elim o [ None ↦ Unknown (blocks_missing i at count) | Some a ↦ run_part more (next a) ]) (Known r)) (sym (ranges i at count a is)) (known_more p more (next a) r dirs nodes ranges known)
    ] refl e

-- an answer is there
abbrev pub Answers : Option (Option Bool) → Type 0
Answers o = (b : Option Bool) × (o ≡ Some b)

pub by_dir : (copy : Option (Option NodeView)) (file : Bool) → Answers (is_dir_by copy true file)
by_dir (Some c) file = (_, refl)
by_dir None file = (_, refl)

pub by_file : (copy : Option (Option NodeView)) (dir : Bool) → Answers (is_dir_by copy dir true)
by_file (Some c) dir = (_, refl)
by_file None true = (_, refl)
by_file None false = (_, refl)

module _ (k more : Knowledge) (all : HasCopies more k) where
  copies_more : (i : ℕ) (copy : Option (Option NodeView)) (o : Option Seen) → k.copies i ≡ copy → option_map (λ c. option_map view_seen c) copy ≡ Some o → (part_of more).node i ≡ Some o
  copies_more i None o is e = absurd (cc)
  copies_more i (Some copy) o is e = ap (option_map (λ c. option_map view_seen c)) (all.nodes i copy is) ∙ e

  tells_more : (at i : ℕ) (what : Kind) (copy : Option (Option NodeView)) → k.copies at ≡ copy → lists_as i what (unwrap_or copy None) ≡ true → lists_as i what (copy_of more at) ≡ true
  tells_more at i what None is e = absurd (cc)
  tells_more at i what (Some copy) is e = ap (λ x. lists_as i what (unwrap_or x None)) (all.nodes at copy is) ∙ e

  told_more : (i : ℕ) (what : Kind) → is_listed k i what ≡ true → is_listed more i what ≡ true
  told_more i what e =
      let at = any_is 1024 (λ x. lists_as i what (copy_of k x)) e in
      any_there 1024 at.k (λ x. lists_as i what (copy_of more x)) at.low at.high (tells_more at.k i what (k.copies at.k) refl at.passes)

  module _ (g : Graph) (d : Descriptors) (fair : IsFair g d) (less : Agrees k g d) (agrees : Agrees more g d) where
    abbrev answer_by : Knowledge → ℕ → Option (Option Bool)
    answer_by m i = is_dir_by (m.copies i) (is_listed m i kind.Directory) (is_listed m i kind.File)

    -- whoever is not the root is answered by copies and what they tell
    beside_root : (m : Knowledge) (i : ℕ) → (i == 1) ≡ false → (part_of m).is_dir i ≡ answer_by m i
    beside_root m i off = ap (λ b. cond b (Some (Some true)) (answer_by m i)) off

    same_answer : (i : ℕ) (o : Option Bool) → (i == 1) ≡ false → Answers (answer_by more i) → option_map node_is_dir (agrees.back i) ≡ o → answer_by more i ≡ Some o
    same_answer i o off there is =
        let so : o ≡ there.0 = sym is ∙ (part_is more g d fair agrees).is_dir i there.0 (beside_root more i off ∙ there.1) in
        there.1 ∙ ap (λ x. Some x) (sym so)

    answers_more : (i : ℕ) (o : Option Bool) (copy : Option (Option NodeView)) (dir file : Bool) → (i == 1) ≡ false → k.copies i ≡ copy → is_listed k i kind.Directory ≡ dir → is_listed k i kind.File ≡ file → is_dir_by copy dir file ≡ Some o → answer_by more i ≡ Some o
    answers_more i o (Some copy) dir file off is b c e = ap (λ x. is_dir_by x (is_listed more i kind.Directory) (is_listed more i kind.File)) (all.nodes i copy is) ∙ e
    answers_more i o None true file off is b c e =
        let dir : Some true ≡ o = cc in
        same_answer i o off (subst (λ x. Answers (is_dir_by (more.copies i) x (is_listed more i kind.File))) (sym (told_more i kind.Directory b)) (by_dir (more.copies i) (is_listed more i kind.File))) (dir_stands more g d fair agrees i (told_is k g d fair less i kind.Directory b) ∙ dir)
    answers_more i o None false true off is b c e =
        let file : Some false ≡ o = cc in
        same_answer i o off (subst (λ x. Answers (is_dir_by (more.copies i) (is_listed more i kind.Directory) x)) (sym (told_more i kind.File c)) (by_file (more.copies i) (is_listed more i kind.Directory))) (file_stands more g d fair agrees i (told_is k g d fair less i kind.File c) ∙ file)
    answers_more i o None false false off is b c e = absurd (cc)

    kind_more : (i : ℕ) (o : Option Bool) → (part_of k).is_dir i ≡ Some o → (part_of more).is_dir i ≡ Some o
    kind_more i o e = elim (eqb_tells i 1) [
      | inl same ↦ ap (λ b. cond b (Some (Some true)) (answer_by more i)) same.0 ∙ sym (ap (λ b. cond b (Some (Some true)) (answer_by k i)) same.0) ∙ e
      | inr off ↦ beside_root more i off.0 ∙ answers_more i o (k.copies i) (is_listed k i kind.Directory) (is_listed k i kind.File) off.0 refl refl refl (sym (beside_root k i off.0) ∙ e)
    ]

    pub stays_known : {A : Type 0} (q : Query A) (r : Result A Errno) → run_part (part_of k) q ≡ Known r → run_part (part_of more) q ≡ Known r
    stays_known q r e = known_more (part_of k) (part_of more) q r kind_more (λ i o is. copies_more i (k.copies i) o refl is) (λ i at count bytes is. range_more (k.blocks i) (more.blocks i) (all.blocks i) at count bytes is) e
