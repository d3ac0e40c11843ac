-- The data blocks that a change wants are of blocks that it writes.
use Rattle.std.proofs.Common.{◌≡◌, ◌≢◌, ◌≤◌, ◌+◌, ◌∙◌, inl, inr, ℕ, List, [], ◌∷◌, ◌++◌, length, map, Bool, true, false, Some, refl, sym, ap, subst, arith}
use Rattle.std.specs.Prelude.{◌==◌, ◌&&◌}
use Rattle.std.specs.List.{Contains, AllByRecursion, IsDistinct}
use Rattle.std.specs.FinMap as fin
use Rattle.std.proofs.lemmas.Bool.{ne_eqb}
use Rattle.std.proofs.lemmas.List.{length-append, length-map}
use Rattle.std.proofs.lemmas.List.Elements.{Contains-append_cases}
use Rattle.std.proofs.lemmas.Map.Keys.{IsDistinct-cons}
use Rattle.inode_plan.specs.file_graph.declared.effect.Kind.TheVariants as kind
use Rattle.inode_plan.proofs.area_commit_lemmas.Members.{cons_here, cons_there, nothing}
use Rattle.inode_plan.specs.graph_change.Change.{Change, Changes, change_at}
use Rattle.inode_plan.specs.layout.Places.{Sizes}
use Rattle.inode_plan.specs.tree_blocks.After.{start_node}
use Rattle.inode_plan.specs.area_reader.Store.{Store, inode}
use Rattle.inode_plan.specs.area_commit.InodeChange.{places_from, writes_over}
use Rattle.change_plan.specs.Next.{WantsData}
use Rattle.change_plan.specs.BlockDemand.{WantInTurn, WantsBlocks, AreWritten, same_block}
use Rattle.change_plan.proofs.Climbs.{Climb, climb_low, climb_rising, keys_climb, change_here, mapped_from}

-- ---- lists

all_of : {A : Type 0} (P : A → Type 0) (xs : List A) → ((x : A) → Contains xs x → P x) → AllByRecursion P xs
all_of P [] each = tt
all_of P (x ∷ xs) each = (each x (cons_here x xs x refl), all_of P xs (λ y at. each y (cons_there x xs y at)))

none_twice : {A : Type 0} (eq : A → A → Bool) → IsDistinct eq []
unfolding IsDistinct
none_twice eq = tt

-- these blocks of one inode
abbrev its : ℕ → List ℕ → List (ℕ × ℕ)
its i numbers = map (λ k. (i, k)) numbers

-- two inodes, or two blocks of one
apart_inodes : (a b : ℕ × ℕ) → a.0 ≢ b.0 → same_block a b ≡ false
apart_inodes a b other = ap (λ (t : Bool). t && (a.1 == b.1)) (ne_eqb a.0 b.0 other)

and_false : (t : Bool) → (t && false) ≡ false
and_false true = refl
and_false false = refl

apart_blocks : (a b : ℕ × ℕ) → a.1 ≢ b.1 → same_block a b ≡ false
apart_blocks a b other = ap (λ (t : Bool). (a.0 == b.0) && t) (ne_eqb a.1 b.1 other) ∙ and_false (a.0 == b.0)

-- blocks of one inode, before those of later ones
once_more : (i low : ℕ) (numbers : List ℕ) (bs : List (ℕ × ℕ)) → Climb low numbers → IsDistinct same_block bs → ((b : ℕ × ℕ) → Contains bs b → i + 1 ≤ b.0) → IsDistinct same_block (its i numbers ++ bs)
once_more i low [] bs climb once later = once
once_more i low (k ∷ ks) bs climb once later =
    let apart : (b : ℕ × ℕ) → Contains (its i ks ++ bs) b → same_block (i, k) b ≡ false =
    λ b at. elim (Contains-append_cases (its i ks) bs b at) [
      | inl own ↦
          let r = mapped_from (λ (j : ℕ). (i, j)) ks b own in
          let above = climb_low (k + 1) ks r.0 climb.1 r.1 in
          let number : r.0 ≡ b.1 = ap (λ (p : ℕ × ℕ). p.1) r.2 in
          apart_blocks (i, k) b (λ same. omega (arith, same, above, number))
      | inr other ↦ (let more = later b other in apart_inodes (i, k) b (λ same. omega (arith, same, more)))
    ] in
    IsDistinct-cons same_block (i, k) (its i ks ++ bs) (all_of (λ b. same_block (i, k) b ≡ false) (its i ks ++ bs) apart) (once_more i (k + 1) ks bs climb.1 once later)

module _ (g : Sizes) (s : Store) (cs : Changes) where
  abbrev IsOne : ℕ × ℕ → Type 0
  IsOne b = ((start_node (change_at cs b.0).base (inode g s b.0)).kind ≡ Some kind.File) × (writes_over (places_from g s b.0 (change_at cs b.0).base) (change_at cs b.0) b.1 ≡ true)

  -- blocks of inodes from a number on, as many as are wanted
  record HasBlocks (low count : ℕ) : Type 0 where
    bs : List (ℕ × ℕ)
    once : IsDistinct same_block bs
    each : (b : ℕ × ℕ) → Contains bs b → IsOne b
    later : (b : ℕ × ℕ) → Contains bs b → low ≤ b.0
    many : length bs ≡ count

  more_blocks : (low : ℕ) (e : ℕ × Change) (own rest count : ℕ) → low ≤ e.0 → change_at cs e.0 ≡ e.1 → WantsData g s e.1 e.0 own → own + rest ≡ count → HasBlocks (e.0 + 1) rest → HasBlocks low count
  more_blocks low e own rest count le here (inl is) sum has = record {
    bs = its e.0 is.1 ++ has.bs;
    once = once_more e.0 0 is.1 has.bs (climb_rising 0 is.2.rising.0 is.1 is.2.rising.1) has.once has.later;
    each = λ b at. elim (Contains-append_cases (its e.0 is.1) has.bs b at) [
      | inl one ↦
          let r = mapped_from (λ (j : ℕ). (e.0, j)) is.1 b one in
          let own_one : IsOne (e.0, r.0) = subst (λ (c : Change). ((start_node c.base (inode g s e.0)).kind ≡ Some kind.File) × (writes_over (places_from g s e.0 c.base) c r.0 ≡ true)) (sym here) (is.0, (is.2.each r.0).0 r.1) in
          subst IsOne r.2 own_one
      | inr other ↦ has.each b other
    ];
    later = λ b at. elim (Contains-append_cases (its e.0 is.1) has.bs b at) [
      | inl one ↦ (let r = mapped_from (λ (j : ℕ). (e.0, j)) is.1 b one in let number : e.0 ≡ b.0 = ap (λ (p : ℕ × ℕ). p.0) r.2 in omega (arith, le, number))
      | inr other ↦ (let more = has.later b other in omega (arith, le, more))
    ];
    many = (let long = length-append (its e.0 is.1) has.bs in let same = length-map {B = ℕ × ℕ} is.1 (λ (j : ℕ). (e.0, j)) in omega (arith, long, same, is.3, has.many, sum));
  }
  more_blocks low e own rest count le here (inr is) sum has = record {
    bs = has.bs;
    once = has.once;
    each = has.each;
    later = λ b at. (let more = has.later b at in omega (arith, le, more));
    many = omega (arith, is.1, has.many, sum);
  }

  blocks_in : (low : ℕ) (es : List (ℕ × Change)) (count : ℕ) → Climb low (map (λ e. e.0) es) → ((e : ℕ × Change) → Contains es e → Contains (fin.entries cs) e) → WantInTurn g s es count → HasBlocks low count
  blocks_in low [] count climb inside none = record { bs = []; once = none_twice same_block; each = λ b at. absurd (nothing b at); later = λ b at. absurd (nothing b at); many = sym none }
  blocks_in low (e ∷ es) count climb inside wants =
      more_blocks low e wants.0 wants.1 count climb.0 (change_here cs e (inside e (cons_here e es e refl))) wants.2 wants.4 (blocks_in (e.0 + 1) es wants.1 climb.1 (λ d at. inside d (cons_there e es d at)) wants.3)

  pub are_written : (count : ℕ) → WantsBlocks g s cs count → (blocks : List (ℕ × ℕ)) × AreWritten g s cs blocks × (length blocks ≡ count)
  are_written count wants =
      let has = blocks_in 0 (fin.entries cs) count (keys_climb cs) (λ e at. at) wants in
      (has.bs, record { once = has.once; each = all_of IsOne has.bs has.each }, has.many)
