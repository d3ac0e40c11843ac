-- The places that the blocks of a changed file leave.
use Rattle.std.proofs.Common.{◌≡◌, ◌≤◌, ◌<◌, ◌+◌, ◌-◌, ◌||◌, ◌∙◌, ℕ, zero, suc, List, [], ◌∷◌, ◌++◌, Bool, true, false, Option, Some, None, arith, inl, inr, sym, ap, subst, refl}
use Rattle.std.specs.Prelude.{IsSome, nat_le, nat_lt}
use Rattle.std.specs.List.{Contains, AllByRecursion, flat_map, range_with_len}
use Rattle.std.proofs.lemmas.Bool.{cases_Bool, cases_lt, cond-true, cond-false, le-leb, leb-true, lt-ltb, le-ltb}
use Rattle.std.proofs.lemmas.List.Elements.{Contains-append_left, Contains-append_right, Contains-append_cases}
use Rattle.std.proofs.lemmas.Option.{none-some}
use Rattle.tier_device.specs.declared.media.Tier.{Tier}
use Rattle.area_commit.specs.layout.declared.extents.Extent.{Extent}
use Rattle.block_alloc.specs.declared.runs.Run.{Run}
use Rattle.block_alloc.specs.Runs.{Rising, blocks_of}
use Rattle.block_alloc.specs.Value.{FreeBlocks}
use Rattle.area_commit.specs.extent_tree.Places.{place_of}
use Rattle.area_commit.specs.extent_tree.BlockFormat.{IsOneToOne}
use Rattle.area_commit.specs.graph_change.Change.{Change, writes_block}
use Rattle.area_commit.proofs.Holes.{over_written, over_at}
use Rattle.area_commit.specs.tree_blocks.FileBlock.{is_cut_off}
use Rattle.area_commit.specs.extent_tree.Map.{TierRuns, runs_in, lies_at, place_list, places_of, LieBelow, HasBlock}
use Rattle.area_commit.specs.Release.{AreUsed, IsInUse}
use Rattle.area_commit.proofs.Given.{cons_cases, cons_here, cons_there, nothing, in_range}
use Rattle.inode_plan.specs.BlockWrites.{AreNumbers}
use Rattle.inode_plan.specs.MapChange.{leaves, AreLeft, AreAll, below_end, places_below}
use Rattle.inode_plan.proofs.Once.{Once, runs_used}

-- the places of some blocks
abbrev placed : (ℕ → Option ℕ) → List ℕ → List ℕ
placed place ks = flat_map (λ k. place_list (place k)) ks

-- one of some blocks lies at a place
record LiesAmong (place : ℕ → Option ℕ) (ks : List ℕ) (p : ℕ) : Type 0 where
  pub block : ℕ
  pub one : Contains ks block
  pub there : place block ≡ Some p

module _ (place : ℕ → Option ℕ) where
  among_more : (k : ℕ) (ks : List ℕ) (p : ℕ) → LiesAmong place ks p → LiesAmong place (k ∷ ks) p
  among_more k ks p r = record { block = r.block; one = cons_there k ks r.block r.one; there = r.there }

  among : (ks : List ℕ) (p : ℕ) → Contains (placed place ks) p → LiesAmong place ks p
  among [] p at = absurd (nothing p at)
  among (k ∷ ks) p at = by (place k) refl (λ later. among_more k ks p (among ks p later)) at where
    by : (o : Option ℕ) → place k ≡ o → (Contains (placed place ks) p → LiesAmong place (k ∷ ks) p) → Contains (place_list o ++ placed place ks) p → LiesAmong place (k ∷ ks) p
    by None is rest here = rest here
    by (Some q) is rest here = elim (cons_cases q (placed place ks) p here) [
      | inl same ↦ record { block = k; one = cons_here k ks k refl; there = is ∙ ap (λ x. Some x) same }
      | inr later ↦ rest later
    ]

  among_back : (ks : List ℕ) (k p : ℕ) → Contains ks k → place k ≡ Some p → Contains (placed place ks) p
  among_back [] k p at is = absurd (nothing k at)
  among_back (j ∷ ks) k p at is = elim (cons_cases j ks k at) [
    | inl here ↦ Contains-append_left (place_list (place j)) (placed place ks) p (subst (λ o. Contains (place_list o) p) (sym (ap place here ∙ is)) (cons_here p [] p refl))
    | inr there ↦ Contains-append_right (place_list (place j)) (placed place ks) p (among_back ks k p there is)
  ]

  once_placed : ((j k p : ℕ) → place j ≡ Some p → place k ≡ Some p → j ≡ k) → (ks : List ℕ) → Once ks → Once (placed place ks)
  once_placed apart [] once = tt
  once_placed apart (k ∷ ks) once = by (place k) refl (once_placed apart ks once.1) where
    by : (o : Option ℕ) → place k ≡ o → Once (placed place ks) → Once (place_list o ++ placed place ks)
    by None is rest = rest
    by (Some q) is rest = (λ at. (let r = among ks q at in once.0 (subst (Contains ks) (apart r.block k q r.there is) r.one)), rest)

-- ---- rising numbers

rising_above : (low end : ℕ) (ks : List ℕ) → Rising low end ks → (k : ℕ) → Contains ks k → low ≤ k
rising_above low end [] r k at = absurd (nothing k at)
rising_above low end (j ∷ ks) r k at = elim (cons_cases j ks k at) [
  | inl here ↦ omega (arith, here, r.0)
  | inr there ↦ (let more = rising_above (j + 1) end ks r.2 k there in omega (arith, more, r.0))
]

rising_once : (low end : ℕ) (ks : List ℕ) → Rising low end ks → Once ks
rising_once low end [] r = tt
rising_once low end (k ∷ ks) r = (λ at. (let more = rising_above (k + 1) end ks r.2 k at in omega (arith, more)), rising_once (k + 1) end ks r.2)

range_above : (a n k : ℕ) → Contains (range_with_len a n) k → (a ≤ k) × (k < a + n)
range_above a zero k at = absurd (nothing k at)
range_above a (suc n) k at = elim (cons_cases a (range_with_len (a + 1) n) k at) [
  | inl here ↦ (omega (arith, here), omega (arith, here))
  | inr there ↦ (let rest = range_above (a + 1) n k there in (omega (arith, rest.0), omega (arith, rest.1)))
]

range_once : (a n : ℕ) → Once (range_with_len a n)
range_once a zero = tt
range_once a (suc n) = (λ at. (let more = range_above (a + 1) n a at in omega (arith, more.0)), range_once (a + 1) n)

once_both : (xs ys : List ℕ) → Once xs → Once ys → ((k : ℕ) → Contains xs k → Contains ys k → ⊥) → Once (xs ++ ys)
once_both [] ys one two apart = two
once_both (x ∷ xs) ys one two apart = (
  λ at. elim (Contains-append_cases xs ys x at) [ inl here ↦ one.0 here | inr there ↦ apart x (cons_here x xs x refl) there ],
  once_both xs ys one.1 two (λ k at there. apart k (cons_there x xs k at) there),
)

-- ---- what a loop adds

pub one_below : (es : List Extent) (end k : ℕ) → k < end → places_below es end (k ∷ []) ≡ places_of es k 1
one_below es end k lt = ap (λ o. place_list o ++ []) (cond-true (nat_lt k end) (place_of es k) None (lt-ltb k end lt))

pub none_below : (es : List Extent) (end k : ℕ) → end ≤ k → places_below es end (k ∷ []) ≡ []
none_below es end k ge = ap (λ o. place_list o ++ []) (cond-false (nat_lt k end) (place_of es k) None (le-ltb k end ge))

-- ---- those of the written blocks, and those behind the cut

module _ (c : Change) (numbers : List ℕ) (m : TierRuns) (t : Tier) (most cut : ℕ) (are : AreNumbers (lies_at m) c numbers) (few : cut ≤ most) (is_cut : (k : ℕ) → k < most → nat_le cut k ≡ is_cut_off c.length k) (below : LieBelow most m) where
  abbrev before : ℕ → Option ℕ
  before = below_end cut (lies_at m t)

  before_is : (k p : ℕ) → before k ≡ Some p → (k < cut) × (lies_at m t k ≡ Some p)
  before_is k p at = elim (cases_lt k cut) [
    | inl lt ↦ (lt, sym (cond-true (nat_lt k cut) (lies_at m t k) None (lt-ltb k cut lt)) ∙ at)
    | inr ge ↦ absurd (none-some p (sym (cond-false (nat_lt k cut) (lies_at m t k) None (le-ltb k cut ge)) ∙ at))
  ]

  is_below : (k p : ℕ) → lies_at m t k ≡ Some p → k < most
  is_below k p at = below t k (subst IsSome (sym at) refl)

  abbrev all_left : List ℕ
  all_left = places_below (runs_in m t) cut numbers ++ places_of (runs_in m t) cut (most - cut)

  or_left : (a b : Bool) → a ≡ true → (a || b) ≡ true
  or_left a b is = ap (λ x. x || b) is

  or_right : (a b : Bool) → b ≡ true → (a || b) ≡ true
  or_right true b is = refl
  or_right false b is = is

  -- which blocks they are of
  pub left_of : (p : ℕ) → Contains all_left p → (k : ℕ) × (leaves c k ≡ true) × (lies_at m t k ≡ Some p)
  left_of p at = elim (Contains-append_cases (places_below (runs_in m t) cut numbers) (places_of (runs_in m t) cut (most - cut)) p at) [
    | inl front ↦
        let r = among before numbers p front in
        (r.block, or_left (writes_block c r.block) (is_cut_off c.length r.block) (over_written (lies_at m) r.block c ((are.each r.block).0 r.one)), (before_is r.block p r.there).1)
    | inr back ↦
        let r = among (lies_at m t) (range_with_len cut (most - cut)) p back in
        let within = range_above cut (most - cut) r.block r.one in
        (r.block, or_right (writes_block c r.block) (is_cut_off c.length r.block) (sym (is_cut r.block (is_below r.block p r.there)) ∙ le-leb cut r.block within.0), r.there)
  ]

  behind_cut : (k p : ℕ) → cut ≤ k → lies_at m t k ≡ Some p → Contains all_left p
  behind_cut k p ge at =
      let lt = is_below k p at in
      Contains-append_right (places_below (runs_in m t) cut numbers) (places_of (runs_in m t) cut (most - cut)) p
      (among_back (lies_at m t) (range_with_len cut (most - cut)) k p (in_range cut (most - cut) k ge (omega (arith, lt, few))) at)

  left_has : (k p : ℕ) → leaves c k ≡ true → lies_at m t k ≡ Some p → Contains all_left p
  left_has k p away at = elim (cases_lt k cut) [
    | inr ge ↦ behind_cut k p ge at
    | inl lt ↦ elim (cases_Bool (writes_block c k)) [
      | inl put ↦
          Contains-append_left (places_below (runs_in m t) cut numbers) (places_of (runs_in m t) cut (most - cut)) p
          (among_back before numbers k p ((are.each k).1 (over_at (lies_at m) k c t p at ∙ put)) (cond-true (nat_lt k cut) (lies_at m t k) None (lt-ltb k cut lt) ∙ at))
      | inr out ↦
          let off : is_cut_off c.length k ≡ true = sym (ap (λ x. x || is_cut_off c.length k) out) ∙ away in
          behind_cut k p (leb-true cut k (is_cut k (is_below k p at) ∙ off)) at
    ]
  ]

  pub are_left : (left : List ℕ) → left ≡ all_left → AreLeft c m t left
  are_left left is p = (λ at. left_of p (subst (λ xs. Contains xs p) is at), λ some. subst (λ xs. Contains xs p) (sym is) (left_has some.0 p some.1 some.2))

  left_once : IsOneToOne (runs_in m t) → Once all_left
  left_once apart =
      once_both (places_below (runs_in m t) cut numbers) (places_of (runs_in m t) cut (most - cut))
      (once_placed before (λ j k p at_j at_k. apart j k p (before_is j p at_j).1 (before_is k p at_k).1) numbers (rising_once 0 are.rising.0 numbers are.rising.1))
      (once_placed (lies_at m t) (λ j k p at_j at_k. apart j k p at_j at_k) (range_with_len cut (most - cut)) (range_once cut (most - cut)))
      (λ p front back.
      (let one = among before numbers p front in
      let other = among (lies_at m t) (range_with_len cut (most - cut)) p back in
      let was = before_is one.block p one.there in
      let within = range_above cut (most - cut) other.block other.one in
      let same : one.block ≡ other.block = apart one.block other.block p was.1 other.there in
      omega (arith, was.0, within.0, same)))

  pub left_used : (pool : FreeBlocks) (runs : List Run) → blocks_of runs ≡ all_left → AllByRecursion HasBlock runs → IsOneToOne (runs_in m t) → ((k b : ℕ) → lies_at m t k ≡ Some b → IsInUse pool b) → AreUsed pool runs
  left_used pool runs is some apart used =
      runs_used pool runs some (subst Once (sym is) (left_once apart)) (λ p at. (let r = left_of p (subst (λ xs. Contains xs p) is at) in used r.0 p r.2))

-- ---- all of them

pub are_all : (m : TierRuns) (t : Tier) (most : ℕ) (places : List ℕ) → LieBelow most m → places ≡ places_of (runs_in m t) 0 most → AreAll m t places
are_all m t most places below is p = (
  λ at. (let r = among (lies_at m t) (range_with_len 0 most) p (subst (λ xs. Contains xs p) is at) in (r.block, r.there)),
  λ some.
      (let few : some.0 < most = below t some.0 (subst IsSome (sym some.1) refl) in
      subst (λ xs. Contains xs p) (sym is) (among_back (lies_at m t) (range_with_len 0 most) some.0 p (in_range 0 most some.0 (omega arith) (omega (arith, few))) some.1)),
)
