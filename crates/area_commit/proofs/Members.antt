-- Which blocks a pool has.
use Rattle.std.proofs.Common.{◌≡◌, ◌≤◌, ◌<◌, inl, inr, ◌⊎◌, ℕ, zero, suc, ◌+◌, ◌-◌, List, [], ◌∷◌, ◌++◌, Bool, true, false, length, take, drop, get_or, sym, ap, ◌∙◌, arith, subst}
use Rattle.std.specs.Prelude.{◌↔◌}
use Rattle.std.specs.List.{Contains}
use Rattle.std.proofs.lemmas.Bool.{true≢false, false_from_ne_true, cases_eq}
use Rattle.std.proofs.lemmas.List.{take-append-drop}
use Rattle.std.proofs.lemmas.List.Elements.{Contains-append_left, Contains-append_right, Contains-append_cases}
use Rattle.tier_device.specs.declared.media.Tier.{Tier}
use Rattle.tier_device.specs.declared.media.Tier.TheVariants.{Fast, Block, Slow}
use Rattle.area_reader.specs.layout.Places.{Sizes, node_end, data_first, tier_blocks}
use Rattle.block_alloc.specs.Runs.{unmarked_blocks, PutIn}
use Rattle.block_alloc.specs.Value.{FreeBlocks}
use Rattle.area_reader.specs.Store.{Store}
use Rattle.area_reader.specs.Reads.{Free, IsRoom}
use Rattle.area_reader.specs.BlockMarks.{UsedMarks, is_marked}
use Rattle.area_reader.proofs.Rewriting.{free_unused}
use Rattle.area_commit.specs.Value.{PoolsView, data_pool, HasRanges, AreFree, HasUnmarked, MarksAll}

-- ---- lists

pub cons_cases : {A : Type 0} (x : A) (xs : List A) (y : A) → Contains (x ∷ xs) y → (x ≡ y) ⊎ Contains xs y
cons_cases x xs y (zero, below, is) = inl is
cons_cases x xs y (suc n, below, is) = inr (n, omega (arith, below), is)

pub cons_here : {A : Type 0} (x : A) (xs : List A) (y : A) → x ≡ y → Contains (x ∷ xs) y
cons_here x xs y is = (zero, omega arith, is)

pub cons_there : {A : Type 0} (x : A) (xs : List A) (y : A) → Contains xs y → Contains (x ∷ xs) y
cons_there x xs y (n, below, is) = (suc n, omega (arith, below), is)

pub nothing : {A : Type 0} (y : A) → Contains [] y → ⊥
nothing y (n, below, is) = omega (arith, below)

-- ---- a run that is put in

pub put_in-contains : (old piece new : List ℕ) (k : ℕ) → PutIn old piece new → Contains new k ↔ (Contains old k ⊎ Contains piece k)
put_in-contains old piece new k (n, is) = (
  λ at. elim (Contains-append_cases (take n old ++ piece) (drop n old) k (subst (λ xs. Contains xs k) is at)) [
    | inl front ↦ elim (Contains-append_cases (take n old) piece k front) [
      | inl first ↦ inl (whole (Contains-append_left (take n old) (drop n old) k first))
      | inr here ↦ inr here
    ]
    | inr last ↦ inl (whole (Contains-append_right (take n old) (drop n old) k last))
  ],
  λ at. subst (λ xs. Contains xs k) (sym is) (elim at [
    | inl before ↦ elim (Contains-append_cases (take n old) (drop n old) k (subst (λ xs. Contains xs k) (sym (take-append-drop n old)) before)) [
      | inl first ↦ Contains-append_left (take n old ++ piece) (drop n old) k (Contains-append_left (take n old) piece k first)
      | inr last ↦ Contains-append_right (take n old ++ piece) (drop n old) k last
    ]
    | inr here ↦ Contains-append_left (take n old ++ piece) (drop n old) k (Contains-append_right (take n old) piece k here)
  ]),
) where
  whole : Contains (take n old ++ drop n old) k → Contains old k
  whole = subst (λ xs. Contains xs k) (take-append-drop n old)

-- ---- marks

record Unmarked (first : ℕ) (marks : List Bool) (k : ℕ) : Type 0 where
  low : first ≤ k
  high : k < first + length marks
  is : get_or marks (k - first) false ≡ false

later_mark : (first : ℕ) (b : Bool) (marks : List Bool) (k : ℕ) → first + 1 ≤ k → get_or (b ∷ marks) (k - first) false ≡ get_or marks (k - (first + 1)) false
later_mark first b marks k low = let same : k - first ≡ suc (k - (first + 1)) = omega (arith, low) in ap (λ n. get_or (b ∷ marks) n false) same

here_mark : (first : ℕ) (b : Bool) (marks : List Bool) → get_or (b ∷ marks) (first - first) false ≡ b
here_mark first b marks = let same : first - first ≡ 0 = omega arith in ap (λ n. get_or (b ∷ marks) n false) same

more : (first : ℕ) (b : Bool) (marks : List Bool) (k : ℕ) → Unmarked (first + 1) marks k → Unmarked first (b ∷ marks) k
more first b marks k u = record { low = omega (arith, u.low); high = omega (arith, u.high); is = later_mark first b marks k u.low ∙ u.is }

less : (first : ℕ) (b : Bool) (marks : List Bool) (k : ℕ) → first + 1 ≤ k → Unmarked first (b ∷ marks) k → Unmarked (first + 1) marks k
less first b marks k low u = record { low = low; high = omega (arith, u.high); is = sym (later_mark first b marks k low) ∙ u.is }

at_or_after : (first k : ℕ) → first ≤ k → (first ≡ k) ⊎ (first + 1 ≤ k)
at_or_after first k low = elim (cases_eq first k) [ inl same ↦ inl same | inr other ↦ inr (omega (arith, low, other)) ]

unused_are : (first : ℕ) (marks : List Bool) (k : ℕ) → Contains (unmarked_blocks first marks) k → Unmarked first marks k
unused_are first [] k at = absurd (nothing k at)
unused_are first (true ∷ marks) k at = more first true marks k (unused_are (first + 1) marks k at)
unused_are first (false ∷ marks) k at = elim (cons_cases first (unmarked_blocks (first + 1) marks) k at) [
  | inl here ↦ subst (Unmarked first (false ∷ marks)) here (record { low = omega arith; high = omega arith; is = here_mark first false marks })
  | inr there ↦ more first false marks k (unused_are (first + 1) marks k there)
]

unused_all : (first : ℕ) (marks : List Bool) (k : ℕ) → Unmarked first marks k → Contains (unmarked_blocks first marks) k
unused_all first [] k u = absurd (omega (arith, u.low, u.high))
unused_all first (true ∷ marks) k u = elim (at_or_after first k u.low) [
  | inl here ↦ absurd (true≢false (sym (here_mark first true marks) ∙ (ap (λ j. get_or (true ∷ marks) (j - first) false) here ∙ u.is)))
  | inr later ↦ unused_all (first + 1) marks k (less first true marks k later u)
]
unused_all first (false ∷ marks) k u = elim (at_or_after first k u.low) [
  | inl here ↦ cons_here first (unmarked_blocks (first + 1) marks) k here
  | inr later ↦ cons_there first (unmarked_blocks (first + 1) marks) k (unused_all (first + 1) marks k (less first false marks k later u))
]

module _ (p : FreeBlocks) (m : UsedMarks) (t : Tier) (first : ℕ) (marks : List Bool) (first_is : p.first ≡ first) (end_is : p.end ≡ first + length marks) (free_is : p.free ≡ unmarked_blocks first marks) (shows : (k : ℕ) → k < length marks → get_or marks k false ≡ is_marked m t (first + k)) where
  mark_of : (k : ℕ) → first ≤ k → k < first + length marks → get_or marks (k - first) false ≡ is_marked m t k
  mark_of k low high = let back : first + (k - first) ≡ k = omega (arith, low) in shows (k - first) (omega (arith, low, high)) ∙ ap (is_marked m t) back

  pub has_unmarked : HasUnmarked m t p
  has_unmarked k = (
    λ at. (let u = unused_are first marks k (subst (λ xs. Contains xs k) free_is at) in (omega (arith, u.low, first_is), omega (arith, u.high, end_is), sym (mark_of k u.low u.high) ∙ u.is)),
    λ is. subst (λ xs. Contains xs k) (sym free_is) (unused_all first marks k (let low : first ≤ k = omega (arith, is.0, first_is) in let high : k < first + length marks = omega (arith, is.1, end_is) in record { low = low; high = high; is = mark_of k low high ∙ is.2 })),
  )

-- ---- the pools of a medium

unmarked_free : (g : Sizes) (s : Store) (m : UsedMarks) → MarksAll g s m → (t : Tier) (k : ℕ) → IsRoom g t k → Free g s t k ↔ (is_marked m t k ≡ false)
unmarked_free g s m marked t k room = (
  λ free. false_from_ne_true _ (λ now. let u = (marked t k).0 now in (((free_unused g s t k).0 free).1) u.0 u.1),
  λ none. (free_unused g s t k).1 (room, λ u at. true≢false (sym ((marked t k).1 (u, at)) ∙ none)),
)

module _ (g : Sizes) (s : Store) (m : UsedMarks) (p : PoolsView) (marked : MarksAll g s m) (ranges : HasRanges g p) (nodes : HasUnmarked m Fast p.nodes) (tiers : (t : Tier) → HasUnmarked m t (data_pool p t)) where
  data_room : (t : Tier) (k : ℕ) → data_first g t ≤ k → k < tier_blocks g t → IsRoom g t k
  data_room Fast k low high = record { first = omega (arith, low); last = high }
  data_room Block k low high = record { first = omega (arith, low); last = high }
  data_room Slow k low high = record { first = omega (arith, low); last = high }

  pub are_free : AreFree g s p
  are_free = record {
    nodes = λ k. (
      λ at. (let is = (nodes k).0 at in let low : 292 ≤ k = omega (arith, is.0, ranges.nodes_first) in let high : k < node_end g = omega (arith, is.1, ranges.nodes_end) in
          ((unmarked_free g s m marked Fast k (record { first = low; last = omega (arith, high) })).1 is.2, high)),
      λ is. (nodes k).1 (omega (arith, is.0.room.first, ranges.nodes_first), omega (arith, is.1, ranges.nodes_end), (unmarked_free g s m marked Fast k is.0.room).0 is.0),
    );
    per_tier = λ t k. (
      λ at. (let is = (tiers t k).0 at in let low : data_first g t ≤ k = omega (arith, is.0, ranges.first t) in let high : k < tier_blocks g t = omega (arith, is.1, ranges.end t) in
          ((unmarked_free g s m marked t k (data_room t k low high)).1 is.2, low)),
      λ is. (tiers t k).1 (omega (arith, is.1, ranges.first t), omega (arith, is.0.room.last, ranges.end t), (unmarked_free g s m marked t k is.0.room).0 is.0),
    );
  }

-- what holds of each tier holds of all
pub each_tier : (P : Tier → Type 0) → P Fast → P Block → P Slow → (t : Tier) → P t
each_tier P fast block slow Fast = fast
each_tier P fast block slow Block = block
each_tier P fast block slow Slow = slow
