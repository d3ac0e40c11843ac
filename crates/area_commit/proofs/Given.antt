-- Runs that are given back one after the other.
use Rattle.std.proofs.Common.{◌≡◌, ◌≤◌, ◌<◌, ◌⊎◌, inl, inr, ℕ, zero, suc, ◌+◌, List, [], ◌∷◌, ◌++◌, length, take, drop, get_or, sym, ap, ◌∙◌, refl, subst, arith}
use Rattle.std.specs.List.{Contains, AllByRecursion, range_with_len}
use Rattle.std.proofs.lemmas.Bool.{cases_lt}
use Rattle.std.proofs.lemmas.List.{take_more}
use Rattle.std.proofs.lemmas.List.Elements.{Contains-append_left, Contains-append_right, Contains-append_cases}
use Rattle.block_alloc.specs.declared.runs.Run.{Run}
use Rattle.block_alloc.specs.Runs.{run_blocks, blocks_of}
use Rattle.block_alloc.specs.Value.{FreeBlocks, IsUsed}
use Rattle.block_alloc.proofs.Blocks.{blocks-push}
use Rattle.area_commit.specs.Value.{GivesRun}
use Rattle.area_commit.specs.Release.{AreUsed, WereAdded}

-- ---- lists of blocks

pub cons_cases : (x : ℕ) (xs : List ℕ) (y : ℕ) → Contains (x ∷ xs) y → (x ≡ y) ⊎ Contains xs y
cons_cases x xs y (zero, below, is) = inl is
cons_cases x xs y (suc n, below, is) = inr (n, omega (arith, below), is)

pub cons_here : (x : ℕ) (xs : List ℕ) (y : ℕ) → x ≡ y → Contains (x ∷ xs) y
cons_here x xs y is = (zero, omega arith, is)

pub cons_there : (x : ℕ) (xs : List ℕ) (y : ℕ) → Contains xs y → Contains (x ∷ xs) y
cons_there x xs y (n, below, is) = (suc n, omega (arith, below), is)

pub nothing : (y : ℕ) → Contains [] y → ⊥
nothing y (n, below, is) = omega (arith, below)

pub in_range : (a n k : ℕ) → a ≤ k → k < a + n → Contains (range_with_len a n) k
in_range a zero k low high = absurd (omega (arith, low, high))
in_range a (suc n) k low high = elim (cases_lt a k) [
  | inl later ↦ cons_there a (range_with_len (a + 1) n) k (in_range (a + 1) n k (omega (arith, later)) (omega (arith, high)))
  | inr here ↦ cons_here a (range_with_len (a + 1) n) k (omega (arith, low, here))
]

pub all_from : (P : ℕ → Type 0) (xs : List ℕ) → ((k : ℕ) → Contains xs k → P k) → AllByRecursion P xs
all_from P [] each = tt
all_from P (x ∷ xs) each = (each x (cons_here x xs x refl), all_from P xs (λ k at. each k (cons_there x xs k at)))

all_at : (P : ℕ → Type 0) (xs : List ℕ) → AllByRecursion P xs → (k : ℕ) → Contains xs k → P k
all_at P [] all k at = absurd (nothing k at)
all_at P (x ∷ xs) all k at = elim (cons_cases x xs k at) [ inl here ↦ subst P here all.0 | inr there ↦ all_at P xs all.1 k there ]

range_within : (a n k : ℕ) → Contains (range_with_len a n) k → (a ≤ k) × (k < a + n)
range_within a zero k at = absurd (nothing k at)
range_within a (suc n) k at = elim (cons_cases a (range_with_len (a + 1) n) k at) [
  | inl here ↦ (omega (arith, here), omega (arith, here))
  | inr there ↦ (let rest = range_within (a + 1) n k there in (omega (arith, rest.0), omega (arith, rest.1)))
]

-- ---- the runs that are left

module _ (p q : FreeBlocks) (r : Run) (gives : GivesRun p q r) where
  -- a block of the run is in no run that stands apart
  far : (s : Run) (k : ℕ) → ((j : ℕ) → Contains (run_blocks s) j → (j < r.first) ⊎ (r.first + r.count ≤ j)) → Contains (run_blocks r) k → (k < s.first) ⊎ (s.first + s.count ≤ k)
  far s k apart at = elim (cases_lt k s.first) [
    | inl lt ↦ inl lt
    | inr ge ↦ elim (cases_lt k (s.first + s.count)) [
      | inl lt ↦
          let within = range_within r.first r.count k at in
          elim (apart k (in_range s.first s.count k ge lt)) [ inl below ↦ absurd (omega (arith, below, within.0)) | inr past ↦ absurd (omega (arith, past, within.1)) ]
      | inr past ↦ inr past
    ]
  ]

  used_one : (s : Run) → ((j : ℕ) → Contains (run_blocks s) j → (j < r.first) ⊎ (r.first + r.count ≤ j)) → IsUsed p s → IsUsed q s
  used_one s apart used =
      let first = gives.pool.first in
      let end = gives.pool.end in
      record {
        some = used.some;
        after = omega (arith, used.after, first);
        before = omega (arith, used.before, end);
        apart = all_from (λ k. (k < s.first) ⊎ (s.first + s.count ≤ k)) q.free (λ k at. elim ((gives.blocks k).0 at) [
          | inl was ↦ all_at (λ k. (k < s.first) ⊎ (s.first + s.count ≤ k)) p.free used.apart k was
          | inr here ↦ far s k apart here
        ]);
      }

  pub used_rest : (rs : List Run) → ((j : ℕ) → Contains (blocks_of rs) j → (j < r.first) ⊎ (r.first + r.count ≤ j)) → AreUsed p rs → AreUsed q rs
  used_rest [] apart used = tt
  used_rest (s ∷ rs) apart used = (
    used_one s (λ j at. apart j (Contains-append_left (run_blocks s) (blocks_of rs) j at)) used.0,
    used.1,
    used_rest rs (λ j at. apart j (Contains-append_right (run_blocks s) (blocks_of rs) j at)) used.2,
  )

-- what the first run left leaves of the others
pub used_next : (p q : FreeBlocks) (runs : List Run) (i : ℕ) (d : Run) → i < length runs → GivesRun p q (get_or runs i d) → AreUsed p (drop i runs) → AreUsed q (drop (i + 1) runs)
used_next p q [] i d lt gives used = absurd (omega (arith, lt))
used_next p q (r ∷ rs) zero d lt gives used = used_rest p q r gives rs (λ j at. all_at (λ k. (k < r.first) ⊎ (r.first + r.count ≤ k)) (blocks_of rs) used.1 j at) used.2
used_next p q (r ∷ rs) (suc i) d lt gives used =
    let next : suc (i + 1) ≡ suc i + 1 = omega arith in
    subst (λ n. AreUsed q (drop n (r ∷ rs))) next (used_next p q rs i d (omega (arith, lt)) gives used)

pub used_here : (p : FreeBlocks) (runs : List Run) (i : ℕ) (d : Run) → i < length runs → AreUsed p (drop i runs) → IsUsed p (get_or runs i d)
used_here p [] i d lt used = absurd (omega (arith, lt))
used_here p (r ∷ rs) zero d lt used = used.0
used_here p (r ∷ rs) (suc i) d lt used = used_here p rs i d (omega (arith, lt)) used

-- ---- what has come

pub added_none : (p : FreeBlocks) → WereAdded p p []
added_none p = record { free = λ k. (λ at. inl at, λ some. elim some [ inl at ↦ at | inr at ↦ absurd (nothing k at) ]); pool = record { first = refl; end = refl } }

pub added_next : (o p q : FreeBlocks) (runs : List Run) (i : ℕ) (d : Run) → i < length runs → WereAdded o p (blocks_of (take i runs)) → GivesRun p q (get_or runs i d) → WereAdded o q (blocks_of (take (i + 1) runs))
added_next o p q runs i d lt was gives = record {
  free = λ k. (
    λ at. elim ((gives.blocks k).0 at) [
      | inl before ↦ elim ((was.free k).0 before) [ inl old ↦ inl old | inr some ↦ inr (back k (Contains-append_left (blocks_of (take i runs)) (run_blocks (get_or runs i d)) k some)) ]
      | inr here ↦ inr (back k (Contains-append_right (blocks_of (take i runs)) (run_blocks (get_or runs i d)) k here))
    ],
    λ some. elim some [
      | inl old ↦ (gives.blocks k).1 (inl ((was.free k).1 (inl old)))
      | inr at ↦ elim (Contains-append_cases (blocks_of (take i runs)) (run_blocks (get_or runs i d)) k (subst (λ xs. Contains xs k) more at)) [
        | inl first ↦ (gives.blocks k).1 (inl ((was.free k).1 (inr first)))
        | inr last ↦ (gives.blocks k).1 (inr last)
      ]
    ],
  );
  pool = record { first = gives.pool.first ∙ was.pool.first; end = gives.pool.end ∙ was.pool.end };
}
  where
    more : blocks_of (take (i + 1) runs) ≡ blocks_of (take i runs) ++ run_blocks (get_or runs i d)
    more = ap blocks_of (take_more runs i d lt) ∙ blocks-push (take i runs) (get_or runs i d)

    back : (k : ℕ) → Contains (blocks_of (take i runs) ++ run_blocks (get_or runs i d)) k → Contains (blocks_of (take (i + 1) runs)) k
    back k at = subst (λ xs. Contains xs k) (sym more) at
