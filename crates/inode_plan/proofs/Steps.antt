-- Blocks of a run that are put to the blocks of runs, one after the other.
use Rattle.std.proofs.Common.{◌≡◌, ◌≤◌, ◌<◌, ◌⊎◌, inl, inr, ℕ, zero, suc, ◌+◌, ◌-◌, List, [], ◌∷◌, ◌++◌, length, get_or, Option, Some, None, sym, ap, ◌∙◌, refl, arith, true, false}
use Rattle.std.specs.Prelude.{nat_le, nat_lt}
use Rattle.std.specs.List.{range_with_len}
use Rattle.std.proofs.lemmas.Bool.{cases_lt, and_from, and_left, and_right, le-leb, lt-ltb, lt-leb, le-ltb, cond-true, cond-false}
use Rattle.std.proofs.lemmas.List.{length-append, get_or_append_left, get_or-append_right}
use Rattle.std.proofs.lemmas.List.FromFn.{length-range_with_len}
use Rattle.tier_device.specs.declared.media.Tier.{Tier}
use Rattle.block_alloc.specs.declared.runs.Run.{Run}
use Rattle.area_commit.specs.layout.declared.extents.Extent.{Extent}
use Rattle.area_commit.specs.extent_tree.Places.{in_run, place_of}
use Rattle.area_commit.specs.extent_tree.Changes.{after}
use Rattle.area_commit.specs.extent_tree.Map.{TierRuns, runs_in, lies_at, ArePut}
use Rattle.inode_plan.specs.RunPlaces.{moved_to, moved_away, ArePlaced, EndsFit}

-- ---- a run

pub inside : (first count k : ℕ) → first ≤ k → k < first + count → in_run first count k ≡ true
inside first count k low high = and_from (nat_le first k) (nat_lt k (first + count)) (le-leb first k low) (lt-ltb k (first + count) high)

pub before : (first count k : ℕ) → k < first → in_run first count k ≡ false
before first count k lt = and_left (nat_le first k) (nat_lt k (first + count)) (lt-leb first k lt)

pub behind : (first count k : ℕ) → first + count ≤ k → in_run first count k ≡ false
behind first count k ge = and_right (nat_le first k) (nat_lt k (first + count)) (le-ltb k (first + count) ge)

-- where a block stands to two runs of which the second follows the first
data Stands (first n count k : ℕ) : Type 0 where
  one : first ≤ k → k < first + n → Stands first n count k
  two : first + n ≤ k → k < first + n + count → Stands first n count k
  out : (k < first) ⊎ (first + n + count ≤ k) → Stands first n count k

stands : (first n count k : ℕ) → Stands first n count k
stands first n count k = elim (cases_lt k first) [
  | inl lt ↦ out (inl lt)
  | inr ge ↦ elim (cases_lt k (first + n)) [
    | inl lt ↦ one ge lt
    | inr past ↦ elim (cases_lt k (first + n + count)) [ inl lt ↦ two past lt | inr beyond ↦ out (inr beyond) ]
  ]
]

apart : (first count k : ℕ) → (k < first) ⊎ (first + count ≤ k) → in_run first count k ≡ false
apart first count k (inl lt) = before first count k lt
apart first count k (inr ge) = behind first count k ge

-- ---- the places

range_at : (a n j : ℕ) → j < n → get_or (range_with_len a n) j 0 ≡ a + j
range_at a zero j lt = absurd (omega (arith, lt))
range_at a (suc n) zero lt = omega arith
range_at a (suc n) (suc j) lt = range_at (a + 1) n j (omega (arith, lt)) ∙ (let next : a + 1 + j ≡ a + suc j = omega arith in next)

pub moved_in : (first : ℕ) (ps : List ℕ) (old : Option ℕ) (k : ℕ) → first ≤ k → k < first + length ps → moved_to first ps old k ≡ Some (get_or ps (k - first) 0)
moved_in first ps old k low high = cond-true (in_run first (length ps) k) (Some (get_or ps (k - first) 0)) old (inside first (length ps) k low high)

pub moved_out : (first : ℕ) (ps : List ℕ) (old : Option ℕ) (k : ℕ) → (k < first) ⊎ (first + length ps ≤ k) → moved_to first ps old k ≡ old
moved_out first ps old k far = cond-false (in_run first (length ps) k) (Some (get_or ps (k - first) 0)) old (apart first (length ps) k far)

pub away_in : (first n : ℕ) (old : Option ℕ) (k : ℕ) → first ≤ k → k < first + n → moved_away first n old k ≡ None
away_in first n old k low high = cond-true (in_run first n k) None old (inside first n k low high)

pub away_out : (first n : ℕ) (old : Option ℕ) (k : ℕ) → (k < first) ⊎ (first + n ≤ k) → moved_away first n old k ≡ old
away_out first n old k far = cond-false (in_run first n k) None old (apart first n k far)

-- ---- one run more

module _ (first count place : ℕ) (ps : List ℕ) where
  abbrev more : List ℕ
  more = ps ++ range_with_len place count

  more_long : length (ps ++ range_with_len place count) ≡ length ps + count
  more_long = omega (arith, length-append ps (range_with_len place count), length-range_with_len place count)

  at_new : (k : ℕ) → first + length ps ≤ k → k < first + length ps + count → get_or (ps ++ range_with_len place count) (k - first) 0 ≡ place + (k - (first + length ps))
  at_new k low high =
      let same : k - first - length ps ≡ k - (first + length ps) = omega arith in
      get_or-append_right ps (range_with_len place count) (length ps) (k - first) 0 refl (omega (arith, low)) ∙ range_at place count (k - first - length ps) (omega (arith, low, high)) ∙ ap (λ j. place + j) same

  there_more : (x y z : List Extent) → ((k : ℕ) → place_of y k ≡ moved_to first ps (place_of x k) k) → ((k : ℕ) → place_of z k ≡ after (first + length ps) count (Some place) y k) → (k : ℕ) → place_of z k ≡ moved_to first (ps ++ range_with_len place count) (place_of x k) k
  there_more x y z was put k = elim (stands first (length ps) count k) [
    | one low high ↦
        put k ∙ cond-false (in_run (first + length ps) count k) _ (place_of y k) (before (first + length ps) count k high) ∙ was k ∙ moved_in first ps (place_of x k) k low high
        ∙ ap Some (sym (get_or_append_left ps (range_with_len place count) 0 (k - first) (omega (arith, low, high))))
        ∙ sym (moved_in first (ps ++ range_with_len place count) (place_of x k) k low (omega (arith, high, more_long)))
    | two low high ↦
        put k ∙ cond-true (in_run (first + length ps) count k) _ (place_of y k) (inside (first + length ps) count k low high)
        ∙ ap Some (sym (at_new k low high))
        ∙ sym (moved_in first (ps ++ range_with_len place count) (place_of x k) k (omega (arith, low)) (omega (arith, high, more_long)))
    | out far ↦
        put k ∙ cond-false (in_run (first + length ps) count k) _ (place_of y k) (elim far [ inl lt ↦ before (first + length ps) count k (omega (arith, lt)) | inr ge ↦ behind (first + length ps) count k ge ])
        ∙ was k ∙ moved_out first ps (place_of x k) k (elim far [ inl lt ↦ inl lt | inr ge ↦ inr (omega (arith, ge)) ])
        ∙ sym (moved_out first (ps ++ range_with_len place count) (place_of x k) k (elim far [ inl lt ↦ inl lt | inr ge ↦ inr (omega (arith, ge, more_long)) ]))
  ]

  away_more : (x y z : List Extent) → ((k : ℕ) → place_of y k ≡ moved_away first (length ps) (place_of x k) k) → ((k : ℕ) → place_of z k ≡ after (first + length ps) count None y k) → (k : ℕ) → place_of z k ≡ moved_away first (length (ps ++ range_with_len place count)) (place_of x k) k
  away_more x y z was put k = elim (stands first (length ps) count k) [
    | one low high ↦
        put k ∙ cond-false (in_run (first + length ps) count k) _ (place_of y k) (before (first + length ps) count k high) ∙ was k ∙ away_in first (length ps) (place_of x k) k low high
        ∙ sym (away_in first (length (ps ++ range_with_len place count)) (place_of x k) k low (omega (arith, high, more_long)))
    | two low high ↦
        put k ∙ cond-true (in_run (first + length ps) count k) _ (place_of y k) (inside (first + length ps) count k low high)
        ∙ sym (away_in first (length (ps ++ range_with_len place count)) (place_of x k) k (omega (arith, low)) (omega (arith, high, more_long)))
    | out far ↦
        put k ∙ cond-false (in_run (first + length ps) count k) _ (place_of y k) (elim far [ inl lt ↦ before (first + length ps) count k (omega (arith, lt)) | inr ge ↦ behind (first + length ps) count k ge ])
        ∙ was k ∙ away_out first (length ps) (place_of x k) k (elim far [ inl lt ↦ inl lt | inr ge ↦ inr (omega (arith, ge)) ])
        ∙ sym (away_out first (length (ps ++ range_with_len place count)) (place_of x k) k (elim far [ inl lt ↦ inl lt | inr ge ↦ inr (omega (arith, ge, more_long)) ]))
  ]

  pub placed_more : (tier : Tier) (old mid new : TierRuns) → ArePlaced first tier ps old mid → ArePut (first + length ps) count tier place mid new → ArePlaced first tier (ps ++ range_with_len place count) old new
  placed_more tier old mid new was put = record {
    there = there_more (runs_in old tier) (runs_in mid tier) (runs_in new tier) was.there put.there;
    others = λ t other. away_more (runs_in old t) (runs_in mid t) (runs_in new t) (was.others t other) (put.others t other);
  }

pub placed_none : (first : ℕ) (tier : Tier) (m : TierRuns) → ArePlaced first tier [] m m
placed_none first tier m = record {
  there = λ k. sym (moved_out first [] (lies_at m tier k) k (far first k));
  others = λ t other k. sym (away_out first 0 (lies_at m t k) k (far first k));
} where
  far : (first k : ℕ) → (k < first) ⊎ (first + 0 ≤ k)
  far first k = elim (cases_lt k first) [ inl lt ↦ inl lt | inr ge ↦ inr (omega (arith, ge)) ]

pub ends_fit : (runs : List Run) (i : ℕ) (d : Run) → i < length runs → EndsFit runs → (get_or runs i d).first + (get_or runs i d).count < 4294967296
ends_fit [] i d lt all = absurd (omega (arith, lt))
ends_fit (r ∷ rs) zero d lt all = all.0
ends_fit (r ∷ rs) (suc i) d lt all = ends_fit rs i d (omega (arith, lt)) all.1
