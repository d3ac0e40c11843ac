-- Runs of blocks that lie at some places, one more at a time.
use Rattle.std.proofs.Common.{◌≡◌, ◌≤◌, ◌<◌, ◌+◌, ◌-◌, ◌^◌, ◌++◌, ◌∷◌, ◌∙◌, ℕ, List, [], length, Some, None, refl, sym, ap, subst, arith, inl, inr}
use Rattle.std.specs.Option.{option_or}
use Rattle.std.proofs.lemmas.Bool.{cases_order}
use Rattle.area_commit.specs.layout.declared.extents.Extent.{Extent}
use Rattle.area_commit.specs.extent_tree.Normal.{IsRising, NoneGoesOn, PlacesFit, Joins}
use Rattle.area_commit.specs.extent_tree.Places.{place_of}
use Rattle.area_commit.proofs.extent_tree_lemmas.Maps.{has-in, not-has, place_of-append, place-here, place-later}
use Rattle.area_commit.proofs.extent_tree_lemmas.Rising.{rising-wider}
use Rattle.inode_plan.specs.Blocks.{nth_block}
use Rattle.inode_plan.specs.PlacedDirectory.{ListPlaces}

-- runs of the first so many blocks
pub record RunTo (places : List ℕ) (count : ℕ) (runs : List Extent) : Type 0 where
  pub rising : IsRising 0 count runs
  pub apart : NoneGoesOn runs
  pub fit : PlacesFit runs
  pub there : (k : ℕ) → k < count → place_of runs k ≡ Some (nth_block places k)
  pub none : (k : ℕ) → count ≤ k → place_of runs k ≡ None

pub run_to_none : (places : List ℕ) → RunTo places 0 []
run_to_none places = record { rising = tt; apart = tt; fit = tt; there = λ k lt. absurd (omega (arith, lt)); none = λ k le. refl }

-- the run of one block
abbrev pub next_run : List ℕ → ℕ → Extent
next_run places n = record { logical = n; length = 1; place = nth_block places n }

pub run_to_more : (places : List ℕ) (n : ℕ) (runs new : List Extent) → RunTo places n runs → Joins (n + 1) (runs ++ next_run places n ∷ []) new → RunTo places (n + 1) new
run_to_more places n runs new to joins = record {
  rising = joins.rising;
  apart = joins.apart;
  fit = joins.places;
  there = λ k lt. elim (cases_order k n) [
    | inl here ↦ subst (λ j. place_of new j ≡ Some (nth_block places j)) (sym here) at_next
    | inr (inl before) ↦ at k ∙ ap (λ o. option_or o (place_of (next_run places n ∷ []) k)) (to.there k before)
    | inr (inr after) ↦ absurd (omega (arith, lt, after))
  ];
  none = λ k le. at k ∙ ap (λ o. option_or o (place_of (next_run places n ∷ []) k)) (to.none k (omega (arith, le))) ∙ place-later k (next_run places n) [] (not-has k (next_run places n) (λ low high. omega (arith, le, high)));
}
  where
    at : (k : ℕ) → place_of new k ≡ option_or (place_of runs k) (place_of (next_run places n ∷ []) k)
    at k = joins.same k ∙ place_of-append runs (next_run places n ∷ []) k

    at_next : place_of new n ≡ Some (nth_block places n)
    at_next =
        let sum : nth_block places n + (n - n) ≡ nth_block places n = omega arith in
        at n ∙ ap (λ o. option_or o (place_of (next_run places n ∷ []) n)) (to.none n (omega arith)) ∙ place-here n (next_run places n) [] (has-in n (next_run places n) (omega arith) (omega arith)) ∙ ap Some sum

pub run_to_all : (places : List ℕ) (runs : List Extent) → length places < 2 ^ 31 → RunTo places (length places) runs → ListPlaces places runs
run_to_all places runs few to = record {
  normal = record { rising = rising-wider 0 (length places) 0 4294967295 runs to.rising (omega arith) (omega (arith, few)); apart = to.apart; places = to.fit };
  there = to.there;
  none = to.none;
}
