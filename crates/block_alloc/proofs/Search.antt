-- Runs in normal form are in order, so a place among them is found by bisection.
use Rattle.std.proofs.Common.{◌≡◌, ◌≤◌, ◌<◌, inl, inr, ℕ, zero, suc, ◌+◌, ◌-◌, List, [], ◌∷◌, ◌++◌, length, take, drop, get_or, Bool, true, false, ltb, sym, ap, ◌∙◌, refl, arith, subst, ◌⊎◌}
use Rattle.std.specs.List.{AllByRecursion}
use Rattle.std.specs.List.Sorted.{IsNonDecreasingBy}
use Rattle.std.proofs.lemmas.Bool.{ltb-true, ltb-false}
use Rattle.std.proofs.lemmas.List.{take-append-drop, drop_more}
use Rattle.std.proofs.lemmas.List.Concat.{flat_map-append}
use Rattle.block_alloc.specs.declared.runs.Run.{Run}
use Rattle.block_alloc.specs.Runs.{run_blocks, blocks_of, AreNormalRuns, EndsBefore, Apart}
use Rattle.block_alloc.proofs.Joins.{apart_one, all_append, normal_tail, normal_front, last-replaced}

-- where a run ends
abbrev pub end_of : Run → ℕ
end_of r = r.first + r.count

low_at : (low end i : ℕ) (runs : List Run) (d : Run) → AreNormalRuns low end runs → i < length runs → low ≤ end_of (get_or runs i d)
low_at low end i [] d is lt = absurd (omega (arith, lt))
low_at low end zero (r ∷ rs) d is lt = omega (arith, is.0)
low_at low end (suc i) (r ∷ rs) d is lt = omega (arith, is.0, low_at (r.first + r.count + 1) end i rs d is.3 (omega (arith, lt)))

pub ends_in_order : (low end : ℕ) (runs : List Run) → AreNormalRuns low end runs → IsNonDecreasingBy end_of runs
ends_in_order low end [] is i j d le lt = absurd (omega (arith, lt))
ends_in_order low end (r ∷ rs) is zero zero d le lt = omega arith
ends_in_order low end (r ∷ rs) is zero (suc j) d le lt = omega (arith, low_at (r.first + r.count + 1) end j rs d is.3 (omega (arith, lt)))
ends_in_order low end (r ∷ rs) is (suc i) zero d le lt = absurd (omega (arith, le))
ends_in_order low end (r ∷ rs) is (suc i) (suc j) d le lt = ends_in_order (r.first + r.count + 1) end rs is.3 i j d (omega (arith, le)) (omega (arith, lt))

-- what holds at each place below one holds of all runs up to it
pub ends_before_from : (block i : ℕ) (runs : List Run) → i ≤ length runs → ((k : ℕ) (d : Run) → k < i → end_of (get_or runs k d) < block) → EndsBefore block (take i runs)
ends_before_from block zero runs le h = tt
ends_before_from block (suc i) [] le h = tt
ends_before_from block (suc i) (r ∷ rs) le h = (h 0 r (omega arith), ends_before_from block i rs (omega (arith, le)) (λ k d lt. h (suc k) d (omega (arith, lt))))

apart_after : (run : Run) (low end : ℕ) (runs : List Run) → AreNormalRuns low end runs → run.first + run.count ≤ low → Apart run (blocks_of runs)
apart_after run low end [] is le = tt
apart_after run low end (r ∷ rs) is le =
    let P : ℕ → Type 0 = λ k. (k < run.first) ⊎ (run.first + run.count ≤ k) in
    let one : Apart run (run_blocks r) = apart_one run r (λ meet. omega (arith, meet.0, meet.1, is.0, le)) in
    all_append P (run_blocks r) (blocks_of rs) one (apart_after run (r.first + r.count + 1) end rs is.3 (omega (arith, is.0, le)))

-- a run is apart where all runs in front of a place end at or before it, and the one there begins at or behind its end
pub apart_at : (run : Run) (low end i : ℕ) (runs : List Run) → AreNormalRuns low end runs → EndsBefore (run.first + 1) (take i runs) → ((d : Run) → i < length runs → run.first + run.count ≤ (get_or runs i d).first) → Apart run (blocks_of runs)
apart_at run low end i [] is before after = tt
apart_at run low end zero (r ∷ rs) is before after = apart_after run r.first end (r ∷ rs) (omega arith, is.1, is.2, is.3) (after r (omega arith))
apart_at run low end (suc i) (r ∷ rs) is before after =
    let P : ℕ → Type 0 = λ k. (k < run.first) ⊎ (run.first + run.count ≤ k) in
    let one : Apart run (run_blocks r) = apart_one run r (λ meet. omega (arith, meet.0, meet.1, before.0)) in
    all_append P (run_blocks r) (blocks_of rs) one (apart_at run (r.first + r.count + 1) end i rs is.3 before.1 (λ d lt. after d (omega (arith, lt))))

cut_within : (low end : ℕ) (front : List Run) (r : Run) (left : ℕ) → AreNormalRuns low end (front ++ r ∷ []) → left ≤ r.count → r.first + left ≤ end
cut_within low end [] r left is part = omega (arith, is.2, part)
cut_within low end (x ∷ xs) r left is part = cut_within (x.first + x.count + 1) end xs r left is.3 part

-- the first runs, and a part of the next
pub normal_cut : (low end i left : ℕ) (runs : List Run) (d : Run) → AreNormalRuns low end runs → i < length runs → 0 < left → left ≤ (get_or runs i d).count → AreNormalRuns low end (take i runs ++ record { first = (get_or runs i d).first; count = left } ∷ [])
normal_cut low end i left runs d is lt some part =
    let r = get_or runs i d in
    let whole : AreNormalRuns low end (take i runs ++ r ∷ drop (i + 1) runs) = subst (AreNormalRuns low end) (sym (take-append-drop i runs) ∙ ap (λ rs. take i runs ++ rs) (drop_more runs i d lt)) is in
    let t = normal_tail low end (take i runs) (drop (i + 1) runs) r whole in
    last-replaced low end (take i runs) r (record { first = r.first; count = left }) t.0 refl some (cut_within low end (take i runs) r left t.0 part)

pub normal_taken : (low end i : ℕ) (runs : List Run) → AreNormalRuns low end runs → AreNormalRuns low end (take i runs)
normal_taken low end i runs is = normal_front low end (take i runs) (drop i runs) (subst (AreNormalRuns low end) (sym (take-append-drop i runs)) is)

pub positive : (n : ℕ) → (n ≡ 0 → ⊥) → 0 < n
positive zero none = absurd (none refl)
positive (suc n) none = omega arith
