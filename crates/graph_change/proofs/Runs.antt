-- Bytes that stand at a place of a block as one run.
use Rattle.std.proofs.Common.{◌≡◌, ◌<◌, ◌≤◌, ◌+◌, ◌-◌, ℕ, Bool, true, false, cond, inl, inr, List, ◌++◌, length, get_or, take, drop, refl, Some, None, ap, sym, ◌∙◌, arith}
use Rattle.std.specs.Prelude.{unwrap_or, IsSome}
use Rattle.std.proofs.lemmas.Bool.{cases_lt}
use Rattle.std.proofs.lemmas.Bool.Decides.{nat_tests}
use Rattle.std.proofs.lemmas.Grind.{common_steps}
use Rattle.std.proofs.lemmas.List.{ext_get_or}
use Rattle.posix_calls.specs.declared.limits.TheConstants.{UNIT_BYTES}
use Rattle.graph_change.specs.Bytes.{in_run}
use Rattle.graph_change.specs.Change.{Patch, blank, cut_patch, put_patch, patched_bytes, IsWhole}
use Rattle.graph_change.specs.Runs.{run_at}
use Rattle.graph_change.specs.View.{patch_of}
use Rattle.graph_change.proofs.Overs.{patched_long, patched_at}

-- each byte of the run is put at its place, and no other
pub run_is : (place : ℕ) (part : List ℕ) (p : ℕ) → patch_of (run_at place part) p ≡ put_patch place part blank p
run_is place part p = grind (arith, nat_tests, common_steps)

-- a run over another one, of which it has each place
pub run_over : (place first : ℕ) (part run : List ℕ) → ((p : ℕ) → in_run first (length run) p ≡ true → in_run place (length part) p ≡ true) → (p : ℕ) → put_patch place part blank p ≡ put_patch place part (put_patch first run blank) p
run_over place first part run covers p = by (in_run place (length part) p) (in_run first (length run) p) (covers p)
  where
    by : (b c : Bool) → (c ≡ true → b ≡ true) → cond b (Some (get_or part (p - place) 0)) None ≡ cond b (Some (get_or part (p - place) 0)) (cond c (Some (get_or run (p - first) 0)) None)
    by true c h = refl
    by false false h = refl
    by false true h = absurd (let no = h refl in cc)

-- a run that is cut
pub run_cut : (first place : ℕ) (run : List ℕ) (p : ℕ) → put_patch first (take (place - first) run) blank p ≡ cut_patch place (put_patch first run blank) p
run_cut first place run p = grind (arith, nat_tests, common_steps)

-- a run that is put over the bytes of a block
pub over_run : (place : ℕ) (part old : List ℕ) → place + length part ≤ length old → take place old ++ part ++ drop (place + length part) old ≡ patched_bytes (put_patch place part blank) old
over_run place part old within =
    let patch : Patch = put_patch place part blank in
    let long : length (take place old ++ part ++ drop (place + length part) old) ≡ length old = grind (arith, common_steps) in
    ext_get_or 0 _ _ (long ∙ sym (patched_long patch old)) (λ p lt.
    over_at place part old p within
    ∙ sym (patched_at patch old p (omega (arith, lt, long))))
  where
    before : (place : ℕ) (part old : List ℕ) (p : ℕ) → place + length part ≤ length old → p < place → get_or (take place old ++ part ++ drop (place + length part) old) p 0 ≡ get_or old p 0
    before place part old p within low = grind (arith, common_steps)

    inside : (place : ℕ) (part old : List ℕ) (p : ℕ) → place + length part ≤ length old → place ≤ p → p < place + length part → get_or (take place old ++ part ++ drop (place + length part) old) p 0 ≡ get_or part (p - place) 0
    inside place part old p within low high = grind (arith, common_steps)

    behind : (place : ℕ) (part old : List ℕ) (p : ℕ) → place + length part ≤ length old → place + length part ≤ p → get_or (take place old ++ part ++ drop (place + length part) old) p 0 ≡ get_or old p 0
    behind place part old p within high = grind (arith, common_steps)

    outside : (place : ℕ) (part : List ℕ) (x p : ℕ) → in_run place (length part) p ≡ false → x ≡ unwrap_or (put_patch place part blank p) x
    outside place part x p none = sym (ap (λ t. unwrap_or (cond t (Some (get_or part (p - place) 0)) None) x) none)

    over_at : (place : ℕ) (part old : List ℕ) (p : ℕ) → place + length part ≤ length old → get_or (take place old ++ part ++ drop (place + length part) old) p 0 ≡ unwrap_or (put_patch place part blank p) (get_or old p 0)
    over_at place part old p within = elim (cases_lt p place) [
      | inl low ↦ before place part old p within low ∙ outside place part (get_or old p 0) p (grind (arith, nat_tests, low))
      | inr from ↦ elim (cases_lt p (place + length part)) [
        | inl high ↦ inside place part old p within from high ∙ sym (let z : in_run place (length part) p ≡ true = grind (arith, nat_tests, from, high) in ap (λ t. unwrap_or (cond t (Some (get_or part (p - place) 0)) None) (get_or old p 0)) z)
        | inr past ↦ behind place part old p within past ∙ outside place part (get_or old p 0) p (grind (arith, nat_tests, past))
      ]
    ]

-- where nothing is put, each byte stays
pub none_over : (patch : Patch) (old : List ℕ) → ((p : ℕ) → patch p ≡ None) → old ≡ patched_bytes patch old
none_over patch old none =
    ext_get_or 0 _ _ (sym (patched_long patch old)) (λ p lt. sym (patched_at patch old p lt ∙ ap (λ o. unwrap_or o (get_or old p 0)) (none p)))

-- a run as long as a block is the block's bytes
pub run_whole : (place : ℕ) (part : List ℕ) (p : ℕ) → place + length part ≤ UNIT_BYTES → length part ≡ UNIT_BYTES → p < UNIT_BYTES → put_patch place part blank p ≡ Some (get_or part p 0)
run_whole place part p within long lt = grind (arith, nat_tests, common_steps)

-- one that is not leaves a place of the block
pub run_part : (place : ℕ) (part : List ℕ) → place + length part ≤ UNIT_BYTES → (length part ≡ UNIT_BYTES → ⊥) → IsWhole (put_patch place part blank) → ⊥
run_part place part within short whole = grind (arith, nat_tests, common_steps, short, whole 0, whole (UNIT_BYTES - 1))

-- the first byte of a run is put
pub run_some : (first : ℕ) (run : List ℕ) → 0 < length run → IsSome (put_patch first run blank first)
run_some first run some = grind (arith, nat_tests, common_steps)
