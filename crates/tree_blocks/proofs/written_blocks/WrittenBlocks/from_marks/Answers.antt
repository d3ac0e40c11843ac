use Rattle.std.proofs.Common.{◌≡◌, ◌+◌, ◌<◌, ◌∙◌, ℕ, suc, sym, List, [], ◌∷◌, ◌++◌, Bool, false, cond, ap, arith, get_or, length, take}
use Rattle.std.proofs.lemmas.List.{take_more_set, append-nil, length-set}
use Rattle.tree_blocks.specs.BlockMarks.{numbers_from}
use Rattle.tree_blocks.proofs.Marking.{numbers_next}
use Rattle.tree_blocks.proofs.written_blocks.WrittenBlocks.from_marks.Goals as goal
use Rattle.tree_blocks.proofs.written_blocks.WrittenBlocks.from_marks.Goals.{then-marks-number, else-marks-number}

-- one number more stands behind those so far, or none
abbrev next : List Bool → ℕ → List ℕ
next marks k = numbers_from 0 (take k marks) ++ cond (get_or marks k false) (k ∷ []) []

next_is : (marks : List Bool) (k : ℕ) → k < length marks → numbers_from 0 (take (k + 1) marks) ≡ next marks k
next_is marks k lt =
    let more : k + 1 ≡ suc k = omega arith in
    let same : 0 + k ≡ k = omega arith in
    ap (λ n. numbers_from 0 (take n marks)) more ∙ numbers_next 0 marks k lt ∙ ap (λ n. numbers_from 0 (take k marks) ++ cond (get_or marks k false) (n ∷ []) []) same

pub marks-preserved : goal.marks-preserved
marks-preserved c =
    let marks : List Bool = c.args.marks.now in
    let k : ℕ = c.marks.number in
    let so_far = c.marks.invariant.so_far in
    let more = sym (next_is marks k c.marks-test.true) in
    elim c.if-marks-number.branch [
      | then-marks-number w ↦ record {
        few = omega (arith, w.len-is, c.marks.invariant.few);
        long = ap (λ (ns : List ℕ). length ns) w.numbers-is ∙ (length-set c.marks.numbers c.marks.len k ∙ c.marks.invariant.long);
        so_far =
            ap (λ n. take n c.if-marks-number.numbers) w.len-is ∙ ap (λ ns. take (c.marks.len + 1) ns) w.numbers-is
            ∙ take_more_set c.marks.numbers c.marks.len k (omega (arith, c.marks.invariant.few, c.marks-test.true, c.requires, c.marks.invariant.long))
            ∙ ap (λ ns. ns ++ k ∷ []) so_far ∙ sym (ap (λ b. numbers_from 0 (take k marks) ++ cond b (k ∷ []) []) w.if-marks-number.true) ∙ more;
      }
      | else-marks-number w ↦ record {
        few = omega (arith, w.len-is, c.marks.invariant.few);
        long = ap (λ (ns : List ℕ). length ns) w.numbers-is ∙ c.marks.invariant.long;
        so_far =
            ap (λ n. take n c.if-marks-number.numbers) w.len-is ∙ ap (λ ns. take c.marks.len ns) w.numbers-is ∙ so_far
            ∙ sym (append-nil (numbers_from 0 (take k marks))) ∙ sym (ap (λ b. numbers_from 0 (take k marks) ++ cond b (k ∷ []) []) w.if-marks-number.false) ∙ more;
      }
    ]
