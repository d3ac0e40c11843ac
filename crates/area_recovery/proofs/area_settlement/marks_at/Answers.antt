use Rattle.std.proofs.Common.{rules, ◌≡◌, ◌∷◌, [], length, ◌∙◌}
use Rattle.area_recovery.proofs.FreshMarks.{each_mark}
use Rattle.area_recovery.proofs.area_settlement.marks_at.Goals as goal

pub returns : goal.returns
returns c =
    let eight : length c.args.generations ≡ 8 = search rules in
    (λ k. c.mark_at.ensures k ∷ c.mark_at-2.ensures k ∷ c.mark_at-3.ensures k ∷ c.mark_at-4.ensures k ∷ c.mark_at-5.ensures k ∷ c.mark_at-6.ensures k ∷ c.mark_at-7.ensures k ∷ c.mark_at-8.ensures k ∷ [])
    ∙ each_mark c.args.generations eight
