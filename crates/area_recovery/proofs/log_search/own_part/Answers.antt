use Rattle.std.proofs.Common.{◌+◌, ap, arith, sym, ◌∙◌}
use Rattle.area_recovery.specs.declared.error.RecoveryError.TheVariants.{BadLog}
use Rattle.log_survey.specs.Owners.{owner}
use Rattle.area_recovery.proofs.SharedRecords.{first_foreign}
use Rattle.area_recovery.proofs.TouchedRecords.{first_written, written_is_listed}
use Rattle.area_recovery.proofs.log_search.own_part.Goals as goal

pub returns-in-Err-clause-first : goal.returns-in-Err-clause-first
returns-in-Err-clause-first c =
    let e = c.place_of.ensures in
    let k = c.place_of.result in
    let i = c.in-Err.shared.inode in (
      k,
      (λ low. ap (BadLog c.args.client) (omega (arith, low, c.saturating_add.ensures))),
      (λ rs are. first_foreign (owner c.args.owners.now) c.args.client rs k i (c.in-Err.ensures.first rs are)
          (first_written i rs c.args.part.now are k ∙ e.none_before)
          (λ some. first_written i rs c.args.part.now are (k + 1) ∙ e.there (sym (written_is_listed i rs c.args.part.now are) ∙ some))),
    )
