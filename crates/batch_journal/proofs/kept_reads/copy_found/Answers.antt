use Rattle.std.proofs.Common.{◌∙◌, ap, length}
use Rattle.batch_journal.specs.Images.{slice}
use Rattle.batch_journal.proofs.kept_reads.copy_found.Goals as goal

pub returns-in-Some-clause-found : goal.returns-in-Some-clause-found
returns-in-Some-clause-found c _ g blocks shows is = c.copy_part.ensures ∙ ap (slice c.args.from (length c.args.out.now)) (c.in-Some.ensures.found g blocks shows is)
