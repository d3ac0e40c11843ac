use Rattle.std.proofs.Common.{refl}
use Rattle.world_files.proofs.Exits.{err_again}
use Rattle.world_files.proofs.area_recovery_lemmas.SettlementPhases.{passed_on}
use Rattle.workload_cli.specs.Rests.{beneath}
use Rattle.workload_cli.proofs.CountedParts.{counted_read}
use Rattle.workload_cli.proofs.ImageRefusals.{memory_refused, read_refused}
use Rattle.workload_cli.proofs.image.read_counted.Goals as goal

pub returns-in_err-parts-clause-refused : goal.returns-in_err-parts-clause-refused
returns-in_err-parts-clause-refused c = passed_on c.from_residual.result _ _ c.from_residual.ensures.1 (read_refused _ c.args.image.now _ c.in_err-parts.ensures.refused)

pub returns-in_err-parts-clause-none : goal.returns-in_err-parts-clause-none
returns-in_err-parts-clause-none c lacks = err_again c.from_residual.result c.read_parts.result _ _ c.from_residual.ensures.1 c.in_err-parts.was (c.read_parts.ensures.none lacks)

pub returns-clause-read : goal.returns-clause-read
returns-clause-read c = counted_read _ _ beneath (λ x. refl) (λ x t rests. rests) (λ x. x.0) c.args.image.now _ c.in_ok-parts.ensures.read c.count_media.result c.count_media.ensures.counted

pub returns-clause-refused : goal.returns-clause-refused
returns-clause-refused c = memory_refused _ c.args.image.now c.count_media.result c.count_media.ensures.only

pub returns-clause-none : goal.returns-clause-none
returns-clause-none c lacks = let read = c.in_ok-parts.ensures.read in absurd (lacks read.geometry read.found read.long)
