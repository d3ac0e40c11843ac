use Rattle.std.proofs.Common.{inr}
use Rattle.std.proofs.lemmas.Result.{IfErr-weaker}
use Rattle.world_files.proofs.disk.recover_disk.Goals as goal

pub returns-clause-refused : goal.returns-clause-refused
returns-clause-refused g c = IfErr-weaker c.recover_file.result _ _ (λ e is. inr (c.in_ok-open.field-0, is)) c.recover_file.ensures.refused
