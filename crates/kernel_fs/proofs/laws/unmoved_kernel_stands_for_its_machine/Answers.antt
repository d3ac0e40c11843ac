use Rattle.kernel_fs.proofs.MediaSteps.{unmoved_kernel}
use Rattle.kernel_fs.proofs.laws.unmoved_kernel_stands_for_its_machine.Goals as goal

pub returns : goal.returns
returns g c = λ old new m book geometry unmoved is. unmoved_kernel g.M.Media old new m book geometry unmoved.reads is
