use Rattle.std.proofs.Common.{arith}
use Rattle.coalescer.proofs.Single as proved
use Rattle.coalescer.proofs.laws.single_record_fits.Goals as goal

pub returns : goal.returns
returns c = record { images = λ r is. omega (arith, proved.record_images r is); blocks = proved.record_blocks; single = proved.single; run = proved.run }
