use Rattle.coalescer.proofs.Counts.{estimate_fits}
use Rattle.coalescer.proofs.estimate.Estimate.fits.Goals as goal

pub returns : goal.returns
returns c = λ es is told. estimate_fits es c.args.self.now c.are_few.result is c.len.ensures.ordered (cc (c.are_few.ensures, c.len.ensures.len)) told
