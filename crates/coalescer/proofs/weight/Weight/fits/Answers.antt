use Rattle.coalescer.proofs.Counts.{counted_fits}
use Rattle.coalescer.proofs.weight.Weight.fits.Goals as goal

pub returns : goal.returns
returns c = λ es is. counted_fits es c.args.self.now c.are_few.result is c.len.ensures.ordered c.len-2.ensures.ordered (cc (c.are_few.ensures, c.len.ensures.len, c.len-2.ensures.len))
