use Rattle.fuse_wire.proofs.Flags.{takes_offer, leaves_to_kernel}
use Rattle.fuse_wire.proofs.init.negotiate.Goals as goal

pub returns-clause-offer : goal.returns-clause-offer
returns-clause-offer c = takes_offer c.args.init.now.flags

pub returns-clause-left : goal.returns-clause-left
returns-clause-left c = leaves_to_kernel c.args.init.now.flags _ (takes_offer c.args.init.now.flags)
