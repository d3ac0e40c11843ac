use Rattle.std.proofs.Common.{ap, arith, below_more, is_some, sym}
use Rattle.fuse_server.proofs.ListingLemmas.{listing_past}
use Rattle.fuse_server.proofs.server.Server.free_handle.Goals as goal

pub loop-handle-preserved : goal.loop-handle-preserved
loop-handle-preserved c = below_more _ _ c.loop-handle.invariant (ap is_some (sym c.in-Some.ensures))

pub returns-clause-free : goal.returns-clause-free
returns-clause-free c = listing_past c.args.self.now.listings.items _ (omega (arith, c.args.self.now.listings.ok.0))
