use Rattle.std.proofs.Common.{refl}
use Rattle.libfs.proofs.FetchedNodes.{none_came}
use Rattle.libfs.proofs.client.Client.fetch_blocks.Goals as goal

pub returns-then-has_failed-clause-fetched : goal.returns-then-has_failed-clause-fetched
returns-then-has_failed-clause-fetched g c = none_came g.M.Media g.S.Media c.args.kernel.now c.args.self.now c.args.inode c.args.self.now c.args.first c.args.count refl
