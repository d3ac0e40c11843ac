use Rattle.std.proofs.Common.{arith, ap, length}
use Rattle.extent_tree.proofs.Trees.{nodes-few}
use Rattle.extent_tree.proofs.upper_levels.Level.summaries.Goals as goal

pub push_summaries-requires-clause-numbers : goal.push_summaries-requires-clause-numbers
push_summaries-requires-clause-numbers c = omega (arith, nodes-few c.args.self.now c.requires.rising c.requires.filled, ap length c.deref.ensures.value, ap length c.self.view_is)
