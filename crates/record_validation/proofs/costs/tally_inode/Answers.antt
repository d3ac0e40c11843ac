use Rattle.std.proofs.Common.{sym, ◌∙◌}
use Rattle.record_validation.specs.Good.{keeps}
use Rattle.record_validation.specs.KnownNodes.{inodes_behind}
use Rattle.record_validation.proofs.Goods.{all_again}
use Rattle.record_validation.proofs.costs.tally_inode.Goals as goal

pub returns-then-is_behind-clause-within : goal.returns-then-is_behind-clause-within
returns-then-is_behind-clause-within c = all_again (keeps c.args.known.now c.args.effects.now) c.args.inode (inodes_behind c.args.other c.args.behind.now) (sym c.is_behind.ensures ∙ c.if-is_behind.true)
