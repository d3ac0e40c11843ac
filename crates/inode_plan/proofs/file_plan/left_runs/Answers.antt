use Rattle.tier_device.specs.declared.media.Tier.TheVariants.{Fast, Block, Slow}
use Rattle.inode_plan.proofs.file_plan.left_runs.Goals as goal

pub returns-clause-left : goal.returns-clause-left
returns-clause-left c Fast = c.in_ok-fast.ensures.left
returns-clause-left c Block = c.in_ok-block.ensures.left
returns-clause-left c Slow = c.in_ok-slow.ensures.left

pub returns-clause-used : goal.returns-clause-used
returns-clause-used c Fast = c.in_ok-fast.ensures.used
returns-clause-used c Block = c.in_ok-block.ensures.used
returns-clause-used c Slow = c.in_ok-slow.ensures.used
