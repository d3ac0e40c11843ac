use Rattle.tier_device.specs.declared.media.Tier.TheVariants.{Fast, Block, Slow}
use Rattle.inode_plan.proofs.file_plan.plan_file.Goals as goal

pub returns-clause-left : goal.returns-clause-left
returns-clause-left c Fast = c.in_ok-file.ensures.left Fast
returns-clause-left c Block = c.in_ok-file.ensures.left Block
returns-clause-left c Slow = c.in_ok-file.ensures.left Slow

pub returns-clause-used : goal.returns-clause-used
returns-clause-used c Fast = c.in_ok-file.ensures.used Fast
returns-clause-used c Block = c.in_ok-file.ensures.used Block
returns-clause-used c Slow = c.in_ok-file.ensures.used Slow
