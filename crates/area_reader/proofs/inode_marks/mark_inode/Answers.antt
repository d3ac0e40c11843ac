use Rattle.area_reader.proofs.Uses.{block_clash, slow_clash, inode_taken}
use Rattle.area_reader.proofs.inode_marks.mark_inode.Goals as goal

pub returns-then-mark_tier-2-clause-some : goal.returns-then-mark_tier-2-clause-some
returns-then-mark_tier-2-clause-some c = block_clash c.args.used.now c.mark_tier.new.used c.args.parts.now c.if-mark_tier.ensures c.if-mark_tier-2.ensures

pub returns-then-mark_tier-3-clause-some : goal.returns-then-mark_tier-3-clause-some
returns-then-mark_tier-3-clause-some c = slow_clash c.args.used.now c.mark_tier.new.used c.mark_tier-2.new.used c.args.parts.now c.if-mark_tier.ensures c.if-mark_tier-2.ensures c.if-mark_tier-3.ensures

pub returns-clause-none : goal.returns-clause-none
returns-clause-none c = inode_taken c.args.used.now c.mark_tier.new.used c.mark_tier-2.new.used c.mark_tier-3.new.used c.args.parts.now c.if-mark_tier.ensures c.if-mark_tier-2.ensures c.if-mark_tier-3.ensures
