use Rattle.digester.proofs.Moved.{counted_after}
use Rattle.digester.proofs.digest_marks.moved_mark_leaves_the_rest.Goals as goal

pub returns : goal.returns
returns c = counted_after c.digest_counts_fewer.ensures.within c.digest_counts_fewer.ensures.finished c.wipe_counts_nothing.ensures.other
