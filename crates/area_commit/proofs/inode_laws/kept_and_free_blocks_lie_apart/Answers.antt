use Rattle.area_commit.proofs.TakenPlaces.{kept_apart, kept_taken}
use Rattle.area_commit.proofs.inode_laws.kept_and_free_blocks_lie_apart.Goals as goal

pub returns : goal.returns
returns c = record { once = λ g rewritten s x m before. kept_apart g rewritten s x m (c.free_blocks_have_no_use.ensures g s) before.apart; takes = kept_taken }
