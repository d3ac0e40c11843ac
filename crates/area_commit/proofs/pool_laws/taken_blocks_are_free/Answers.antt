use Rattle.area_commit.proofs.Departed.{taken_free, taken_apart, taken_left}
use Rattle.area_commit.proofs.pool_laws.taken_blocks_are_free.Goals as goal

pub returns : goal.returns
returns c = record { free = taken_free; apart = taken_apart; left = taken_left }
