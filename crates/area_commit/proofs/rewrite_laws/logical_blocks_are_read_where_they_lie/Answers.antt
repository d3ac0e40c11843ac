use Rattle.area_commit.proofs.Places.{by_there, by_nowhere, by_same}
use Rattle.area_commit.proofs.rewrite_laws.logical_blocks_are_read_where_they_lie.Goals as goal

pub returns : goal.returns
returns c = record { there = λ s m t k p once. by_there s m k p once t; nowhere = by_nowhere; stays = by_same }
