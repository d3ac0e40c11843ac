use Rattle.area_commit.proofs.Exchanged.{given_used, given_room, given_no_node, given_no_data}
use Rattle.area_commit.proofs.pool_change.given_blocks_are_used.Goals as goal

pub returns : goal.returns
returns c = record { free = given_used; room = given_room; nodes = given_no_node; per_tier = given_no_data }
