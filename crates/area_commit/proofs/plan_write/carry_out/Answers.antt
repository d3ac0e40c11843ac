use Rattle.std.proofs.Common.{subst}
use Rattle.area_reader.specs.layout.Places.{IsAllowed}
use Rattle.area_reader.specs.Store.{disk}
use Rattle.area_commit.proofs.plan_write.carry_out.Goals as goal

pub release_blocks-requires-clause-nodes : goal.release_blocks-requires-clause-nodes
release_blocks-requires-clause-nodes g c =
    let old = c.args.journal.now in
    let plan = c.requires.plan in
    c.freed_blocks_return.ensures.nodes old.geometry (disk g.M.Media old) plan.0 plan.1 c.args.plan c.args.pools.now plan.2 c.requires.pools

pub release_blocks-requires-clause-per_tier : goal.release_blocks-requires-clause-per_tier
release_blocks-requires-clause-per_tier g c t =
    let old = c.args.journal.now in
    let plan = c.requires.plan in
    c.freed_blocks_return.ensures.per_tier old.geometry (disk g.M.Media old) plan.0 plan.1 c.args.plan c.args.pools.now t plan.2 c.requires.pools

pub returns-in-Ok-clause-free : goal.returns-in-Ok-clause-free
returns-in-Ok-clause-free g c =
    let old = c.args.journal.now in
    let new = c.write_all.new.journal in
    let plan = c.requires.plan in
    let allowed : IsAllowed old.geometry = subst IsAllowed c.geometry.ensures c.units-units.ensures.allowed in
    c.pools_have_the_free_blocks.ensures.free old.geometry (disk g.M.Media old) plan.0 plan.1 c.args.plan (disk g.M.Media new) c.args.pools.now c.release_blocks.new.pools
    allowed c.requires.spelled plan.2 c.in-Ok.ensures.done c.requires.pools c.release_blocks.ensures.nodes c.release_blocks.ensures.per_tier

pub release_blocks-requires-clause-nodes_room : goal.release_blocks-requires-clause-nodes_room
release_blocks-requires-clause-nodes_room g c = c.requires.pools.nodes_room

pub release_blocks-requires-clause-room : goal.release_blocks-requires-clause-room
release_blocks-requires-clause-room g c = c.requires.pools.room

pub release-requires : goal.release-requires
release-requires g c = c.requires.pools.undo

pub returns-in-Ok-clause-ranges : goal.returns-in-Ok-clause-ranges
returns-in-Ok-clause-ranges g c =
    let old = c.args.journal.now in
    c.pools_have_the_free_blocks.ensures.ranges old.geometry (disk g.M.Media old) c.args.plan c.args.pools.now c.release_blocks.new.pools c.requires.pools c.release_blocks.ensures.nodes c.release_blocks.ensures.per_tier

pub returns-in-Ok-clause-done : goal.returns-in-Ok-clause-done
returns-in-Ok-clause-done g c = c.in-Ok.ensures.done

pub returns-in-Ok-clause-rests : goal.returns-in-Ok-clause-rests
returns-in-Ok-clause-rests g c = c.in-Ok.ensures.rests

pub returns-in-Ok-clause-any_moment : goal.returns-in-Ok-clause-any_moment
returns-in-Ok-clause-any_moment g c = c.write_all.ensures.any_moment

pub returns-in-Ok-clause-turn : goal.returns-in-Ok-clause-turn
returns-in-Ok-clause-turn g c = c.write_all.ensures.turn

pub returns-in-Ok-clause-at_most : goal.returns-in-Ok-clause-at_most
returns-in-Ok-clause-at_most g c = c.write_all.ensures.at_most
