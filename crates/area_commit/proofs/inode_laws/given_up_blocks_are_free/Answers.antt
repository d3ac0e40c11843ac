use Rattle.area_commit.proofs.TakenPlaces.{given_up, no_other}
use Rattle.area_commit.proofs.inode_laws.given_up_blocks_are_free.Goals as goal

pub returns : goal.returns
returns c =
    let unused = c.free_blocks_have_no_use.ensures in
    let stay = c.rewritten_inodes_are_spelled.ensures.uses_stay in
    let pools = c.places_are_in_pools.ensures in
    record {
      free = λ g rewritten old new t k before is. given_up g rewritten old new t k (stay g rewritten old new is) (record { roots = pools.roots g old; places = pools.places g old }) (unused g old) (unused g new) before.apart;
      no_other = λ g rewritten old new t k is. no_other g rewritten old new t k (stay g rewritten old new is) (unused g old) (unused g new);
    }
