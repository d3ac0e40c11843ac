use Rattle.area_commit.proofs.GivenUp.{given_up_used}
use Rattle.inode_plan.proofs.place_laws.places_can_be_given.Goals as goal

pub returns : goal.returns
returns c = given_up_used
