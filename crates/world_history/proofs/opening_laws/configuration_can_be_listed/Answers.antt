use Rattle.world_history.proofs.Listings.{can_be_listed}
use Rattle.world_history.proofs.opening_laws.configuration_can_be_listed.Goals as goal

pub returns : goal.returns
returns r s can = can_be_listed s can
