use Rattle.world_history.proofs.AwayRegions.{away_is}
use Rattle.world_history.proofs.part_laws.away_region_is_its_own_moves.Goals as goal

pub returns : goal.returns
returns r s c h is_c coherent is = away_is s c is_c coherent h is
