use Rattle.inode_plan.proofs.After.{left_is_lost, lost_is_left}
use Rattle.inode_plan.proofs.file_laws.left_places_are_lost.Goals as goal

pub returns : goal.returns
returns c change numbers places old new t left p are after fresh apart is = (
  λ at. (((is p).0 at).0, ((is p).0 at).2, left_is_lost change numbers places old new are after fresh t left apart is p at),
  λ some. lost_is_left change numbers places old new are after t left is p some.0 some.1 (some.2 some.0),
)
