use Rattle.world_history.proofs.Turns.{turns_are}
use Rattle.world_history.proofs.history_laws.turns_follow_from_own_moves.Goals as goal

pub returns : goal.returns
returns r s c h = turns_are s c h
