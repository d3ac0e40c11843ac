use Rattle.event_lists.proofs.Joining.{each_stop}
use Rattle.event_lists.proofs.laws.each_stop_is_recovered.Goals as goal

pub returns : goal.returns
returns g c = record { stops = each_stop g.S.Recoverable }
