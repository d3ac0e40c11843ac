use Rattle.event_lists.proofs.Joining.{plays_on}
use Rattle.event_lists.proofs.Lists.{ledger_joins}
use Rattle.event_lists.proofs.laws.two_lists_play_as_one.Goals as goal

pub returns-clause-plays : goal.returns-clause-plays
returns-clause-plays g c = plays_on g.S.Recoverable

pub returns-clause-ledgers : goal.returns-clause-ledgers
returns-clause-ledgers g c = ledger_joins g.S.Recoverable.news
