use Rattle.world_history.proofs.Turns.{meeting_begins, seen_begins}
use Rattle.world_history.proofs.history_laws.history_begins_with_what_was_seen.Goals as goal

pub returns-clause-last : goal.returns-clause-last
returns-clause-last r s c h is = seen_begins s c h is

pub returns-clause-each : goal.returns-clause-each
returns-clause-each r s c h newer older clients seen is meeting = (meeting_begins s c h is newer clients seen older meeting.listed meeting.going).0

pub returns-clause-own : goal.returns-clause-own
returns-clause-own r s c h newer older clients seen is meeting = (meeting_begins s c h is newer clients seen older meeting.listed meeting.going).1
