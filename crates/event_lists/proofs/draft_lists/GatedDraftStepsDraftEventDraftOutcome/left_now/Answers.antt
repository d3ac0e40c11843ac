use Rattle.event_lists.proofs.DraftStops.{now_stops}
use Rattle.event_lists.proofs.draft_lists.GatedDraftStepsDraftEventDraftOutcome.left_now.Goals as goal

pub returns : goal.returns
returns c = record { stop = now_stops c.args.self.now }
