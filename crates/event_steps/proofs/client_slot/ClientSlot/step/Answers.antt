use Rattle.std.proofs.Common.{◌≡◌, true, ap, ◌∙◌}
use Rattle.std.specs.Prelude.{is_some, not}
use Rattle.std.proofs.lemmas.Bool.{and_parts}
use Rattle.libfs.specs.update_log.Stage.{progress}
use Rattle.libfs.specs.View.{is_pending}
use Rattle.event_steps.specs.Sound.{owner_of}
use Rattle.event_steps.specs.View.{SeatView}
use Rattle.event_steps.proofs.Keeps.{stepped_keeps}
use Rattle.event_steps.proofs.client_slot.ClientSlot.step.Goals as goal

pub returns-in-Some-clause-owner : goal.returns-in-Some-clause-owner
returns-in-Some-clause-owner g c =
    let s = c.self.inside in
    let waits : is_pending s.client ≡ true = cc in
    (stepped_keeps g.M.Media s.client c.step.result c.step.new.self c.step.new.self.log.failed (progress s.client.log.current.stage) s.client.begun
    (and_parts (is_some s.client.begun) (not s.client.answered) waits).0
    c.step.ensures.going c.step.ensures.replied c.step.ensures.failed c.step.ensures.rest).owner
    ∙ ap (λ (v : SeatView _). owner_of v.client) c.self.view_is
