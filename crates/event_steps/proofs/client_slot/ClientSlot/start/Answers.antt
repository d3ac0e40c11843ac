use Rattle.std.proofs.Common.{ap, ◌∙◌}
use Rattle.event_steps.specs.Sound.{owner_of}
use Rattle.event_steps.specs.View.{SeatView}
use Rattle.event_steps.proofs.Keeps.{seated, start_keeps}
use Rattle.event_steps.proofs.client_slot.ClientSlot.start.Goals as goal

pub invariant_of-self : goal.invariant_of-self
invariant_of-self g c =
    let device = g.M.Media in
    let s = c.self.inside in
    seated device s.client c.start.new.self s.away (start_keeps device s.client c.args.call.now c.start.result c.start.new.self c.start.ensures.failed c.start.ensures.started) c.self.invariant

pub invariant_of-self-in-Pending : goal.invariant_of-self-in-Pending
invariant_of-self-in-Pending g c =
    let device = g.M.Media in
    let s = c.self.inside in
    seated device s.client c.start.new.self s.away (start_keeps device s.client c.args.call.now c.start.result c.start.new.self c.start.ensures.failed c.start.ensures.started) c.self.invariant

pub invariant_of-self-in-Need : goal.invariant_of-self-in-Need
invariant_of-self-in-Need g c =
    let device = g.M.Media in
    let s = c.self.inside in
    seated device s.client c.start.new.self s.away (start_keeps device s.client c.args.call.now c.start.result c.start.new.self c.start.ensures.failed c.start.ensures.started) c.self.invariant

pub returns-in-Done-clause-owner : goal.returns-in-Done-clause-owner
returns-in-Done-clause-owner g c =
    let s = c.self.inside in
    (start_keeps g.M.Media s.client c.args.call.now c.start.result c.start.new.self c.start.ensures.failed c.start.ensures.started).owner
    ∙ ap (λ (v : SeatView _). owner_of v.client) c.self.view_is

pub returns-in-Pending-clause-owner : goal.returns-in-Pending-clause-owner
returns-in-Pending-clause-owner g c =
    let s = c.self.inside in
    (start_keeps g.M.Media s.client c.args.call.now c.start.result c.start.new.self c.start.ensures.failed c.start.ensures.started).owner
    ∙ ap (λ (v : SeatView _). owner_of v.client) c.self.view_is

pub returns-in-Need-clause-owner : goal.returns-in-Need-clause-owner
returns-in-Need-clause-owner g c =
    let s = c.self.inside in
    (start_keeps g.M.Media s.client c.args.call.now c.start.result c.start.new.self c.start.ensures.failed c.start.ensures.started).owner
    ∙ ap (λ (v : SeatView _). owner_of v.client) c.self.view_is
