use Rattle.std.proofs.Common.{false, ap, sym, ◌∙◌}
use Rattle.world_invariant.specs.Logs.{is_touched, is_written}
use Rattle.world_invariant.specs.World.{change_of, log_of}
use Rattle.world_invariant.specs.ClientParts.{is_settled}
use Rattle.world_invariant.proofs.Records.{in_first, rest_written}
use Rattle.world_invariant.proofs.Idle.{none_some}
use Rattle.world_invariant.proofs.lease_laws.begun_call_keeps_its_leases.Goals as goal

pub returns-clause-writes : goal.returns-clause-writes
returns-clause-writes r w c i b h is_c e there = (h.stands c is_c).logged.leased i (rest_written i (log_of w c) (change_of (w.clients c).begun) (ap (λ o. is_written i (change_of o)) e ∙ in_first (is_touched i b.change) false there))

pub returns-clause-copies : goal.returns-clause-copies
returns-clause-copies r w c i copy h is_c e = (h.stands c is_c).leased.copies i copy e

pub returns-clause-kept : goal.returns-clause-kept
returns-clause-kept r w c i b e can = none_some b (sym can.idle ∙ e)

pub returns-clause-unburied : goal.returns-clause-unburied
returns-clause-unburied r w c b h e can = none_some b (sym ((h.stands c can.client).rests.idle (ap is_settled can.settled)) ∙ e)
