use Rattle.std.proofs.Common.{subst, sym}
use Rattle.interleavings.specs.event_steps.View.{SystemView}
use Rattle.interleavings.specs.system_laws.KeptCalls.{no_calls}
use Rattle.interleavings.specs.system_laws.Relation.{IsWorld}
use Rattle.recovery.proofs.IdleWorlds.{same_system}
use Rattle.recovery.proofs.assembly.world_of.Goals as goal

pub new-requires : goal.new-requires
new-requires g c = record { table = (c.requires.right.table, c.requires.right.shared) }

pub of_system-requires : goal.of_system-requires
of_system-requires g c =
    let m = g.M.Media in
    let is = same_system c.in-Ok.system c.args.kernel c.args.seats.items c.in-Ok.ensures.kernel c.in-Ok.ensures.seats in
    record { stands = subst (λ (w : SystemView _). IsWorld m (record { system = w; calls = no_calls })) (sym is) (c.idle_system_stands_for_a_world.ensures _ c.requires.idle.0 c.requires.idle.1) }

pub unreachable-requires : goal.unreachable-requires
unreachable-requires g c = c.in-Err.ensures.others c.requires.right
