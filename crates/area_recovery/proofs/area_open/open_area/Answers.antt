use Rattle.recovery_laws.specs.shared_area.AreaOpen.{SpellsNone, IsMediumDamage}
use Rattle.area_recovery.proofs.Faults.{of_area, no_damage, of_fault, of_memory, of_other, of_reader, on_damage}
use Rattle.area_recovery.proofs.Staying.{opened_stays, opened_volume}
use Rattle.area_recovery.proofs.area_open.open_area.Goals as goal

pub area_fault-requires : goal.area_fault-requires
area_fault-requires g c = of_reader c.in-Err.error _ c.in-Err.ensures.damaged

pub returns-in-Ok-clause-any_moment : goal.returns-in-Ok-clause-any_moment
returns-in-Ok-clause-any_moment g c = let m = g.M.Media in opened_stays m c.args.medium c.in-Ok.area.media c.requires.rest c.in-Ok.ensures.any_moment

pub returns-in-Err-clause-any_moment_refused : goal.returns-in-Err-clause-any_moment_refused
returns-in-Err-clause-any_moment_refused g c = let m = g.M.Media in opened_stays m c.args.medium c.in-Err.medium c.requires.rest c.in-Err.ensures.any_moment_refused

pub returns-in-Err-clause-never : goal.returns-in-Err-clause-never
returns-in-Err-clause-never g c = λ sizes regions state r. no_damage c.in-Err.error c.area_fault.result (SpellsNone (g.M.Media.seen c.args.medium)) c.area_fault.ensures c.in-Err.ensures.damaged (λ none. none sizes r.can.volume r.can.opens)

pub returns-in-Err-clause-damaged : goal.returns-in-Err-clause-damaged
returns-in-Err-clause-damaged g c = on_damage c.in-Err.error c.area_fault.result (λ _ _. SpellsNone (g.M.Media.seen c.args.medium)) c.area_fault.ensures c.in-Err.ensures.damaged

pub returns-in-Err-clause-named : goal.returns-in-Err-clause-named
returns-in-Err-clause-named g c = on_damage c.in-Err.error c.area_fault.result (IsMediumDamage (g.M.Media.seen c.args.medium)) c.area_fault.ensures c.in-Err.ensures.named

pub returns-in-Err-clause-only : goal.returns-in-Err-clause-only
returns-in-Err-clause-only g c = of_area c.in-Err.error c.area_fault.result c.area_fault.ensures

pub returns-in-Err-clause-memory : goal.returns-in-Err-clause-memory
returns-in-Err-clause-memory g c = λ memory. c.in-Err.ensures.memory (of_memory c.in-Err.error c.area_fault.result c.area_fault.ensures memory)

pub returns-in-Err-clause-fault : goal.returns-in-Err-clause-fault
returns-in-Err-clause-fault g c = λ fault. c.in-Err.ensures.fault (of_fault c.in-Err.error c.area_fault.result c.area_fault.ensures fault)

pub returns-in-Err-clause-quiet_refused : goal.returns-in-Err-clause-quiet_refused
returns-in-Err-clause-quiet_refused g c = λ other. c.in-Err.ensures.quiet_refused (of_other c.in-Err.error c.area_fault.result c.area_fault.ensures other)

pub returns-in-Err-clause-rests_refused : goal.returns-in-Err-clause-rests_refused
returns-in-Err-clause-rests_refused g c = λ other. c.in-Err.ensures.rests_refused (of_other c.in-Err.error c.area_fault.result c.area_fault.ensures other)

pub returns-in-Err-clause-blocks_refused : goal.returns-in-Err-clause-blocks_refused
returns-in-Err-clause-blocks_refused g c = λ other. c.in-Err.ensures.blocks_refused (of_other c.in-Err.error c.area_fault.result c.area_fault.ensures other)

pub returns-in-Err-clause-untouched : goal.returns-in-Err-clause-untouched
returns-in-Err-clause-untouched g c = λ other. c.in-Err.ensures.untouched (of_other c.in-Err.error c.area_fault.result c.area_fault.ensures other)

pub returns-in-Ok-clause-volume_then : goal.returns-in-Ok-clause-volume_then
returns-in-Ok-clause-volume_then g c = opened_volume g.M.Media c.args.medium c.in-Ok.area.media c.requires.rest c.in-Ok.ensures.any_moment g.met.M.Media.seen_now c.in-Ok.area.geometry c.in-Ok.ensures.volume
