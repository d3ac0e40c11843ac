use Rattle.std.proofs.Common.{rules, ◌∙◌, ℕ, List, subst}
use Rattle.std.specs.Prelude.{Option}
use Rattle.tier_device.specs.declared.fill.Fill.{Fill}
use Rattle.workload_cli.specs.Stops.{AreRestIn, HasNoMore, fills_behind, media_of}
use Rattle.workload_cli.proofs.KeptMedia.{goes_on_since, halted_armed, halted_fills, halted_media, halted_stoppable, not_rested, rested_goes_on}
use Rattle.workload_cli.proofs.script_world.ScriptWorld.recover.Goals as goal

pub returns-in-Ok-clause-answer : goal.returns-in-Ok-clause-answer
returns-in-Ok-clause-answer g c =
    let m = g.M.Media in
    let rested = c.in-Ok.parts in
    let old = c.args.self.now in
    let mid = c.halt.new.self in
    let halts = c.halt.ensures in
    let are : AreRestIn m g.M.Resting.holds (fills_behind old) (media_of old) rested =
    subst (λ (fills : List Fill). AreRestIn m g.M.Resting.holds fills (media_of old) rested) (halted_fills old mid halts)
    (subst (λ (media : Option (ℕ → _)). AreRestIn m g.M.Resting.holds mid.fills media rested) (halted_media old _ mid halts) c.in-Ok.ensures.rest) in
    rested_goes_on m g.M.Resting.holds old (media_of old) rested c.recover_rested.result c.recover_rested.new.self are
    (goes_on_since m old c.take_rested.new.self rested c.recover_rested.result c.recover_rested.new.self (c.take_rested.ensures.stoppable ∙ halted_stoppable old _ mid halts) (c.take_rested.ensures.armed ∙ halted_armed old _ mid halts) c.recover_rested.ensures.goes_on)

pub returns-in-Ok-clause-stoppable : goal.returns-in-Ok-clause-stoppable
returns-in-Ok-clause-stoppable g c = c.recover_rested.ensures.stoppable ∙ c.take_rested.ensures.stoppable ∙ halted_stoppable c.args.self.now _ c.halt.new.self c.halt.ensures

pub returns-in-Ok-clause-armed : goal.returns-in-Ok-clause-armed
returns-in-Ok-clause-armed g c = c.recover_rested.ensures.armed ∙ c.take_rested.ensures.armed ∙ halted_armed c.args.self.now _ c.halt.new.self c.halt.ensures

pub returns-in-Err-clause-answer : goal.returns-in-Err-clause-answer
returns-in-Err-clause-answer g c =
    let m = g.M.Media in
    let old = c.args.self.now in
    let mid = c.halt.new.self in
    let halts = c.halt.ensures in
    not_rested m g.M.Resting.holds old (media_of old) c.in-Err.error c.take_rested.new.self c.in-Err.ensures.only (search rules) (c.take_rested.ensures.fills ∙ halted_fills old mid halts)
    (subst (λ (media : Option (ℕ → _)). HasNoMore m media c.take_rested.new.self) (halted_media old _ mid halts) c.in-Err.ensures.refused)
