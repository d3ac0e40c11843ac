use Rattle.std.proofs.Common.{◌∙◌, inl, inr, None, ap}
use Rattle.std.specs.Prelude.{Option}
use Rattle.world_files.specs.area_recovery.Parts.{PartsView, part_medium}
use Rattle.call_driver.specs.system_laws.Parts.{medium_of}
use Rattle.call_driver.specs.system_laws.WorldView.{WorldView}
use Rattle.workload_cli.specs.Stops.{Recovered, Refused, StaysStopped, Stopped, media_in}
use Rattle.workload_cli.proofs.script_world.ScriptWorld.recover_rested.Goals as goal

pub returns-in-Ok-clause-goes_on : goal.returns-in-Ok-clause-goes_on
returns-in-Ok-clause-goes_on g c =
    let new = c.go_on.new.self in
    elim c.go_on.ensures.answer [
      | inl runs ↦ Recovered runs.1 (record { running = runs.0; world = c.in-Ok.world; is = c.go_on.ensures.world; recovered = c.in-Ok.ensures.recovers })
      | inr stops ↦
          Stopped stops.1 stops.0
          (record { stopped = stops.0.stopped; media = medium_of c.in-Ok.world.system; are = ap (λ (w : Option (WorldView _)). media_in w new.parts) c.go_on.ensures.world; stored = c.in-Ok.ensures.stop })
    ]

pub returns-in-Err-clause-goes_on : goal.returns-in-Err-clause-goes_on
returns-in-Err-clause-goes_on g c =
    let new = c.stay_stopped.new.self in
    let e = c.in-Err.ensures in
    let stays : StaysStopped g.M.Media c.args.parts new = record {
      stopped = c.stay_stopped.ensures.stopped ∙ c.requires.stopped;
      media = part_medium c.in-Err.parts;
      are = ap (λ (w : Option (WorldView _)). media_in w new.parts) (c.stay_stopped.ensures.world ∙ c.requires.taken) ∙ ap (λ (p : Option (PartsView _)). media_in None p) c.stay_stopped.ensures.parts;
      stored = e.stop_refused;
    } in
    elim c.stay_stopped.ensures.answer [
      | inl is ↦ Stopped is.0 is.1 stays
      | inr is ↦ Refused c.in-Err.error is.0 (record { stays = stays; fills = is.1; refused = record { never = e.never; damaged = e.damaged; bad_log = e.bad_log; fault = e.fault } })
    ]
