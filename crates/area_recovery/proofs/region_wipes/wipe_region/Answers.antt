use Rattle.std.proofs.Common.{rules, ◌≡◌, ◌<◌, sym, subst}
use Rattle.tier_device.specs.declared.media.Tier.TheVariants.{Fast}
use Rattle.log_survey.specs.update_log.declared.stage.WipeProgress.TheVariants.{Going}
use Rattle.area_recovery.specs.Silent.{GoesOn, calls_ahead}
use Rattle.area_recovery.proofs.WipedRegions.{begins_wipe, fewer, idle_not_wiping, silent_through}
use Rattle.area_recovery.proofs.region_wipes.wipe_region.Goals as goal

pub wipe_once-requires : goal.wipe_once-requires
wipe_once-requires g c =
    let m = g.M.Media in
    let now = c.args.region.now in
    let r = c.requires.ready in
    record { wiping = begins_wipe m c.args.generation c.args.name now r ((c.left_now.ensures.either (idle_not_wiping now.stage r.idle) (m.seen now.media Fast) (g.met.M.Media.seen_now now.media Fast)).header_is) }

pub wipe_once-requires-in-calls : goal.wipe_once-requires-in-calls
wipe_once-requires-in-calls g c =
    let going : c.calls.progress ≡ Going = search rules in
    record { wiping = (subst (GoesOn g.M.Media c.args.generation c.args.name c.calls.region) going c.calls.invariant.goes_on).0 }

pub returns-in_err-progress-2-clause-any_moment : goal.returns-in_err-progress-2-clause-any_moment
returns-in_err-progress-2-clause-any_moment g c =
    let e = c.wipe_once-in-calls.ensures in
    silent_through g.M.Media c.args.generation c.args.name c.args.region.now c.calls.region c.wipe_once-in-calls.new.region e.past c.calls.invariant.any_moment e.any_moment

pub calls-smaller : goal.calls-smaller
calls-smaller g c =
    let going : c.calls.progress ≡ Going = search rules in
    let w = subst (GoesOn g.M.Media c.args.generation c.args.name c.calls.region) going c.calls.invariant.goes_on in
    let st = c.in_ok-progress-2.ensures.stage in
    subst (λ s. calls_ahead s < calls_ahead c.calls.region.stage) (sym st.1) (fewer c.calls.region.stage st.0 w.1 w.0.can)

pub calls-preserved : goal.calls-preserved
calls-preserved g c =
    let e = c.in_ok-progress-2.ensures in
    let i = c.calls.invariant in
    record {
      goes_on = e.progress;
      any_moment = silent_through g.M.Media c.args.generation c.args.name c.args.region.now c.calls.region c.wipe_once-in-calls.new.region e.past i.any_moment e.any_moment;
      past = search rules;
      quiet = search rules;
    }
