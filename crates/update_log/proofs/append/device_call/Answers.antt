use Rattle.std.proofs.Common.{refl}
use Rattle.std.proofs.lemmas.Result.{on_ok_weaker}
use Rattle.tier_device.specs.declared.media.Tier.TheVariants.{Fast}
use Rattle.update_log.specs.declared.stage.Stage.TheVariants as stages
use Rattle.update_log.proofs.DeviceCalls.{shown, fenced, on_err, on_ok_both, write_body, fence_body, open_gate, fence_gate}
use Rattle.update_log.proofs.append.device_call.Goals as goal

pub returns-in-Begun-clause-done : goal.returns-in-Begun-clause-done
returns-in-Begun-clause-done g c =
    let m = g.M.Media in
    let law = g.met.M.Media in
    let o = write_body m law.seen_now law.sized c.args.end c.args.body.now c.args.media.now c.write.new.self c.args.stage c.in-Begun.is c.requires.sound c.write.ensures.left in
    on_ok_weaker c.write.result (λ p. o.done p.here) c.write.ensures.written

pub returns-in-Begun-clause-failed : goal.returns-in-Begun-clause-failed
returns-in-Begun-clause-failed g c =
    let m = g.M.Media in
    let law = g.met.M.Media in
    let o = write_body m law.seen_now law.sized c.args.end c.args.body.now c.args.media.now c.write.new.self c.args.stage c.in-Begun.is c.requires.sound c.write.ensures.left in
    on_err c.write.result o.failed

pub returns-in-Begun-clause-before : goal.returns-in-Begun-clause-before
returns-in-Begun-clause-before g c =
    let m = g.M.Media in
    let law = g.met.M.Media in
    let o = write_body m law.seen_now law.sized c.args.end c.args.body.now c.args.media.now c.write.new.self c.args.stage c.in-Begun.is c.requires.sound c.write.ensures.left in
    o.before

pub returns-in-Begun-clause-after : goal.returns-in-Begun-clause-after
returns-in-Begun-clause-after g c =
    let m = g.M.Media in
    let law = g.met.M.Media in
    let o = write_body m law.seen_now law.sized c.args.end c.args.body.now c.args.media.now c.write.new.self c.args.stage c.in-Begun.is c.requires.sound c.write.ensures.left in
    o.after

pub returns-in-Written-clause-done : goal.returns-in-Written-clause-done
returns-in-Written-clause-done g c =
    let m = g.M.Media in
    let law = g.met.M.Media in
    let o = fence_body m law.seen_now law.sized c.args.end c.args.body.now c.args.media.now c.fence.new.self c.args.stage c.in-Written.is c.requires.sound (c.fence.ensures.left Fast) in
    on_ok_both c.fence.result (λ s p. o.done (record { only = p.here; same = s Fast })) c.fence.ensures.seen c.fence.ensures.settled

pub returns-in-Written-clause-failed : goal.returns-in-Written-clause-failed
returns-in-Written-clause-failed g c =
    let m = g.M.Media in
    let law = g.met.M.Media in
    let o = fence_body m law.seen_now law.sized c.args.end c.args.body.now c.args.media.now c.fence.new.self c.args.stage c.in-Written.is c.requires.sound (c.fence.ensures.left Fast) in
    on_err c.fence.result o.failed

pub returns-in-Written-clause-before : goal.returns-in-Written-clause-before
returns-in-Written-clause-before g c =
    let m = g.M.Media in
    let law = g.met.M.Media in
    let o = fence_body m law.seen_now law.sized c.args.end c.args.body.now c.args.media.now c.fence.new.self c.args.stage c.in-Written.is c.requires.sound (c.fence.ensures.left Fast) in
    o.before

pub returns-in-Written-clause-after : goal.returns-in-Written-clause-after
returns-in-Written-clause-after g c =
    let m = g.M.Media in
    let law = g.met.M.Media in
    let o = fence_body m law.seen_now law.sized c.args.end c.args.body.now c.args.media.now c.fence.new.self c.args.stage c.in-Written.is c.requires.sound (c.fence.ensures.left Fast) in
    o.after

pub returns-in-Kept-clause-done : goal.returns-in-Kept-clause-done
returns-in-Kept-clause-done g c =
    let m = g.M.Media in
    let law = g.met.M.Media in
    let o = open_gate m law.seen_now law.sized c.args.end c.args.body.now c.args.media.now c.write-in-Kept.new.self c.args.stage c.in-Kept.is c.requires.sound c.write-in-Kept.ensures.left in
    on_ok_weaker c.write-in-Kept.result (λ p. o.done p.here) c.write-in-Kept.ensures.written

pub returns-in-Kept-clause-failed : goal.returns-in-Kept-clause-failed
returns-in-Kept-clause-failed g c =
    let m = g.M.Media in
    let law = g.met.M.Media in
    let o = open_gate m law.seen_now law.sized c.args.end c.args.body.now c.args.media.now c.write-in-Kept.new.self c.args.stage c.in-Kept.is c.requires.sound c.write-in-Kept.ensures.left in
    on_err c.write-in-Kept.result o.failed

pub returns-in-Kept-clause-before : goal.returns-in-Kept-clause-before
returns-in-Kept-clause-before g c =
    let m = g.M.Media in
    let law = g.met.M.Media in
    let o = open_gate m law.seen_now law.sized c.args.end c.args.body.now c.args.media.now c.write-in-Kept.new.self c.args.stage c.in-Kept.is c.requires.sound c.write-in-Kept.ensures.left in
    o.before

pub returns-in-Kept-clause-after : goal.returns-in-Kept-clause-after
returns-in-Kept-clause-after g c =
    let m = g.M.Media in
    let law = g.met.M.Media in
    let o = open_gate m law.seen_now law.sized c.args.end c.args.body.now c.args.media.now c.write-in-Kept.new.self c.args.stage c.in-Kept.is c.requires.sound c.write-in-Kept.ensures.left in
    o.after

pub returns-in-Opened-clause-done : goal.returns-in-Opened-clause-done
returns-in-Opened-clause-done g c =
    let m = g.M.Media in
    let law = g.met.M.Media in
    let o = fence_gate m law.seen_now law.sized c.args.end c.args.body.now c.args.media.now c.fence-in-Opened.new.self c.args.stage c.in-Opened.is c.requires.sound (c.fence-in-Opened.ensures.left Fast) in
    on_ok_both c.fence-in-Opened.result (λ s p. o.done (record { only = p.here; same = s Fast })) c.fence-in-Opened.ensures.seen c.fence-in-Opened.ensures.settled

pub returns-in-Opened-clause-failed : goal.returns-in-Opened-clause-failed
returns-in-Opened-clause-failed g c =
    let m = g.M.Media in
    let law = g.met.M.Media in
    let o = fence_gate m law.seen_now law.sized c.args.end c.args.body.now c.args.media.now c.fence-in-Opened.new.self c.args.stage c.in-Opened.is c.requires.sound (c.fence-in-Opened.ensures.left Fast) in
    on_err c.fence-in-Opened.result o.failed

pub returns-in-Opened-clause-before : goal.returns-in-Opened-clause-before
returns-in-Opened-clause-before g c =
    let m = g.M.Media in
    let law = g.met.M.Media in
    let o = fence_gate m law.seen_now law.sized c.args.end c.args.body.now c.args.media.now c.fence-in-Opened.new.self c.args.stage c.in-Opened.is c.requires.sound (c.fence-in-Opened.ensures.left Fast) in
    o.before

pub returns-in-Opened-clause-after : goal.returns-in-Opened-clause-after
returns-in-Opened-clause-after g c =
    let m = g.M.Media in
    let law = g.met.M.Media in
    let o = fence_gate m law.seen_now law.sized c.args.end c.args.body.now c.args.media.now c.fence-in-Opened.new.self c.args.stage c.in-Opened.is c.requires.sound (c.fence-in-Opened.ensures.left Fast) in
    o.after

pub returns-in-Begun-clause-seen : goal.returns-in-Begun-clause-seen
returns-in-Begun-clause-seen g c =
    let m = g.M.Media in
    on_ok_weaker c.write.result (λ p. shown m c.args.end c.args.body.now c.args.media.now c.write.new.self c.args.stage stages.Begun c.in-Begun.is p) c.write.ensures.written

pub returns-in-Written-clause-seen : goal.returns-in-Written-clause-seen
returns-in-Written-clause-seen g c =
    let m = g.M.Media in
    on_ok_weaker c.fence.result (λ p. fenced m c.args.end c.args.body.now c.args.media.now c.fence.new.self c.args.stage stages.Written c.in-Written.is refl p) c.fence.ensures.seen

pub returns-in-Kept-clause-seen : goal.returns-in-Kept-clause-seen
returns-in-Kept-clause-seen g c =
    let m = g.M.Media in
    on_ok_weaker c.write-in-Kept.result (λ p. shown m c.args.end c.args.body.now c.args.media.now c.write-in-Kept.new.self c.args.stage stages.Kept c.in-Kept.is p) c.write-in-Kept.ensures.written

pub returns-in-Opened-clause-seen : goal.returns-in-Opened-clause-seen
returns-in-Opened-clause-seen g c =
    let m = g.M.Media in
    on_ok_weaker c.fence-in-Opened.result (λ p. fenced m c.args.end c.args.body.now c.args.media.now c.fence-in-Opened.new.self c.args.stage stages.Opened c.in-Opened.is refl p) c.fence-in-Opened.ensures.seen
