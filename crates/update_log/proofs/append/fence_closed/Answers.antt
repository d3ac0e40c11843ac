use Rattle.tier_device.specs.declared.media.Tier.TheVariants.{Fast}
use Rattle.update_log.proofs.DeviceCalls.{on_err, on_ok_both, closed_before, closed_after, closed_failed, closed_done}
use Rattle.update_log.proofs.append.fence_closed.Goals as goal

pub returns-clause-done : goal.returns-clause-done
returns-clause-done g c =
    let law = g.met.M.Media in
    on_ok_both c.fence.result (λ s p. closed_done g.M.Media law.seen_now law.sized c.args.end c.args.body.now c.args.media.now c.fence.new.self c.args.stage c.requires.unopened c.requires.sound (record { only = p.here; same = s Fast })) c.fence.ensures.seen c.fence.ensures.settled

pub returns-clause-failed : goal.returns-clause-failed
returns-clause-failed g c =
    let law = g.met.M.Media in
    on_err c.fence.result (closed_failed g.M.Media law.seen_now law.sized c.args.end c.args.body.now c.args.media.now c.fence.new.self c.args.stage c.requires.unopened c.requires.sound (c.fence.ensures.left Fast))

pub returns-clause-before : goal.returns-clause-before
returns-clause-before g c =
    let law = g.met.M.Media in
    closed_before g.M.Media law.seen_now law.sized c.args.end c.args.body.now c.args.media.now c.fence.new.self c.args.stage c.requires.unopened c.requires.sound

pub returns-clause-after : goal.returns-clause-after
returns-clause-after g c =
    let law = g.met.M.Media in
    closed_after g.M.Media law.seen_now law.sized c.args.end c.args.body.now c.args.media.now c.fence.new.self c.args.stage c.requires.unopened c.requires.sound (c.fence.ensures.left Fast)
