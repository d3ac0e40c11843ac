use Rattle.std.proofs.Common.{◌∙◌, length, ap, arith}
use Rattle.std.proofs.lemmas.Result.{on_ok_weaker}
use Rattle.byteorder.specs.Numbers.{length-bytes_low_first}
use Rattle.tier_device.specs.declared.media.Tier.TheVariants.{Fast}
use Rattle.update_log.proofs.DeviceCalls.{on_err, on_ok_both}
use Rattle.update_log.proofs.WipeCalls.{close_gate, keep_gate, write_name, keep_name}
use Rattle.update_log.proofs.wipe.make_call.Goals as goal

pub returns-in-Closing-clause-done : goal.returns-in-Closing-clause-done
returns-in-Closing-clause-done g c =
    let m = g.M.Media in
    let law = g.met.M.Media in
    let o = close_gate m law.seen_now c.args.media.now c.write.new.self (omega (arith, c.requires.size)) c.args.to c.args.generation c.in-Closing.is c.requires.ready c.write.ensures.left in
    on_ok_weaker c.write.result (λ p. o.done p.here) c.write.ensures.written

pub returns-in-Closing-clause-header : goal.returns-in-Closing-clause-header
returns-in-Closing-clause-header g c =
    let m = g.M.Media in
    let law = g.met.M.Media in
    let o = close_gate m law.seen_now c.args.media.now c.write.new.self (omega (arith, c.requires.size)) c.args.to c.args.generation c.in-Closing.is c.requires.ready c.write.ensures.left in
    on_ok_weaker c.write.result (λ p. o.header_is p.here) c.write.ensures.written

pub returns-in-Closing-clause-failed : goal.returns-in-Closing-clause-failed
returns-in-Closing-clause-failed g c =
    let m = g.M.Media in
    let law = g.met.M.Media in
    let o = close_gate m law.seen_now c.args.media.now c.write.new.self (omega (arith, c.requires.size)) c.args.to c.args.generation c.in-Closing.is c.requires.ready c.write.ensures.left in
    on_err c.write.result o.failed

pub returns-in-Closing-clause-after : goal.returns-in-Closing-clause-after
returns-in-Closing-clause-after g c =
    let m = g.M.Media in
    let law = g.met.M.Media in
    let o = close_gate m law.seen_now c.args.media.now c.write.new.self (omega (arith, c.requires.size)) c.args.to c.args.generation c.in-Closing.is c.requires.ready c.write.ensures.left in
    o.after

pub returns-in-Closed-clause-done : goal.returns-in-Closed-clause-done
returns-in-Closed-clause-done g c =
    let m = g.M.Media in
    let law = g.met.M.Media in
    let o = keep_gate m law.seen_now c.args.media.now c.fence.new.self (omega (arith, c.requires.size)) c.args.to c.args.generation c.in-Closed.is c.requires.ready (c.fence.ensures.left Fast) in
    on_ok_both c.fence.result (λ s p. o.done (record { only = p.here; same = s Fast })) c.fence.ensures.seen c.fence.ensures.settled

pub returns-in-Closed-clause-header : goal.returns-in-Closed-clause-header
returns-in-Closed-clause-header g c =
    let m = g.M.Media in
    let law = g.met.M.Media in
    let o = keep_gate m law.seen_now c.args.media.now c.fence.new.self (omega (arith, c.requires.size)) c.args.to c.args.generation c.in-Closed.is c.requires.ready (c.fence.ensures.left Fast) in
    on_ok_both c.fence.result (λ s p. o.header_is (record { only = p.here; same = s Fast })) c.fence.ensures.seen c.fence.ensures.settled

pub returns-in-Closed-clause-failed : goal.returns-in-Closed-clause-failed
returns-in-Closed-clause-failed g c =
    let m = g.M.Media in
    let law = g.met.M.Media in
    let o = keep_gate m law.seen_now c.args.media.now c.fence.new.self (omega (arith, c.requires.size)) c.args.to c.args.generation c.in-Closed.is c.requires.ready (c.fence.ensures.left Fast) in
    on_err c.fence.result o.failed

pub returns-in-Closed-clause-after : goal.returns-in-Closed-clause-after
returns-in-Closed-clause-after g c =
    let m = g.M.Media in
    let law = g.met.M.Media in
    let o = keep_gate m law.seen_now c.args.media.now c.fence.new.self (omega (arith, c.requires.size)) c.args.to c.args.generation c.in-Closed.is c.requires.ready (c.fence.ensures.left Fast) in
    o.after

pub returns-in-Naming-clause-done : goal.returns-in-Naming-clause-done
returns-in-Naming-clause-done g c =
    let m = g.M.Media in
    let law = g.met.M.Media in
    let o = write_name m law.seen_now c.args.media.now c.write-in-Naming.new.self (omega (arith, c.requires.size)) c.args.to c.args.generation c.name_of.result c.in-Naming.is (ap length c.name_of.ensures ∙ length-bytes_low_first 0 8 c.args.generation) c.name_of.ensures c.requires.ready c.write-in-Naming.ensures.left in
    on_ok_weaker c.write-in-Naming.result (λ p. o.done p.here) c.write-in-Naming.ensures.written

pub returns-in-Naming-clause-header : goal.returns-in-Naming-clause-header
returns-in-Naming-clause-header g c =
    let m = g.M.Media in
    let law = g.met.M.Media in
    let o = write_name m law.seen_now c.args.media.now c.write-in-Naming.new.self (omega (arith, c.requires.size)) c.args.to c.args.generation c.name_of.result c.in-Naming.is (ap length c.name_of.ensures ∙ length-bytes_low_first 0 8 c.args.generation) c.name_of.ensures c.requires.ready c.write-in-Naming.ensures.left in
    on_ok_weaker c.write-in-Naming.result (λ p. o.header_is p.here) c.write-in-Naming.ensures.written

pub returns-in-Naming-clause-failed : goal.returns-in-Naming-clause-failed
returns-in-Naming-clause-failed g c =
    let m = g.M.Media in
    let law = g.met.M.Media in
    let o = write_name m law.seen_now c.args.media.now c.write-in-Naming.new.self (omega (arith, c.requires.size)) c.args.to c.args.generation c.name_of.result c.in-Naming.is (ap length c.name_of.ensures ∙ length-bytes_low_first 0 8 c.args.generation) c.name_of.ensures c.requires.ready c.write-in-Naming.ensures.left in
    on_err c.write-in-Naming.result o.failed

pub returns-in-Naming-clause-after : goal.returns-in-Naming-clause-after
returns-in-Naming-clause-after g c =
    let m = g.M.Media in
    let law = g.met.M.Media in
    let o = write_name m law.seen_now c.args.media.now c.write-in-Naming.new.self (omega (arith, c.requires.size)) c.args.to c.args.generation c.name_of.result c.in-Naming.is (ap length c.name_of.ensures ∙ length-bytes_low_first 0 8 c.args.generation) c.name_of.ensures c.requires.ready c.write-in-Naming.ensures.left in
    o.after

pub returns-in-Resting-clause-done : goal.returns-in-Resting-clause-done
returns-in-Resting-clause-done g c =
    let m = g.M.Media in
    let law = g.met.M.Media in
    let o = keep_name m law.seen_now c.args.media.now c.fence-in-Resting.new.self (omega (arith, c.requires.size)) c.args.to c.args.generation c.in-Resting.is c.requires.ready (c.fence-in-Resting.ensures.left Fast) in
    on_ok_both c.fence-in-Resting.result (λ s p. o.done (record { only = p.here; same = s Fast })) c.fence-in-Resting.ensures.seen c.fence-in-Resting.ensures.settled

pub returns-in-Resting-clause-header : goal.returns-in-Resting-clause-header
returns-in-Resting-clause-header g c =
    let m = g.M.Media in
    let law = g.met.M.Media in
    let o = keep_name m law.seen_now c.args.media.now c.fence-in-Resting.new.self (omega (arith, c.requires.size)) c.args.to c.args.generation c.in-Resting.is c.requires.ready (c.fence-in-Resting.ensures.left Fast) in
    on_ok_both c.fence-in-Resting.result (λ s p. o.header_is (record { only = p.here; same = s Fast })) c.fence-in-Resting.ensures.seen c.fence-in-Resting.ensures.settled

pub returns-in-Resting-clause-failed : goal.returns-in-Resting-clause-failed
returns-in-Resting-clause-failed g c =
    let m = g.M.Media in
    let law = g.met.M.Media in
    let o = keep_name m law.seen_now c.args.media.now c.fence-in-Resting.new.self (omega (arith, c.requires.size)) c.args.to c.args.generation c.in-Resting.is c.requires.ready (c.fence-in-Resting.ensures.left Fast) in
    on_err c.fence-in-Resting.result o.failed

pub returns-in-Resting-clause-after : goal.returns-in-Resting-clause-after
returns-in-Resting-clause-after g c =
    let m = g.M.Media in
    let law = g.met.M.Media in
    let o = keep_name m law.seen_now c.args.media.now c.fence-in-Resting.new.self (omega (arith, c.requires.size)) c.args.to c.args.generation c.in-Resting.is c.requires.ready (c.fence-in-Resting.ensures.left Fast) in
    o.after
