use Rattle.std.proofs.Common.{◌≤◌, ◌+◌, length, ap, arith}
use Rattle.tier_device.specs.DeviceCall.{Write}
use Rattle.host_media.specs.TierHistory.{shown_now}
use Rattle.host_media.proofs.Grow.{past_kept, write_tears, write_tears_all}
use Rattle.host_media.proofs.file.FileMediaMedia.write.Goals as goal

pub returns-in-Ok-clause-past : goal.returns-in-Ok-clause-past
returns-in-Ok-clause-past c = past_kept c.args.self.now.inner.past.history c.write.new.self.past.history (Write c.args.tier c.args.at c.args.bytes.now) c.write.ensures.past

pub returns-in-Err-clause-past : goal.returns-in-Err-clause-past
returns-in-Err-clause-past c = past_kept c.args.self.now.inner.past.history c.write.new.self.past.history (Write c.args.tier c.args.at c.args.bytes.now) c.write.ensures.past

pub returns-in-Ok-clause-left : goal.returns-in-Ok-clause-left
returns-in-Ok-clause-left c =
    let m = c.args.self.now.inner in
    let h = m.past.history in
    let fits : c.args.at + length c.args.bytes.now ≤ length (shown_now h c.args.tier) = omega (arith, ap length (m.shows c.args.tier), ap length c.bytes-size.ensures) in
    write_tears h c.write.new.self.past.history c.args.tier c.args.at c.args.bytes.now c.write.ensures.past fits

pub returns-in-Ok-clause-all_left : goal.returns-in-Ok-clause-all_left
returns-in-Ok-clause-all_left c =
    let m = c.args.self.now.inner in
    let h = m.past.history in
    let fits : c.args.at + length c.args.bytes.now ≤ length (shown_now h c.args.tier) = omega (arith, ap length (m.shows c.args.tier), ap length c.bytes-size.ensures) in
    write_tears_all h c.write.new.self.past.history c.args.tier c.args.at c.args.bytes.now c.write.ensures.past fits

pub returns-in-Err-clause-left : goal.returns-in-Err-clause-left
returns-in-Err-clause-left c =
    let m = c.args.self.now.inner in
    let h = m.past.history in
    let fits : c.args.at + length c.args.bytes.now ≤ length (shown_now h c.args.tier) = omega (arith, ap length (m.shows c.args.tier), ap length c.bytes-size.ensures) in
    write_tears h c.write.new.self.past.history c.args.tier c.args.at c.args.bytes.now c.write.ensures.past fits
