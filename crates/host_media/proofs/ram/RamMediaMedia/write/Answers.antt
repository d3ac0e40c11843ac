use Rattle.std.proofs.Common.{◌≤◌, ◌+◌, length, ap, arith}
use Rattle.tier_device.specs.Rows.{row}
use Rattle.tier_device.specs.DeviceCall.{Write}
use Rattle.host_media.specs.TierHistory.{shown_now}
use Rattle.host_media.proofs.Grow.{past_kept, write_kept, write_tears, write_tears_all}
use Rattle.host_media.proofs.ram.RamMediaMedia.write.Goals as goal

pub invariant_of-self : goal.invariant_of-self
invariant_of-self c =
    let m = c.args.self.now in
    let h = m.past.history in
    let fits : c.args.at + length c.args.bytes.now ≤ length (shown_now h c.args.tier) = omega (arith, ap length (m.shows c.args.tier), ap length c.bytes-size.ensures) in
    record {
      shows = write_kept h c.then-self.result.history c.args.tier c.args.at c.args.bytes.now c.then-self.ensures fits (row m.tiers) (row c.overwrite.new.self) m.shows c.overwrite.ensures;
    }

pub returns-clause-past : goal.returns-clause-past
returns-clause-past c = past_kept c.args.self.now.past.history c.then-self.result.history (Write c.args.tier c.args.at c.args.bytes.now) c.then-self.ensures

pub returns-clause-left : goal.returns-clause-left
returns-clause-left c =
    let m = c.args.self.now in
    let h = m.past.history in
    let fits : c.args.at + length c.args.bytes.now ≤ length (shown_now h c.args.tier) = omega (arith, ap length (m.shows c.args.tier), ap length c.bytes-size.ensures) in
    write_tears h c.then-self.result.history c.args.tier c.args.at c.args.bytes.now c.then-self.ensures fits

pub returns-clause-all_left : goal.returns-clause-all_left
returns-clause-all_left c =
    let m = c.args.self.now in
    let h = m.past.history in
    let fits : c.args.at + length c.args.bytes.now ≤ length (shown_now h c.args.tier) = omega (arith, ap length (m.shows c.args.tier), ap length c.bytes-size.ensures) in
    write_tears_all h c.then-self.result.history c.args.tier c.args.at c.args.bytes.now c.then-self.ensures fits
