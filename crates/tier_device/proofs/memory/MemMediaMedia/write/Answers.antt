use Rattle.std.proofs.Common.{◌≤◌, ◌+◌, length, subst, ap, arith}
use Rattle.tier_device.specs.declared.memory.Inside.{Inside}
use Rattle.tier_device.specs.Media.{Tears, TearsAll}
use Rattle.tier_device.specs.Rows.{row}
use Rattle.tier_device.specs.Record.{replay_content}
use Rattle.tier_device.proofs.Grow.{LeftAt, write_kept, write_tears, write_tears_all, tears_same}
use Rattle.tier_device.proofs.memory.MemMediaMedia.write.Goals as goal

pub invariant_of-inside : goal.invariant_of-inside
invariant_of-inside c =
    let m = c.deref_mut-inside.result.now in
    let same = c.deref_mut-inside.ensures.value in
    let fits : c.args.at + length c.args.bytes.now ≤ length (replay_content c.args.tier (row m.first c.args.tier) m.calls) = omega (arith, ap length (m.replays c.args.tier), ap (λ (was : Inside). length (row was.tiers c.args.tier)) same, ap length c.bytes-size.ensures) in
    record {
      few = m.few;
      replays = write_kept (row m.first) _ _ c.args.tier c.args.at c.args.bytes.now c.in-Ok.ensures.grown fits (row m.tiers) (row c.overwrite.new.self) m.replays c.overwrite.ensures;
    }

pub returns-in-Ok-clause-left : goal.returns-in-Ok-clause-left
returns-in-Ok-clause-left c =
    let m = c.deref_mut-inside.result.now in
    let same = c.deref_mut-inside.ensures.value in
    let fits : c.args.at + length c.args.bytes.now ≤ length (replay_content c.args.tier (row m.first c.args.tier) m.calls) = omega (arith, ap length (m.replays c.args.tier), ap (λ (was : Inside). length (row was.tiers c.args.tier)) same, ap length c.bytes-size.ensures) in
    subst (λ (was : Inside). Tears c.args.tier c.args.at (length c.args.bytes.now) (LeftAt (row was.first) was.calls (length was.calls)) (LeftAt (row m.first) c.push_write.new.self (length c.push_write.new.self)))
    same (write_tears (row m.first) _ _ c.args.tier c.args.at c.args.bytes.now c.in-Ok.ensures.grown fits)

pub returns-in-Ok-clause-all_left : goal.returns-in-Ok-clause-all_left
returns-in-Ok-clause-all_left c =
    let m = c.deref_mut-inside.result.now in
    let same = c.deref_mut-inside.ensures.value in
    let fits : c.args.at + length c.args.bytes.now ≤ length (replay_content c.args.tier (row m.first c.args.tier) m.calls) = omega (arith, ap length (m.replays c.args.tier), ap (λ (was : Inside). length (row was.tiers c.args.tier)) same, ap length c.bytes-size.ensures) in
    subst (λ (was : Inside). TearsAll c.args.tier c.args.at (length c.args.bytes.now) (LeftAt (row was.first) was.calls (length was.calls)) (LeftAt (row m.first) c.push_write.new.self (length c.push_write.new.self)))
    same (write_tears_all (row m.first) _ _ c.args.tier c.args.at c.args.bytes.now c.in-Ok.ensures.grown fits)

pub returns-in-Err-clause-left : goal.returns-in-Err-clause-left
returns-in-Err-clause-left c =
    let m = c.deref_mut-inside.result.now in
    subst (λ (was : Inside). Tears c.args.tier c.args.at (length c.args.bytes.now) (LeftAt (row was.first) was.calls (length was.calls)) (LeftAt (row m.first) c.push_write.new.self (length c.push_write.new.self)))
    c.deref_mut-inside.ensures.value (tears_same (row m.first) _ _ c.in-Err.ensures.same c.args.tier c.args.at (length c.args.bytes.now))
