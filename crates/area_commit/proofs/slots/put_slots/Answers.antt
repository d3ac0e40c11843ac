use Rattle.std.proofs.Common.{◌≡◌, ◌+◌, ◌-◌, ◌*◌, ◌∙◌, ℕ, suc, drop, ap, sym, arith}
use Rattle.area_commit.specs.Slots.{with_slots}
use Rattle.area_commit.proofs.Blocks.{none_such, at_within, with_next}
use Rattle.area_commit.proofs.slots.put_slots.Goals as goal

pub put_slot-requires-clause-low : goal.put_slot-requires-clause-low
put_slot-requires-clause-low c =
    let p = at_within (32 * (c.args.block - 1) + 1) (32 * c.args.block) c.slots.at c.args.slots.now none_such c.requires.inside c.slots-test.true in
    omega (arith, p.0)

pub put_slot-requires-clause-high : goal.put_slot-requires-clause-high
put_slot-requires-clause-high c =
    let p = at_within (32 * (c.args.block - 1) + 1) (32 * c.args.block) c.slots.at c.args.slots.now none_such c.requires.inside c.slots-test.true in
    omega (arith, p.1, c.requires.few)

pub slots-preserved : goal.slots-preserved
slots-preserved c =
    let k = c.args.block in
    let n = c.slots.at in
    let xs = c.args.slots.now in
    let p = at_within (32 * (k - 1) + 1) (32 * k) n xs none_such c.requires.inside c.slots-test.true in
    let more : n + 1 ≡ suc n = omega arith in
    record {
      put = ap (λ (j : ℕ). with_slots k (drop j xs) c.put_slot.new.bytes) more ∙ ap (with_slots k (drop (suc n) xs)) c.put_slot.ensures.put
          ∙ sym (with_next k n xs none_such c.slots.bytes c.slots-test.true (omega (arith, p.0, p.1, c.requires.some))) ∙ c.slots.invariant.put;
      long = c.put_slot.ensures.long;
    }
