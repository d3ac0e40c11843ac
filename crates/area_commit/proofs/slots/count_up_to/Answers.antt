use Rattle.std.proofs.Common.{◌≡◌, ◌+◌, ◌*◌, ℕ, suc, subst, arith}
use Rattle.area_commit.proofs.Blocks.{none_such, Low, low_more, front_rises, rest_rises}
use Rattle.area_commit.proofs.slots.count_up_to.Goals as goal

pub slots-preserved : goal.slots-preserved
slots-preserved c =
    let n = c.slots.count in
    let more : suc n ≡ n + 1 = omega arith in
    record {
      low = subst (λ (k : ℕ). Low (32 * c.args.block) k c.args.slots.now) more (low_more (32 * c.args.block) n c.args.slots.now none_such c.slots.invariant.low c.if-slots-count.true);
      few = omega (arith, c.slots-test.true);
    }

pub returns-else-slots-count-clause-front : goal.returns-else-slots-count-clause-front
returns-else-slots-count-clause-front c first last rises = front_rises first last (32 * c.args.block) c.slots.count c.args.slots.now rises c.slots.invariant.low

pub returns-else-slots-count-clause-rest : goal.returns-else-slots-count-clause-rest
returns-else-slots-count-clause-rest c first last rises = rest_rises first last (32 * c.args.block) c.slots.count c.args.slots.now none_such rises (λ lt. omega (arith, c.if-slots-count.false))

pub returns-after-slots-clause-front : goal.returns-after-slots-clause-front
returns-after-slots-clause-front c first last rises = front_rises first last (32 * c.args.block) c.slots.count c.args.slots.now rises c.slots.invariant.low

pub returns-after-slots-clause-rest : goal.returns-after-slots-clause-rest
returns-after-slots-clause-rest c first last rises = rest_rises first last (32 * c.args.block) c.slots.count c.args.slots.now none_such rises (λ lt. absurd (omega (arith, lt, c.slots-test.false)))
