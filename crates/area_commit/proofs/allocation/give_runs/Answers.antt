use Rattle.std.proofs.Common.{◌≡◌, ◌<◌, ◌+◌, ◌-◌, ap, arith, subst, sym, refl, length, get_or, ◌++◌, ℕ}
use Rattle.std.proofs.lemmas.List.{take_all}
use Rattle.block_alloc.specs.declared.runs.Run.{Run}
use Rattle.block_alloc.specs.Runs.{blocks_of, run_blocks, PutIn}
use Rattle.block_alloc.specs.Value.{InOrder}
use Rattle.area_commit.proofs.Fronts.{Ready, fits, goes_on, on_ok, rising-right}
use Rattle.area_commit.proofs.allocation.give_runs.Goals as goal

pub give-requires : goal.give-requires
give-requires c =
    let runs = c.args.runs.now in
    let none : Run = record { first = 0; count = 0 } in
    let n : ℕ = length runs - 1 - c.runs.place in
    let same : length runs - c.runs.place ≡ n + 1 = omega (arith, c.runs-test.true) in
    fits c.args.pool.now c.runs.pool runs n (omega (arith, c.runs-test.true)) c.requires (subst (Ready c.args.pool.now c.runs.pool runs) same c.runs.invariant.ready) none

pub runs-init : goal.runs-init
runs-init c =
    let p = c.args.pool.now in
    let runs = c.args.runs.now in
    record {
      ready = record {
        free = ap (λ b. blocks_of b ++ p.free) (take_all (length runs - 0) runs (omega arith));
        room = omega arith;
        pool = record { first = refl; end = refl };
      };
      ordered = rising-right p.first p.end (blocks_of runs) p.free c.requires.before;
    }

pub runs-preserved : goal.runs-preserved
runs-preserved c =
    let p = c.args.pool.now in
    let runs = c.args.runs.now in
    let none : Run = record { first = 0; count = 0 } in
    let n : ℕ = length runs - 1 - c.runs.place in
    let same : length runs - c.runs.place ≡ n + 1 = omega (arith, c.runs-test.true) in
    let next : length runs - (c.runs.place + 1) ≡ n = omega (arith, c.runs-test.true) in
    let below : n < length runs = omega (arith, c.runs-test.true) in
    let ready = subst (Ready p c.runs.pool runs) same c.runs.invariant.ready in
    let is_ok = c.give.ensures.sure (omega (arith, ready.room, c.requires.room)) in
    let ordered = on_ok c.give.result (InOrder c.give.new.self) is_ok c.give.ensures.ordered in
    let given = on_ok c.give.result (PutIn c.runs.pool.free (run_blocks (get_or runs n none)) c.give.new.self.free) is_ok c.give.ensures.given in
    record {
      ready = subst (Ready p c.give.new.self runs) (sym next) (goes_on p c.runs.pool runs n below c.requires ready none c.give.new.self given ordered c.give.ensures.pool c.give.ensures.room);
      ordered = ordered;
    }

pub returns-clause-given : goal.returns-clause-given
returns-clause-given c =
    let runs = c.args.runs.now in
    let none : length runs - c.runs.place ≡ 0 = omega (arith, c.runs-test.false) in
    let ready = subst (Ready c.args.pool.now c.runs.pool runs) none c.runs.invariant.ready in
    record { free = ready.free; room = omega (arith, ready.room); pool = ready.pool }
