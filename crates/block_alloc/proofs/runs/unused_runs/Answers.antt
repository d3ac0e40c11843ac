use Rattle.std.proofs.Common.{◌≡◌, ◌∙◌, ◌+◌, ◌-◌, arith, sym, subst, true, false}
use Rattle.std.proofs.lemmas.List.{get_or_default}
use Rattle.block_alloc.specs.Runs.{blocks_of, EndsBefore}
use Rattle.block_alloc.proofs.Blocks.{run_grows}
use Rattle.block_alloc.proofs.runs.unused_runs.Goals as goal

pub marks-preserved-then-not-used-place : goal.marks-preserved-then-not-used-place
marks-preserved-then-not-used-place c =
    let inv = c.marks.invariant in
    let start : c.args.first + c.marks.place - c.marks.count ≡ c.args.first + (c.marks.place + 1) - (c.marks.count + 1) = omega (arith, inv.open_run) in
    record {
      open_run = omega (arith, inv.open_run);
      blocks = sym (run_grows c.args.first c.marks.place c.marks.count (blocks_of c.marks.runs.items) c.args.used.now inv.open_run c.marks-test.true (get_or_default c.args.used.now c.marks.place true false c.marks-test.true ∙ c.if-not-used-place.true)) ∙ inv.blocks;
      normal = inv.normal;
      before = subst (λ n. EndsBefore n c.marks.runs.items) start inv.before;
    }
