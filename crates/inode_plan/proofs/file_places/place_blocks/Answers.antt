use Rattle.std.proofs.Common.{◌+◌, ◌-◌, arith}
use Rattle.inode_plan.proofs.Moves.{later_is_greater, placed_more}
use Rattle.inode_plan.proofs.file_places.place_blocks.Goals as goal

pub runs-preserved : goal.runs-preserved
runs-preserved c =
    let done = c.runs.done in
    let count = c.run_from-count.result in
    let numbers = c.args.numbers.now in
    let within = c.run_from-count.ensures.within in
    record {
      placed = placed_more numbers c.args.places.now done count c.args.map.now c.runs.map c.place_run.new.map
          (λ m n lt more is. let less = later_is_greater 0 c.requires.rising.0 m (done + n) numbers c.requires.rising.1 (omega (arith, lt)) (omega (arith, more, within)) in omega (arith, less, is))
          c.run_from-count.ensures.run c.runs.invariant.placed c.in_ok-place_run.ensures;
      within = within;
    }

pub place_run-requires-clause-number : goal.place_run-requires-clause-number
place_run-requires-clause-number c =
    let done = c.runs.done in
    let count = c.run_from-count.result in
    let some = c.run_from-count.ensures.some in
    let within = c.run_from-count.ensures.within in
    let last = (c.run_from-count.ensures.run (count - 1) (omega (arith, some))).number in
    let fit = c.requires.fit.numbers_fit (done + (count - 1)) (omega (arith, some, within)) in
    omega (arith, last, fit, some)

pub place_run-requires-clause-place : goal.place_run-requires-clause-place
place_run-requires-clause-place c =
    let done = c.runs.done in
    let count = c.run_from-count.result in
    let some = c.run_from-count.ensures.some in
    let within = c.run_from-count.ensures.within in
    let last = (c.run_from-count.ensures.run (count - 1) (omega (arith, some))).block in
    let fit = c.requires.fit.places_fit (done + (count - 1)) (omega (arith, some, within)) in
    omega (arith, last, fit, some)
