use Rattle.std.proofs.Common.{◌≡◌, ◌≤◌, ◌+◌, ◌++◌, ℕ, List, length, take, get_or, sym, ap, subst, ◌∙◌, arith}
use Rattle.std.proofs.lemmas.List.{take_more}
use Rattle.block_alloc.specs.declared.runs.Run.{Run}
use Rattle.block_alloc.specs.Runs.{blocks_of, run_blocks}
use Rattle.block_alloc.proofs.Blocks.{blocks-push, length-blocks-more, length-blocks-le}
use Rattle.area_commit.specs.extent_tree.Map.{ArePut}
use Rattle.inode_plan.specs.RunPlaces.{ArePlaced}
use Rattle.inode_plan.proofs.Steps.{placed_none, placed_more, ends_fit}
use Rattle.inode_plan.proofs.run_places.put_runs.Goals as goal

abbrev none : Run
none = record { first = 0; count = 0 }

fits : (runs : List Run) (i : ℕ) → i + 1 ≤ length runs → length (blocks_of (take i runs)) + (get_or runs i none).count ≤ length (blocks_of runs)
fits runs i lt = omega (arith, length-blocks-more runs i none (omega (arith, lt)), length-blocks-le runs (i + 1))

pub put-requires : goal.put-requires
put-requires c = record {
  blocks = omega (arith, fits c.args.runs.now c.runs.place (omega (arith, c.runs-test.true)), c.runs.invariant.next_is, c.requires.blocks);
  places = ends_fit c.args.runs.now c.runs.place none c.runs-test.true c.requires.places;
}

pub runs-init : goal.runs-init
runs-init c = record { next_is = omega arith; placed = placed_none c.args.first c.args.tier c.args.map.now }

pub runs-preserved : goal.runs-preserved
runs-preserved c =
    let runs = c.args.runs.now in
    let i = c.runs.place in
    let run = get_or runs i none in
    let front = blocks_of (take i runs) in
    let more : blocks_of (take (i + 1) runs) ≡ front ++ run_blocks run = ap blocks_of (take_more runs i none c.runs-test.true) ∙ blocks-push (take i runs) run in
    let put = subst (λ n. ArePut n run.count c.args.tier run.first c.runs.map c.put.new.self) c.runs.invariant.next_is c.in_ok-put.ensures in
    record {
      next_is = omega (arith, length-blocks-more runs i none c.runs-test.true, c.runs.invariant.next_is);
      placed = subst (λ ps. ArePlaced c.args.first c.args.tier ps c.args.map.now c.put.new.self) (sym more) (placed_more c.args.first run.count run.first front c.args.tier c.args.map.now c.runs.map c.put.new.self c.runs.invariant.placed put);
    }

pub overflow_add-next : goal.overflow_add-next
overflow_add-next c = omega (arith, fits c.args.runs.now c.runs.place (omega (arith, c.runs-test.true)), c.runs.invariant.next_is, c.requires.blocks)
