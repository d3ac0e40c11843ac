use Rattle.std.proofs.Common.{◌≡◌, ◌+◌, ◌-◌, ◌++◌, ◌∙◌, refl, sym, ap, subst, arith}
use Rattle.std.specs.List.{AllByRecursion}
use Rattle.block_alloc.specs.Runs.{blocks_of}
use Rattle.extent_tree.specs.Map.{places_of, HasBlock}
use Rattle.extent_tree.proofs.GivenUp.{step_some, step_none, none_mapped}
use Rattle.extent_tree.proofs.freed_places.push_places.Goals.{in-Some+in_ok-push_block, in_default}
use Rattle.extent_tree.proofs.freed_places.push_places.Goals as goal

pub each-preserved : goal.each-preserved
each-preserved c =
    let es = c.args.tree.now.runs in
    let block = c.each.block in
    let stop = c.args.blocks.first + c.args.blocks.count in
    let before = blocks_of c.each.out.items in
    elim c.match-at.branch [
      | in-Some+in_ok-push_block w ↦ record {
        sum = step_some es block stop w.in-Some.place before (blocks_of c.match-at.out.items) _ (omega (arith, c.each-test.true, c.stop_of-stop.ensures.most)) (sym c.at.ensures ∙ w.in-Some.is) (ap (λ v. blocks_of v.items) w.out-is ∙ w.in_ok-push_block.ensures.blocks) c.each.invariant.sum;
        within = omega (arith, c.each-test.true);
        some = λ all. subst (λ v. AllByRecursion HasBlock v.items) (sym w.out-is) (w.in_ok-push_block.ensures.some (c.each.invariant.some all));
      }
      | in_default w ↦ record {
        sum = ap (λ v. blocks_of v.items ++ places_of es (block + 1) (stop - (block + 1))) w.out-is ∙ step_none es block stop before _ (omega (arith, c.each-test.true, c.stop_of-stop.ensures.most)) (sym c.at.ensures ∙ w.in_default.is) c.each.invariant.sum;
        within = omega (arith, c.each-test.true);
        some = λ all. subst (λ v. AllByRecursion HasBlock v.items) (sym w.out-is) (c.each.invariant.some all);
      }
    ]

pub returns-then-stop-blocks-clause-places : goal.returns-then-stop-blocks-clause-places
returns-then-stop-blocks-clause-places c =
    let es = c.args.tree.now.runs in
    let first = c.args.blocks.first in
    let count = c.args.blocks.count in
    let xs = blocks_of c.args.out.now.items in
    let all : first + count - first ≡ count = omega arith in
    none_mapped es first (first + count) xs (xs ++ places_of es first (first + count - first)) (λ k le lt. c.stop_of-stop.ensures.none k (omega (arith, le, c.if-stop-blocks.true)) lt) refl
    ∙ ap (λ n. xs ++ places_of es first n) all

pub returns-clause-places : goal.returns-clause-places
returns-clause-places c =
    let es = c.args.tree.now.runs in
    none_mapped es c.each.block (c.args.blocks.first + c.args.blocks.count) (blocks_of c.each.out.items) _ (λ k le lt. c.stop_of-stop.ensures.none k (omega (arith, le, c.each-test.false)) lt) c.each.invariant.sum
