use Rattle.std.proofs.Common.{◌∙◌, ◌++◌, ◌∷◌, [], ◌≤◌, ◌<◌, arith, ap, sym, subst, take, length, get_or}
use Rattle.block_alloc.specs.declared.runs.Run.{Run}
use Rattle.block_alloc.specs.Runs.{blocks_of, AreNormalRuns}
use Rattle.block_alloc.proofs.Search.{normal_taken, normal_cut, positive}
use Rattle.block_alloc.proofs.Blocks.{front_whole, front_part, nothing_left, inside}
use Rattle.block_alloc.proofs.runs.front_of.Goals as goal

pub returns-then-split-eq0-clause-blocks : goal.returns-then-split-eq0-clause-blocks
returns-then-split-eq0-clause-blocks c =
    ap blocks_of (c.in_ok-extend_from_slice.ensures.items ∙ ap (λ xs. xs ++ take c.args.split.whole c.args.runs.now) c.in_ok-front.ensures.items)
    ∙ front_whole c.args.runs.now c.args.split.whole ∙ nothing_left (blocks_of c.args.runs.now) (length (blocks_of (take c.args.split.whole c.args.runs.now))) c.args.split.left c.if-split-eq0.true

pub returns-clause-blocks : goal.returns-clause-blocks
returns-clause-blocks c =
    let none : Run = record { first = 0; count = 0 } in
    let below : c.args.split.whole < length c.args.runs.now = inside (length c.args.runs.now) c.args.split.whole c.args.split.left c.requires.none c.if-split-eq0.false in
    let part : c.args.split.left ≤ (get_or c.args.runs.now c.args.split.whole none).count = omega (arith, c.requires.part none (omega arith)) in
    ap blocks_of (c.in_ok-push.ensures.items ∙ ap (λ xs. xs ++ record { first = (get_or c.args.runs.now c.args.split.whole none).first; count = c.args.split.left } ∷ []) (c.in_ok-extend_from_slice.ensures.items ∙ ap (λ xs. xs ++ take c.args.split.whole c.args.runs.now) c.in_ok-front.ensures.items))
    ∙ front_part c.args.runs.now c.args.split.whole c.args.split.left none below part

pub returns-then-split-eq0-clause-normal : goal.returns-then-split-eq0-clause-normal
returns-then-split-eq0-clause-normal c low end normal =
    subst (AreNormalRuns low end) (sym (c.in_ok-extend_from_slice.ensures.items ∙ ap (λ xs. xs ++ take c.args.split.whole c.args.runs.now) c.in_ok-front.ensures.items)) (normal_taken low end c.args.split.whole c.args.runs.now normal)

pub returns-clause-normal : goal.returns-clause-normal
returns-clause-normal c low end normal =
    let none : Run = record { first = 0; count = 0 } in
    let below : c.args.split.whole < length c.args.runs.now = inside (length c.args.runs.now) c.args.split.whole c.args.split.left c.requires.none c.if-split-eq0.false in
    let part : c.args.split.left ≤ (get_or c.args.runs.now c.args.split.whole none).count = omega (arith, c.requires.part none (omega arith)) in
    let items = c.in_ok-push.ensures.items ∙ ap (λ xs. xs ++ record { first = (get_or c.args.runs.now c.args.split.whole none).first; count = c.args.split.left } ∷ []) (c.in_ok-extend_from_slice.ensures.items ∙ ap (λ xs. xs ++ take c.args.split.whole c.args.runs.now) c.in_ok-front.ensures.items) in
    subst (AreNormalRuns low end) (sym items) (normal_cut low end c.args.split.whole c.args.split.left c.args.runs.now none normal below (positive c.args.split.left c.if-split-eq0.false) part)
