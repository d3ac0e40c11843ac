use Rattle.std.proofs.Common.{◌++◌, ◌+◌, ◌∙◌, arith, sym, ap, subst, length}
use Rattle.extent_tree.specs.Normal.{IsRising}
use Rattle.extent_tree.specs.Nodes.{flat, summaries}
use Rattle.extent_tree.proofs.Rising.{rising-left}
use Rattle.extent_tree.proofs.Levels.{summaries-rising}
use Rattle.extent_tree.proofs.Rewrites.{flat-three, three-few, three-filled, three-covers, middle-rises, back-rises}
use Rattle.extent_tree.proofs.upper_levels.levels_above.Goals as goal

pub push_summaries-requires-clause-rising : goal.push_summaries-requires-clause-rising
push_summaries-requires-clause-rising c = rising-left 0 4294967295 (flat c.args.front.now) (flat c.args.middle.now ++ flat c.args.back.now) c.requires.rising

pub push_summaries-requires-clause-numbers : goal.push_summaries-requires-clause-numbers
push_summaries-requires-clause-numbers c = omega (arith, three-few c.args.front.now c.args.middle.now c.args.back.now c.requires.rising c.requires.front c.requires.middle c.requires.back)

pub overflow_cast-front : goal.overflow_cast-front
overflow_cast-front c = omega (arith, three-few c.args.front.now c.args.middle.now c.args.back.now c.requires.rising c.requires.front c.requires.middle c.requires.back)

pub push_summaries-requires-2-clause-rising : goal.push_summaries-requires-2-clause-rising
push_summaries-requires-2-clause-rising c = middle-rises (flat c.args.front.now) (flat c.args.middle.now) (flat c.args.back.now) c.requires.rising

pub push_summaries-requires-2-clause-numbers : goal.push_summaries-requires-2-clause-numbers
push_summaries-requires-2-clause-numbers c = omega (arith, three-few c.args.front.now c.args.middle.now c.args.back.now c.requires.rising c.requires.front c.requires.middle c.requires.back)

pub overflow_cast-front-2 : goal.overflow_cast-front-2
overflow_cast-front-2 c = omega (arith, three-few c.args.front.now c.args.middle.now c.args.back.now c.requires.rising c.requires.front c.requires.middle c.requires.back)

pub push_summaries-requires-3-clause-rising : goal.push_summaries-requires-3-clause-rising
push_summaries-requires-3-clause-rising c = back-rises (flat c.args.front.now) (flat c.args.middle.now) (flat c.args.back.now) c.requires.rising

pub push_summaries-requires-3-clause-numbers : goal.push_summaries-requires-3-clause-numbers
push_summaries-requires-3-clause-numbers c = omega (arith, three-few c.args.front.now c.args.middle.now c.args.back.now c.requires.rising c.requires.front c.requires.middle c.requires.back)

pub levels_over-requires-clause-rising : goal.levels_over-requires-clause-rising
levels_over-requires-clause-rising c =
    let front = c.args.front.now in
    let middle = c.args.middle.now in
    let back = c.args.back.now in
    let covers = c.in_ok-push_summaries-3.ensures ∙ ap (λ l. l ++ summaries (length front + length middle) back) (c.in_ok-push_summaries-2.ensures ∙ ap (λ l. l ++ summaries (length front) middle) (c.in_ok-push_summaries.ensures ∙ ap (λ l. l ++ summaries 0 front) c.new-covers.ensures.items)) ∙ three-covers front middle back in
    subst (IsRising 0 4294967295) (sym covers)
    (summaries-rising 0 0 4294967295 (front ++ (middle ++ back)) (subst (IsRising 0 4294967295) (sym (flat-three front middle back)) c.requires.rising) (three-filled front middle back c.requires.front c.requires.middle c.requires.back))

pub returns : goal.returns
returns c =
    let front = c.args.front.now in
    let middle = c.args.middle.now in
    let back = c.args.back.now in
    let covers = c.in_ok-push_summaries-3.ensures ∙ ap (λ l. l ++ summaries (length front + length middle) back) (c.in_ok-push_summaries-2.ensures ∙ ap (λ l. l ++ summaries (length front) middle) (c.in_ok-push_summaries.ensures ∙ ap (λ l. l ++ summaries 0 front) c.new-covers.ensures.items)) ∙ three-covers front middle back in
    c.in_ok-inner.ensures (front ++ (middle ++ back)) (sym covers)
