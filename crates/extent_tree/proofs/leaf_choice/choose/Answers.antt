use Rattle.std.proofs.Common.{◌≡◌, ◌≤◌, ◌<◌, inl, inr, arith, length}
use Rattle.std.proofs.lemmas.Bool.{both_ways}
use Rattle.extent_tree.proofs.Rewrites.{piece-rises, piece-fits, touched-wider, wider-within}
use Rattle.extent_tree.proofs.Choices.{wider-enough, met-wider, met-but-one, several-more}
use Rattle.extent_tree.proofs.leaf_choice.choose.Goals as goal

pub new_leaves-requires-clause-rising : goal.new_leaves-requires-clause-rising
new_leaves-requires-clause-rising c = piece-rises c.touched_leaves-span.result.from c.touched_leaves-span.result.to c.args.leaves.now c.touched_leaves-span.ensures.touched.order c.requires.normal.rising

pub new_leaves-requires-clause-fit : goal.new_leaves-requires-clause-fit
new_leaves-requires-clause-fit c = piece-fits c.touched_leaves-span.result.from c.touched_leaves-span.result.to c.args.leaves.now c.touched_leaves-span.ensures.touched.order c.requires.normal.places

pub new_leaves-requires-2-clause-rising : goal.new_leaves-requires-2-clause-rising
new_leaves-requires-2-clause-rising c =
    piece-rises c.wider_span-span.result.from c.wider_span-span.result.to c.args.leaves.now (omega (arith, c.touched_leaves-span.ensures.touched.order, c.wider_span-span.ensures.from, c.wider_span-span.ensures.to)) c.requires.normal.rising

pub new_leaves-requires-2-clause-fit : goal.new_leaves-requires-2-clause-fit
new_leaves-requires-2-clause-fit c =
    piece-fits c.wider_span-span.result.from c.wider_span-span.result.to c.args.leaves.now (omega (arith, c.touched_leaves-span.ensures.touched.order, c.wider_span-span.ensures.from, c.wider_span-span.ensures.to)) c.requires.normal.places

pub returns-clause-touched : goal.returns-clause-touched
returns-clause-touched c =
    let t = c.touched_leaves-span.result in
    let w = c.wider_span-span.result in
    let leaves = c.args.leaves.now in
    let not_all = λ (all : (t.from ≡ 0) × (t.to ≡ length leaves)). both_ways c.is_enough.result c.if-is_enough.false (c.is_enough.ensures.1 (inr all)) in
    touched-wider c.args.run.first c.args.run.count t.from t.to w.from w.to leaves c.touched_leaves-span.ensures.touched c.wider_span-span.ensures.from c.wider_span-span.ensures.to
    (wider-within t.from t.to w.from w.to (length leaves) not_all c.touched_leaves-span.ensures.touched.within c.wider_span-span.ensures.from c.wider_span-span.ensures.one c.wider_span-span.ensures.end)

pub returns-clause-enough : goal.returns-clause-enough
returns-clause-enough c =
    let t = c.touched_leaves-span.result in
    let w = c.wider_span-span.result in
    let leaves = c.args.leaves.now in
    let not_all = λ (all : (t.from ≡ 0) × (t.to ≡ length leaves)). both_ways c.is_enough.result c.if-is_enough.false (c.is_enough.ensures.1 (inr all)) in
    let several = several-more c.args.run.first c.args.run.count t.from t.to leaves c.touched_leaves-span.ensures.touched not_all in
    let within = wider-within t.from t.to w.from w.to (length leaves) not_all c.touched_leaves-span.ensures.touched.within c.wider_span-span.ensures.from c.wider_span-span.ensures.one c.wider_span-span.ensures.end in
    inl (wider-enough c.args.width c.args.run.first c.args.run.count c.args.place t.from t.to w.from w.to leaves _ _ c.requires.fits c.requires.normal (c.requires.quarter several) c.touched_leaves-span.ensures.touched c.wider_span-span.ensures.from c.wider_span-span.ensures.to within c.wider_span-span.ensures.one c.in_ok-entries.ensures c.in_ok-entries-2.ensures)

pub returns-clause-met : goal.returns-clause-met
returns-clause-met c =
    let t = c.touched_leaves-span.result in
    let w = c.wider_span-span.result in
    let leaves = c.args.leaves.now in
    let not_all = λ (all : (t.from ≡ 0) × (t.to ≡ length leaves)). both_ways c.is_enough.result c.if-is_enough.false (c.is_enough.ensures.1 (inr all)) in
    let several = several-more c.args.run.first c.args.run.count t.from t.to leaves c.touched_leaves-span.ensures.touched not_all in
    met-wider c.args.run.first c.args.run.count t.from t.to w.from w.to leaves several c.touched_leaves-span.ensures.each c.wider_span-span.ensures.from c.wider_span-span.ensures.to c.wider_span-span.ensures.one
