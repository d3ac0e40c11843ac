use Rattle.std.proofs.Common.{◌≡◌, ◌-◌, ◌∙◌, arith, sym, ap, subst, length, get_or, []}
use Rattle.extent_tree.specs.Places.{extent_with}
use Rattle.extent_tree.specs.Normal.{IsRising}
use Rattle.extent_tree.proofs.Packs.{node-rising, have-at}
use Rattle.extent_tree.proofs.Levels.{none-below, one-below}
use Rattle.extent_tree.proofs.leaf_search.find_below.Goals as goal

pub bounds-nodes-entry : goal.bounds-nodes-entry
bounds-nodes-entry g c =
    let below = one-below c.args.block 0 0 4294967295 c.args.nodes.now c.in-Some.entry [] c.requires.rising c.requires.level.filled (sym c.requires.above ∙ c.in-Some.is) in
    omega (arith, below.1)

pub find-below-requires : goal.find-below-requires
find-below-requires g c =
    let nodes = c.args.nodes.now in
    let node = c.index-nodes-entry.result in
    let below = one-below c.args.block 0 0 4294967295 nodes c.in-Some.entry node c.requires.rising c.requires.level.filled (sym c.requires.above ∙ c.in-Some.is) in
    subst (IsRising 0 4294967295) (sym c.index-nodes-entry.is) (node-rising 0 4294967295 c.in-Some.entry.place nodes node c.requires.rising (omega arith) (omega (arith, below.1)))

pub overflow_add-result : goal.overflow_add-result
overflow_add-result g c =
    let nodes = c.args.nodes.now in
    let node = c.index-nodes-entry.result in
    let below = one-below c.args.block 0 0 4294967295 nodes c.in-Some.entry node c.requires.rising c.requires.level.filled (sym c.requires.above ∙ c.in-Some.is) in
    let most = have-at 0 g.row.N c.in-Some.entry.place nodes node c.requires.level.most (omega (arith, below.1)) in
    omega (arith, c.find-below.ensures.compared, ap length c.index-nodes-entry.is, most, c.requires.few)

pub returns-in-None-clause-extent : goal.returns-in-None-clause-extent
returns-in-None-clause-extent g c =
    c.in-None.is ∙ sym (none-below c.args.block 0 0 4294967295 c.args.nodes.now c.requires.rising c.requires.level.filled (sym c.requires.above ∙ c.in-None.is))

pub returns-in-Some-clause-extent : goal.returns-in-Some-clause-extent
returns-in-Some-clause-extent g c =
    let nodes = c.args.nodes.now in
    let node = c.index-nodes-entry.result in
    let below = one-below c.args.block 0 0 4294967295 nodes c.in-Some.entry node c.requires.rising c.requires.level.filled (sym c.requires.above ∙ c.in-Some.is) in
    let at : c.in-Some.entry.place - 0 ≡ c.in-Some.entry.place = omega arith in
    c.find-below.ensures.extent ∙ ap (extent_with c.args.block) (c.index-nodes-entry.is ∙ ap (λ k. get_or nodes k node) (sym at)) ∙ sym below.2

pub returns-in-Some-clause-compared : goal.returns-in-Some-clause-compared
returns-in-Some-clause-compared g c =
    let nodes = c.args.nodes.now in
    let node = c.index-nodes-entry.result in
    let below = one-below c.args.block 0 0 4294967295 nodes c.in-Some.entry node c.requires.rising c.requires.level.filled (sym c.requires.above ∙ c.in-Some.is) in
    let most = have-at 0 g.row.N c.in-Some.entry.place nodes node c.requires.level.most (omega (arith, below.1)) in
    omega (arith, c.find-below.ensures.compared, ap length c.index-nodes-entry.is, most)
