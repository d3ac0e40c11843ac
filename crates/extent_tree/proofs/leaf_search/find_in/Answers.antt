use Rattle.std.proofs.Common.{◌≡◌, ◌≤◌, ◌+◌, ◌-◌, ◌*◌, ◌^◌, suc, ◌∙◌, arith, sym, ap, subst, length}
use Rattle.extent_tree.specs.Places.{extent_with}
use Rattle.extent_tree.specs.Normal.{IsRising}
use Rattle.extent_tree.specs.Nodes.{flat, summaries}
use Rattle.extent_tree.specs.Tree.{IsLevel, level_at}
use Rattle.extent_tree.proofs.Trees.{nodes-few, levels-few, some-above}
use Rattle.extent_tree.proofs.Searches.{tree-at, covers-at, top-one, root-few, small-product}
use Rattle.extent_tree.proofs.leaf_search.find_in.Goals as goal

pub find_in_root-found-requires-clause-one : goal.find_in_root-found-requires-clause-one
find_in_root-found-requires-clause-one g c = subst (λ l. length l ≤ 1) (sym c.level_nodes.ensures) (top-one g.row.N c.args.nodes.now c.args.inner.now c.requires.tree)

pub find_in_root-found-requires-clause-rising : goal.find_in_root-found-requires-clause-rising
find_in_root-found-requires-clause-rising g c =
    let nodes = c.args.nodes.now in
    let inner = c.args.inner.now in
    let at = tree-at g.row.N (length inner) nodes inner c.requires.tree (record { rising = c.requires.rising; level = c.requires.level }) (omega arith) in
    subst (λ l. IsRising 0 4294967295 (flat l)) (sym c.level_nodes.ensures) at.rising

pub down-init : goal.down-init
down-init g c =
    let nodes = c.args.nodes.now in
    let inner = c.args.inner.now in
    let at = tree-at g.row.N (length inner) nodes inner c.requires.tree (record { rising = c.requires.rising; level = c.requires.level }) (omega arith) in
    let few = root-few g.row.N (level_at (length inner) nodes inner) at.level (top-one g.row.N nodes inner c.requires.tree) in
    let top : length inner ≡ length inner - 0 = omega arith in
    let one : g.row.N * 1 ≡ g.row.N = omega arith in
    record {
      extent = c.find_in_root-found.ensures.extent ∙ ap (λ l. extent_with c.args.block (flat l)) (c.level_nodes.ensures ∙ ap (λ k. level_at k nodes inner) top);
      compared = omega (arith, c.find_in_root-found.ensures.compared, ap (λ l. length (flat l)) c.level_nodes.ensures, few, one);
      some = λ some. c.find_in_root-found.ensures.some (omega (arith, some-above g.row.N (length inner) nodes inner c.requires.tree (omega arith) some, ap (λ l. length (flat l)) c.level_nodes.ensures));
      each_level = c.find_in_root-found.ensures.each_level;
    }

pub find_below-found-requires-clause-rising : goal.find_below-found-requires-clause-rising
find_below-found-requires-clause-rising g c =
    let nodes = c.args.nodes.now in
    let inner = c.args.inner.now in
    let at = tree-at g.row.N (length inner - 1 - c.down.done) nodes inner c.requires.tree (record { rising = c.requires.rising; level = c.requires.level }) (omega arith) in
    subst (λ l. IsRising 0 4294967295 (flat l)) (sym c.level_nodes-below.ensures) at.rising

pub find_below-found-requires-clause-level : goal.find_below-found-requires-clause-level
find_below-found-requires-clause-level g c =
    let nodes = c.args.nodes.now in
    let inner = c.args.inner.now in
    let at = tree-at g.row.N (length inner - 1 - c.down.done) nodes inner c.requires.tree (record { rising = c.requires.rising; level = c.requires.level }) (omega arith) in
    subst (IsLevel g.row.N) (sym c.level_nodes-below.ensures) at.level

pub find_below-found-requires-clause-above : goal.find_below-found-requires-clause-above
find_below-found-requires-clause-above g c =
    let nodes = c.args.nodes.now in
    let inner = c.args.inner.now in
    let k = length inner - 1 - c.down.done in
    let up : length inner - c.down.done ≡ suc k = omega (arith, c.down-test.true) in
    c.down.invariant.extent ∙ ap (λ n. extent_with c.args.block (flat (level_at n nodes inner))) up
    ∙ ap (extent_with c.args.block) (covers-at g.row.N k nodes inner c.requires.tree (omega (arith, c.down-test.true)) ∙ ap (summaries 0) (sym c.level_nodes-below.ensures))

pub find_below-found-requires-clause-few : goal.find_below-found-requires-clause-few
find_below-found-requires-clause-few g c =
    let nodes = c.args.nodes.now in
    let inner = c.args.inner.now in
    let levels = levels-few g.row.N nodes inner c.requires.width c.requires.tree in
    let count = nodes-few nodes c.requires.rising c.requires.level.filled in
    let small : 1 + c.down.done ≤ 2 ^ 32 = omega (arith, c.down-test.true, levels, count) in
    let product = small-product g.row.N (1 + c.down.done) c.requires.width.most small in
    omega (arith, c.down.invariant.compared, product, c.requires.width.most)
