use Rattle.std.proofs.Common.{◌∙◌, arith, sym}
use Rattle.extent_tree.proofs.Searches.{level-of}
use Rattle.extent_tree.proofs.leaf_search.level_nodes.Goals as goal

pub returns : goal.returns
returns c =
    let level = c.index-inner-level.result in
    c.nodes.ensures ∙ c.index-inner-level.is ∙ sym (level-of c.args.level c.args.nodes.now c.args.inner.now level (omega (arith, c.if-level-eq0.false)) c.requires)
