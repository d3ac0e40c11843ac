use Rattle.std.proofs.Common.{◌++◌, ◌∷◌, [], ◌+◌, ap, sym, ◌∙◌, subst, append_assoc, arith, take, get_or}
use Rattle.extent_tree.specs.Normal.{IsRising}
use Rattle.extent_tree.specs.Nodes.{summary, summaries}
use Rattle.extent_tree.proofs.Packs.{node-rising, summaries-more}
use Rattle.extent_tree.proofs.node_pack.push_summaries.Goals as goal

pub summary_of-entry-requires-clause-rising : goal.summary_of-entry-requires-clause-rising
summary_of-entry-requires-clause-rising c =
    let node = c.index-nodes-index.result in
    subst (IsRising 0 4294967295) (sym (c.as_slice.ensures ∙ c.index-nodes-index.is)) (node-rising 0 4294967295 c.nodes.index c.args.nodes.now node c.requires.rising (omega arith) c.nodes-test.true)

pub nodes-preserved : goal.nodes-preserved
nodes-preserved c =
    let node = c.index-nodes-index.result in
    let made = c.summary_of-entry.ensures ∙ ap (summary (c.args.number + c.nodes.index)) (c.as_slice.ensures ∙ c.index-nodes-index.is) in
    c.in_ok-push.ensures.items ∙ (λ i. c.nodes.invariant i ++ made i ∷ [])
    ∙ append_assoc c.args.entries.now.items (summaries c.args.number (take c.nodes.index c.args.nodes.now)) (summary (c.args.number + c.nodes.index) (get_or c.args.nodes.now c.nodes.index node) ∷ [])
    ∙ ap (λ l. c.args.entries.now.items ++ l) (sym (summaries-more c.args.number c.nodes.index c.args.nodes.now node c.nodes-test.true))
