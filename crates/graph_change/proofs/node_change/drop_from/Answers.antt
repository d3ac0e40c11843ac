use Rattle.std.proofs.Common.{◌∙◌}
use Rattle.graph_change.specs.View.{patch_of}
use Rattle.graph_change.proofs.Ends.{last_gone, none_past}
use Rattle.graph_change.proofs.node_change.drop_from.Goals as goal

pub last-preserved-in-last : goal.last-preserved-in-last
last-preserved-in-last c =
    let past = c.goes_past.ensures.past c.last-test.true in
    last_gone patch_of c.pop_last.result c.last.blocks c.pop_last.new.self c.args.end past.0 past.1 past.2 (c.pop_last.ensures.variant.1 (c.goes_past.ensures.some c.last-test.true)) c.pop_last.ensures.greatest c.pop_last.ensures.updates
    ∙ c.last.invariant

pub last-preserved-in-last-2 : goal.last-preserved-in-last-2
last-preserved-in-last-2 c =
    let past = c.goes_past.ensures.past c.last-test.true in
    last_gone patch_of c.pop_last.result c.last.blocks c.pop_last.new.self c.args.end past.0 past.1 past.2 (c.pop_last.ensures.variant.1 (c.goes_past.ensures.some c.last-test.true)) c.pop_last.ensures.greatest c.pop_last.ensures.updates
    ∙ c.last.invariant

pub last-preserved-in-last-3 : goal.last-preserved-in-last-3
last-preserved-in-last-3 c =
    let past = c.goes_past.ensures.past c.last-test.true in
    last_gone patch_of c.pop_last.result c.last.blocks c.pop_last.new.self c.args.end past.0 past.1 past.2 (c.pop_last.ensures.variant.1 (c.goes_past.ensures.some c.last-test.true)) c.pop_last.ensures.greatest c.pop_last.ensures.updates
    ∙ c.last.invariant

pub returns : goal.returns
returns c = none_past patch_of c.last.blocks c.args.end (c.goes_past.ensures.none c.last-test.false) ∙ c.last.invariant
