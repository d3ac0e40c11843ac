use Rattle.std.proofs.Common.{◌≡◌, ◌-◌, ℕ, List, drop, length, refl, ap, ◌∙◌, arith}
use Rattle.system_laws.specs.file_graph.Graph.{after_effect, after_effects, graph_of}
use Rattle.system_laws.specs.file_graph.Plain.{pairs}
use Rattle.system_laws.specs.file_graph.declared.effect.Kind.{Kind}
use Rattle.system_laws.specs.file_graph.declared.effect.Effect.TheVariants as effect
use Rattle.interleavings.specs.Snapshots.{entries_put}
use Rattle.interleavings.proofs.NodePuts.{entries_more}
use Rattle.interleavings.proofs.node_copies.put_entries.Goals as goal

pub loop-done-preserved : goal.loop-done-preserved
loop-done-preserved c =
    let entry = c.index-entries-count.result in
    let now = graph_of c.loop-done.graph in
    entries_more (graph_of c.args.graph.now) now (graph_of c.apply.new.self) c.args.directory c.entries-entries.result.now (length c.entries-entries.result.now) c.loop-done.done entry refl c.loop-done-test.true c.index-entries-count.is
    (c.in_ok-apply.ensures.ok
    ∙ ap (λ (i : ℕ). after_effect now (effect.Enter c.args.directory i c.kind.result c.in_ok-copy.field-0)) c.inode.ensures
    ∙ ap (λ (k : Kind). after_effect now (effect.Enter c.args.directory entry.value.0 k c.in_ok-copy.field-0)) c.kind.ensures
    ∙ ap (λ (name : List ℕ). after_effect now (effect.Enter c.args.directory entry.value.0 entry.value.1 name)) c.in_ok-copy.ensures)
    c.loop-done.invariant

pub returns : goal.returns
returns c =
    let es = c.entries-entries.result.now in
    let over = c.loop-done-test.false in
    let none_left : length es - c.loop-done.done ≡ 0 = omega (arith, over) in
    c.loop-done.invariant
    ∙ ap (λ (n : ℕ). after_effects (graph_of c.args.graph.now) (entries_put c.args.directory (pairs (drop n es)))) none_left
    ∙ ap (λ ps. after_effects (graph_of c.args.graph.now) (entries_put c.args.directory ps)) c.entries-entries.ensures
