use Rattle.std.proofs.Common.{sym, ◌∙◌}
use Rattle.log_record.specs.file_graph.Graph.{graph_of}
use Rattle.log_record.specs.file_graph.Plain.{pairs}
use Rattle.call_effects.proofs.Nodes.{entry_found, entry_missing}
use Rattle.call_effects.proofs.node_reads.entry.Goals as goal

pub returns-in-Some : goal.returns-in-Some
returns-in-Some c = c.find.ensures ∙ sym (entry_found (graph_of c.args.graph.now c.args.dir) (pairs c.in-Some.entries.now) c.args.name.now (sym c.in-Some.ensures))

pub returns-in-None : goal.returns-in-None
returns-in-None c = sym (entry_missing (graph_of c.args.graph.now c.args.dir) c.args.name.now (sym c.in-None.ensures))
