use Rattle.std.proofs.Common.{sym, arith}
use Rattle.log_record.specs.file_graph.Graph.{graph_of}
use Rattle.call_effects.proofs.Nodes.{count_read, count_missing}
use Rattle.call_effects.proofs.node_reads.entry_count.Goals as goal

pub overflow_cast-result : goal.overflow_cast-result
overflow_cast-result c = let same = count_read (graph_of c.args.graph.now c.args.dir) c.in-Some.entries.now (sym c.in-Some.ensures) in omega (arith, same, c.requires)

pub returns-in-Some : goal.returns-in-Some
returns-in-Some c = sym (count_read (graph_of c.args.graph.now c.args.dir) c.in-Some.entries.now (sym c.in-Some.ensures))

pub returns-in-None : goal.returns-in-None
returns-in-None c = sym (count_missing (graph_of c.args.graph.now c.args.dir) (sym c.in-None.ensures))
