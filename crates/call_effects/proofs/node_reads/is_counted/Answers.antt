use Rattle.std.proofs.Common.{sym, ap, nat_lt, arith}
use Rattle.std.proofs.lemmas.Bool.{ltb-true}
use Rattle.log_record.specs.file_graph.Graph.{graph_of}
use Rattle.call_effects.proofs.Nodes.{count_read, count_missing}
use Rattle.call_effects.proofs.node_reads.is_counted.Goals as goal

pub returns-in-Some-clause-known : goal.returns-in-Some-clause-known
returns-in-Some-clause-known c = ap (λ n. nat_lt n 4294967296) (sym (count_read (graph_of c.args.graph.now c.args.dir) c.in-Some.entries.now (sym c.in-Some.ensures)))

pub returns-in-None-clause-known : goal.returns-in-None-clause-known
returns-in-None-clause-known c = sym (ap (λ n. nat_lt n 4294967296) (count_missing (graph_of c.args.graph.now c.args.dir) (sym c.in-None.ensures)))

pub returns-in-Some-clause-counted : goal.returns-in-Some-clause-counted
returns-in-Some-clause-counted c = λ fits. let same = count_read (graph_of c.args.graph.now c.args.dir) c.in-Some.entries.now (sym c.in-Some.ensures) in omega (arith, same, ltb-true, fits)

pub returns-in-None-clause-counted : goal.returns-in-None-clause-counted
returns-in-None-clause-counted c = λ fits. let none = count_missing (graph_of c.args.graph.now c.args.dir) (sym c.in-None.ensures) in omega (arith, none)
