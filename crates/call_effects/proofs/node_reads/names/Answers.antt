use Rattle.std.proofs.Common.{◌≡◌, sym, ◌∙◌, subst, arith}
use Rattle.std.specs.Prelude.{IfOk}
use Rattle.log_record.specs.file_graph.Graph.{graph_of}
use Rattle.log_record.specs.file_graph.Plain.{pairs}
use Rattle.call_effects.proofs.Nodes.{names_found, names_missing, count_read}
use Rattle.std.proofs.lemmas.Result.{IfErr-weaker}
use Rattle.std.proofs.lemmas.Bool.Decides.{nat_tests}
use Rattle.call_effects.proofs.node_reads.names.Goals as goal

pub returns-in-Some-clause-names : goal.returns-in-Some-clause-names
returns-in-Some-clause-names c = subst (λ z. IfOk c.names_of.result (λ names. names ≡ z)) (sym (names_found (graph_of c.args.graph.now c.args.dir) (pairs c.in-Some.entries.now) (sym c.in-Some.ensures))) c.names_of.ensures.names

pub returns-in-None-clause-names : goal.returns-in-None-clause-names
returns-in-None-clause-names c = c.from_vec.ensures ∙ c.new.ensures.items ∙ sym (names_missing (graph_of c.args.graph.now c.args.dir) (sym c.in-None.ensures))

pub returns-in-Some-clause-memory : goal.returns-in-Some-clause-memory
returns-in-Some-clause-memory c =
    let same = count_read (graph_of c.args.graph.now c.args.dir) c.in-Some.entries.now (sym c.in-Some.ensures) in
    IfErr-weaker c.names_of.result _ _ (λ _ some. grind (arith, nat_tests, same, some)) c.names_of.ensures.memory
