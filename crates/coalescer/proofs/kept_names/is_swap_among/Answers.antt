use Rattle.std.proofs.Common.{sym, ap, ◌∙◌}
use Rattle.std.specs.List.{list_any}
use Rattle.std.proofs.lemmas.List.{take_all}
use Rattle.graph_change.specs.file_graph.Plain.{is_swap}
use Rattle.coalescer.specs.Records.{effects_in}
use Rattle.coalescer.proofs.KeptNames.{next_record_unswapped, record_found}
use Rattle.coalescer.proofs.kept_names.is_swap_among.Goals as goal

pub returns-then-has_swap : goal.returns-then-has_swap
returns-then-has_swap c =
    sym (record_found c.args.records.now c.loop-logged.logged-index c.logged-item.result c.loop-logged-test.true c.logged-item.is (ap (list_any is_swap) (sym c.as_slice.ensures) ∙ sym c.has_swap.ensures ∙ c.if-has_swap.true))

pub loop-logged-preserved : goal.loop-logged-preserved
loop-logged-preserved c =
    next_record_unswapped c.args.records.now c.loop-logged.logged-index c.logged-item.result c.loop-logged-test.true c.logged-item.is (ap (list_any is_swap) (sym c.as_slice.ensures) ∙ sym c.has_swap.ensures ∙ c.if-has_swap.false) c.loop-logged.invariant

pub returns : goal.returns
returns c = sym c.loop-logged.invariant ∙ ap (λ rs. list_any is_swap (effects_in rs)) (take_all c.loop-logged.logged-index c.args.records.now c.loop-logged-test.false)
