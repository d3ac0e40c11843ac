use Rattle.std.proofs.Common.{sym, ap, ◌∙◌}
use Rattle.std.specs.List.{list_any}
use Rattle.std.proofs.lemmas.List.{take_all}
use Rattle.graph_change.specs.file_graph.Plain.{is_swap}
use Rattle.coalescer.proofs.KeptNames.{next_unswapped, swap_found}
use Rattle.coalescer.proofs.kept_names.has_swap.Goals as goal

pub returns-then-is_swap : goal.returns-then-is_swap
returns-then-is_swap c = sym (swap_found c.args.effects.now c.loop-effect.effect-index c.effect-item.result c.loop-effect-test.true c.effect-item.is (sym c.is_swap.ensures ∙ c.if-is_swap.true))

pub loop-effect-preserved : goal.loop-effect-preserved
loop-effect-preserved c = next_unswapped c.args.effects.now c.loop-effect.effect-index c.effect-item.result c.loop-effect-test.true c.effect-item.is (sym c.is_swap.ensures ∙ c.if-is_swap.false) c.loop-effect.invariant

pub returns : goal.returns
returns c = sym c.loop-effect.invariant ∙ ap (list_any is_swap) (take_all c.loop-effect.effect-index c.args.effects.now c.loop-effect-test.false)
