use Rattle.std.proofs.Common.{ap, sym, ◌∙◌, ◌+◌}
use Rattle.call_effects.specs.file_graph.Units.{charge}
use Rattle.call_effects.specs.file_graph.Graph.{after_effects}
use Rattle.record_validation.proofs.Touched.{growth_known, charge_known}
use Rattle.record_validation.proofs.costs.tally_record.Goals as goal

pub returns-clause-growth : goal.returns-clause-growth
returns-clause-growth c = λ g agrees. growth_known c.args.known.now g c.args.effects.now c.in_ok-all.ensures.known c.requires.fit agrees ∙ sym c.in_ok-all.ensures.growth

pub returns-clause-charge : goal.returns-clause-charge
returns-clause-charge c = λ g agrees.
    ap (λ n. charge (after_effects g c.args.effects.now) + n) c.in_ok-all.ensures.before
    ∙ charge_known c.args.known.now g c.args.effects.now c.in_ok-all.ensures.known c.requires.fit agrees
    ∙ ap (λ n. charge g + n) (sym c.in_ok-all.ensures.after)
