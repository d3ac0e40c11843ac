use Rattle.std.proofs.Common.{◌≡◌, ◌≤◌, ◌+◌, ◌*◌, ◌&&◌, drop}
use Rattle.std.specs.List.{list_all}
use Rattle.call_effects.specs.file_graph.Graph.{touches}
use Rattle.record_validation.specs.Good.{keeps}
use Rattle.record_validation.specs.KnownNodes.{first_unknown, known_at}
use Rattle.record_validation.specs.Rises.{sum_distinct, view_cost, view_cost_after, view_rise}
use Rattle.record_validation.proofs.costs.tally.Given as goal

abbrev pub invariant-loop-effect : goal.invariant-loop-effect
invariant-loop-effect l = record {
  here : l.place ≡ l.effect-index;
  growth : l.all.costs.growth + sum_distinct (view_rise l.effects (known_at l.known)) (touches (drop l.effect-index l.effects)) ≡ sum_distinct (view_rise l.effects (known_at l.known)) (touches l.effects);
  before : l.all.costs.before + sum_distinct (view_cost (known_at l.known)) (touches (drop l.effect-index l.effects)) ≡ sum_distinct (view_cost (known_at l.known)) (touches l.effects);
  after : l.all.costs.after + sum_distinct (view_cost_after l.effects (known_at l.known)) (touches (drop l.effect-index l.effects)) ≡ sum_distinct (view_cost_after l.effects (known_at l.known)) (touches l.effects);
  within : (l.all.within && list_all (keeps l.known l.effects) (touches (drop l.effect-index l.effects))) ≡ list_all (keeps l.known l.effects) (touches l.effects);
  known : first_unknown l.known (drop l.effect-index l.effects) ≡ first_unknown l.known l.effects;
  small : l.all.costs.growth ≤ 2305843009213693950 * l.effect-index;
  small_before : l.all.costs.before ≤ 2305843009213693950 * l.effect-index;
  small_after : l.all.costs.after ≤ 2305843009213693950 * l.effect-index;
}
