use Rattle.std.proofs.Common.{ap, ◌∙◌}
use Rattle.call_effects.specs.NodeView.{view_after}
use Rattle.call_effects.proofs.NodeViews.{view_acts, viewed_after}
use Rattle.record_validation.proofs.Alike.{counts_seen}
use Rattle.record_validation.proofs.laws.summary_is_of_the_node_after.Goals as goal

pub returns-clause-single : goal.returns-clause-single
returns-clause-single c = view_acts

pub returns-clause-rows : goal.returns-clause-rows
returns-clause-rows c = λ g es i view off is. viewed_after g es i off ∙ ap (view_after es i) is

pub returns-clause-counts : goal.returns-clause-counts
returns-clause-counts c = counts_seen
