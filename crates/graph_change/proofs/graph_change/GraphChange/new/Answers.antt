use Rattle.std.proofs.Common.{ap, subst, sym}
use Rattle.graph_change.specs.Tidy.{AreTidyChanges}
use Rattle.graph_change.specs.View.{change_of, map_of}
use Rattle.graph_change.proofs.Tidying.{tidy_none}
use Rattle.graph_change.proofs.graph_change.GraphChange.new.Goals as goal

pub returns-clause-tidy : goal.returns-clause-tidy
returns-clause-tidy c = subst AreTidyChanges (sym (ap (map_of change_of) c.new.ensures.empty)) tidy_none
