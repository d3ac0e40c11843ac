use Rattle.std.proofs.Common.{◌≡◌, sym, subst}
use Rattle.std.proofs.lemmas.Result.{on_ok_weaker}
use Rattle.graph_change.specs.Change.{with_effect}
use Rattle.graph_change.specs.Tidy.{AreTidyChanges}
use Rattle.graph_change.specs.View.{changes_of, nodes_of}
use Rattle.graph_change.proofs.Tidying.{tidy_one}
use Rattle.graph_change.proofs.graph_change.GraphChange.add.Goals as goal

pub returns-clause-tidy : goal.returns-clause-tidy
returns-clause-tidy c tidy =
    let old = changes_of c.args.self.now in
    on_ok_weaker c.add.result (λ (is : nodes_of c.add.new.nodes ≡ with_effect c.args.effect.now old). subst AreTidyChanges (sym is) (tidy_one c.args.effect.now old tidy)) c.add.ensures.change
