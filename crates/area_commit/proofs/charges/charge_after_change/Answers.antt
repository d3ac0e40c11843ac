use Rattle.area_commit.proofs.Differing.{graphs_differ, stores_differ, rewritten_differ}
use Rattle.area_commit.proofs.charges.charge_after_change.Goals as goal

pub returns : goal.returns
returns c = record { graphs = graphs_differ; stores = stores_differ; rewritten = rewritten_differ }
