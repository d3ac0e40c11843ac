use Rattle.std.proofs.Common.{rules}
use Rattle.std.proofs.lemmas.Result.{IfOk-weaker}
use Rattle.graph_check.proofs.tables.new_name_counts.Goals as goal

pub returns : goal.returns
returns c = IfOk-weaker c.vec.result _ _ (λ v all. all (λ y is. first_of (assumption, cc, search rules))) c.vec.ensures.items_if_clones_equal
