use Rattle.tree_blocks.proofs.Entering.{distinct_entered, named_entered, distinct_left, named_left}
use Rattle.tree_blocks.proofs.change_laws.entries_change_by_name.Goals as goal

pub returns : goal.returns
returns = λ c. record {
  entered = λ place e n m old new distinct is. (named_entered place old n distinct e m new is, distinct_entered place old n distinct e m new is);
  taken = λ place n m old new distinct is. (named_left place old n distinct m new is, distinct_left place old n distinct m new is);
}
