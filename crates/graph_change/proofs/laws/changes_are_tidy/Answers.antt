use Rattle.std.proofs.Common.{ap}
use Rattle.std.specs.Prelude.{option_map}
use Rattle.graph_change.specs.Change.{net_of}
use Rattle.graph_change.specs.Net.{base_node, edited_node}
use Rattle.graph_change.proofs.Tidying.{tidy_new, tidy_more, tidy_coalesced}
use Rattle.graph_change.proofs.laws.changes_are_tidy.Goals as goal

pub returns : goal.returns
returns c = record {
  new = tidy_new;
  kept = tidy_more;
  coalesced = tidy_coalesced;
  gone = λ n old is. ap (λ b. option_map (edited_node (net_of n)) (base_node b old)) is;
}
