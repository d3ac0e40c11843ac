use Rattle.posix_calls.proofs.Walks.{prefix_resolves}
use Rattle.posix_calls.proofs.laws.walk_leads_where_the_path_does.Goals as goal

pub returns : goal.returns
returns c = λ t entries names is. prefix_resolves t names entries is
