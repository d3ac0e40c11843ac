use Rattle.extent_tree.proofs.Unique.{one-list}
use Rattle.extent_tree.proofs.node_laws.normal_form_is_one.Goals as goal

pub returns : goal.returns
returns c xs ys first second same = one-list 0 4294967295 xs ys first.rising second.rising first.apart second.apart same
