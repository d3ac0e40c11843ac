use Rattle.std.proofs.Common.{refl, rules}
use Rattle.file_graph.proofs.Ordered.{no_entries}
use Rattle.file_graph.proofs.name_map.NameMap.new.Goals as goal

pub returns : goal.returns
returns g c = rw c.new.ensures.items no_entries

pub invariant_of-result : goal.invariant_of-result
invariant_of-result g c = (rw c.new.ensures.items refl, rw c.new.ensures.items (search rules))
