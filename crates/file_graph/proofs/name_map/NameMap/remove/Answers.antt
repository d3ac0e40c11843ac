use Rattle.std.proofs.Common.{arith}
use Rattle.file_graph.proofs.Ordered.{without_is_remove}
use Rattle.file_graph.proofs.name_map.NameMap.remove.Goals as goal

pub invariant_of-self : goal.invariant_of-self
invariant_of-self g c =
    ((without_is_remove c.self.inside.entries.items c.remove_entry.new.entries.items c.args.name.now c.self.invariant.0 c.remove_entry.ensures.pairs).0, omega (arith, c.remove_entry.ensures.shorter, c.self.invariant.1))

pub returns : goal.returns
returns g c = rw (← c.self.view_is) ((without_is_remove c.self.inside.entries.items c.remove_entry.new.entries.items c.args.name.now c.self.invariant.0 c.remove_entry.ensures.pairs).1)
