use Rattle.std.proofs.Common.{◌≡◌, arith, length}
use Rattle.std.specs.FinMap as fin
use Rattle.file_graph.proofs.Ordered.{counted, put_is_insert}
use Rattle.file_graph.proofs.name_map.NameMap.put_into.Goals as goal

pub put_within-requires-clause-room : goal.put_within-requires-clause-room
put_within-requires-clause-room g c =
    let all : length c.self.inside.entries.items ≡ fin.len c.args.self.now = counted c.self.inside.entries.items c.args.self.now c.self.invariant.0 c.self.view_is in
    omega (arith, all, c.requires, c.room.view_is)

pub invariant_of-self : goal.invariant_of-self
invariant_of-self g c = (
  (put_is_insert c.self.inside.entries.items c.put_within.new.entries.items c.args.name c.args.value c.self.invariant.0 c.put_within.ensures.put).0,
  omega (arith, c.put_within.ensures.few, c.room.invariant.1),
)

pub returns : goal.returns
returns g c = rw (← c.self.view_is) ((put_is_insert c.self.inside.entries.items c.put_within.new.entries.items c.args.name c.args.value c.self.invariant.0 c.put_within.ensures.put).1)
