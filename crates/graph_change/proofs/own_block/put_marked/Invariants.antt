use Rattle.std.specs.Prelude.{map}
use Rattle.graph_change.specs.KeptBytes.{is_set}
use Rattle.graph_change.specs.View.{patch_of}
use Rattle.graph_change.proofs.Overs.{PutUpTo}
use Rattle.graph_change.proofs.own_block.put_marked.Given as goal

abbrev pub invariant-places : goal.invariant-places
invariant-places l = PutUpTo (patch_of (l.bytes, map is_set l.marks)) l.place l.fn.block l.block
