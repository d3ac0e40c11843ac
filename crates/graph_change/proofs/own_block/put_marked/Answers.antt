use Rattle.std.proofs.Common.{arith}
use Rattle.std.specs.Prelude.{map}
use Rattle.graph_change.specs.KeptBytes.{is_set}
use Rattle.graph_change.specs.View.{patch_of}
use Rattle.graph_change.proofs.Overs.{all_over}
use Rattle.graph_change.proofs.own_block.put_marked.Goals as goal

pub returns : goal.returns
returns c = all_over (patch_of (c.args.bytes.now, map is_set c.args.marks.now)) c.places.place c.args.block.now c.places.block (omega (arith, c.places-test.false)) c.places.invariant
