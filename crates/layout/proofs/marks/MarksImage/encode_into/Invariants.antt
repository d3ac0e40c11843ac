use Rattle.std.proofs.Common.{◌≡◌, take}
use Rattle.std.specs.List.{flat_map}
use Rattle.layout.specs.Bytes.{padded_text}
use Rattle.layout.specs.Marks.{mark_text}
use Rattle.layout.proofs.marks.MarksImage.encode_into.Given as goal

abbrev pub invariant-loop-client : goal.invariant-loop-client
invariant-loop-client l = l.slot ≡ padded_text 4096 (flat_map mark_text (take l.client l.marks.clients))
