use Rattle.std.proofs.Common.{◌≡◌, ◌++◌, length, take}
use Rattle.std.specs.List.{flat_map}
use Rattle.layout.specs.Bytes.{padded_text}
use Rattle.layout.specs.Extents.{extent_text}
use Rattle.layout.proofs.ExtentLaws.{head_text}
use Rattle.layout.proofs.extents.write_block.Given as goal

abbrev pub invariant-loop-index : goal.invariant-loop-index
invariant-loop-index l = l.block ≡ padded_text 4096 (head_text l.owner (length l.extents) l.level ++ flat_map extent_text (take l.index l.extents))
