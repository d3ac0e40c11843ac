use Rattle.std.proofs.Common.{◌≡◌, ◌*◌, ◌++◌, length, take}
use Rattle.std.specs.List.{flat_map}
use Rattle.layout.specs.Bytes.{padded_text}
use Rattle.layout.specs.Directory.{entry_text}
use Rattle.layout.proofs.DirectoryLaws.{head_text}
use Rattle.layout.proofs.directory.write_block.Given as goal

abbrev pub invariant-loop-index : goal.invariant-loop-index
invariant-loop-index l = (l.block ≡ padded_text 4096 (head_text l.owner (length l.entries) ++ flat_map entry_text (take l.index l.entries))) × (length (flat_map entry_text (take l.index l.entries)) ≡ 72 * l.index)
