-- What is said of a client's copies over its own part and the kernel's: the other clients are not seen.
use Rattle.call_effects.specs.file_graph.Graph.{Graph}
use Rattle.world_invariant.specs.Logs.{after_records}
use Rattle.world_invariant.specs.World.{Account, Client, undigested_records}
use Rattle.world_invariant.specs.Parts.{HasTrueCopies}

-- its copies and blocks are as its own records leave the shared nodes, but for files that are gone
abbrev pub HasOwnCopies : Graph → Account → Client → Type 0
HasOwnCopies g a p = HasTrueCopies p.knows (after_records g (undigested_records a p))
