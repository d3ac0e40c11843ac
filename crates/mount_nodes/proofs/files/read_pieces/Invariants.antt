use Rattle.std.proofs.Common.{◌≡◌, ◌⊎◌, ◌≤◌, ◌*◌, ℕ, List, [], length}
use Rattle.mount_nodes.specs.Reads.{ArePieces}
use Rattle.mount_nodes.proofs.files.read_pieces.Given as goal

-- each piece so far had all that was asked for
abbrev pub invariant-loop-turn : goal.invariant-loop-turn
invariant-loop-turn g l = (pieces : List (List ℕ)) × ArePieces g.T.Tree l.fn.number l.fn.at l.fn.wanted pieces [] l.bytes.items l.fn.tree l.tree × ((l.turn * 65536 ≤ length l.bytes.items) ⊎ (l.fn.wanted ≤ length l.bytes.items))
