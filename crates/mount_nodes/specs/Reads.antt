-- Files are read, piece by piece.
use Rattle.std.specs.Prelude.{◌≡◌, ◌⊎◌, ◌+◌, ◌-◌, ◌^◌, ◌<◌, ◌≤◌, ℕ, List, [], ◌∷◌, ◌++◌, length, min, Option, Some, Result, Ok, Err, MatchResult, slice_get, is_none, if◌then◌else◌}
use Rattle.std.specs.Option.{option_map}
use Rattle.posix_calls.specs.declared.call.Call.{Call}
use Rattle.posix_calls.specs.declared.call.Call.TheVariants as call
use Rattle.posix_calls.specs.declared.call.Reply.{Reply}
use Rattle.posix_calls.specs.declared.call.Reply.TheVariants as reply
use Rattle.fuse_wire.specs.declared.errno.Refusal.{Refusal}
use Rattle.mount_nodes.specs.declared.nodes.Nodes.{Nodes}
use Rattle.mount_nodes.specs.declared.tree.Tree.{Ghosts}
use Rattle.mount_nodes.specs.Calls.{read_of}
use Rattle.mount_nodes.specs.Files.{ByDescriptor}
use Rattle.mount_nodes.specs.Paths.{node_at}
use Rattle.mount_nodes.specs.Refusals.{IsMemory}

-- how many bytes are to be read of a node: of a file that lost its last name no more than the size that is kept of it
abbrev pub readable_len : Nodes → ℕ → ℕ → ℕ → Option ℕ
readable_len nodes id at count = option_map (λ node. if is_none (slice_get node.names.items 0) then min (node.size - at) count else count) (node_at nodes id)

-- how many bytes are asked for behind those that are there: 65,536 at most
abbrev pub next_len : ℕ → List ℕ → ℕ
next_len wanted got = min (wanted - length got) 65536

-- the call for them
abbrev pub next_read : ℕ → ℕ → ℕ → List ℕ → Call
next_read number at wanted got = call.Pread number (min (at + length got) (2 ^ 64 - 1)) (next_len wanted got)

module _ {S : Type 0} (tree : Ghosts S) where
  -- `Pread` is asked again and again for what is lacking, and its replies are these pieces
  abbrev pub ArePieces : ℕ → ℕ → ℕ → List (List ℕ) → List ℕ → List ℕ → S → S → Type 0
  ArePieces number at wanted [] got bytes s t = (bytes ≡ got) × (t ≡ s)
  ArePieces number at wanted (piece ∷ pieces) got bytes s t = (u : S) × tree.asks s (next_read number at wanted got) (reply.Read piece) u × ArePieces number at wanted pieces (got ++ piece) bytes u t

  -- the pieces make up all that is wanted, or the last one is shorter than what was asked for
  abbrev pub HasRead : ℕ → ℕ → ℕ → List ℕ → S → S → Type 0
  HasRead number at wanted bytes s t = (pieces : List (List ℕ)) × (got : List ℕ) × (u : S) × ArePieces number at wanted pieces [] got s u
      × (((wanted ≤ length got) × (bytes ≡ got) × (t ≡ u))
      ⊎ ((last : List ℕ) × tree.asks u (next_read number at wanted got) (reply.Read last) t × (length last < next_len wanted got) × (bytes ≡ got ++ last)))

  -- behind some pieces `Pread` is refused, or memory is wanting
  abbrev pub IsUnread : ℕ → ℕ → ℕ → Refusal → S → S → Type 0
  IsUnread number at wanted e s t = (pieces : List (List ℕ)) × (got : List ℕ) × (u : S) × ArePieces number at wanted pieces [] got s u
      × ((IsMemory e × (t ≡ u)) ⊎ ((r : Reply) × tree.asks u (next_read number at wanted got) r t × (read_of r ≡ Err e)))

  -- the bytes are read piece by piece, or it is refused
  abbrev pub ReadsOn : ℕ → ℕ → ℕ → Result (List ℕ) Refusal → S → S → Type 0
  ReadsOn number at wanted result s t = MatchResult result (λ bytes. HasRead number at wanted bytes s t) (λ e. IsUnread number at wanted e s t)

  -- so they are by the node's descriptor
  abbrev pub Reads : Nodes → ℕ → ℕ → ℕ → Result (List ℕ) Refusal → S → S → Type 0
  Reads nodes id at count = ByDescriptor tree nodes id (λ number result s t. (wanted : ℕ) × (readable_len nodes id at count ≡ Some wanted) × ReadsOn number at wanted result s t)
