-- Files get sizes.
use Rattle.std.specs.Prelude.{◌≡◌, ◌⊎◌, ◌<◌, ◌≤◌, ◌+◌, ◌-◌, ℕ, List, [], ◌∷◌, true, false, min, max, Option, Some, None, Result, Ok, Err, MatchResult, nat_lt, replicate, if◌then◌else◌}
use Rattle.posix_calls.specs.declared.call.Call.{Call}
use Rattle.posix_calls.specs.declared.call.Call.TheVariants as call
use Rattle.posix_calls.specs.declared.call.Reply.{Reply}
use Rattle.posix_calls.specs.declared.call.Reply.TheVariants as reply
use Rattle.posix_calls.specs.declared.errno.Errno.TheVariants as errno
use Rattle.posix_calls.specs.declared.limits.TheConstants.{MAX_FILE}
use Rattle.fuse_wire.specs.declared.errno.Refusal.{Refusal}
use Rattle.fuse_wire.specs.declared.errno.Refusal.TheVariants as refusal
use Rattle.mount_nodes.specs.declared.attributes.Attributes.{Attributes}
use Rattle.mount_nodes.specs.declared.nodes.Nodes.{Nodes}
use Rattle.mount_nodes.specs.declared.tree.Tree.{Ghosts}
use Rattle.mount_nodes.specs.Calls.{AtPath, MayAsk, description_of, done_of, wrote_of}
use Rattle.mount_nodes.specs.Files.{ByDescriptor, DescribesAgain}
use Rattle.mount_nodes.specs.Nodes.{Describes, kept_attributes}
use Rattle.mount_nodes.specs.Paths.{is_unnamed, node_at, path_of}
use Rattle.mount_nodes.specs.Refusals.{IsMemory}

-- the next zeros of those up to an end: 4,096 at most
abbrev pub zeros_len : ℕ → ℕ → ℕ
zeros_len to at = min (to - at) 4096

abbrev pub next_zeros : ℕ → ℕ → ℕ → Call
next_zeros number to at = call.Pwrite number at (replicate (zeros_len to at) 0)

-- from where on a file without a name gets zeros where its size changes: it grows by its last byte, and is cut by all behind its new end
abbrev pub zeros_from : ℕ → ℕ → ℕ
zeros_from old new = if nat_lt old new then new - 1 else new

-- the answer for a node whose size is set
abbrev pub resized : Attributes → ℕ → Attributes
resized kept size = record { node = kept.node; is_dir = kept.is_dir; size = size; links = kept.links }

module _ {S : Type 0} (tree : Ghosts S) where
  -- zeros are written from a place on, and reach another; these are the counts that were answered
  abbrev pub AreZeros : ℕ → ℕ → List ℕ → ℕ → ℕ → S → S → Type 0
  AreZeros number to [] from at s t = (at ≡ from) × (t ≡ s)
  AreZeros number to (count ∷ counts) from at s t = (u : S) × tree.asks s (next_zeros number to from) (reply.Wrote count) u × AreZeros number to counts (from + zeros_len to from) at u t

  -- zeros are written from a place up to another, or refused behind some
  abbrev pub WritesZeros : ℕ → ℕ → ℕ → Result (Unit {0}) Refusal → S → S → Type 0
  WritesZeros number from to result s t = (counts : List ℕ) × (at : ℕ) × (u : S) × AreZeros number to counts from at s u
      × MatchResult result (λ _. (to ≤ at) × (t ≡ u)) (λ e. (IsMemory e × (t ≡ u)) ⊎ ((r : Reply) × tree.asks u (next_zeros number to at) r t × (wrote_of r ≡ Err e)))

  -- behind zeros a file without a name has the size, which is kept and answered
  abbrev pub Fills : Attributes → ℕ → ℕ → Result Attributes Refusal → S → S → Type 0
  Fills kept size number result s t = (end : Result (Unit {0}) Refusal) × WritesZeros number (zeros_from kept.size size) (max kept.size size) end s t
      × MatchResult end (λ _. result ≡ Ok (resized kept size)) (λ e. result ≡ Err e)

  -- so it is by its descriptor, up to the bytes of the greatest file
  abbrev pub ResizesUnnamed : Nodes → ℕ → Attributes → ℕ → Result Attributes Refusal → S → S → Type 0
  ResizesUnnamed nodes id kept size result s t =
      ((MAX_FILE < size) × (result ≡ Err (refusal.Posix errno.FileTooBig)) × (t ≡ s)) ⊎ ((size ≤ MAX_FILE) × ByDescriptor tree nodes id (Fills kept size) result s t)

  -- A file that has a name gets its size by `Truncate` at its path, and its attributes are those of `Stat`; one without is filled with zeros by its descriptor.
  abbrev pub Resizes : Nodes → ℕ → ℕ → Result Attributes Refusal → S → S → Type 0
  Resizes nodes id size result s t =
      ((node_at nodes id ≡ None) × (result ≡ Err refusal.StaleNode) × (t ≡ s))
      ⊎ ((kept : Attributes) × (kept_attributes nodes id ≡ Some kept)
      × (((is_unnamed nodes id ≡ false) × AtPath (path_of nodes id) (λ path. MayAsk tree (call.Truncate path size) done_of (λ _. MayAsk tree (call.Stat path) description_of (DescribesAgain id))) result s t)
      ⊎ ((is_unnamed nodes id ≡ true) × ResizesUnnamed nodes id kept size result s t)))

  -- of what may be set the size alone is; without it nothing changes, and what is there is answered
  abbrev pub SetsAttributes : Nodes → ℕ → Option ℕ → Result Attributes Refusal → S → S → Type 0
  SetsAttributes nodes id None = Describes tree nodes id
  SetsAttributes nodes id (Some size) = Resizes nodes id size
