-- Which files a request makes, and how.
use Rattle.std.specs.Prelude.{◌≡◌, ◌⊎◌, ◌==◌, ◌||◌, ◌/◌, ◌%◌, Bool, ℕ, List, true, false, Result, Err}
use Rattle.posix_calls.specs.declared.call.Flags.{Flags}
use Rattle.posix_calls.specs.declared.errno.Errno.TheVariants as errno
use Rattle.fuse_wire.specs.declared.errno.Refusal.{Refusal}
use Rattle.fuse_wire.specs.declared.errno.Refusal.TheVariants as refusal
use Rattle.mount_nodes.specs.declared.attributes.Attributes.{Attributes}
use Rattle.mount_nodes.specs.declared.nodes.Nodes.{Nodes}
use Rattle.mount_nodes.specs.declared.tree.Tree.{Ghosts}
use Rattle.mount_nodes.specs.Creations.{MakesAt, creation}

-- so by the flags of open(2), of which O_EXCL is 0200 and O_TRUNC 01000
abbrev pub creation_by : ℕ → Flags
creation_by flags = creation (flags / 128 % 2 == 1) (flags / 512 % 2 == 1)

-- whether the four bits of a mode that give the kind of node are none, or those of a file
abbrev pub is_file_mode : ℕ → Bool
is_file_mode mode = (mode / 4096 % 16 == 0) || (mode / 4096 % 16 == 8)

module _ {S : Type 0} (tree : Ghosts S) where
  -- a file that is not there is made where the mode is one of a file; others are not permitted
  abbrev pub MakesNode : Nodes → ℕ → List ℕ → ℕ → Result Attributes Refusal → S → S → Type 0
  MakesNode nodes folder name mode result s t =
      ((is_file_mode mode ≡ true) × MakesAt tree nodes folder name (creation true false) result s t)
      ⊎ ((is_file_mode mode ≡ false) × (result ≡ Err (refusal.Posix errno.NotPermitted)) × (t ≡ s))
