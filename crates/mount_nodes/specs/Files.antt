-- Files by their names and descriptors.
use Rattle.std.specs.Prelude.{◌≡◌, ◌⊎◌, ℕ, List, true, false, Option, Some, None, Result, Ok, Err, IsErrAnd, IfSome, IsSome, MatchResult, nat_lt, if◌then◌else◌}
use Rattle.posix_calls.specs.declared.call.Call.TheVariants as call
use Rattle.posix_calls.specs.declared.call.Flags.{Flags}
use Rattle.posix_calls.specs.declared.call.Reply.{Reply}
use Rattle.posix_calls.specs.declared.call.Reply.TheVariants as reply
use Rattle.posix_calls.specs.declared.errno.Errno.TheVariants as errno
use Rattle.posix_calls.specs.declared.operation.Description.{Description}
use Rattle.fuse_wire.specs.declared.errno.Refusal.{Refusal}
use Rattle.fuse_wire.specs.declared.errno.Refusal.TheVariants as refusal
use Rattle.mount_nodes.specs.declared.attributes.Attributes.{Attributes}
use Rattle.mount_nodes.specs.declared.node.Node.{Node}
use Rattle.mount_nodes.specs.declared.nodes.Nodes.{Nodes}
use Rattle.mount_nodes.specs.declared.tree.Tree.{Ghosts}
use Rattle.mount_nodes.specs.Calls.{Answers, AtPath, Asks, MayAsk, description_of, done_of, wrote_of}
use Rattle.mount_nodes.specs.Nodes.{attributes_of}
use Rattle.mount_nodes.specs.Paths.{name_path, node_at, path_below, path_of}
use Rattle.mount_nodes.specs.Upkeep.{Behind, IsLost, IsRefusal, Upkeep, child_at}

-- how a file is opened that is there
abbrev pub read_write : Flags
read_write = record { read = true; write = true; create = false; exclusive = false; truncate = false }

-- a file that is known can be opened; its handle is 0
abbrev pub handle_of : Option Node → Result ℕ Refusal
handle_of None = Err refusal.StaleNode
handle_of (Some node) = if node.is_dir then Err (refusal.Posix errno.IsDirectory) else Ok 0

-- the descriptor that goes with the last that has a node open
abbrev pub last_descriptor : Node → Option ℕ
last_descriptor node = if nat_lt 1 node.opens then None else node.descriptor

module _ {S : Type 0} where
  -- a node that is known is described once more
  abbrev pub DescribesAgain : ℕ → Description → Result Attributes Refusal → S → S → Type 0
  DescribesAgain id d result s t = Answers (attributes_of id d) result s t

module _ {S : Type 0} (tree : Ghosts S) where
  -- a node has the descriptor, or is opened at its path, and gets it
  abbrev pub IsOpenAs : Nodes → ℕ → ℕ → S → S → Type 0
  IsOpenAs nodes id number s t = ((node : Node) × (node_at nodes id ≡ Some node) × (node.descriptor ≡ Some number) × (t ≡ s))
      ⊎ ((path : List ℕ) × (path_of nodes id ≡ Some path) × (u : S) × Upkeep tree s u × tree.asks u (call.Open path read_write) (reply.Opened number) t)

  -- so it is, or nothing but upkeep was asked
  abbrev pub TakesDescriptor : Nodes → ℕ → Result ℕ Refusal → S → S → Type 0
  TakesDescriptor nodes id result s t = MatchResult result (λ number. IsOpenAs nodes id number s t) (λ e. IsRefusal tree (IsLost nodes id) e s t)

  -- it is done by the descriptor of a node
  abbrev pub ByDescriptor : {A : Type 0} → Nodes → ℕ → (ℕ → Result A Refusal → S → S → Type 0) → Result A Refusal → S → S → Type 0
  ByDescriptor nodes id does result s t = ((number : ℕ) × (u : S) × IsOpenAs nodes id number s u × does number result u t) ⊎ IsErrAnd result (λ e. IsRefusal tree (IsLost nodes id) e s t)

  -- `Pwrite` is asked of the node's descriptor, at the offset, with the bytes
  abbrev pub Writes : Nodes → ℕ → ℕ → List ℕ → Result ℕ Refusal → S → S → Type 0
  Writes nodes id at bytes = ByDescriptor nodes id (λ number. MayAsk tree (call.Pwrite number at bytes) wrote_of Answers)

  -- nothing, or this descriptor, is closed; that it can't be refuses nothing
  abbrev pub Closes : Option ℕ → S → S → Type 0
  Closes None s t = t ≡ s
  Closes (Some number) s t = (r : Reply) × tree.asks s (call.Close number) r t

  -- with the last that has a node open its descriptor is closed
  abbrev pub Releases : Nodes → ℕ → Result (Unit {0}) Refusal → S → S → Type 0
  Releases nodes id result s t =
      ((node_at nodes id ≡ None) × (result ≡ Err refusal.StaleNode) × (t ≡ s))
      ⊎ ((node : Node) × (node_at nodes id ≡ Some node) × (result ≡ Ok tt) × Closes (last_descriptor node) s t)

  -- `Unlink` is asked at the path of the name; before it a file that is open and loses its last name is opened
  abbrev pub Unlinks : Nodes → ℕ → List ℕ → Result (Unit {0}) Refusal → S → S → Type 0
  Unlinks nodes folder name =
      AtPath (path_below nodes folder name) (λ path. Behind tree (IfSome (child_at nodes folder name) (λ id. IsLost nodes id)) (Asks tree (call.Unlink path) done_of (λ _. Answers tt)))

  -- `Link` is asked at the node's path and that of the name, then `Stat`, whose answer is given; a name that is known is taken
  abbrev pub Links : Nodes → ℕ → ℕ → List ℕ → Result Attributes Refusal → S → S → Type 0
  Links nodes id folder name =
      AtPath (path_of nodes id) (λ old. AtPath (name_path nodes folder name) (λ new result s t.
      (IsSome (child_at nodes folder name) × (result ≡ Err (refusal.Posix errno.Exists)) × (t ≡ s))
      ⊎ MayAsk tree (call.Link old new) done_of (λ _. MayAsk tree (call.Stat old) description_of (DescribesAgain id)) result s t))
