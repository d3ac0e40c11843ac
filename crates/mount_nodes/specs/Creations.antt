-- Files are made.
use Rattle.std.specs.Prelude.{◌≡◌, ◌⊎◌, Bool, ℕ, List, true, false, Result, Err, IsErrAnd}
use Rattle.posix_calls.specs.declared.call.Call.TheVariants as call
use Rattle.posix_calls.specs.declared.call.Flags.{Flags}
use Rattle.posix_calls.specs.declared.call.Reply.TheVariants as reply
use Rattle.fuse_wire.specs.declared.errno.Refusal.{Refusal}
use Rattle.mount_nodes.specs.declared.attributes.Attributes.{Attributes}
use Rattle.mount_nodes.specs.declared.nodes.Nodes.{Nodes}
use Rattle.mount_nodes.specs.declared.tree.Tree.{Ghosts}
use Rattle.mount_nodes.specs.Calls.{AtPath, MayAsk, description_of}
use Rattle.mount_nodes.specs.Nodes.{DescribesNode}
use Rattle.mount_nodes.specs.Paths.{name_path}
use Rattle.mount_nodes.specs.Upkeep.{IsRefusal, Upkeep}

-- how a file is opened that is made where none is: whether a name that is taken refuses it, and a file that is there loses its bytes
abbrev pub creation : Bool → Bool → Flags
creation exclusive truncate = record { read = true; write = true; create = true; exclusive = exclusive; truncate = truncate }

module _ {S : Type 0} (tree : Ghosts S) where
  -- the path is opened, and what is there is described by `Stat`; descriptors may be closed
  pub record Makes (path : List ℕ) (flags : Flags) (result : Result Attributes Refusal) (s t : S) : Type 0 where
    pub before : S
    pub first : Upkeep tree s before
    pub number : ℕ
    pub opened : S
    pub opens : tree.asks before (call.Open path flags) (reply.Opened number) opened
    pub asked : S
    pub next : Upkeep tree opened asked
    pub described : S
    pub describes : MayAsk tree (call.Stat path) description_of (DescribesNode tree path) result asked described
    pub rest : Upkeep tree described t

  -- so it is at the path of the name, or it can't be opened
  abbrev pub MakesAt : Nodes → ℕ → List ℕ → Flags → Result Attributes Refusal → S → S → Type 0
  MakesAt nodes folder name flags = AtPath (name_path nodes folder name) (λ path result s t. IsErrAnd result (λ e. IsRefusal tree ⊥ e s t) ⊎ Makes path flags result s t)
