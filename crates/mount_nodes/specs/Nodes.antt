-- The attributes of nodes.
use Rattle.std.specs.Prelude.{◌≡◌, ◌⊎◌, ℕ, List, true, false, Option, Some, None, Result, Ok, Err, IfErr}
use Rattle.std.specs.Option.{option_map}
use Rattle.posix_calls.specs.declared.call.Call.TheVariants as call
use Rattle.posix_calls.specs.declared.operation.Description.{Description}
use Rattle.posix_calls.specs.declared.operation.Description.TheVariants as description
use Rattle.posix_calls.specs.declared.errno.Errno.{Errno}
use Rattle.fuse_wire.specs.declared.errno.Refusal.{Refusal}
use Rattle.fuse_wire.specs.declared.errno.Refusal.TheVariants as refusal
use Rattle.posix_calls.specs.Path.{path_names}
use Rattle.mount_nodes.specs.declared.attributes.Attributes.{Attributes}
use Rattle.mount_nodes.specs.declared.nodes.Nodes.{Nodes}
use Rattle.mount_nodes.specs.declared.tree.Tree.{Ghosts}
use Rattle.mount_nodes.specs.Calls.{description_of, done_of, Answers, AtPath, Asks, MayAsk}
use Rattle.mount_nodes.specs.Paths.{node_at, is_unnamed, name_path, path_below, path_of}
use Rattle.mount_nodes.specs.Refusals.{IsMemory}

-- the attributes of a node, by what the tree answers of it
abbrev pub attributes_of : ℕ → Description → Attributes
attributes_of id (description.File size names) = record { node = id; is_dir = false; size = size; links = names }
attributes_of id (description.Dir entries) = record { node = id; is_dir = true; size = 0; links = 1 }

-- the attributes that were last answered of a node
abbrev pub kept_attributes : Nodes → ℕ → Option Attributes
kept_attributes nodes id = option_map (λ node. record { node = id; is_dir = node.is_dir; size = node.size; links = node.links }) (node_at nodes id)

-- the attributes are those of a node that was found, and there are none if none was
abbrev pub IsDescribedAs : Description → Result ℕ Refusal → Result Attributes Refusal → Type 0
IsDescribedAs d (Ok id) result = result ≡ Ok (attributes_of id d)
IsDescribedAs d (Err e) result = result ≡ Err e

module _ {S : Type 0} (tree : Ghosts S) where
  -- The attributes of a node that is known are those that `Stat` answers at its path; of one without a name they are those that were answered last.
  abbrev pub Describes : Nodes → ℕ → Result Attributes Refusal → S → S → Type 0
  Describes nodes id result s t =
      ((node_at nodes id ≡ None) × (result ≡ Err refusal.StaleNode) × (t ≡ s))
      ⊎ ((kept : Attributes) × (kept_attributes nodes id ≡ Some kept)
      × (((is_unnamed nodes id ≡ true) × Answers kept result s t)
      ⊎ ((is_unnamed nodes id ≡ false) × AtPath (path_of nodes id) (λ path. MayAsk tree (call.Stat path) description_of (λ d. Answers (attributes_of id d))) result s t)))

  -- The node of a path is found; the tree may be asked for it which file is there. That it can't answer refuses it, as want of memory does.
  abbrev pub Finds : List ℕ → Result ℕ Refusal → S → S → Type 0
  Finds path id s t = ((t ≡ s) × IfErr id (λ e. IsMemory e ⊎ ((why : Errno) × (path_names path ≡ Err why) × (e ≡ refusal.Posix why))))
      ⊎ ((names : List (List ℕ)) × (found : Result ℕ Errno) × (path_names path ≡ Ok names) × tree.finds s names found t × IfErr id (λ e. IsMemory e ⊎ ((why : Errno) × (found ≡ Err why) × (e ≡ refusal.Posix why))))

  -- what is at a path, as the tree answers of it, is answered of its node
  abbrev pub DescribesNode : List ℕ → Description → Result Attributes Refusal → S → S → Type 0
  DescribesNode path d result s t = (id : Result ℕ Refusal) × Finds path id s t × IsDescribedAs d id result

  -- `Stat` is asked at the path of the name, and its answer given
  abbrev pub LooksUp : Nodes → ℕ → List ℕ → Result Attributes Refusal → S → S → Type 0
  LooksUp nodes folder name = AtPath (name_path nodes folder name) (λ path. MayAsk tree (call.Stat path) description_of (DescribesNode path))

  -- `Mkdir` is asked at the path of the name, then `Stat`, whose answer is given
  abbrev pub MakesDir : Nodes → ℕ → List ℕ → Result Attributes Refusal → S → S → Type 0
  MakesDir nodes folder name =
      AtPath (name_path nodes folder name) (λ path. MayAsk tree (call.Mkdir path) done_of (λ _. MayAsk tree (call.Stat path) description_of (DescribesNode path)))

  -- `Rmdir` is asked at the path of the name
  abbrev pub RemovesDir : Nodes → ℕ → List ℕ → Result (Unit {0}) Refusal → S → S → Type 0
  RemovesDir nodes folder name = AtPath (path_below nodes folder name) (λ path. Asks tree (call.Rmdir path) done_of (λ _. Answers tt))
