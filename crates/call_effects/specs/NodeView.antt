-- A node without the bytes of a file, and what effects make of it.
use Rattle.std.specs.Prelude.{ℕ, ◌+◌, max, List, [], ◌∷◌, length, Bool, true, false, Option, Some, None, option_map, if◌then◌else◌}
use Rattle.std.specs.FinMap as fin
use Rattle.posix_calls.specs.Content.{Entries}
use Rattle.posix_calls.specs.Query.{Seen, File, Dir}
use Rattle.log_record.specs.file_graph.Graph.{Graph, Node, Body, FileBody, DirBody, subjects, is_among}
use Rattle.log_record.specs.file_graph.declared.effect.Kind.{Kind}
use Rattle.log_record.specs.file_graph.declared.effect.Kind.TheVariants as kind
use Rattle.log_record.specs.file_graph.declared.effect.Effect.{Effect}
use Rattle.log_record.specs.file_graph.declared.effect.Effect.TheVariants as effect
use Rattle.call_effects.specs.Wholes.{without_kinds}

-- a file by its size, a directory by its entries, each with its count of names
pub data NodeView : Type 0 where
  FileView : (names size : ℕ) → NodeView
  DirView : (names : ℕ) → (entries : Entries (ℕ × Kind)) → NodeView

-- the view of a body with `names` names
abbrev pub view_of_body : ℕ → Body → NodeView
view_of_body names (FileBody bytes) = FileView names (length bytes)
view_of_body names (DirBody entries) = DirView names entries

-- the view of a node
abbrev pub view_of_node : Node → NodeView
view_of_node n = view_of_body n.names n.body

-- the view of what stands at an inode, if a node does
abbrev pub view_at : Graph → ℕ → Option NodeView
view_at g i = option_map view_of_node (g i)

-- a view as a call sees it
abbrev pub view_seen : NodeView → Seen
view_seen (FileView names size) = File names size
view_seen (DirView names entries) = Dir (without_kinds entries)

-- whether a view is of a directory
abbrev pub view_is_dir : NodeView → Bool
view_is_dir (FileView names size) = false
view_is_dir (DirView names entries) = true

-- the entries of what is seen at an inode; what is no directory has none
abbrev pub view_entries : Option NodeView → Entries (ℕ × Kind)
view_entries None = fin.empty
view_entries (Some (FileView names size)) = fin.empty
view_entries (Some (DirView names entries)) = entries

-- ---- what effects make of a view

-- a new node of a kind
abbrev pub empty_view : Kind → NodeView
empty_view kind.File = FileView 0 0
empty_view kind.Directory = DirView 0 fin.empty

-- a directory's entries changed; a file stays
abbrev pub in_entries : (Entries (ℕ × Kind) → Entries (ℕ × Kind)) → NodeView → NodeView
in_entries f (FileView names size) = FileView names size
in_entries f (DirView names entries) = DirView names (f entries)

-- a file's size changed; a directory stays
abbrev pub in_size : (ℕ → ℕ) → NodeView → NodeView
in_size f (FileView names size) = FileView names (f size)
in_size f (DirView names entries) = DirView names entries

-- the count of names changed
abbrev pub with_names : ℕ → NodeView → NodeView
with_names n (FileView names size) = FileView n size
with_names n (DirView names entries) = DirView n entries

-- what an effect makes of the view of a subject by what is seen there alone; what a Swap does depends on two
abbrev pub view_acted : Effect → Option NodeView → Option NodeView
view_acted (effect.Make i k) old = Some (empty_view k)
view_acted (effect.Enter d i k name) old = option_map (in_entries (λ es. fin.insert es name (i, k))) old
view_acted (effect.Leave d name) old = option_map (in_entries (λ es. fin.remove es name)) old
view_acted (effect.Names i n) old = option_map (with_names n) old
view_acted (effect.Size i size) old = option_map (in_size (λ _. size)) old
view_acted (effect.Bytes i at new) old = option_map (in_size (λ size. max size (at + length new))) old
view_acted (effect.Drop i) old = None
view_acted (effect.Swap d a e b) old = old

-- the view of an inode after effects, one after the other
abbrev pub view_after : List Effect → ℕ → Option NodeView → Option NodeView
view_after [] i view = view
view_after (e ∷ es) i view = view_after es i (if is_among i (subjects e) then view_acted e view else view)
