-- The sum of effects at one inode, whatever stood there before.
use Rattle.std.specs.Prelude.{ℕ, List, [], ◌∷◌, Option, Some, None, option_map}
use Rattle.std.specs.FinMap as fin
use Rattle.posix_calls.specs.Content.{Entries}
use Rattle.file_graph.specs.Graph.{Node, Body, FileBody, DirBody, empty_body}
use Rattle.file_graph.specs.declared.effect.Kind.{Kind}
use Rattle.file_graph.specs.declared.effect.Effect.{Effect}
use Rattle.file_graph.specs.declared.effect.Effect.TheVariants as effect
use Rattle.graph_change.specs.Bytes.{BytesChange, no_bytes, bytes_after, with_size, with_write}

-- what an entry leads to
abbrev pub Child : Type 0
Child = ℕ × Kind

-- what stands at each of some names of a directory: none where the name was taken out
abbrev pub EntryChanges : Type 0
EntryChanges = Entries (Option Child)

-- a directory's entries with one name changed
abbrev pub with_entry : List ℕ → Option Child → Entries Child → Entries Child
with_entry name None es = fin.remove es name
with_entry name (Some child) es = fin.insert es name child

-- with each of these names changed
abbrev pub with_entries : List (List ℕ × Option Child) → Entries Child → Entries Child
with_entries [] es = es
with_entries (c ∷ cs) es = with_entry c.0 c.1 (with_entries cs es)

-- a directory's entries after changes
abbrev pub entries_after : EntryChanges → Entries Child → Entries Child
entries_after cs es = with_entries (fin.entries cs) es

-- what the rest of a change starts from: the node that was there, a new empty one, or none
pub data Base : Type 0 where
  Kept : Base
  Made : (kind : Kind) → Base
  Gone : Base

-- the net change of one inode: of each part the last word; none where nothing was said of it
pub record Net : Type 0 where
  pub base : Base
  pub names : Option ℕ
  pub bytes : BytesChange
  pub entries : EntryChanges

-- nothing but a base
abbrev pub from_base : Base → Net
from_base base = record { base = base; names = None; bytes = no_bytes; entries = fin.empty }

-- ---- what it makes of a node

-- what the rest starts from
abbrev pub base_node : Base → Option Node → Option Node
base_node Kept old = old
base_node (Made kind) old = Some (record { names = 0; body = empty_body kind })
base_node Gone old = None

-- the number of names after it
abbrev pub names_after : Option ℕ → ℕ → ℕ
names_after None old = old
names_after (Some n) old = n

-- a file's bytes or a directory's entries after it
abbrev pub body_after : BytesChange → EntryChanges → Body → Body
body_after bytes entries (FileBody old) = FileBody (bytes_after bytes old)
body_after bytes entries (DirBody old) = DirBody (entries_after entries old)

-- a node after the parts of it
abbrev pub edited_node : Net → Node → Node
edited_node c n = record { names = names_after c.names n.names; body = body_after c.bytes c.entries n.body }

-- what stands at the inode after it
abbrev pub node_after : Net → Option Node → Option Node
node_after c old = option_map (edited_node c) (base_node c.base old)

-- ---- one more effect

-- the net change with one more effect on the inode
abbrev pub net_after : Effect → Net → Net
net_after (effect.Make i kind) c = from_base (Made kind)
net_after (effect.Enter d i kind name) c = record c { entries = fin.insert c.entries name (Some (i, kind)) }
net_after (effect.Leave d name) c = record c { entries = fin.insert c.entries name None }
net_after (effect.Names i n) c = record c { names = Some n }
net_after (effect.Size i size) c = record c { bytes = with_size size c.bytes }
net_after (effect.Bytes i at bytes) c = record c { bytes = with_write at bytes c.bytes }
net_after (effect.Drop i) c = from_base Gone
net_after (effect.Swap d a e b) c = c
