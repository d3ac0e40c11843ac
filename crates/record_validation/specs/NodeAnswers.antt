-- What a call sees of a node that is known without its bytes.
use Rattle.std.specs.Prelude.{ℕ, Option, Some, None}
use Rattle.std.specs.FinMap as fin
use Rattle.posix_calls.specs.Content.{Entries}
use Rattle.posix_calls.specs.Query.{Seen}
use Rattle.call_effects.specs.file_graph.declared.effect.Kind.{Kind}
use Rattle.call_effects.specs.NodeView.{NodeView, FileView, DirView, view_seen}

-- a node as a call sees it
abbrev pub seen_node : NodeView → Option Seen
seen_node v = Some (view_seen v)

-- the entries of a directory; a file has none
abbrev pub entries_of : NodeView → Entries (ℕ × Kind)
entries_of (FileView names size) = fin.empty
entries_of (DirView names entries) = entries

-- how many bytes a file has
abbrev pub size_of : NodeView → Option ℕ
size_of (FileView names size) = Some size
size_of (DirView names entries) = None
