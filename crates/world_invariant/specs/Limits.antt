-- The limits of what stands at an inode. They are kept between digests too, where the shared graph is no tree.
use Rattle.std.specs.Prelude.{◌≡◌, ℕ, ◌≤◌, List, length, true, Option, Some, None}
use Rattle.std.specs.FinMap as fin
use Rattle.posix_calls.specs.Content.{Entries}
use Rattle.posix_calls.specs.Name.{is_name}
use Rattle.posix_calls.specs.declared.limits.TheConstants.{ROOT, MAX_INODE, MAX_FILE, MAX_ENTRIES, MAX_NAMES}
use Rattle.call_effects.specs.file_graph.Graph.{Graph, Node, Body, FileBody, DirBody}
use Rattle.call_effects.specs.file_graph.declared.effect.Kind.{Kind}

-- no more entries than a directory may have, each under a name that is one, and of an inode number
pub record AreEntriesWithin (es : Entries (ℕ × Kind)) : Type 0 where
  pub few : fin.len es ≤ MAX_ENTRIES
  pub valid : (name : List ℕ) (e : ℕ × Kind) → fin.get es name ≡ Some e → is_name name ≡ true
  pub numbered : (name : List ℕ) (e : ℕ × Kind) → fin.get es name ≡ Some e → (ROOT ≤ e.0) × (e.0 ≤ MAX_INODE)

abbrev pub IsBodyWithin : Body → Type 0
IsBodyWithin (FileBody bytes) = length bytes ≤ MAX_FILE
IsBodyWithin (DirBody es) = AreEntriesWithin es

pub record IsNodeWithin (i : ℕ) (n : Node) : Type 0 where
  pub low : ROOT ≤ i
  pub high : i ≤ MAX_INODE
  pub names : n.names ≤ MAX_NAMES
  pub body : IsBodyWithin n.body

-- what stands at an inode, if anything does, is within the limits
abbrev pub IsWithin : ℕ → Option Node → Type 0
IsWithin i None = Unit {0}
IsWithin i (Some n) = IsNodeWithin i n

-- so is all of a graph
abbrev pub AreWithin : Graph → Type 0
AreWithin g = (i : ℕ) → IsWithin i (g i)
