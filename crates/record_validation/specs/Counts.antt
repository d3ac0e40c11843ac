-- A node by numbers alone, and what effects make of them.
use Rattle.std.specs.Prelude.{ℕ, ◌+◌, ◌-◌, max, List, [], ◌∷◌, length, Bool, true, false, Option, Some, None, option_map, unwrap_or, if◌then◌else◌}
use Rattle.std.specs.Ordering.{nat_cmp, eq_by_cmp}
use Rattle.std.specs.Cmp.Lexicographic.{slice_cmp}
use Rattle.std.specs.FinMap as fin
use Rattle.posix_calls.specs.Units.{file_units, directory_units}
use Rattle.call_effects.specs.file_graph.declared.effect.Kind.{Kind}
use Rattle.call_effects.specs.file_graph.declared.effect.Kind.TheVariants as kind
use Rattle.call_effects.specs.file_graph.declared.effect.Effect.{Effect}
use Rattle.call_effects.specs.file_graph.declared.effect.Effect.TheVariants as effect
use Rattle.call_effects.specs.file_graph.Graph.{subjects, is_among}
use Rattle.call_effects.specs.NodeView.{NodeView, FileView, DirView, view_after}
use Rattle.record_validation.specs.declared.node_counts.NodeCounts.{NodeCounts}
use Rattle.record_validation.specs.declared.node_counts.NodeCounts.TheVariants as counts

-- a view by numbers alone
abbrev pub counts_of : NodeView → NodeCounts
counts_of (FileView names size) = counts.File names size
counts_of (DirView names entries) = counts.Directory names (fin.len entries)

-- the numbers of what stands at an inode after effects, one after the other; a Swap leaves them
abbrev pub counts_after : List Effect → ℕ → Option NodeView → Option NodeCounts
counts_after es i v = option_map counts_of (view_after es i v)

-- units of what has these numbers
abbrev pub counts_cost : Option NodeCounts → ℕ
counts_cost None = 0
counts_cost (Some (counts.File names size)) = file_units size
counts_cost (Some (counts.Directory names entries)) = directory_units entries

-- how many entries there are
abbrev pub entry_count : Option NodeCounts → ℕ
entry_count None = 0
entry_count (Some (counts.File names size)) = 0
entry_count (Some (counts.Directory names entries)) = entries

-- ---- one name of a directory

-- whether a directory has an entry of a name; none where there is no directory
abbrev pub entry_in : List ℕ → Option NodeView → Option Bool
entry_in name None = None
entry_in name (Some (FileView names size)) = None
entry_in name (Some (DirView names entries)) = Some (fin.contains_key entries name)

-- whether there is an entry of any name in a new node
abbrev pub empty_entry : Kind → Option Bool
empty_entry kind.File = None
empty_entry kind.Directory = Some false

-- whether an effect on the inode leaves an entry of a name there, by whether there was one
abbrev pub entry_acted : List ℕ → Effect → Option Bool → Option Bool
entry_acted name (effect.Make i k) old = empty_entry k
entry_acted name (effect.Enter d i k entered) old = option_map (λ was. if eq_by_cmp (slice_cmp nat_cmp) name entered then true else was) old
entry_acted name (effect.Leave d left) old = option_map (λ was. if eq_by_cmp (slice_cmp nat_cmp) name left then false else was) old
entry_acted name (effect.Names i n) old = old
entry_acted name (effect.Size i size) old = old
entry_acted name (effect.Bytes i at new) old = old
entry_acted name (effect.Drop i) old = None
entry_acted name (effect.Swap d a e b) old = old

-- so of effects, one after the other
abbrev pub entry_after : List ℕ → List Effect → ℕ → Option Bool → Option Bool
entry_after name [] i old = old
entry_after name (e ∷ es) i old = entry_after name es i (if is_among i (subjects e) then entry_acted name e old else old)

-- ---- the numbers

-- whether there is an entry of the name that an effect enters or takes out
abbrev pub is_named : Effect → Option NodeView → Bool
is_named (effect.Make i k) v = false
is_named (effect.Enter d i k name) v = unwrap_or (entry_in name v) false
is_named (effect.Leave d name) v = unwrap_or (entry_in name v) false
is_named (effect.Names i n) v = false
is_named (effect.Size i size) v = false
is_named (effect.Bytes i at new) v = false
is_named (effect.Drop i) v = false
is_named (effect.Swap d a e b) v = false

-- a directory's count of entries changed; a file stays
abbrev pub in_count : (ℕ → ℕ) → NodeCounts → NodeCounts
in_count f (counts.File names size) = counts.File names size
in_count f (counts.Directory names entries) = counts.Directory names (f entries)

-- a file's size changed; a directory stays
abbrev pub in_length : (ℕ → ℕ) → NodeCounts → NodeCounts
in_length f (counts.File names size) = counts.File names (f size)
in_length f (counts.Directory names entries) = counts.Directory names entries

-- the count of names changed
abbrev pub with_count : ℕ → NodeCounts → NodeCounts
with_count n (counts.File names size) = counts.File n size
with_count n (counts.Directory names entries) = counts.Directory n entries

-- the numbers of a new node of a kind
abbrev pub empty_counts : Kind → NodeCounts
empty_counts kind.File = counts.File 0 0
empty_counts kind.Directory = counts.Directory 0 0

-- the numbers after an effect on the inode, by whether there was an entry of the name in it
abbrev pub counts_acted : Effect → Bool → Option NodeCounts → Option NodeCounts
counts_acted (effect.Make i k) was old = Some (empty_counts k)
counts_acted (effect.Enter d i k name) was old = option_map (in_count (λ n. if was then n else n + 1)) old
counts_acted (effect.Leave d name) was old = option_map (in_count (λ n. if was then n - 1 else n)) old
counts_acted (effect.Names i n) was old = option_map (with_count n) old
counts_acted (effect.Size i size) was old = option_map (in_length (λ _. size)) old
counts_acted (effect.Bytes i at new) was old = option_map (in_length (λ size. max size (at + length new))) old
counts_acted (effect.Drop i) was old = None
counts_acted (effect.Swap d a e b) was old = old
