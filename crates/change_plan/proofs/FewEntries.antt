-- A directory that is left few entries has few of them once it is changed in memory.
use Rattle.std.proofs.Common.{◌≡◌, ◌≤◌, ◌∙◌, ℕ, List, Option, Some, ap, subst, arith}
use Rattle.std.specs.Prelude.{option_map}
use Rattle.std.specs.FinMap as fin
use Rattle.posix_calls.specs.Content.{Entries}
use Rattle.posix_calls.specs.declared.limits.TheConstants.{MAX_ENTRIES}
use Rattle.inode_plan.specs.file_graph.declared.effect.Kind.{Kind}
use Rattle.inode_plan.specs.file_graph.declared.effect.Kind.TheVariants as kind
use Rattle.inode_plan.specs.graph_change.Change.{Change, net_of}
use Rattle.inode_plan.specs.graph_change.Net.{Base, Kept, Made, Gone, Net, Child, base_node, edited_node, node_after, entries_after}
use Rattle.inode_plan.specs.tree_blocks.After.{start_node}
use Rattle.inode_plan.specs.tree_blocks.Directory.{EntryBlocks, numbered_blocks, numbered_entries}
use Rattle.inode_plan.specs.tree_blocks.Inode.{Entry, Inode, entry_at, named_entries, node_by, node_of}
use Rattle.inode_plan.specs.tree_blocks.InodeRewrite.{AreHeldOf}
use Rattle.inode_plan.proofs.tree_blocks_lemmas.Alike.{mapped_same, entries_same}
use Rattle.change_plan.specs.Next.{HasFewEntries}

-- ---- of the node that the change starts from

few_started : (base : Base) (net : Net) (old : Inode) → HasFewEntries (option_map (edited_node net) (base_node base (node_of old))) → HasFewEntries (option_map (edited_node net) (node_of (start_node base old)))
few_started Kept net old few = few
few_started (Made kind.File) net old few = few
few_started (Made kind.Directory) net old few = few
few_started Gone net old few = few

few_in : (net : Net) (x : Inode) → x.kind ≡ Some kind.Directory → HasFewEntries (option_map (edited_node net) (node_of x)) → fin.len (entries_after net.entries (named_entries (entry_at x.blocks) x.size)) ≤ MAX_ENTRIES
few_in net x is few = subst (λ (k : Option Kind). HasFewEntries (option_map (edited_node net) (node_by k x.names x.size x.blocks))) is few

-- ---- as it is in memory

held_names : (d : EntryBlocks) (x : Inode) → AreHeldOf d x → named_entries (entry_at x.blocks) d.count ≡ named_entries (numbered_entries d) d.count
held_names d x held = ap (λ (es : List Entry). fin.from_entries es) (mapped_same (entry_at x.blocks) (entry_at (numbered_blocks d.blocks)) 0 d.count (λ e lt. entries_same d.count (numbered_blocks d.blocks) x.blocks held.blocks e (omega (arith, lt))))

pub few_after : (c : Change) (old : Inode) (d : EntryBlocks) → (start_node c.base old).kind ≡ Some kind.Directory → AreHeldOf d (start_node c.base old) → HasFewEntries (node_after (net_of c) (node_of old)) → fin.len (entries_after c.entries (named_entries (numbered_entries d) d.count)) ≤ MAX_ENTRIES
few_after c old d is held few =
    let x : Inode = start_node c.base old in
    let first = few_in (net_of c) x is (few_started c.base (net_of c) old few) in
    let count : named_entries (entry_at x.blocks) x.size ≡ named_entries (entry_at x.blocks) d.count = ap (λ (n : ℕ). named_entries (entry_at x.blocks) n) held.count in
    subst (λ (es : Entries Child). fin.len (entries_after c.entries es) ≤ MAX_ENTRIES) (count ∙ held_names d x held) first
