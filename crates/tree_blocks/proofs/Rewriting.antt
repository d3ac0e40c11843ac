-- What is written of an inode for a change is the inode after it.
use Rattle.std.proofs.Common.{◌≡◌, ℕ, ◌<◌, sym, ◌∙◌, ap, subst, arith, Some, None, List}
use Rattle.std.specs.FinMap as fin
use Rattle.graph_change.specs.file_graph.declared.effect.Kind.TheVariants as kind
use Rattle.graph_change.specs.Net.{Gone, EntryChanges, entries_after}
use Rattle.graph_change.specs.Change.{Change, net_of}
use Rattle.graph_change.specs.Tidy.{IsTidyChange}
use Rattle.tree_blocks.specs.Inode.{LogicalBlocks, Entry, Inode, entry_at, named_entries, blocks_for, IsZeroFrom, IsConsistent, IsConsistentBy}
use Rattle.tree_blocks.specs.After.{start_node, BodyAfter, IsDirectoryAfter, IsInodeAfter}
use Rattle.tree_blocks.specs.Directory.{EntryBlocks, numbered_blocks}
use Rattle.tree_blocks.specs.InodeRewrite.{IsFileRewritten, IsDirectoryRewritten}
use Rattle.tree_blocks.proofs.Alike.{mapped_same, entries_same, consistent_by}
use Rattle.tree_blocks.proofs.Edited.{started_consistent}
use Rattle.tree_blocks.proofs.FileBlocks.{file_law}

-- an inode of no kind has no body
pub none_after : (number : ℕ) (c : Change) (old new : Inode) → (start_node c.base old).kind ≡ None → new.kind ≡ None → IsInodeAfter number (net_of c) old new
none_after number c old new bare free = record { kind = free ∙ sym bare; body = subst (λ k. BodyAfter number k (net_of c) (start_node c.base old) new) (sym bare) tt }

pub gone_after : (number : ℕ) (c : Change) (old new : Inode) → c.base ≡ Gone → new.kind ≡ None → IsInodeAfter number (net_of c) old new
gone_after number c old new gone free = none_after number c old new (ap (λ b. (start_node b old).kind) gone) free

pub file_after : (number : ℕ) (c : Change) (old new : Inode) → IsTidyChange c → IsConsistent number old → IsFileRewritten c (start_node c.base old) new → IsInodeAfter number (net_of c) old new
file_after number c old new tidy is written =
    let start = start_node c.base old in
    let zeros : IsZeroFrom start.size start.blocks = subst (λ k. IsConsistentBy number k start.size start.blocks) written.is_file (started_consistent number c.base old is) in
    record {
      kind = written.slot.kind;
      body = subst (λ k. BodyAfter number k (net_of c) start new) (sym written.is_file)
          (written.slot.names, file_law c start.size new.size start.blocks new.blocks tidy.bytes zeros written.size written.blocks);
    }

-- blocks that are the same as far as they are read have the same entries
named_same : (n : ℕ) (b c : LogicalBlocks) → ((k : ℕ) → k < blocks_for n → c k ≡ b k) → named_entries (entry_at c) n ≡ named_entries (entry_at b) n
named_same n b c same = ap (λ (es : List Entry). fin.from_entries es) (mapped_same (entry_at c) (entry_at b) 0 n (λ e lt. entries_same n b c same e (omega (arith, lt))))

directory_by : (number : ℕ) (cs : EntryChanges) (n m : ℕ) (b c x y : LogicalBlocks) → ((k : ℕ) → k < blocks_for n → x k ≡ b k) → ((k : ℕ) → k < blocks_for m → y k ≡ c k) → IsDirectoryAfter number cs n b m c → IsDirectoryAfter number cs n x m y
directory_by number cs n m b c x y old new after = record {
  entries = named_same m c y new ∙ after.entries ∙ ap (entries_after cs) (sym (named_same n b x old));
  directory = consistent_by number (Some kind.Directory) m c y new after.directory;
}

pub directory_after : (number : ℕ) (c : Change) (before after : EntryBlocks) (old new : Inode) → IsDirectoryRewritten number c before after (start_node c.base old) new → IsInodeAfter number (net_of c) old new
directory_after number c before after old new written =
    let start = start_node c.base old in
    let one = directory_by number c.entries before.count after.count (numbered_blocks before.blocks) (numbered_blocks after.blocks) start.blocks new.blocks written.read.blocks written.written.blocks written.changed in
    let two = subst (λ n. IsDirectoryAfter number c.entries n start.blocks after.count new.blocks) (sym written.read.count) one in
    let three = subst (λ m. IsDirectoryAfter number c.entries start.size start.blocks m new.blocks) (sym written.written.count) two in
    record { kind = written.slot.kind; body = subst (λ k. BodyAfter number k (net_of c) start new) (sym written.is_directory) (written.slot.names, three) }
