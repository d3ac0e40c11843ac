use Rattle.std.proofs.Common.{◌≡◌, ℕ, true, sym, subst}
use Rattle.area_reader.specs.graph_change.Change.{Change, net_of}
use Rattle.area_reader.specs.layout.declared.slot.Slot.{Slot}
use Rattle.area_reader.specs.layout.Places.{Sizes, IsAllowed, is_inode}
use Rattle.area_reader.specs.tree_blocks.After.{start_node, IsInodeAfter}
use Rattle.area_reader.specs.tree_blocks.Directory.{EntryBlocks}
use Rattle.area_reader.specs.tree_blocks.InodeRewrite.{IsDirectoryRewritten}
use Rattle.area_reader.specs.extent_tree.Map.{TierRuns}
use Rattle.area_reader.specs.Store.{Store, inode}
use Rattle.area_commit.specs.InodeRewrite.{IsWritten, IsFit}
use Rattle.area_commit.specs.InodeChange.{IsDirectoryWritten}
use Rattle.area_commit.proofs.ChangedNodes.{directory_rewritten}
use Rattle.area_commit.proofs.change_laws.written_directory_is_rewritten.Goals as goal

pub returns : goal.returns
returns c =
    let rewritten : (g : Sizes) (d : Change) (before after : EntryBlocks) (old new : Store) (i : ℕ) (x : Slot) (m : TierRuns) → IsAllowed g → is_inode i ≡ true → IsFit g x m → IsWritten new i x m → IsDirectoryWritten g d before after old new i x m → IsDirectoryRewritten i d before after (start_node d.base (inode g old i)) (inode g new i) = λ g d before after old new i x m allowed number fit written changed. subst (IsDirectoryRewritten i d before after (start_node d.base (inode g old i))) (sym (c.written_inode_is_read.ensures.inodes g new i x m allowed number fit written)) (directory_rewritten g d before after old new i x m changed) in
    record {
      rewritten = rewritten;
      after = λ g d before after old new i x m allowed number fit written changed consistent.
          let is : IsInodeAfter i (net_of d) (inode g old i) (inode g new i) = c.rewritten_inode_is_inode_after.ensures.directory i d before after (inode g old i) (inode g new i) (rewritten g d before after old new i x m allowed number fit written changed) in
          (is, (c.inode_after_is_node_after.ensures i (net_of d) (inode g old i) (inode g new i) consistent is).1);
    }
