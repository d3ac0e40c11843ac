use Rattle.std.proofs.Common.{◌≡◌, ℕ, true, sym, subst}
use Rattle.area_reader.specs.layout.declared.slot.Slot.{Slot}
use Rattle.area_reader.specs.layout.Places.{Sizes, IsAllowed, is_inode}
use Rattle.area_reader.specs.tree_blocks.Inode.{AreAlike}
use Rattle.area_reader.specs.extent_tree.Map.{TierRuns}
use Rattle.area_reader.specs.Store.{Store, inode}
use Rattle.area_commit.specs.InodeRewrite.{IsWritten, IsFit}
use Rattle.area_commit.specs.InodeMove.{StaysInode}
use Rattle.area_commit.proofs.Moving.{moved_alike}
use Rattle.area_commit.proofs.move_laws.moved_inode_is_alike.Goals as goal

pub returns : goal.returns
returns c =
    let alike : (g : Sizes) (old new : Store) (i : ℕ) (x : Slot) (m : TierRuns) → IsAllowed g → is_inode i ≡ true → IsFit g x m → IsWritten new i x m → StaysInode g old new i x m → AreAlike (inode g old i) (inode g new i) = λ g old new i x m allowed number fit written moved. subst (AreAlike (inode g old i)) (sym (c.written_inode_is_read.ensures.inodes g new i x m allowed number fit written)) (moved_alike g old new i x m (c.places_are_in_pools.ensures.places g old i) fit.below moved) in
    record {
      alike = alike;
      node = λ g old new i x m allowed number fit written moved. c.alike_inodes_are_one_node.ensures.node (inode g old i) (inode g new i) (alike g old new i x m allowed number fit written moved);
      spelled = λ g old new i x m allowed number fit written moved is. c.written_inode_is_spelled.ensures g new i x m allowed number fit written (c.alike_inodes_are_one_node.ensures.consistent i (inode g old i) (inode g new i) (alike g old new i x m allowed number fit written moved) is.consistent);
    }
