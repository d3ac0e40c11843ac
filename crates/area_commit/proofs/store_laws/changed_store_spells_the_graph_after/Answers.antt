use Rattle.std.proofs.Common.{◌≡◌, ℕ, Bool, true}
use Rattle.area_reader.specs.graph_change.Change.{Changes, change_at, net_of}
use Rattle.area_reader.specs.layout.declared.slot.Slot.{Slot}
use Rattle.area_reader.specs.layout.Places.{Sizes}
use Rattle.area_reader.specs.tree_blocks.Inode.{IsConsistent}
use Rattle.area_reader.specs.tree_blocks.After.{IsInodeAfter}
use Rattle.area_reader.specs.extent_tree.Map.{TierRuns}
use Rattle.area_reader.specs.Store.{Store, inode}
use Rattle.area_reader.specs.Format.{IsSpelled}
use Rattle.area_commit.specs.StoreRewrite.{AreWrittenAnew}
use Rattle.area_commit.proofs.store_laws.changed_store_spells_the_graph_after.Goals as goal

pub returns : goal.returns
returns c =
    let consistent : (g : Sizes) (cs : Changes) (rewritten : ℕ → Bool) (x : ℕ → Slot) (m : ℕ → TierRuns) (old new : Store) → IsSpelled g old → AreWrittenAnew g rewritten x m old new → ((i : ℕ) → rewritten i ≡ true → IsInodeAfter i (net_of (change_at cs i)) (inode g old i) (inode g new i)) → (i : ℕ) → rewritten i ≡ true → IsConsistent i (inode g new i) = λ g cs rewritten x m old new before anew after i its. (c.inode_after_is_node_after.ensures i (net_of (change_at cs i)) (inode g old i) (inode g new i) (before.inodes i (anew.inodes i its)).consistent (after i its)).1 in
    record {
      rewrites = λ g cs rewritten x m old new allowed before anew after. c.written_inodes_are_rewritten.ensures.rewrites g rewritten x m old new allowed before anew (consistent g cs rewritten x m old new before anew after);
      spelled = λ g cs rewritten x m old new allowed before anew after. c.written_inodes_are_rewritten.ensures.spelled g rewritten x m old new allowed before anew (consistent g cs rewritten x m old new before anew after);
      graph_after = λ g cs rewritten x m old new allowed before anew keys after. c.changed_inodes_are_the_graph_after.ensures g cs rewritten old new before (c.written_inodes_are_rewritten.ensures.rewrites g rewritten x m old new allowed before anew (consistent g cs rewritten x m old new before anew after)) keys after;
    }
