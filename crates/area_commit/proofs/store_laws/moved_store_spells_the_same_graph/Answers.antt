use Rattle.std.proofs.Common.{◌≡◌, ℕ, Bool, true}
use Rattle.area_reader.specs.layout.declared.slot.Slot.{Slot}
use Rattle.area_reader.specs.layout.Places.{Sizes, IsAllowed}
use Rattle.area_reader.specs.tree_blocks.Inode.{IsConsistent, AreAlike}
use Rattle.area_reader.specs.extent_tree.Map.{TierRuns}
use Rattle.area_reader.specs.Store.{Store, inode}
use Rattle.area_reader.specs.Format.{IsSpelled}
use Rattle.area_commit.specs.InodeMove.{StaysInode}
use Rattle.area_commit.specs.StoreRewrite.{AreWrittenAnew}
use Rattle.area_commit.proofs.store_laws.moved_store_spells_the_same_graph.Goals as goal

pub returns : goal.returns
returns c =
    let alike : (g : Sizes) (rewritten : ℕ → Bool) (x : ℕ → Slot) (m : ℕ → TierRuns) (old new : Store) → IsAllowed g → AreWrittenAnew g rewritten x m old new → ((i : ℕ) → rewritten i ≡ true → StaysInode g old new i (x i) (m i)) → (i : ℕ) → rewritten i ≡ true → AreAlike (inode g old i) (inode g new i) = λ g rewritten x m old new allowed anew moved i its. c.moved_inode_is_alike.ensures.alike g old new i (x i) (m i) allowed (anew.inodes i its) (anew.fit i its) (anew.written i its) (moved i its) in
    let consistent : (g : Sizes) (rewritten : ℕ → Bool) (x : ℕ → Slot) (m : ℕ → TierRuns) (old new : Store) → IsAllowed g → IsSpelled g old → AreWrittenAnew g rewritten x m old new → ((i : ℕ) → rewritten i ≡ true → StaysInode g old new i (x i) (m i)) → (i : ℕ) → rewritten i ≡ true → IsConsistent i (inode g new i) = λ g rewritten x m old new allowed before anew moved i its. c.alike_inodes_are_one_node.ensures.consistent i (inode g old i) (inode g new i) (alike g rewritten x m old new allowed anew moved i its) (before.inodes i (anew.inodes i its)).consistent in
    record {
      rewrites = λ g rewritten x m old new allowed before anew moved. c.written_inodes_are_rewritten.ensures.rewrites g rewritten x m old new allowed before anew (consistent g rewritten x m old new allowed before anew moved);
      spelled = λ g rewritten x m old new allowed before anew moved. c.written_inodes_are_rewritten.ensures.spelled g rewritten x m old new allowed before anew (consistent g rewritten x m old new allowed before anew moved);
      same_graph = λ g rewritten x m old new allowed before anew moved. c.moved_inodes_are_the_same_graph.ensures g rewritten old new (c.written_inodes_are_rewritten.ensures.rewrites g rewritten x m old new allowed before anew (consistent g rewritten x m old new allowed before anew moved)) (alike g rewritten x m old new allowed anew moved);
    }
