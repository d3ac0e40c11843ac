use Rattle.std.proofs.Common.{◌≡◌, ℕ, Bool, true}
use Rattle.area_reader.specs.layout.declared.slot.Slot.{Slot}
use Rattle.area_reader.specs.layout.Places.{Sizes, IsAllowed}
use Rattle.area_reader.specs.tree_blocks.Inode.{IsConsistent}
use Rattle.area_reader.specs.extent_tree.Map.{TierRuns}
use Rattle.area_reader.specs.Store.{Store, inode}
use Rattle.area_reader.specs.Format.{IsSpelled}
use Rattle.area_reader.specs.Rewrites.{Rewrites}
use Rattle.area_commit.specs.StoreRewrite.{AreWrittenAnew}
use Rattle.area_commit.proofs.TakenPlaces.{are_rewritten}
use Rattle.area_commit.proofs.inode_laws.written_inodes_are_rewritten.Goals as goal

pub returns : goal.returns
returns c =
    let rewrites : (g : Sizes) (rewritten : ℕ → Bool) (x : ℕ → Slot) (m : ℕ → TierRuns) (old new : Store) → IsAllowed g → IsSpelled g old → AreWrittenAnew g rewritten x m old new → ((i : ℕ) → rewritten i ≡ true → IsConsistent i (inode g new i)) → Rewrites g rewritten old new = λ g rewritten x m old new allowed before anew consistent. are_rewritten g rewritten x m old new (record { roots = c.places_are_in_pools.ensures.roots g old; places = c.places_are_in_pools.ensures.places g old }) (c.free_blocks_have_no_use.ensures g old) before.apart anew
    (λ i its. c.written_inode_is_spelled.ensures g new i (x i) (m i) allowed (anew.inodes i its) (anew.fit i its) (anew.written i its) (consistent i its))
    (λ i its t k. c.written_inode_is_read.ensures.uses g new i (x i) (m i) allowed (anew.inodes i its) (anew.fit i its) (anew.written i its) t k) in
    record {
      rewrites = rewrites;
      spelled = λ g rewritten x m old new allowed before anew consistent. c.rewritten_inodes_are_spelled.ensures.spelled g rewritten old new before (rewrites g rewritten x m old new allowed before anew consistent);
    }
