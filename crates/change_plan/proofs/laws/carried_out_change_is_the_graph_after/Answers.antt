use Rattle.std.proofs.Common.{◌≡◌, ℕ, Option, true, inl, inr, subst, sym, ap}
use Rattle.std.specs.Prelude.{unwrap_or}
use Rattle.inode_plan.specs.graph_change.Change.{Changes, change_at, net_of}
use Rattle.inode_plan.specs.graph_change.Tidy.{AreTidyChanges}
use Rattle.inode_plan.specs.layout.declared.slot.Slot.{Slot}
use Rattle.inode_plan.specs.layout.declared.slot.Slot.TheVariants as slots
use Rattle.inode_plan.specs.layout.Places.{Sizes, IsAllowed}
use Rattle.inode_plan.specs.tree_blocks.After.{IsInodeAfter}
use Rattle.inode_plan.specs.extent_tree.Map.{TierRuns}
use Rattle.inode_plan.specs.area_reader.Store.{Store, inode}
use Rattle.inode_plan.specs.area_reader.Format.{IsSpelled}
use Rattle.inode_plan.specs.area_commit.InodeRewrite.{IsWritten}
use Rattle.inode_plan.specs.area_commit.StoreRewrite.{AreWrittenAnew}
use Rattle.inode_plan.specs.area_commit.declared.plan.Rewrite.{Rewrite}
use Rattle.inode_plan.specs.area_commit.Plan.{is_rewritten, IsPlanned}
use Rattle.inode_plan.specs.area_commit.PlanOutcome.{IsCarriedOut}
use Rattle.change_plan.specs.Part.{IsWrittenFor, IsTouchedBy}
use Rattle.change_plan.specs.Parts.{AreParts, share_of}
use Rattle.change_plan.proofs.Summed.{written_for}
use Rattle.change_plan.proofs.laws.carried_out_change_is_the_graph_after.Goals as goal

pub returns : goal.returns
returns c =
    let anew : (g : Sizes) (s : Store) (x : ℕ → Slot) (m : ℕ → TierRuns) (plan : Rewrite) (new : Store) → IsSpelled g s → IsPlanned g s x m plan → IsCarriedOut g s plan new → AreWrittenAnew g (is_rewritten plan) x m s new =
    λ g s x m plan new spelled planned done. c.carried_out_inodes_are_written_anew.ensures g s x m plan new spelled planned done in
    let by : (g : Sizes) (s : Store) (cs : Changes) (x : ℕ → Slot) (m : ℕ → TierRuns) (plan : Rewrite) (new : Store) → IsAllowed g → IsSpelled g s → AreTidyChanges cs → AreWrittenAnew g (is_rewritten plan) x m s new → (i : ℕ) → is_rewritten plan i ≡ true → IsWrittenFor g (change_at cs i) s new i (x i) (m i) → IsInodeAfter i (net_of (change_at cs i)) (inode g s i) (inode g new i) =
    λ g s cs x m plan new allowed spelled tidy a i its is. elim is [
      | inl file ↦ (c.written_file_is_rewritten.ensures.after g (change_at cs i) s new i (x i) (m i) allowed (a.inodes i its) (a.fit i its) (a.written i its) file (tidy i) (spelled.inodes i (a.inodes i its)).consistent).0
      | inr (inl directory) ↦ (c.written_directory_is_rewritten.ensures.after g (change_at cs i) directory.0 directory.1 s new i (x i) (m i) allowed (a.inodes i its) (a.fit i its) (a.written i its) directory.2 (spelled.inodes i (a.inodes i its)).consistent).0
      | inr (inr gone) ↦ c.written_free_slot_is_inode_after.ensures.after g (change_at cs i) s new i (m i) allowed (a.inodes i its) gone.runs (subst (λ (y : Slot). IsWritten new i y (m i)) gone.slot_is (a.written i its)) gone.none
    ] in
    let after : (g : Sizes) (s : Store) (cs : Changes) (touch : ℕ) (x : ℕ → Slot) (m : ℕ → TierRuns) (plan : Rewrite) (new : Store) → IsAllowed g → IsSpelled g s → AreTidyChanges cs → AreParts g s cs touch x m plan.slots.items (share_of plan.taken) plan.bytes.items plan.nodes plan.lost → IsPlanned g s x m plan → IsCarriedOut g s plan new → (i : ℕ) → is_rewritten plan i ≡ true → IsInodeAfter i (net_of (change_at cs i)) (inode g s i) (inode g new i) =
    λ g s cs touch x m plan new allowed spelled tidy parts planned done i its. by g s cs x m plan new allowed spelled tidy (anew g s x m plan new spelled planned done) i its (written_for g s cs touch x m plan parts planned new done i its) in
    record {
      rewrites = λ g s cs touch x m plan new allowed spelled tidy parts planned done. c.changed_store_spells_the_graph_after.ensures.rewrites g cs (is_rewritten plan) x m s new allowed spelled (anew g s x m plan new spelled planned done) (after g s cs touch x m plan new allowed spelled tidy parts planned done);
      spelled = λ g s cs touch x m plan new allowed spelled tidy parts planned done. c.changed_store_spells_the_graph_after.ensures.spelled g cs (is_rewritten plan) x m s new allowed spelled (anew g s x m plan new spelled planned done) (after g s cs touch x m plan new allowed spelled tidy parts planned done);
      graph = λ g s cs touch x m plan new allowed spelled tidy inodes parts planned done. c.changed_store_spells_the_graph_after.ensures.graph_after g cs (is_rewritten plan) x m s new allowed spelled (anew g s x m plan new spelled planned done) inodes (after g s cs touch x m plan new allowed spelled tidy parts planned done);
      touched = λ g s cs touch i x m plan new allowed spelled tidy parts planned done its. (let a = anew g s x m plan new spelled planned done in subst (λ (y : Slot). IsTouchedBy touch y) (sym (ap (λ (o : Option Slot). unwrap_or o slots.Free) (c.written_inode_is_read.ensures.slot_is g new i (x i) (m i) allowed (a.inodes i its) (a.fit i its) (a.written i its)))) (parts.touched i its));
    }
