use Rattle.std.proofs.Common.{◌≡◌, ℕ, Some, true}
use Rattle.tier_device.specs.declared.media.Tier.{Tier}
use Rattle.inode_plan.specs.layout.declared.slot.Slot.{Slot}
use Rattle.inode_plan.specs.layout.Places.{Sizes, IsAllowed}
use Rattle.inode_plan.specs.extent_tree.Map.{TierRuns, lies_at}
use Rattle.inode_plan.specs.area_reader.Store.{Store, place}
use Rattle.inode_plan.specs.area_reader.Format.{IsSpelled}
use Rattle.inode_plan.specs.area_commit.declared.plan.Rewrite.{Rewrite}
use Rattle.inode_plan.specs.area_commit.Plan.{is_rewritten, IsPlanned}
use Rattle.inode_plan.specs.area_commit.PlanOutcome.{IsCarriedOut}
use Rattle.change_plan.proofs.Lying.{places_got, places_kept, blocks_lie, place_stays}
use Rattle.change_plan.proofs.laws.carried_out_blocks_lie_in_their_places.Goals as goal

pub returns : goal.returns
returns c =
    let read : (g : Sizes) (s : Store) (x : ℕ → Slot) (m : ℕ → TierRuns) (plan : Rewrite) (new : Store) → IsAllowed g → IsSpelled g s → IsPlanned g s x m plan → IsCarriedOut g s plan new → (i : ℕ) → is_rewritten plan i ≡ true → (t : Tier) (k : ℕ) → place g new i t k ≡ lies_at (m i) t k =
    λ g s x m plan new allowed spelled planned done i its t k. (let a = c.carried_out_inodes_are_written_anew.ensures g s x m plan new spelled planned done in c.written_inode_is_read.ensures.places g new i (x i) (m i) allowed (a.inodes i its) (a.fit i its) (a.written i its) t k) in
    record {
      got = λ g s cs touch x m plan inodes parts first. (parts.laid.blocks, places_got g s cs touch x m plan parts inodes first);
      written = λ g s cs touch x m plan new allowed spelled inodes parts planned done first. blocks_lie g s cs touch x m plan parts planned new done (read g s x m plan new allowed spelled planned done) inodes first;
      kept = λ g s cs touch i x m plan new allowed spelled parts planned done its file. places_kept g s cs touch x m plan parts planned new done (read g s x m plan new allowed spelled planned done) i its file;
      others = λ g s cs touch i x m plan new allowed spelled tidy parts planned done none t k.
          (let rewrites = c.carried_out_change_is_the_graph_after.ensures.rewrites g s cs touch x m plan new allowed spelled tidy parts planned done in
          place_stays t (place g new i t k) (place g s i t k) (c.rewritten_inodes_are_spelled.ensures.uses_stay g (is_rewritten plan) s new rewrites (record { inode = i; tier = t; logical = Some k }) none));
    }
