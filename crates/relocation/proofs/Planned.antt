-- The plan of a move, put together.
use Rattle.std.proofs.Common.{◌≡◌, ◌≢◌, ◌≤◌, ◌<◌, inl, inr, ◌+◌, ◌∙◌, ℕ, List, [], ◌∷◌, Option, None, length, sym, ap, subst, arith}
use Rattle.std.specs.Prelude.{◌^◌, min}
use Rattle.std.specs.List.{AllByRecursion}
use Rattle.std.proofs.lemmas.List.{length-append}
use Rattle.std.proofs.lemmas.List.FromFn.{length-range_with_len}
use Rattle.tier_device.specs.declared.media.Tier.{Tier}
use Rattle.tier_device.specs.declared.media.Tier.TheVariants as tiers
use Rattle.inode_plan.specs.layout.declared.marks.Marks.{Marks}
use Rattle.inode_plan.specs.layout.declared.slot.Slot.{Slot}
use Rattle.inode_plan.specs.layout.Places.{Sizes, IsAllowed, data_first, tier_blocks}
use Rattle.block_alloc.specs.declared.runs.Run.{Run}
use Rattle.block_alloc.specs.Runs.{run_blocks, blocks_of, AreNormalRuns}
use Rattle.inode_plan.specs.extent_tree.Map.{TierRuns, HasBlock}
use Rattle.inode_plan.specs.area_reader.Store.{Store, logical_block}
use Rattle.inode_plan.specs.area_commit.declared.slots.ChangedSlot.{ChangedSlot}
use Rattle.inode_plan.specs.area_commit.declared.allocation.Allocation.{Allocation}
use Rattle.inode_plan.specs.area_commit.Allocations.{runs_of}
use Rattle.inode_plan.specs.area_commit.Batches.{marks_images}
use Rattle.inode_plan.specs.area_commit.DataWrite.{fences_of, tier_calls, calls_for}
use Rattle.relocation.specs.declared.run_search.MovableRun.{MovableRun}
use Rattle.inode_plan.specs.Lists.{HoldsRun}
use Rattle.inode_plan.specs.area_commit.declared.plan.FreedBlocks.{FreedBlocks}
use Rattle.inode_plan.specs.area_commit.declared.plan.Rewrite.{Rewrite}
use Rattle.inode_plan.specs.area_commit.Plan.{lost_in}
use Rattle.relocation.specs.MovedFile.{IsTakenFor, IsMade, IsReadyMove, IsMovePlan, IsPlanOfMove}
use Rattle.relocation.specs.RunMove.{AreLowestFree, MovesInFewCalls}
use Rattle.relocation.proofs.Fresh.{no_blocks}

-- each block of a tier has a number of 32 bits
pub tier_fits : (g : Sizes) (t : Tier) → IsAllowed g → tier_blocks g t < 2 ^ 32
tier_fits g tiers.Fast allowed = omega (arith, allowed.few_units, allowed.fast)
tier_fits g tiers.Block allowed = omega (arith, allowed.block)
tier_fits g tiers.Slow allowed = omega (arith, allowed.slow)

module _ (g : Sizes) (s : Store) (i : ℕ) (to : Tier) (f : MovableRun) (bytes : List ℕ) (lost : FreedBlocks) (taken : Allocation) (ready : IsReadyMove g s i to f bytes lost taken) where
  pub is_move_plan : (x : Slot) (m : TierRuns) (slots : List ChangedSlot) (nodes : List (ℕ × List ℕ)) (left : List Run) (plan : Rewrite) → IsMade i f to taken slots nodes left x m → plan.slots.items ≡ slots → plan.marks ≡ None → plan.nodes ≡ nodes → plan.taken ≡ taken → plan.bytes.items ≡ bytes
      → plan.lost.nodes.items ≡ left → ((t : Tier) → lost_in plan.lost t ≡ lost_in lost t) → IsMovePlan g s i to f x m plan
  is_move_plan x m slots nodes left plan made slots_are marks_are nodes_are taken_is bytes_are left_is lost_is = record {
    file = ready.run.file;
    took = subst (λ (v : Allocation). IsTakenFor g s f to v) (sym taken_is) ready.took;
    made =
        subst (λ (v : Allocation). IsMade i f to v plan.slots.items plan.nodes plan.lost.nodes.items x m) (sym taken_is) (
        subst (λ (v : List ChangedSlot). IsMade i f to taken v plan.nodes plan.lost.nodes.items x m) (sym slots_are) (
        subst (λ (v : List (ℕ × List ℕ)). IsMade i f to taken slots v plan.lost.nodes.items x m) (sym nodes_are) (subst (λ (v : List Run). IsMade i f to taken slots nodes v x m) (sym left_is) made)
        )
        );
    places = λ t. ap blocks_of (lost_is t) ∙ ready.run.places t;
    some = λ t. subst (AllByRecursion HasBlock) (sym (lost_is t)) (ready.run.some t);
    holds = subst (HoldsRun (logical_block g s i) f.run.first f.run.count) (sym bytes_are) ready.run.holds;
    size = ap length bytes_are ∙ ready.run.size;
    marks = marks_are;
  }

-- ---- calls

-- each run has a block
pub few_runs : (low end : ℕ) (rs : List Run) → AreNormalRuns low end rs → length rs ≤ length (blocks_of rs)
few_runs low end [] normal = omega arith
few_runs low end (r ∷ rs) normal = omega (arith, length-append (run_blocks r) (blocks_of rs), length-range_with_len r.first r.count, normal.1, few_runs (r.first + r.count + 1) end rs normal.3)

one_fence : (rs : List Run) → fences_of rs ≤ 1
one_fence [] = omega arith
one_fence (r ∷ rs) = omega arith

module _ (g : Sizes) (s : Store) (f : MovableRun) (to : Tier) (taken : Allocation) (took : IsTakenFor g s f to taken) where
  none_in : (t : Tier) → t ≢ to → tier_calls (runs_of taken t) ≡ 0
  none_in t other = ap tier_calls (no_blocks (data_first g t) (tier_blocks g t) (runs_of taken t) (took.free.apart t) (took.others t other))

  some_in : tier_calls (runs_of taken to) ≤ length (runs_of taken to) + 1
  some_in = omega (arith, one_fence (runs_of taken to))

-- the device calls that write what was taken
taken_calls : (g : Sizes) (s : Store) (f : MovableRun) (to : Tier) (taken : Allocation) → IsTakenFor g s f to taken → calls_for taken ≤ length (runs_of taken to) + 1
taken_calls g s f tiers.Fast taken took = omega (arith, some_in g s f tiers.Fast taken took, none_in g s f tiers.Fast taken took tiers.Block (λ e. cc), none_in g s f tiers.Fast taken took tiers.Slow (λ e. cc))
taken_calls g s f tiers.Block taken took = omega (arith, some_in g s f tiers.Block taken took, none_in g s f tiers.Block taken took tiers.Fast (λ e. cc), none_in g s f tiers.Block taken took tiers.Slow (λ e. cc))
taken_calls g s f tiers.Slow taken took = omega (arith, some_in g s f tiers.Slow taken took, none_in g s f tiers.Slow taken took tiers.Fast (λ e. cc), none_in g s f tiers.Slow taken took tiers.Block (λ e. cc))

-- and those that carry out the plan of a move
pub plan_calls : (g : Sizes) (s : Store) (i first count : ℕ) (to : Tier) (plan : Rewrite) → IsPlanOfMove g s i first count to plan → (before now : ℕ) → now ≤ before + calls_for plan.taken + min (length plan.slots.items) 32 + length (marks_images plan.marks) + length plan.nodes + 7 → MovesInFewCalls g s to count before now
plan_calls g s i first count to plan p before now most = inr (record {
  runs = runs_of plan.taken to;
  lowest = subst (λ (n : ℕ). AreLowestFree g s to n (runs_of plan.taken to)) p.count_is p.is_plan.took.lowest;
  few = (let taken = taken_calls g s p.file to plan.taken p.is_plan.took in let slots = ap length p.is_plan.made.slots_are in let images = p.is_plan.made.images.few in let marks = ap (λ (v : Option Marks). length (marks_images v)) p.is_plan.marks in omega (arith, most, taken, slots, images, marks));
})

-- a run has no more runs of places than blocks
pub few_calls : (g : Sizes) (s : Store) (to : Tier) (count before now : ℕ) → MovesInFewCalls g s to count before now → now ≤ before + count + 12
few_calls g s to count before now (inl none) = omega (arith, none)
few_calls g s to count before now (inr some) = (let runs = few_runs (data_first g to) (tier_blocks g to) some.runs some.lowest.apart in let many = some.lowest.many in let few = some.few in omega (arith, runs, many, few))
