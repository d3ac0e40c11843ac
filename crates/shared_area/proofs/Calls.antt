-- How many writes and fences a change makes.
use Rattle.std.proofs.Common.{◌≡◌, ◌≤◌, ◌+◌, inl, inr, ℕ, List, length, Some, refl, arith}
use Rattle.std.specs.Prelude.{min}
use Rattle.tier_device.specs.declared.media.Tier.{Tier}
use Rattle.area_reader.specs.graph_change.Change.{Changes}
use Rattle.area_reader.specs.layout.declared.marks.Marks.{Marks}
use Rattle.area_reader.specs.layout.Places.{Sizes}
use Rattle.area_reader.specs.Store.{Store}
use Rattle.change_plan.specs.PlanAddition.{HasTaken}
use Rattle.change_plan.specs.First.{IsWhole}
use Rattle.change_plan.specs.FileLayout.{GetPlaces}
use Rattle.change_plan.specs.area_commit.Value.{PoolsView}
use Rattle.change_plan.specs.area_commit.declared.allocation.Allocation.{Allocation}
use Rattle.change_plan.specs.area_commit.Allocations.{taken_data}
use Rattle.change_plan.specs.area_commit.Batches.{marks_images}
use Rattle.change_plan.specs.area_commit.DataWrite.{TakenInTurn, calls_for}
use Rattle.change_plan.specs.declared.partial_plan.PartialPlan.{PartialPlan}
use Rattle.change_plan.proofs.area_commit_lemmas.Returned.{were_free}
use Rattle.change_plan.proofs.area_commit_lemmas.Turns.{turn_behind}
use Rattle.shared_area.specs.ChangeApply.{MakesFewCalls}

pub few_calls : (g : Sizes) (s : Store) (cs : Changes) (v : Marks) (plan : PartialPlan) (taken : Allocation) (left : PoolsView) (before now : ℕ) (L M : ℕ → Tier → List ℕ → Type 0) → IsWhole g s cs v.digests plan taken (Some v) → HasTaken g s left taken → (blocks : List (ℕ × ℕ)) × GetPlaces g s cs blocks (taken_data taken)
    → now ≤ before + calls_for taken + min (length plan.slots.items) 32 + length (marks_images (Some v)) + length plan.nodes + 7 → TakenInTurn taken before now L M → MakesFewCalls g s cs before now L M
few_calls g s cs v plan taken left before now L M whole took got few turn = inr (record {
  blocks = got.0;
  places = taken_data taken;
  got = got.1;
  calls = calls_for taken;
  for_data = record { taken = taken; apart = (were_free g s took.before left taken took.ranges took.free took.took).apart; are = refl; many = refl };
  turn = turn;
  few = (let images = whole.images in let one : length (marks_images (Some v)) ≡ 1 = refl in omega (arith, few, images, one));
})

module _ (g : Sizes) (s : Store) (cs : Changes) (a b c : ℕ) (L M N : ℕ → Tier → List ℕ → Type 0) where
  -- reads before it
  pub few_behind : b ≡ a → ((m : ℕ) (t : Tier) (x : List ℕ) → m ≤ a → M m t x → L m t x) → MakesFewCalls g s cs b c M N → MakesFewCalls g s cs a c L N
  few_behind same past (inl none) = inl (omega (arith, none, same))
  few_behind same past (inr is) = inr (record {
    blocks = is.blocks;
    places = is.places;
    got = is.got;
    calls = is.calls;
    for_data = is.for_data;
    turn = (let taken = is.for_data.taken in turn_behind taken.fast.items taken.block.items taken.slow.items a b c L M N same past is.turn);
    few = (let few = is.few in omega (arith, few, same));
  })
