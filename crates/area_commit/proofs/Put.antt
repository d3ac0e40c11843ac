-- A batch that is put into a store with the data of a plan carries it out.
use Rattle.std.proofs.Common.{◌≡◌, ◌≢◌, ◌≤◌, ◌<◌, ℕ, List, true, refl, ap, ◌∙◌, arith, get_or, Option, Some, None}
use Rattle.std.specs.Prelude.{is_some, option_map}
use Rattle.std.specs.List.{Contains}
use Rattle.std.proofs.lemmas.List.Elements.{Contains-get_or}
use Rattle.tier_device.specs.declared.media.Tier.{Tier}
use Rattle.tier_device.specs.declared.media.Tier.TheVariants.{Fast, Block, Slow}
use Rattle.area_reader.specs.layout.declared.slot.Slot.{Slot}
use Rattle.area_reader.specs.layout.Marks.{marks_spelling}
use Rattle.area_reader.specs.layout.Places.{Sizes, is_inode, slot_block, slot_byte, node_end, data_first}
use Rattle.area_reader.specs.batch_journal.Blocks.{Blocks}
use Rattle.area_reader.specs.batch_journal.Images.{slice, image_for, or_else}
use Rattle.area_reader.specs.extent_tree.Map.{TierRuns}
use Rattle.area_reader.specs.Store.{Store, slot_bytes}
use Rattle.area_reader.specs.Reads.{IsRoom, Free, Loose}
use Rattle.area_commit.specs.Batches.{IsPutIn}
use Rattle.area_commit.specs.Allocations.{taken_data}
use Rattle.area_commit.specs.DataWrite.{block_at, HoldData}
use Rattle.area_commit.specs.declared.plan.Rewrite.{Rewrite}
use Rattle.area_commit.specs.Plan.{IsPlanned}
use Rattle.area_commit.specs.PlanOutcome.{IsCarriedOut}
use Rattle.area_commit.proofs.Chosen.{inode_range, node_range, data_range, data_has}

pub block_fast : Block ≢ Fast
block_fast e = cc

pub slow_fast : Slow ≢ Fast
slow_fast e = cc

module _ (g : Sizes) (s : Store) (x : ℕ → Slot) (m : ℕ → TierRuns) (plan : Rewrite) (planned : IsPlanned g s x m plan) (mid new : Store) (loose : Loose g s mid)
    (put : IsPutIn plan.slots.items plan.marks plan.nodes mid new) where
  low_same : (k : ℕ) → k < 292 → mid Fast k ≡ s Fast k
  low_same k lt = loose Fast k (λ free. (let first : 292 ≤ k = free.room.first in omega (arith, first, lt)))

  slots_same : (i : ℕ) → is_inode i ≡ true → slot_bytes mid i ≡ slot_bytes s i
  slots_same i number = let r = inode_range i number in ap (slice (slot_byte i) 128) (low_same (slot_block i) (omega (arith, r.0, r.1)))

  node_now : (k : ℕ) → 292 ≤ k → (o : Option (List ℕ)) → image_for k plan.nodes ≡ o → new Fast k ≡ or_else o (mid Fast k)
  node_now k low o is = put.node_blocks k low ∙ ap (λ p. or_else p (mid Fast k)) is

  imaged : (k : ℕ) (bytes : List ℕ) → image_for k plan.nodes ≡ Some bytes → new Fast k ≡ bytes
  imaged k bytes is = node_now k (node_range g k (planned.nodes k (ap is_some is))).0 (Some bytes) is

  stay : (t : Tier) (k : ℕ) → IsRoom g t k → (Free g s t k → ⊥) → (t ≡ Fast → image_for k plan.nodes ≡ None) → new t k ≡ s t k
  stay Fast k room used bare = node_now k room.first None (bare refl) ∙ loose Fast k used
  stay Block k room used bare = ap (λ (f : Blocks). f k) (put.others Block block_fast) ∙ loose Block k used
  stay Slow k room used bare = ap (λ (f : Blocks). f k) (put.others Slow slow_fast) ∙ loose Slow k used

  -- ---- data

  no_image : (k : ℕ) → node_end g ≤ k → image_for k plan.nodes ≡ None
  no_image k high = by (image_for k plan.nodes) refl
    where
      by : (o : Option (List ℕ)) → image_for k plan.nodes ≡ o → image_for k plan.nodes ≡ None
      by None is = is
      by (Some bytes) is = absurd (let low = (node_range g k (planned.nodes k (ap is_some is))).1 in omega (arith, low, high))

  data_same : (t : Tier) (k : ℕ) → data_first g t ≤ k → new t k ≡ mid t k
  data_same Fast k high = node_now k (omega (arith, high)) None (no_image k high)
  data_same Block k high = ap (λ (f : Blocks). f k) (put.others Block block_fast)
  data_same Slow k high = ap (λ (f : Blocks). f k) (put.others Slow slow_fast)

  held_same : (p : Tier × ℕ) → Contains (taken_data plan.taken) p → block_at new p ≡ block_at mid p
  held_same p at = data_same p.0 p.1 (data_range g s plan.taken planned.free p.0 p.1 (data_has plan.taken p at)).0

  pub carried_out : HoldData mid (taken_data plan.taken) plan.bytes.items → IsCarriedOut g s plan new
  carried_out holds = record {
    superblock = put.superblock ∙ low_same 0 (omega arith);
    marks_block = put.marks_block ∙ ap (or_else (option_map marks_spelling plan.marks)) (low_same 33 (omega arith));
    slots_put = put.slots_put;
    slots_stay = λ i number none. put.slots_stay i number none ∙ slots_same i number;
    images = imaged;
    holds = λ n lt. held_same (get_or (taken_data plan.taken) n (Fast, 0)) (Contains-get_or (taken_data plan.taken) n (Fast, 0) lt) ∙ holds n lt;
    blocks_stay = stay;
  }
