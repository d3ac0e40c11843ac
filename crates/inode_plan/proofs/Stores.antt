-- A store in which a changed file stands.
use Rattle.std.proofs.Common.{◌≡◌, ◌<◌, ◌≤◌, ◌+◌, ◌*◌, ◌/◌, ◌∙◌, ℕ, List, length, true, false, Option, Some, arith, inl, inr, sym, ap, subst, refl}
use Rattle.std.proofs.lemmas.Bool.{false≢true}
use Rattle.std.proofs.lemmas.List.{get_or-map, length-map}
use Rattle.std.proofs.lemmas.Option.{none-some}
use Rattle.posix_calls.specs.declared.limits.TheConstants.{MAX_FILE}
use Rattle.tier_device.specs.declared.media.Tier.{Tier}
use Rattle.tier_device.specs.declared.media.Tier.TheVariants.{Fast}
use Rattle.area_commit.specs.file_graph.declared.effect.Kind.TheVariants as kind
use Rattle.area_commit.specs.layout.Places.{Sizes}
use Rattle.area_commit.specs.layout.declared.slot.Slot.{Slot}
use Rattle.area_commit.specs.layout.declared.slot.Slot.TheVariants as slots
use Rattle.area_commit.specs.layout.Slot.{fits_slot}
use Rattle.area_commit.specs.layout.declared.geometry.Space.TheVariants as space
use Rattle.area_commit.specs.batch_journal.Images.{slice}
use Rattle.area_commit.specs.DataWrite.{block_at}
use Rattle.area_commit.specs.graph_change.Bytes.{length_after, end}
use Rattle.area_commit.specs.graph_change.Change.{Change, patch_at}
use Rattle.area_commit.specs.graph_change.Net.{Base, Kept, Made, Gone}
use Rattle.area_commit.specs.graph_change.Tidy.{IsTidyChange}
use Rattle.area_commit.specs.tree_blocks.Inode.{LogicalBlocks, inode_of}
use Rattle.area_commit.specs.tree_blocks.After.{start_node}
use Rattle.area_commit.specs.tree_blocks.FileBlock.{ReadsAfter}
use Rattle.area_commit.specs.extent_tree.Normal.{IsNormal}
use Rattle.area_commit.specs.extent_tree.BlockFormat.{LiesWithin, IsOneToOne}
use Rattle.area_commit.specs.extent_tree.Map.{TierRuns, runs_in, lies_at, LieOnce, LieBelow}
use Rattle.area_commit.specs.extent_tree.declared.map.Place.{Place}
use Rattle.area_commit.specs.area_reader.Store.{Store, slot, logical_block, inode}
use Rattle.area_commit.specs.InodeRewrite.{IsFit, logical_by}
use Rattle.area_commit.specs.InodeChange.{place_from, places_from, writes_over, LieAsChanged, IsFileSlot}
use Rattle.area_commit.proofs.Holes.{over_same}
use Rattle.area_commit.proofs.Places.{by_there}
use Rattle.inode_plan.specs.PlacedFile.{nth_place}
use Rattle.inode_plan.specs.BlockWrites.{AreNumbers}
use Rattle.inode_plan.specs.Bytes.{IsBlockAfter, HoldsBlocks}
use Rattle.inode_plan.specs.MapChange.{IsMapAfter, AreFresh, AreData}
use Rattle.inode_plan.specs.PlannedFile.{pair_of, StartsFrom, HasData}
use Rattle.inode_plan.proofs.After.{stands, written_at, in_place, keeps_or_takes, after_once, after_below, after_apart, after_within}

-- what a change starts from was there
pub from_kept : (base : Base) (o : Option ℕ) (p : ℕ) → place_from base o ≡ Some p → o ≡ Some p
from_kept Kept o p is = is
from_kept (Made kind) o p is = absurd (none-some p is)
from_kept Gone o p is = absurd (none-some p is)

module _ (g : Sizes) (c : Change) (old new : Store) (i : ℕ) (before after : TierRuns) (numbers : List ℕ) (places : List Place) (bytes : List ℕ) (blocks : LogicalBlocks) (starts : StartsFrom g old i c.base before) (once : LieOnce before) (are : AreNumbers (lies_at before) c numbers) (is : IsMapAfter c numbers places before after) (enough : length numbers ≤ length places) (holds : HoldsBlocks c blocks numbers (length numbers) bytes) (has : HasData g c.base old new i places bytes) where
  data_at : (n : ℕ) → n < length numbers → new (nth_place places n).tier (nth_place places n).block ≡ slice (4096 * n) 4096 bytes
  data_at n lt =
      let inside : n < length places = omega (arith, lt, enough) in
      ap (block_at new) (sym (get_or-map pair_of places n (record { tier = Fast; block = 0 }) (Fast, 0) inside)) ∙ has.holds n (let long = length-map places pair_of in omega (arith, long, inside))

  now_once : LieOnce after
  now_once = after_once c numbers places before after are is once

  written : (k : ℕ) → writes_over (lies_at before) c k ≡ true → ReadsAfter c.length (patch_at c.patches k) k (blocks k) (logical_by new after k)
  written k put =
      let s = stands (lies_at before) c numbers are k put in
      let p = nth_place places s.at in
      let read : logical_by new after k ≡ slice (4096 * s.at) 4096 bytes = by_there new after k p.block now_once p.tier (in_place c numbers places before after are is k s) ∙ data_at s.at s.inside in
      subst (λ (b : List ℕ). ReadsAfter c.length (patch_at c.patches k) k (blocks k) b) (sym read) (subst (λ (j : ℕ). IsBlockAfter c blocks j (slice (4096 * s.at) 4096 bytes)) s.is (holds.each s.at s.inside))

  same : (t : Tier) (k p : ℕ) → writes_over (lies_at before) c k ≡ false → lies_at after t k ≡ Some p → new t p ≡ old t p
  same t k p out at = elim (keeps_or_takes c numbers places before after are is t k p at) [
    | inl kept ↦ has.stays t k p (sym (starts t k) ∙ kept.was)
    | inr taken ↦ absurd (false≢true (sym out ∙ subst (λ (j : ℕ). writes_over (lies_at before) c j ≡ true) taken.number (written_at (lies_at before) c numbers are taken.at taken.inside)))
  ]

  -- the blocks lie in memory as they do in the store
  as_before : (k : ℕ) → writes_over (lies_at before) c k ≡ writes_over (places_from g old i c.base) c k
  as_before k = over_same (lies_at before) k c (places_from g old i c.base) (λ t. starts t k)

  pub as_changed : ((k : ℕ) → blocks k ≡ (start_node c.base (inode g old i)).blocks k) → LieAsChanged g c old new i after
  as_changed alike = record {
    written = λ k put. subst (λ (b : List ℕ). ReadsAfter c.length (patch_at c.patches k) k b (logical_by new after k)) (alike k) (written k (as_before k ∙ put));
    gone = λ t k out off. is.gone t k (as_before k ∙ out) off;
    others = λ t k out on. is.others t k (as_before k ∙ out) on ∙ starts t k;
    same = λ t k p out at. same t k p (as_before k ∙ out) at;
  }

-- ---- the blocks that a change starts from

kept_blocks : (x : Slot) (blocks : LogicalBlocks) → (inode_of x blocks).kind ≡ Some kind.File → blocks ≡ (inode_of x blocks).blocks
kept_blocks slots.Free blocks is = absurd cc
kept_blocks (slots.File names size touch fast block slow) blocks is = refl
kept_blocks (slots.Directory names entries touch root) blocks is = refl

pub file_blocks : (g : Sizes) (s : Store) (i : ℕ) → (inode g s i).kind ≡ Some kind.File → logical_block g s i ≡ (inode g s i).blocks
file_blocks g s i is = kept_blocks (slot g s i) (logical_block g s i) is

-- ---- the slot and the runs

pub file_is_fit : (g : Sizes) (c : Change) (names size : ℕ) (x : Slot) (numbers : List ℕ) (places : List Place) (old new : TierRuns)
    → fits_slot g x ≡ true → IsFileSlot names (length_after c.length size) x → IsTidyChange c → end c.length ≤ MAX_FILE → AreNumbers (lies_at old) c numbers → IsMapAfter c numbers places old new → ((t : Tier) → IsNormal (runs_in new t))
    → AreFresh places (length numbers) old → AreData g places (length numbers) → LieOnce old → LieBelow ((size + 4095) / 4096) old → ((t : Tier) → IsOneToOne (runs_in old t)) → ((t : Tier) → LiesWithin g (space.Data t) (runs_in old t)) → IsFit g x new
file_is_fit g c names size x numbers places old new fits is tidy few are after normal fresh are_data once below apart within =
    subst (λ (z : Slot). IsFit g z new) (sym is) (record {
      limits = subst (λ (z : Slot). fits_slot g z ≡ true) is fits;
      normal = normal;
      below = after_below c numbers places old new are after size tidy below;
      within = after_within c numbers places old new are after g tidy few are_data within;
      apart = after_apart c numbers places old new are after fresh apart;
      once = after_once c numbers places old new are after once;
    })
