-- An inode of which blocks are moved.
use Rattle.std.proofs.Common.{◌≡◌, ◌≤◌, ◌<◌, ◌+◌, ◌/◌, ◌%◌, inl, inr, ℕ, [], refl, sym, ap, subst, ◌∙◌, arith, Some}
use Rattle.std.specs.Prelude.{get_or, is_some}
use Rattle.std.proofs.lemmas.Bool.{cases_lt}
use Rattle.tier_device.specs.declared.media.Tier.{Tier}
use Rattle.area_reader.specs.layout.declared.slot.Slot.{Slot}
use Rattle.area_reader.specs.layout.declared.slot.Slot.TheVariants as slots
use Rattle.area_reader.specs.layout.Places.{Sizes}
use Rattle.area_reader.specs.tree_blocks.Inode.{LogicalBlocks, byte_of, inode_of, AreAlike}
use Rattle.area_reader.specs.extent_tree.Map.{TierRuns, LieBelow}
use Rattle.area_reader.specs.Store.{Store, slot, root_of, length_of, place, logical_block, inode}
use Rattle.area_reader.specs.Reads.{IsPlaced}
use Rattle.area_commit.specs.InodeRewrite.{logical_by}
use Rattle.area_commit.specs.InodeMove.{with_roots, StaysBlock, StaysInode}
use Rattle.area_commit.proofs.Places.{by_nowhere, read_nowhere, none_past}

-- blocks read the same below the length, and there are none from there on
record StayBlocks (x : Slot) (b c : LogicalBlocks) : Type 0 where
  below : (k : ℕ) → k < length_of x → StaysBlock x (b k) (c k)
  old_past : (k : ℕ) → length_of x ≤ k → b k ≡ []
  new_past : (k : ℕ) → length_of x ≤ k → c k ≡ []

same_byte : (names size touch fast block slow : ℕ) (b c : LogicalBlocks) → StayBlocks (slots.File names size touch fast block slow) b c → (at : ℕ) → byte_of c at ≡ byte_of b at
unfolding byte_of
same_byte names size touch fast block slow b c stay at = elim (cases_lt (at / 4096) ((size + 4095) / 4096)) [
  | inl lt ↦ stay.below (at / 4096) lt (at % 4096) (omega arith)
  | inr past ↦ ap (λ l. get_or l (at % 4096) 0) (stay.new_past (at / 4096) past ∙ sym (stay.old_past (at / 4096) past))
]

alike_roots : (y : Slot) (roots : Tier → ℕ) (b c : LogicalBlocks) → StayBlocks (with_roots roots y) b c → AreAlike (inode_of y b) (inode_of (with_roots roots y) c)
alike_roots slots.Free roots b c stay = record { kind = refl; names = refl; size = refl; blocks = tt }
alike_roots (slots.File names size touch fast block slow) roots b c stay = record { kind = refl; names = refl; size = refl; blocks = same_byte names size touch _ _ _ b c stay }
alike_roots (slots.Directory names entries touch root) roots b c stay = record { kind = refl; names = refl; size = refl; blocks = stay.below }

length_kept : (y : Slot) (roots : Tier → ℕ) → length_of (with_roots roots y) ≡ length_of y
length_kept slots.Free roots = refl
length_kept (slots.File names size touch fast block slow) roots = refl
length_kept (slots.Directory names entries touch root) roots = refl

pub moved_alike : (g : Sizes) (old new : Store) (i : ℕ) (x : Slot) (m : TierRuns) → ((t : Tier) (k at : ℕ) → place g old i t k ≡ Some at → IsPlaced g t (length_of (slot g old i)) k at) → LieBelow (length_of x) m → StaysInode g old new i x m → AreAlike (inode g old i) (inode_of x (logical_by new m))
moved_alike g old new i x m placed below moved = subst (λ (z : Slot). StayBlocks z (logical_block g old i) (logical_by new m) → AreAlike (inode g old i) (inode_of z (logical_by new m))) (sym moved.slot_is) (alike_roots (slot g old i) (root_of x) (logical_block g old i) (logical_by new m)) stay
  where
    long : length_of x ≡ length_of (slot g old i)
    long = ap length_of moved.slot_is ∙ length_kept (slot g old i) (root_of x)

    stay : StayBlocks x (logical_block g old i) (logical_by new m)
    stay = record {
      below = moved.blocks;
      old_past = λ k past. read_nowhere g old i k (λ t. none_past (place g old i t k) (length_of (slot g old i)) k (λ p at. (placed t k p at).within) (omega (arith, past, long)));
      new_past = λ k past. by_nowhere new m k (λ t. none_past _ (length_of x) k (λ p at. below t k (ap is_some at)) past);
    }
