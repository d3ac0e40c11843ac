-- A run that may be moved is one of a file's blocks.
use Rattle.std.proofs.Common.{◌≡◌, ◌+◌, ◌-◌, ◌∙◌, inl, inr, ℕ, [], Some, None, refl, sym, ap, subst, arith}
use Rattle.std.specs.Prelude.{IsSome}
use Rattle.std.proofs.lemmas.Bool.{cases_lt, false≢true}
use Rattle.tier_device.specs.declared.media.Tier.{Tier}
use Rattle.inode_plan.specs.file_graph.declared.effect.Kind.TheVariants as kind
use Rattle.inode_plan.specs.layout.Places.{Sizes}
use Rattle.inode_plan.specs.layout.declared.slot.Slot.{Slot}
use Rattle.inode_plan.specs.layout.declared.slot.Slot.TheVariants as slots
use Rattle.inode_plan.specs.tree_blocks.Inode.{LogicalBlocks, inode_of}
use Rattle.inode_plan.specs.area_reader.Store.{Store, slot, logical_block, length_of}
use Rattle.inode_plan.proofs.area_reader_lemmas.Tails.{place_past}
use Rattle.relocation.specs.MovableFile.{IsWithinFile}
use Rattle.relocation.specs.TierMove.{CanMove}
use Rattle.inode_plan.proofs.Steps.{inside}

pub any_blocks : (x : Slot) (a b : LogicalBlocks) → (inode_of x a).kind ≡ (inode_of x b).kind
any_blocks slots.Free a b = refl
any_blocks (slots.File names size touch fast block slow) a b = refl
any_blocks (slots.Directory names entries touch root) a b = refl

pub movable_within : (g : Sizes) (s : Store) (i first count : ℕ) (to : Tier) → CanMove g s i first count to → IsWithinFile (slot g s i) first count
movable_within g s i first count to can =
    let some = can.some in
    let last : ℕ = first + count - 1 in
    let above = can.above (first + count - 1) (inside first count (first + count - 1) (omega (arith, some)) (omega (arith, some))) in
    record {
      kind_is = any_blocks (slot g s i) (λ k. []) (logical_block g s i) ∙ can.kind_is;
      some = some;
      within = elim (cases_lt (first + count - 1) (length_of (slot g s i))) [
        | inl lt ↦ omega (arith, lt, some)
        | inr past ↦ absurd (false≢true (subst IsSome (place_past g s i above.0 (first + count - 1) past) above.2))
      ];
    }

pub no_file : (g : Sizes) (s : Store) (i first count : ℕ) (to : Tier) → slot g s i ≡ slots.Free → CanMove g s i first count to → ⊥
no_file g s i first count to free can =
    let kind_is = (movable_within g s i first count to can).kind_is in
    none_some (sym (ap (λ (x : Slot). (inode_of x (λ k. [])).kind) free) ∙ kind_is)
  where
    none_some : None ≡ Some kind.File → ⊥
    none_some e = cc
