-- A file that is read, or made, is what a change starts from.
use Rattle.std.proofs.Common.{◌≡◌, ◌<◌, ◌+◌, ◌/◌, ◌∙◌, ◌⊎◌, ℕ, [], Some, None, inl, inr, refl, sym, ap, subst}
use Rattle.std.specs.Prelude.{IsSome}
use Rattle.std.proofs.lemmas.Bool.{cases_lt, false≢true}
use Rattle.std.proofs.lemmas.Option.{none-some}
use Rattle.tier_device.specs.declared.media.Tier.{Tier}
use Rattle.tier_device.specs.declared.media.Tier.TheVariants as tiers
use Rattle.inode_plan.specs.file_graph.declared.effect.Kind.TheVariants as kind
use Rattle.inode_plan.specs.graph_change.Net.{Kept, Made}
use Rattle.inode_plan.specs.layout.declared.geometry.Space.{Space}
use Rattle.inode_plan.specs.layout.declared.geometry.Space.TheVariants as space
use Rattle.inode_plan.specs.layout.declared.slot.Slot.{Slot}
use Rattle.inode_plan.specs.layout.declared.slot.Slot.TheVariants as slots
use Rattle.inode_plan.specs.layout.Places.{Sizes}
use Rattle.inode_plan.specs.extent_tree.Places.{place_of}
use Rattle.inode_plan.specs.extent_tree.BlockFormat.{LiesWithin}
use Rattle.inode_plan.specs.extent_tree.Map.{TierRuns, runs_in, lies_at}
use Rattle.inode_plan.specs.tree_blocks.Inode.{LogicalBlocks, inode_of}
use Rattle.inode_plan.specs.area_reader.declared.error.AreaError.{AreaError}
use Rattle.inode_plan.specs.area_reader.declared.error.AreaError.TheVariants as errors
use Rattle.inode_plan.specs.area_reader.Damage.{OnDamage}
use Rattle.inode_plan.specs.area_reader.Map.{HasNoExtents}
use Rattle.inode_plan.specs.area_reader.Store.{Store, slot, slot_read, length_of, space_of, extents_read, extents_by, place, logical_block, inode}
use Rattle.inode_plan.specs.area_reader.Format.{SpellsInode}
use Rattle.inode_plan.proofs.area_reader_lemmas.Apart.{place_once}
use Rattle.inode_plan.proofs.area_reader_lemmas.Parts.{slot_as}
use Rattle.inode_plan.proofs.area_reader_lemmas.Tails.{place_past}
use Rattle.inode_plan.specs.Lists.{LieAsIn}
use Rattle.change_plan.specs.File.{IsOldMap}

-- ---- a file that is there

file_only : (x : Slot) (P : Slot → Type 0) → ((names size touch fast block slow : ℕ) → P (slots.File names size touch fast block slow)) → (inode_of x (λ k. [])).kind ≡ Some kind.File → P x
file_only slots.Free P each is = absurd cc
file_only (slots.File names size touch fast block slow) P each is = each names size touch fast block slow
file_only (slots.Directory names entries touch root) P each is = absurd cc

data_space : (x : Slot) (t : Tier) → (inode_of x (λ k. [])).kind ≡ Some kind.File → space_of x t ≡ space.Data t
data_space x t is = file_only x (λ y. space_of y t ≡ space.Data t) (λ names size touch fast block slow. refl) is

file_long : (x : Slot) (blocks : LogicalBlocks) → (inode_of x (λ k. [])).kind ≡ Some kind.File → length_of x ≡ ((inode_of x blocks).size + 4095) / 4096
file_long x blocks is = file_only x (λ y. length_of y ≡ ((inode_of y blocks).size + 4095) / 4096) (λ names size touch fast block slow. refl) is

file_kind : (x : Slot) (blocks : LogicalBlocks) → (inode_of x (λ k. [])).kind ≡ Some kind.File → (inode_of x blocks).kind ≡ Some kind.File
file_kind x blocks is = file_only x (λ y. (inode_of y blocks).kind ≡ Some kind.File) (λ names size touch fast block slow. refl) is

file_blocks : (x : Slot) (blocks : LogicalBlocks) → (inode_of x (λ k. [])).kind ≡ Some kind.File → (inode_of x blocks).blocks ≡ blocks
file_blocks x blocks is = file_only x (λ y. (inode_of y blocks).blocks ≡ blocks) (λ names size touch fast block slow. refl) is

module _ (g : Sizes) (s : Store) (i : ℕ) (x : Slot) (is : slot_read g s i ≡ Some x) (file : (inode_of x (λ k. [])).kind ≡ Some kind.File) where
  here : slot g s i ≡ x
  here = slot_as g s i x is

  file_here : (inode_of (slot g s i) (λ k. [])).kind ≡ Some kind.File
  file_here = subst (λ (y : Slot). (inode_of y (λ k. [])).kind ≡ Some kind.File) (sym here) file

  pub kept_kind : (inode g s i).kind ≡ Some kind.File
  kept_kind = file_kind (slot g s i) (logical_block g s i) file_here

  pub kept_blocks : (inode g s i).blocks ≡ logical_block g s i
  kept_blocks = file_blocks (slot g s i) (logical_block g s i) file_here

  past : (t : Tier) (k : ℕ) → IsSome (place g s i t k) → k < ((inode g s i).size + 4095) / 4096
  past t k at = elim (cases_lt k (length_of (slot g s i))) [
    | inl lt ↦ subst (λ n. k < n) (file_long (slot g s i) (logical_block g s i) file_here) lt
    | inr far ↦ absurd (false≢true (subst IsSome (place_past g s i t k far) at))
  ]

  pub kept_map : (m : TierRuns) → SpellsInode g s i → LieAsIn g s i m → ((t : Tier) → LiesWithin g (space_of x t) (runs_in m t)) → IsOldMap g s Kept i m
  kept_map m spells places within = record {
    starts = places;
    once = λ t u k at_t at_u. spells.once t u k (subst IsSome (places t k) at_t) (subst IsSome (places u k) at_u);
    below = λ t k at. past t k (subst IsSome (places t k) at);
    within = λ t. subst (λ (d : Space). LiesWithin g d (runs_in m t)) (data_space x t file) (within t);
    apart = λ t j k p at_j at_k. place_once g s i t j k p (sym (places t j) ∙ at_j) (sym (places t k) ∙ at_k);
  }

extents_here : (g : Sizes) (s : Store) (i : ℕ) (x : Slot) (t : Tier) → slot_read g s i ≡ Some x → extents_read g s i t ≡ extents_by g (s tiers.Fast) i x t
unfolding extents_read
extents_here g s i x t is = ap (λ (y : Slot). extents_by g (s tiers.Fast) i y t) (slot_as g s i x is)

-- no extent block of it is damaged
pub no_damage : (g : Sizes) (s : Store) (i : ℕ) (x : Slot) (e : AreaError) → slot_read g s i ≡ Some x → SpellsInode g s i → OnDamage e (HasNoExtents g (s tiers.Fast) i x) → (e ≡ errors.DeviceFault) ⊎ (e ≡ errors.Memory)
no_damage g s i x errors.DeviceFault is spells damage = inl refl
no_damage g s i x (errors.Damaged w block) is spells damage = absurd (false≢true (subst IsSome (extents_here g s i x damage.tier is ∙ damage.none) (spells.extents damage.tier)))
no_damage g s i x errors.NoBlock is spells damage = absurd damage
no_damage g s i x errors.NotMapped is spells damage = absurd damage
no_damage g s i x errors.Memory is spells damage = inr refl

-- ---- a file that is made

module _ (m : TierRuns) (none : (t : Tier) → runs_in m t ≡ []) where
  nowhere : (t : Tier) (k : ℕ) → lies_at m t k ≡ None
  nowhere t k = ap (λ es. place_of es k) (none t)

  pub not_there : (t : Tier) (k : ℕ) → IsSome (lies_at m t k) → ⊥
  not_there t k some = false≢true (subst IsSome (nowhere t k) some)

  not_at : (t : Tier) (k p : ℕ) → lies_at m t k ≡ Some p → ⊥
  not_at t k p at = none-some p (sym (nowhere t k) ∙ at)

  pub made_map : (g : Sizes) (s : Store) (i : ℕ) → IsOldMap g s (Made kind.File) i m
  made_map g s i = record {
    starts = nowhere;
    once = λ t u k at_t at_u. absurd (not_there t k at_t);
    below = λ t k at. absurd (not_there t k at);
    within = λ t k p at. absurd (not_at t k p at);
    apart = λ t j k p at_j at_k. absurd (not_at t j p at_j);
  }
