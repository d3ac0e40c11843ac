use Rattle.std.proofs.Common.{◌≡◌, ◌≤◌, ◌<◌, ◌∙◌, inl, inr, ℕ, [], Some, refl, sym, ap, subst, arith}
use Rattle.std.specs.Prelude.{IsSome}
use Rattle.std.proofs.lemmas.Bool.{cases_lt, false≢true}
use Rattle.std.proofs.lemmas.Result.{err_from_is_err_and}
use Rattle.tier_device.specs.declared.media.Tier.{Tier}
use Rattle.inode_plan.specs.layout.Places.{Sizes}
use Rattle.inode_plan.specs.layout.declared.slot.Slot.{Slot}
use Rattle.inode_plan.specs.extent_tree.Map.{TierRuns, lies_at, LieOnce}
use Rattle.inode_plan.specs.tree_blocks.Inode.{inode_of}
use Rattle.tier_device.specs.declared.media.Tier.TheVariants as tiers
use Rattle.inode_plan.specs.area_reader.declared.error.AreaError.{AreaError}
use Rattle.inode_plan.specs.area_reader.declared.error.AreaError.TheVariants as errors
use Rattle.inode_plan.specs.area_reader.Damage.{OnDamage}
use Rattle.inode_plan.specs.area_reader.Map.{HasNoExtents}
use Rattle.inode_plan.specs.area_reader.Store.{extents_read, extents_by, Store, disk, slot_read, logical_block, length_of}
use Rattle.inode_plan.specs.area_reader.Format.{SpellsInode}
use Rattle.inode_plan.proofs.area_reader_lemmas.Apart.{place_once}
use Rattle.inode_plan.proofs.area_reader_lemmas.Parts.{slot_as}
use Rattle.inode_plan.proofs.area_reader_lemmas.Shown.{slot_limits}
use Rattle.inode_plan.proofs.area_reader_lemmas.Tails.{place_past}
use Rattle.inode_plan.specs.Lists.{LieAsIn}
use Rattle.relocation.specs.TierMove.{CanMove}
use Rattle.inode_plan.specs.RunPlaces.{LieAbove}
use Rattle.relocation.proofs.MovableRuns.{any_blocks}
use Rattle.relocation.proofs.run_search.find_in.Goals as goal

module _ (g : Sizes) (s : Store) (i : ℕ) (m : TierRuns) (places : LieAsIn g s i m) where
  pub map_once : SpellsInode g s i → LieOnce m
  map_once spells t u k at_t at_u = spells.once t u k (subst IsSome (places t k) at_t) (subst IsSome (places u k) at_u)

  pub map_below : (x : Slot) → slot_read g s i ≡ Some x → (t : Tier) (k : ℕ) → IsSome (lies_at m t k) → k < length_of x
  map_below x is t k at = elim (cases_lt k (length_of x)) [
    | inl lt ↦ lt
    | inr past ↦ absurd (false≢true (subst IsSome (place_past g s i t k (subst (λ (y : Slot). length_of y ≤ k) (sym (slot_as g s i x is)) past)) (subst IsSome (places t k) at)))
  ]

  pub above_there : (first count : ℕ) (to : Tier) → CanMove g s i first count to → LieAbove m first count to
  above_there first count to can k is = let a = can.above k is in (a.0, a.1, subst IsSome (sym (places a.0 k)) a.2)

pub lie_above-requires : goal.lie_above-requires
lie_above-requires g c =
    let old = c.args.journal.now in
    let s : Store = disk g.M.Media old in
    let few = (slot_limits old.geometry c.args.slot c.requires.fits).few in
    let within = c.requires.within.within in
    record {
      once = map_once old.geometry s c.args.inode c.in_ok-map.map c.in_ok-map.ensures.places (c.requires.opens.spelled.inodes c.args.inode c.requires.number);
      few = omega (arith, few, within);
    }

pub returns-then-lie_above-clause-found : goal.returns-then-lie_above-clause-found
returns-then-lie_above-clause-found g c =
    let old = c.args.journal.now in
    let s : Store = disk g.M.Media old in
    let x = c.args.slot in
    let m = c.in_ok-map.map in
    let places = c.in_ok-map.ensures.places in
    let few = (slot_limits old.geometry x c.requires.fits).few in
    let within = c.requires.within.within in
    let above = c.lie_above.ensures.0 c.if-lie_above.true in
    record {
      can = record {
        kind_is = ap (λ (y : Slot). (inode_of y (logical_block old.geometry s c.args.inode)).kind) (slot_as old.geometry s c.args.inode x c.requires.slot_is) ∙ any_blocks x (logical_block old.geometry s c.args.inode) (λ k. []) ∙ c.requires.within.kind_is;
        some = c.requires.within.some;
        few = omega (arith, few, within);
        above = λ k is. (let a = above k is in (a.0, a.1, subst IsSome (places a.0 k) a.2));
      };
      number = c.requires.number;
      slot_is = c.requires.slot_is;
      fits = c.requires.fits;
      within_file = c.requires.within;
      places = places;
      first_is = refl;
      count_is = refl;
      once = map_once old.geometry s c.args.inode m places (c.requires.opens.spelled.inodes c.args.inode c.requires.number);
      below = map_below old.geometry s c.args.inode m places x c.requires.slot_is;
      within = c.in_ok-map.ensures.within;
      apart = λ t j k p at_j at_k. place_once old.geometry s c.args.inode t j k p (sym (places t j) ∙ at_j) (sym (places t k) ∙ at_k);
    }

pub returns-else-lie_above-clause-none : goal.returns-else-lie_above-clause-none
returns-else-lie_above-clause-none g c is can =
    let old = c.args.journal.now in
    let s : Store = disk g.M.Media old in
    false≢true (sym c.if-lie_above.false ∙ c.lie_above.ensures.1 (above_there old.geometry s c.args.inode c.in_ok-map.map c.in_ok-map.ensures.places c.args.run.first c.args.run.count c.args.to can))

extents_here : (g : Sizes) (s : Store) (i : ℕ) (x : Slot) (t : Tier) → slot_read g s i ≡ Some x → extents_read g s i t ≡ extents_by g (s tiers.Fast) i x t
unfolding extents_read
extents_here g s i x t is = ap (λ (y : Slot). extents_by g (s tiers.Fast) i y t) (slot_as g s i x is)

no_lists : (g : Sizes) (s : Store) (i : ℕ) (x : Slot) (e : AreaError) → slot_read g s i ≡ Some x → SpellsInode g s i → OnDamage e (HasNoExtents g (s tiers.Fast) i x) → OnDamage e (λ _ _. ⊥)
no_lists g s i x errors.DeviceFault is spells damage = tt
no_lists g s i x (errors.Damaged w block) is spells damage = false≢true (subst IsSome (extents_here g s i x damage.tier is ∙ damage.none) (spells.extents damage.tier))
no_lists g s i x errors.NoBlock is spells damage = damage
no_lists g s i x errors.NotMapped is spells damage = damage
no_lists g s i x errors.Memory is spells damage = tt

pub returns-in_err-map-clause-only : goal.returns-in_err-map-clause-only
returns-in_err-map-clause-only g c =
    let p = err_from_is_err_and c.from_residual.result c.from_residual.ensures.1 in
    let old = c.args.journal.now in
    let s : Store = disk g.M.Media old in
    rw (p.1, p.2) (no_lists old.geometry s c.args.inode c.args.slot c.in_err-map.field-0.0 c.requires.slot_is (c.requires.opens.spelled.inodes c.args.inode c.requires.number) c.in_err-map.ensures.damaged)
