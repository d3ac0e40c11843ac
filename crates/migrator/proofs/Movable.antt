-- A run that is picked may be moved to the tier next below.
use Rattle.std.proofs.Common.{◌≡◌, ◌≤◌, ◌<◌, ◌+◌, ◌-◌, ℕ, true, refl, subst, arith, Option, Some, None}
use Rattle.std.specs.Prelude.{Result, Ok, Err, IsSome, IfSome, IfOk, nat_le, nat_lt}
use Rattle.std.proofs.lemmas.Bool.{and_parts, leb-true, ltb-true}
use Rattle.tier_device.specs.declared.media.Tier.{Tier}
use Rattle.shared_area.specs.file_graph.declared.effect.Kind.TheVariants as kind
use Rattle.shared_area.specs.layout.declared.slot.Slot.{Slot}
use Rattle.shared_area.specs.layout.declared.slot.Slot.TheVariants as slots
use Rattle.shared_area.specs.layout.Places.{Sizes}
use Rattle.shared_area.specs.extent_tree.Places.{in_run}
use Rattle.shared_area.specs.tree_blocks.Inode.{LogicalBlocks, inode_of}
use Rattle.shared_area.specs.area_reader.Store.{Store, slot, place, logical_block}
use Rattle.shared_area.specs.area_reader.declared.error.AreaError.{AreaError}
use Rattle.shared_area.specs.inode_plan.RunPlaces.{is_faster}
use Rattle.shared_area.specs.FirstRun.{file_place, file_lies}
use Rattle.migrator.specs.declared.run_choice.FileRun.{FileRun}
use Rattle.migrator.specs.RunChoice.{IsPickedIn, MayBeMoved}

-- where a block of a file lies, there is a file ..
is_file : (x : Slot) (blocks : LogicalBlocks) (at : Option ℕ) → IsSome (file_place x at) → (inode_of x blocks).kind ≡ Some kind.File
is_file slots.Free blocks at is = cc
is_file (slots.File names size touch fast block slow) blocks at is = refl
is_file (slots.Directory names entries touch root) blocks at is = cc

-- .. whose block lies there
is_there : (x : Slot) (at : Option ℕ) → IsSome (file_place x at) → IsSome at
is_there slots.Free at is = cc
is_there (slots.File names size touch fast block slow) at is = is
is_there (slots.Directory names entries touch root) at is = cc

in_parts : (first count k : ℕ) → in_run first count k ≡ true → (first ≤ k) × (k < first + count)
in_parts first count k is = let p = and_parts (nat_le first k) (nat_lt k (first + count)) is in (leb-true first k p.0, ltb-true k (first + count) p.1)

module _ (g : Sizes) (s : Store) (t to : Tier) (faster : is_faster t to ≡ true) where
  lies_in_run : (x : FileRun) → ((n : ℕ) → n < x.run.count → IsSome (file_lies g s x.inode t (x.run.first + n))) → (k : ℕ) → in_run x.run.first x.run.count k ≡ true → IsSome (place g s x.inode t k)
  lies_in_run x each k is =
      let p = in_parts x.run.first x.run.count k is in
      let low = p.0 in
      let high = p.1 in
      let back : x.run.first + (k - x.run.first) ≡ k = omega (arith, low) in
      is_there (slot g s x.inode) (place g s x.inode t k) (subst (λ (j : ℕ). IsSome (file_lies g s x.inode t j)) back (each (k - x.run.first) (omega (arith, low, high))))

  found_may_be_moved : (x : Option FileRun) → IsPickedIn g s t x → IfSome x (MayBeMoved g s to)
  found_may_be_moved None is = tt
  found_may_be_moved (Some x) is =
      let run = is.run in
      let some = run.some in
      let few = run.few in
      record {
        kind_is = is_file (slot g s x.inode) (logical_block g s x.inode) (place g s x.inode t (x.run.first + 0)) (run.each 0 some);
        some = omega (arith, some);
        few = omega (arith, few);
        above = λ k inside. (t, faster, lies_in_run x run.each k inside);
      }

  pub pick_may_be_moved : (r : Result (Option FileRun) AreaError) → IfOk r (IsPickedIn g s t) → IfOk r (λ x. IfSome x (MayBeMoved g s to))
  pick_may_be_moved (Ok x) is = found_may_be_moved x is
  pick_may_be_moved (Err e) is = tt
