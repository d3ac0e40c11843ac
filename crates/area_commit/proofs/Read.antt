-- A plan is written once the blocks of its slots are read.
use Rattle.std.proofs.Common.{◌≡◌, ◌≤◌, ℕ, List, length, ap}
use Rattle.std.specs.Prelude.{Result}
use Rattle.tier_device.specs.declared.media.Media.{Ghosts}
use Rattle.tier_device.specs.declared.media.Tier.{Tier}
use Rattle.area_reader.specs.layout.Places.{Sizes}
use Rattle.area_reader.specs.batch_journal.View.{JournalView}
use Rattle.area_reader.specs.declared.error.AreaError.{AreaError}
use Rattle.area_reader.specs.Store.{Store, disk}
use Rattle.area_reader.specs.Looks.{Looks}
use Rattle.area_reader.proofs.Looked.{carried_back}
use Rattle.area_commit.specs.declared.plan.Rewrite.{Rewrite}
use Rattle.area_commit.specs.PlanOutcome.{IsCarriedOut, AllOrNothing}
use Rattle.area_commit.proofs.Course.{Rests, data_written}
use Rattle.area_commit.proofs.Moments.{all_then, loose_unmoved}

module _ {M T : Type 0} (device : Ghosts M) (sized : (x : M) (n : ℕ) (t : Tier) (c : List ℕ) → n ≤ device.moment x → device.left x n t c → length c ≡ length (device.seen x t))
    (plan : Rewrite) (old mid : JournalView M) (r : Result T AreaError) (looks : Looks device old mid r) where
  pub while_read : Rests device old.geometry old.media → AllOrNothing old.geometry (disk device old) plan (device.moment old.media) (device.moment mid.media) (device.left old.media) (device.left mid.media)
  while_read rests =
      data_written device sized old.geometry plan old.media mid.media rests
      (loose_unmoved old.geometry (disk device old) (device.moment old.media) (device.moment mid.media) (device.seen old.media) (device.seen mid.media) (device.left old.media) (device.left mid.media) looks.unmoved)
      (λ t. ap length (looks.unmoved.reads t))

  pub then_written : (new : M) → Rests device old.geometry old.media → AllOrNothing mid.geometry (disk device mid) plan (device.moment mid.media) (device.moment new) (device.left mid.media) (device.left new)
      → AllOrNothing old.geometry (disk device old) plan (device.moment old.media) (device.moment new) (device.left old.media) (device.left new)
  then_written new rests written =
      all_then old.geometry (disk device old) plan (device.moment old.media) (device.moment mid.media) (device.moment new) (device.left old.media) (device.left mid.media) (device.left new) (while_read rests)
      (carried_back device (λ (g : Sizes) (s : Store). AllOrNothing g s plan (device.moment mid.media) (device.moment new) (device.left mid.media) (device.left new)) old mid r looks written)

  pub then_done : (new : Store) → IsCarriedOut mid.geometry (disk device mid) plan new → IsCarriedOut old.geometry (disk device old) plan new
  then_done new done = carried_back device (λ (g : Sizes) (s : Store). IsCarriedOut g s plan new) old mid r looks done
