-- A recovery of parts, by that of the area and the regions that were opened of them.
use Rattle.std.proofs.Common.{◌≡◌, ℕ, ◌<◌, ◌∙◌, subst}
use Rattle.tier_device.specs.declared.media.Media.{Ghosts}
use Rattle.interleavings.specs.batch_journal.Volume.{IsVolume}
use Rattle.interleavings.specs.area_reader.Store.{store_of}
use Rattle.interleavings.specs.layout.Places.{Sizes}
use Rattle.area_recovery.specs.recovery_laws.Contents.{regions_in}
use Rattle.interleavings.specs.event_lists.Courses.{PARTS}
use Rattle.interleavings.specs.system_laws.Parts.{medium_of}
use Rattle.interleavings.specs.system_laws.WorldView.{WorldView}
use Rattle.area_recovery.specs.Parts.{contents_of}
use Rattle.area_recovery.specs.Recovers.{AreThese}
use Rattle.area_recovery.specs.RecoveryStops.{StaysStored}
use Rattle.area_recovery.proofs.JoinedContents.{state_same, stores_same}
use Rattle.area_recovery.proofs.JoinedStays.{joined_store}
use Rattle.area_recovery.proofs.Staying.{SeenNow, one_geometry}
use Rattle.recovery.specs.WorldRecovery.{IsRecoveredWorld}

module _ {M : Type 0} (device : Ghosts M) (seen_now : SeenNow device) (old mid : ℕ → M) (first : StaysStored device old mid) (still : (p : ℕ) → 0 < p → p < PARTS → device.moment (mid p) ≡ device.moment (old p)) where
  pub joined_world : (g : Sizes) → store_of (device.seen (mid 0)) ≡ store_of (device.seen (old 0)) → AreThese (regions_in (contents_of device old)) (regions_in (contents_of device mid)) → IsVolume g (device.seen (old 0)) → IsVolume g (device.seen (mid 0))
      → (w : WorldView M) → IsRecoveredWorld device mid w → IsRecoveredWorld device old w
  joined_world g same alike volume volume_then w is =
      let h = w.system.kernel.area.geometry in
      let one : g ≡ h = one_geometry g h (device.seen (mid 0)) volume_then is.stores.volume in
      record {
        tree = is.tree ∙ state_same h (contents_of device old) (contents_of device mid) same alike;
        stores = stores_same h (contents_of device old) (contents_of device mid) same alike (subst (λ (s : Sizes). IsVolume s (device.seen (old 0))) one volume) is.stores;
        calls = is.calls;
        idle = is.idle;
        rest = is.rest;
        stop = joined_store device seen_now old mid (medium_of w.system) first is.stop still;
      }
