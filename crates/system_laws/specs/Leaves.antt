-- What a stop between two events leaves of a running system, and what holds of its clients then, by the contracts of its kernel, its clients and the regions that are away.
use Rattle.std.specs.Prelude.{◌≡◌, ◌≢◌, ◌⊎◌, ℕ, ◌<◌, false, true, is_some}
use Rattle.tier_device.specs.declared.media.Media.{Ghosts}
use Rattle.tier_device.specs.AfterStop.{Left}
use Rattle.posix_calls.specs.Operations.{is_client}
use Rattle.event_steps.specs.area_reader.Store.{disk}
use Rattle.event_steps.specs.shared_area.Ready.{OpensAs}
use Rattle.event_steps.specs.kernel_fs.KernelView.{KernelView}
use Rattle.event_steps.specs.libfs.View.{ClientView, own_records}
use Rattle.event_steps.specs.lease_manager.Parts.{AreCompatible}
use Rattle.event_steps.specs.lease_manager.Passes.{lease_of}
use Rattle.event_steps.specs.lease_manager.RecordCounts.{Counts}
use Rattle.event_steps.specs.lease_manager.Words.{HasWord, IsClient}
use Rattle.event_steps.specs.lease_manager.declared.view.LeaseMode.TheVariants.{Trying}
use Rattle.event_steps.specs.Sound.{number_of}
use Rattle.event_steps.specs.declared.event.Event.{Event}
use Rattle.event_steps.specs.declared.event.Event.TheVariants as event
use Rattle.event_steps.specs.Stops.{SeatLeaves}
use Rattle.event_steps.specs.View.{HasSeat, SystemView}
use Rattle.event_lists.specs.Courses.{Content}

-- Two clients met: of each inode one of the two writes and the other holds nothing, or neither writes.
abbrev pub HaveMet : {M : Type 0} → SystemView M → ℕ → ℕ → Type 0
HaveMet w low high = HasSeat w low (λ s. HasSeat w high (λ t. AreCompatible s.client.pass.part t.client.pass.part))

-- A client met each other one.
abbrev pub HasMetAll : {M : Type 0} → SystemView M → ℕ → Type 0
HasMetAll w c = (low high : ℕ) → is_client low ≡ true → is_client high ≡ true → low < high → (low ≡ c) ⊎ (high ≡ c) → HaveMet w low high

-- Whoever takes a lease in an event has met each other one then.
abbrev pub HasMetIn : {M : Type 0} → Event → SystemView M → Type 0
HasMetIn (event.Lease c i mode) w = IsClient c → HasMetAll w c
HasMetIn (event.Raise c i) w = IsClient c → HasMetAll w c
HasMetIn _ w = Unit {0}

-- A client's pass stands at no try for a lease of an inode, which is being taken out.
abbrev pub IsSettledAt : {M : Type 0} → SystemView M → ℕ → ℕ → Type 0
IsSettledAt w c i = is_client c ≡ true → HasWord i → HasSeat w c (λ s. lease_of s.client.pass i ≢ Trying)

-- So it is of whoever fetches in an event.
abbrev pub IsSettledIn : {M : Type 0} → Event → SystemView M → Type 0
IsSettledIn (event.Fetch c i) w = IsSettledAt w c i
IsSettledIn (event.Blocks c i first count) w = IsSettledAt w c i
IsSettledIn _ w = Unit {0}

module _ {M : Type 0} (device : Ghosts M) where
  -- A client's pass counts just its records that are not digested, and a call is answered whose record stays begun only where a device has failed.
  pub record HoldsRecords (v : ClientView M) : Type 0 where
    pub counts : Counts v.pass (own_records device v)
    pub failed : v.answered ≡ true → (v.log.failed ≡ true) × (is_some v.begun ≡ true)

  -- So it is of each client.
  abbrev pub HoldRecords : SystemView M → Type 0
  HoldRecords w = (c : ℕ) → is_client c ≡ true → HasSeat w c (λ s. HoldsRecords s.client)

  -- Of the shared medium, until a device of it has failed: contents that open with the graph and the marks that are read.
  abbrev pub KernelLeaves : KernelView M → Type 0
  KernelLeaves k = k.area.failed ≡ false → (content : Content) → Left (device.left k.area.media) (device.moment k.area.media) content → OpensAs k.area.geometry (disk device k.area) content

  -- Of the shared medium and of each client's two regions.
  pub record SystemLeaves (w : SystemView M) : Type 0 where
    pub kernel : KernelLeaves w.kernel
    pub clients : (c : ℕ) → is_client c ≡ true → HasSeat w c (SeatLeaves device)
    pub whose : (c : ℕ) → is_client c ≡ true → HasSeat w c (λ s. number_of s ≡ c)
