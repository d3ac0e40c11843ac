-- What an event makes of a running system.
use Rattle.std.specs.Prelude.{◌≡◌, ◌≢◌, ◌-◌, ℕ, Option, Some, None, slice_set}
use Rattle.tier_device.specs.declared.media.Media.{Ghosts}
use Rattle.libfs.specs.kernel_fs.KernelView.{KernelView}
use Rattle.event_steps.specs.KernelRequests.{AreFetched, IsFetched, IsGivenBack, IsPinned, IsRefilled, IsUnpinned}
use Rattle.event_steps.specs.Calls.{IsDenied, IsStarted, IsStepped}
use Rattle.event_steps.specs.Deaths.{IsBuriedOn, IsDied, IsJoined, IsSettledOn}
use Rattle.event_steps.specs.Leases.{IsAskedBack, IsGiven, IsLeased, IsRaised}
use Rattle.event_steps.specs.Media.{IsMovedIn, IsReclaimedIn}
use Rattle.event_steps.specs.Regions.{IsDigestedOn, IsHandedOver, IsWipedOn}
use Rattle.event_steps.specs.Turns.{whose}
use Rattle.event_steps.specs.View.{SeatView, SystemView, seat_of}
use Rattle.event_steps.specs.declared.event.Event.{Event}
use Rattle.event_steps.specs.declared.event.Event.TheVariants as event
use Rattle.event_steps.specs.declared.outcome.Outcome.{Outcome}
use Rattle.event_steps.specs.declared.outcome.Outcome.TheVariants as outcomes

-- What an event made of its client, and of the kernel.
abbrev pub Makes : {M : Type 0} → Ghosts M → KernelView M → SeatView M → Event → Outcome → SeatView M → KernelView M → Type 0
Makes device k s (event.Start c call) o s' k' = IsStarted device s call o s' × (k' ≡ k)
Makes device k s (event.Step c) o s' k' = IsStepped device s o s' × (k' ≡ k)
Makes device k s (event.Lease c i mode) o s' k' = IsLeased s i mode o s' × (k' ≡ k)
Makes device k s (event.Raise c i) o s' k' = IsRaised s i o s' × (k' ≡ k)
Makes device k s (event.Give c i) o s' k' = IsGiven s i o s' × (k' ≡ k)
Makes device k s (event.AskBack c i of) o s' k' = IsAskedBack s i of o s' × (k' ≡ k)
Makes device k s (event.Fetch c i) o s' k' = IsFetched device k s i o s' k'
Makes device k s (event.Blocks c i first count) o s' k' = AreFetched device k s i first count o s' k'
Makes device k s (event.Refill c units inodes) o s' k' = IsRefilled device k s units inodes o s' k'
Makes device k s (event.GiveBack c) o s' k' = IsGivenBack device k s o s' k'
Makes device k s (event.Pin c i) o s' k' = IsPinned device k s i o s' k'
Makes device k s (event.Unpin c i) o s' k' = IsUnpinned device k s i o s' k'
Makes device k s (event.Seal c) o s' k' = IsHandedOver device s o s' × (k' ≡ k)
Makes device k s (event.Digest c) o s' k' = IsDigestedOn device k s o s' k'
Makes device k s (event.WipeStep c) o s' k' = IsWipedOn device s o s' × (k' ≡ k)
Makes device k s (event.Reclaim i) o s' k' = ⊥
Makes device k s (event.Migrate i first count to) o s' k' = ⊥
Makes device k s (event.Deny c call why) o s' k' = IsDenied s why o s' × (k' ≡ k)
Makes device k s (event.Die c) o s' k' = IsDied s o s' × (k' ≡ k)
Makes device k s (event.Settle c) o s' k' = IsSettledOn device s o s' × (k' ≡ k)
Makes device k s (event.Bury c) o s' k' = IsBuriedOn device k s o s' k'
Makes device k s (event.Join c) o s' k' = IsJoined s o s' × (k' ≡ k)

-- An event of a client leaves all others as they were.
pub record MakesAt {M : Type 0} (device : Ghosts M) (w : SystemView M) (c : ℕ) (e : Event) (o : Outcome) (new : SystemView M) : Type 0 where
  pub seat : SeatView M
  pub was : seat_of w c ≡ Some seat
  pub seat_then : SeatView M
  pub makes : Makes device w.kernel seat e o seat_then new.kernel
  pub seats : new.seats ≡ slice_set w.seats (c - 1) seat_then

-- What one of no client made of the kernel.
abbrev pub MakesOver : {M : Type 0} → Ghosts M → KernelView M → Event → Outcome → KernelView M → Type 0
MakesOver device k (event.Reclaim i) o k' = IsReclaimedIn device k i o k'
MakesOver device k (event.Migrate i first count to) o k' = IsMovedIn device k i first count to o k'
MakesOver device k _ o k' = ⊥

abbrev pub PlaysFor : {M : Type 0} → Ghosts M → SystemView M → Option ℕ → Event → Outcome → SystemView M → Type 0
PlaysFor device w None e o new = MakesOver device w.kernel e o new.kernel × (new.seats ≡ w.seats)
PlaysFor device w (Some c) e o new = MakesAt device w c e o new

-- What it made of the system.
abbrev pub Plays : {M : Type 0} → Ghosts M → SystemView M → Event → Outcome → SystemView M → Type 0
Plays device w e o new = PlaysFor device w (whose e) e o new

-- ---- how a seat answers

-- An event of a seat's client has nothing to do exactly where it is not its turn, and changes nothing then; else it makes this.
pub record Carries (Turn Made Same : Type 0) (o : Outcome) : Type 0 where
  pub idle : o ≡ outcomes.Idle → (Turn → ⊥) × Same
  pub turn : o ≢ outcomes.Idle → Turn
  pub made : Turn → Made
