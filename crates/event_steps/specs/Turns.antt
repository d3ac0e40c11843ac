-- When an event has something to do.
use Rattle.std.specs.Prelude.{◌≡◌, ◌≢◌, ◌⊎◌, ℕ, Bool, true, false, Option, Some, None, is_some, IfSome}
use Rattle.tier_device.specs.declared.media.Media.{Ghosts}
use Rattle.posix_calls.specs.Tree.{has_open}
use Rattle.libfs.specs.file_graph.Graph.{is_among}
use Rattle.libfs.specs.client_log.Steps.{CanBeSealed}
use Rattle.libfs.specs.lease_manager.Passes.{lease_of}
use Rattle.libfs.specs.lease_manager.Words.{HasWord, IsClient}
use Rattle.libfs.specs.lease_manager.declared.view.LeaseMode.TheVariants.{Free, Reading}
use Rattle.libfs.specs.ClientEnd.{CanBeRenewed}
use Rattle.libfs.specs.ClientHoldings.{known_to}
use Rattle.libfs.specs.LeaseCalls.{CanBeGiven}
use Rattle.libfs.specs.Lives.{is_buried, is_settled}
use Rattle.libfs.specs.declared.life.Life.{Life}
use Rattle.libfs.specs.declared.life.Life.TheVariants as lives
use Rattle.libfs.specs.View.{ClientView, is_pending}
use Rattle.event_steps.specs.declared.event.Event.{Event}
use Rattle.event_steps.specs.declared.event.Event.TheVariants as event
use Rattle.event_steps.specs.Refusals.{has_refusal}
use Rattle.event_steps.specs.View.{SeatView, SystemView, seat_of}

-- the client whose event it is
abbrev pub whose : Event → Option ℕ
whose (event.Start c call) = Some c
whose (event.Step c) = Some c
whose (event.Lease c i mode) = Some c
whose (event.Raise c i) = Some c
whose (event.Give c i) = Some c
whose (event.AskBack c i of) = Some c
whose (event.Fetch c i) = Some c
whose (event.Blocks c i first count) = Some c
whose (event.Refill c units inodes) = Some c
whose (event.GiveBack c) = Some c
whose (event.Pin c i) = Some c
whose (event.Unpin c i) = Some c
whose (event.Seal c) = Some c
whose (event.Digest c) = Some c
whose (event.WipeStep c) = Some c
whose (event.Reclaim i) = None
whose (event.Migrate i first count to) = None
whose (event.Deny c call why) = Some c
whose (event.Die c) = Some c
whose (event.Settle c) = Some c
whose (event.Bury c) = Some c
whose (event.Join c) = Some c

-- whether the client asks the kernel in it, or the kernel digests what the client handed over
abbrev pub asks_kernel : Event → Bool
asks_kernel (event.Start c call) = false
asks_kernel (event.Step c) = false
asks_kernel (event.Lease c i mode) = false
asks_kernel (event.Raise c i) = false
asks_kernel (event.Give c i) = false
asks_kernel (event.AskBack c i of) = false
asks_kernel (event.Fetch c i) = true
asks_kernel (event.Blocks c i first count) = true
asks_kernel (event.Refill c units inodes) = true
asks_kernel (event.GiveBack c) = true
asks_kernel (event.Pin c i) = true
asks_kernel (event.Unpin c i) = true
asks_kernel (event.Seal c) = false
asks_kernel (event.Digest c) = true
asks_kernel (event.WipeStep c) = false
asks_kernel (event.Reclaim i) = false
asks_kernel (event.Migrate i first count to) = false
asks_kernel (event.Deny c call why) = false
asks_kernel (event.Die c) = false
asks_kernel (event.Settle c) = false
asks_kernel (event.Bury c) = true
asks_kernel (event.Join c) = false

-- whether it is of the end of a client, or of the new one in its seat
abbrev pub is_end : Event → Bool
is_end (event.Die c) = true
is_end (event.Settle c) = true
is_end (event.Bury c) = true
is_end (event.Join c) = true
is_end _ = false

-- a client holds an inode, for reading or for writing
abbrev pub IsHeld : {M : Type 0} → ClientView M → ℕ → Type 0
IsHeld v i = HasWord i × (lease_of v.pass i ≢ Free)

-- A pin may go of a file that is not open, while no call waits.
pub record CanBeUnpinned {M : Type 0} (v : ClientView M) (i : ℕ) : Type 0 where
  pub idle : is_pending v ≡ false
  pub pinned : is_among i v.pins ≡ true
  pub closed : has_open (known_to v).own i ≡ false

-- Something is to be wiped: the current region, or the other one that is back.
abbrev pub IsToBeWiped : {M : Type 0} → ClientView M → Type 0
IsToBeWiped v = (v.log.ready ≡ false) ⊎ ((v.log.clean ≡ false) × (is_some v.log.other ≡ true))

-- it may hand over what it logged, and wipe it: a living client, and a dead one once its call is settled
abbrev pub MayHandOver : Life → Type 0
MayHandOver life = life ≢ lives.Dead

-- How far a client's life may have come for an event: what it asks itself, and to die, a living one alone; each step of its end follows the one before.
abbrev pub MayPlay : Life → Event → Type 0
MayPlay life (event.Start c call) = life ≡ lives.Alive
MayPlay life (event.Step c) = life ≡ lives.Alive
MayPlay life (event.Lease c i mode) = life ≡ lives.Alive
MayPlay life (event.Raise c i) = life ≡ lives.Alive
MayPlay life (event.Give c i) = life ≡ lives.Alive
MayPlay life (event.AskBack c i of) = life ≡ lives.Alive
MayPlay life (event.Fetch c i) = life ≡ lives.Alive
MayPlay life (event.Blocks c i first count) = life ≡ lives.Alive
MayPlay life (event.Refill c units inodes) = life ≡ lives.Alive
MayPlay life (event.GiveBack c) = life ≡ lives.Alive
MayPlay life (event.Pin c i) = life ≡ lives.Alive
MayPlay life (event.Unpin c i) = life ≡ lives.Alive
MayPlay life (event.Seal c) = MayHandOver life
MayPlay life (event.Digest c) = MayHandOver life
MayPlay life (event.WipeStep c) = MayHandOver life
MayPlay life (event.Reclaim i) = ⊥
MayPlay life (event.Migrate i first count to) = ⊥
MayPlay life (event.Deny c call why) = life ≡ lives.Alive
MayPlay life (event.Die c) = life ≡ lives.Alive
MayPlay life (event.Settle c) = life ≡ lives.Dead
MayPlay life (event.Bury c) = is_settled life ≡ true
MayPlay life (event.Join c) = is_buried life ≡ true

-- What else there must be to do in it.
abbrev pub HasWork : {M : Type 0} → Ghosts M → SeatView M → Event → Type 0
HasWork device s (event.Start c call) = is_pending s.client ≡ false
HasWork device s (event.Step c) = is_pending s.client ≡ true
HasWork device s (event.Lease c i mode) = HasWord i × (lease_of s.client.pass i ≡ Free)
HasWork device s (event.Raise c i) = HasWord i × (lease_of s.client.pass i ≡ Reading)
HasWork device s (event.Give c i) = CanBeGiven s.client i
HasWork device s (event.AskBack c i of) = HasWord i × IsClient of
HasWork device s (event.Fetch c i) = IsHeld s.client i
HasWork device s (event.Blocks c i first count) = IsHeld s.client i
HasWork device s (event.Refill c units inodes) = Unit {0}
HasWork device s (event.GiveBack c) = (is_pending s.client ≡ false) × (s.client.log.failed ≡ false)
HasWork device s (event.Pin c i) = HasWord i
HasWork device s (event.Unpin c i) = CanBeUnpinned s.client i
HasWork device s (event.Seal c) = CanBeSealed device s.client.log
HasWork device s (event.Digest c) = (s.client.log.failed ≡ false) × (is_some s.away ≡ true)
HasWork device s (event.WipeStep c) = (s.client.log.failed ≡ false) × IsToBeWiped s.client
HasWork device s (event.Reclaim i) = ⊥
HasWork device s (event.Migrate i first count to) = ⊥
HasWork device s (event.Deny c call why) = (is_pending s.client ≡ false) × (s.client.log.failed ≡ false) × (has_refusal s.refused why ≡ true)
HasWork device s (event.Die c) = s.client.log.failed ≡ false
HasWork device s (event.Settle c) = s.client.log.failed ≡ false
HasWork device s (event.Bury c) = Unit {0}
HasWork device s (event.Join c) = CanBeRenewed device s.client.log

-- A client has something to do in an event.
abbrev pub HasTurn : {M : Type 0} → Ghosts M → SeatView M → Event → Type 0
HasTurn device s e = MayPlay s.life e × HasWork device s e

-- One of the eight clients has.
abbrev pub IsTurnOf : {M : Type 0} → Ghosts M → SystemView M → Event → Option ℕ → Type 0
IsTurnOf device w e None = Unit {0}
IsTurnOf device w e (Some c) = IsClient c × IfSome (seat_of w c) (λ s. HasTurn device s e)

-- An event has something to do: what is of no client always has, and of a number outside 1 to 8 nothing.
abbrev pub CanPlay : {M : Type 0} → Ghosts M → SystemView M → Event → Type 0
CanPlay device w e = IsTurnOf device w e (whose e)
