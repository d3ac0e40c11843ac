-- What a call needs, and what came of it.
use Rattle.std.specs.Prelude.{◌≡◌, ◌⊎◌, ◌^◌, ℕ, nat_lt, Bool, true, false, Result, if◌then◌else◌}
use Rattle.interleavings.specs.client_plan.declared.need.Mode.{Mode}
use Rattle.interleavings.specs.client_plan.declared.need.Need.{Need}
use Rattle.interleavings.specs.client_plan.declared.need.Need.TheVariants as needs
use Rattle.interleavings.specs.lease_manager.declared.view.LeaseMode.{LeaseMode}
use Rattle.interleavings.specs.lease_manager.declared.view.LeaseMode.TheVariants.{Free, Reading, Writing, Trying}
use Rattle.interleavings.specs.libfs.declared.denial.Denied.TheVariants as denied
use Rattle.interleavings.specs.event_steps.declared.event.Event.{Event}
use Rattle.interleavings.specs.event_steps.declared.event.Event.TheVariants as event
use Rattle.interleavings.specs.event_steps.declared.outcome.Refusal.{Refusal}
use Rattle.interleavings.specs.event_steps.declared.outcome.Refusal.TheVariants as refusals
use Rattle.call_driver.specs.EventResults.{CameTo}
use Rattle.call_driver.specs.Digests.{HasDigested, IsWiped}
use Rattle.call_driver.specs.LeaseReturn.{IsUndigested, OthersHandOver}
use Rattle.call_driver.specs.declared.needs.NeedResult.{NeedResult}
use Rattle.call_driver.specs.declared.needs.NeedResult.TheVariants as turns
use Rattle.call_driver.specs.declared.event_result.EventResult.{EventResult}
use Rattle.call_driver.specs.declared.event_result.EventResult.TheVariants as did
use Rattle.call_driver.specs.declared.events.Events.{Ghosts}

-- what a refusal by the kernel makes of a call: it is given up for it
abbrev pub after_refusal : Refusal → NeedResult
after_refusal refusals.DeviceFault = turns.Denied denied.Device
after_refusal refusals.NoBlock = turns.Blocked
after_refusal refusals.Busy = turns.Blocked
after_refusal refusals.BadLog = turns.Blocked
after_refusal refusals.NotMapped = turns.Blocked
after_refusal refusals.NoUnits = turns.Denied denied.NoUnits
after_refusal refusals.NoInode = turns.Denied denied.NoInode
after_refusal refusals.KernelFailed = turns.Denied denied.KernelFailed
after_refusal refusals.InUse = turns.Blocked
after_refusal refusals.Memory = turns.Denied denied.Memory
after_refusal (refusals.NotDigested count) = turns.Blocked

abbrev pub after_asking : EventResult → NeedResult
after_asking did.Done = turns.Again
after_asking did.Nothing = turns.Blocked
after_asking (did.Refused why) = after_refusal why

-- the lease that is asked for: who holds an inode for reading raises its lease
abbrev pub lease_event : ℕ → ℕ → Mode → LeaseMode → Event
lease_event client inode mode Free = event.Lease client inode mode
lease_event client inode mode Reading = event.Raise client inode
lease_event client inode mode Writing = event.Lease client inode mode
lease_event client inode mode Trying = event.Lease client inode mode

-- a block's number as an event has it; of one past all numbers the greatest
abbrev pub within : ℕ → ℕ
within first = if nat_lt first (2 ^ 32) then first else 4294967295

-- the event by which a need is asked for; a lease and room take more
abbrev pub event_for : ℕ → Need → Event
event_for client (needs.Unpin i) = event.Unpin client i
event_for client (needs.Lease i mode) = event.Lease client i mode
event_for client (needs.View i) = event.Fetch client i
event_for client (needs.Blocks i first count) = event.Blocks client i (within first) count
event_for client (needs.Inodes count) = event.Refill client 0 count
event_for client (needs.Units count) = event.Refill client count 0
event_for client (needs.Pin i) = event.Pin client i
event_for client needs.Room = event.Seal client

module _ {S : Type 0} (system : Ghosts S) where
  -- The kernel was asked.
  abbrev pub IsAsked : Event → NeedResult → S → S → Type 0
  IsAsked e turn s t = (d : EventResult) × CameTo system.plays e d s t × (turn ≡ after_asking d)

  -- Where a lease is refused the others hand the inode over, if they are to; else they are in the way.
  abbrev pub AfterLease : Bool → ℕ → ℕ → EventResult → NeedResult → S → S → Type 0
  AfterLease hands client inode did.Done turn s t = (turn ≡ turns.Again) × (t ≡ s)
  AfterLease hands client inode did.Nothing turn s t = (turn ≡ turns.Blocked) × (t ≡ s)
  AfterLease true client inode (did.Refused why) turn s t = OthersHandOver system client inode turn s t
  AfterLease false client inode (did.Refused why) turn s t = (turn ≡ turns.Blocked) × (t ≡ s)

  pub record IsLeased (hands : Bool) (client inode : ℕ) (mode : Mode) (turn : NeedResult) (s t : S) : Type 0 where
    pub came : EventResult
    pub between : S
    pub asked : CameTo system.plays (lease_event client inode mode (system.leases s client inode)) came s between
    pub rest : AfterLease hands client inode came turn between t

  -- All that the client logged is digested, and what there is to wipe of its regions is wiped, or its device fails in that.
  pub record HasMadeRoom (client : ℕ) (s t : S) : Type 0 where
    pub between : S
    pub digested : HasDigested system client s between
    pub answer : Result Bool Refusal
    pub wiped : IsWiped system.plays client answer between t

  abbrev pub MakesRoom : ℕ → NeedResult → S → S → Type 0
  MakesRoom client turn s t = ((turn ≡ turns.Again) × HasMadeRoom client s t) ⊎ IsUndigested system client turn s t

  -- What is needed was asked for, and this came of it.
  abbrev pub IsServed : Bool → ℕ → Need → NeedResult → S → S → Type 0
  IsServed hands client (needs.Unpin i) turn s t = IsAsked (event_for client (needs.Unpin i)) turn s t
  IsServed hands client (needs.Lease i mode) turn s t = IsLeased hands client i mode turn s t
  IsServed hands client (needs.View i) turn s t = IsAsked (event_for client (needs.View i)) turn s t
  IsServed hands client (needs.Blocks i first count) turn s t = IsAsked (event_for client (needs.Blocks i first count)) turn s t
  IsServed hands client (needs.Inodes count) turn s t = IsAsked (event_for client (needs.Inodes count)) turn s t
  IsServed hands client (needs.Units count) turn s t = IsAsked (event_for client (needs.Units count)) turn s t
  IsServed hands client (needs.Pin i) turn s t = IsAsked (event_for client (needs.Pin i)) turn s t
  IsServed hands client needs.Room turn s t = MakesRoom client turn s t
