-- Other clients give back what a call needs.
use Rattle.std.specs.Prelude.{◌≡◌, ◌≢◌, ◌⊎◌, ◌<◌, ℕ, zero, suc, true, false}
use Rattle.interleavings.specs.lease_manager.declared.layout.TheConstants.{CLIENTS}
use Rattle.interleavings.specs.lease_manager.declared.view.LeaseMode.TheVariants.{Free}
use Rattle.interleavings.specs.libfs.declared.life.Life.TheVariants as lives
use Rattle.interleavings.specs.event_steps.declared.event.Event.TheVariants as event
use Rattle.interleavings.specs.event_steps.declared.outcome.Refusal.{Refusal}
use Rattle.interleavings.specs.event_steps.declared.outcome.Refusal.TheVariants as refusals
use Rattle.call_driver.specs.EventResults.{CameTo, IsRefusedIn}
use Rattle.call_driver.specs.Digests.{HasDigested}
use Rattle.call_driver.specs.EventOwner.{IsDigesting}
use Rattle.call_driver.specs.declared.needs.NeedResult.{NeedResult}
use Rattle.call_driver.specs.declared.needs.NeedResult.TheVariants as turns
use Rattle.call_driver.specs.declared.event_result.EventResult.{EventResult}
use Rattle.call_driver.specs.declared.event_result.EventResult.TheVariants as did
use Rattle.call_driver.specs.declared.events.Events.{Ghosts}

-- what becomes of a call that wants a digest which is refused
abbrev pub without_digest : Refusal → NeedResult
without_digest refusals.DeviceFault = turns.Blocked
without_digest refusals.NoBlock = turns.Blocked
without_digest refusals.Busy = turns.Blocked
without_digest refusals.BadLog = turns.Blocked
without_digest refusals.NotMapped = turns.Blocked
without_digest refusals.NoUnits = turns.Blocked
without_digest refusals.NoInode = turns.Blocked
without_digest refusals.KernelFailed = turns.Blocked
without_digest refusals.InUse = turns.Blocked
without_digest refusals.Memory = turns.NoMemory
without_digest (refusals.NotDigested count) = turns.Blocked

-- what becomes of one that wants an inode back, which was given or not
abbrev pub after_give : EventResult → NeedResult
after_give did.Done = turns.Again
after_give did.Nothing = turns.Blocked
after_give (did.Refused why) = turns.Blocked

module _ {S : Type 0} (system : Ghosts S) where
  -- A client that holds an inode digests all that it logged and gives the inode back.
  pub record Yields (other inode : ℕ) (turn : NeedResult) (s t : S) : Type 0 where
    pub between : S
    pub digested : HasDigested system other s between
    pub came : EventResult
    pub given : CameTo system.plays (event.Give other inode) came between t
    pub told : turn ≡ after_give came

  -- it is dead, it has a call that waits, or its device has failed: no event is played
  abbrev pub IsInTheWay : ℕ → NeedResult → S → S → Type 0
  IsInTheWay other turn s t = ((system.lives s other ≢ lives.Alive) ⊎ ((system.pending s other ≡ true) ⊎ (system.failed s other ≡ true))) × (turn ≡ turns.Blocked) × (t ≡ s)

  -- its digest is refused
  abbrev pub IsUndigested : ℕ → NeedResult → S → S → Type 0
  IsUndigested other turn s t = (why : Refusal) × IsRefusedIn system.plays (IsDigesting other) why s t × (turn ≡ without_digest why)

  abbrev pub HandsOver : ℕ → ℕ → NeedResult → S → S → Type 0
  HandsOver other inode turn s t = IsInTheWay other turn s t ⊎ ((system.lives s other ≡ lives.Alive) × (system.pending s other ≡ false) × (system.failed s other ≡ false) × (IsUndigested other turn s t ⊎ Yields other inode turn s t))

  -- One that does not hold it, or is the client itself, has nothing to do.
  abbrev pub GivesWay : ℕ → ℕ → ℕ → NeedResult → S → S → Type 0
  GivesWay client other inode turn s t = (((other ≡ client) ⊎ (system.leases s other inode ≡ Free)) × (turn ≡ turns.Again) × (t ≡ s))
      ⊎ ((other ≢ client) × (system.leases s other inode ≢ Free) × HandsOver other inode turn s t)

  -- So did the clients up to a number, rising.
  abbrev pub GaveWay : ℕ → ℕ → ℕ → S → S → Type 0
  GaveWay client inode zero s t = t ≡ s
  GaveWay client inode (suc n) s t = (u : S) × GaveWay client inode n s u × GivesWay client (suc n) inode turns.Again u t

  -- All others have given the inode back; or one of them does not, and those before it have.
  abbrev pub OthersHandOver : ℕ → ℕ → NeedResult → S → S → Type 0
  OthersHandOver client inode turn s t = ((turn ≡ turns.Again) × GaveWay client inode CLIENTS s t)
      ⊎ ((turn ≢ turns.Again) × ((before : ℕ) × (u : S) × (before < CLIENTS) × GaveWay client inode before s u × GivesWay client (suc before) inode turn u t))
