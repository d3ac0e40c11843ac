-- What a client logged is digested, and its regions are wiped.
use Rattle.std.specs.Prelude.{◌≡◌, ◌⊎◌, ◌≤◌, ◌-◌, ℕ, zero, suc, nat_lt, Bool, Result, Ok, Err}
use Rattle.interleavings.specs.lease_manager.declared.layout.TheConstants.{INODES}
use Rattle.interleavings.specs.event_steps.declared.event.Event.{Event}
use Rattle.interleavings.specs.event_steps.declared.event.Event.TheVariants as event
use Rattle.interleavings.specs.event_steps.declared.outcome.Outcome.{Outcome}
use Rattle.interleavings.specs.event_steps.declared.outcome.Refusal.{Refusal}
use Rattle.interleavings.specs.event_steps.declared.outcome.Refusal.TheVariants as refusals
use Rattle.call_driver.specs.EventResults.{CameTo, IsRefusedIn}
use Rattle.call_driver.specs.EventOwner.{IsClearing, IsDigesting, IsReclaim}
use Rattle.call_driver.specs.declared.event_result.EventResult.{EventResult}
use Rattle.call_driver.specs.declared.event_result.EventResult.TheVariants as did
use Rattle.call_driver.specs.declared.events.Events.{Ghosts}

-- An event was done this number of times, one after the other.
abbrev pub Times : {S : Type 0} → (S → Event → Outcome → S → Type 0) → Event → ℕ → S → S → Type 0
Times plays e zero s t = t ≡ s
Times {S = S} plays e (suc n) s t = (u : S) × Times plays e n s u × CameTo plays e did.Done u t

-- It was done `count` times, until there was nothing more to do or `most` were reached.
pub record IsDoneUpTo {S : Type 0} (plays : S → Event → Outcome → S → Type 0) (e : Event) (most count : ℕ) (s t : S) : Type 0 where
  pub last : S
  pub times : Times plays e count s last
  pub few : count ≤ most
  pub end : ((count ≡ most) × (t ≡ last)) ⊎ CameTo plays e did.Nothing last t

-- All records of the region that a client handed over are digested: each chunk has one of them at least.
abbrev pub IsRegionDigested : {S : Type 0} → Ghosts S → ℕ → S → S → Type 0
IsRegionDigested system client s t = (count : ℕ) × IsDoneUpTo system.plays (event.Digest client) (system.undigested_count s client) count s t

-- So they are, or one of the events was refused.
abbrev pub IsRegionDone : {S : Type 0} → Ghosts S → ℕ → Result (Unit {0}) Refusal → S → S → Type 0
IsRegionDone system client (Ok x) s t = IsRegionDigested system client s t
IsRegionDone system client (Err why) s t = IsRefusedIn system.plays (IsDigesting client) why s t

-- So are all that it logged: those of the region that it handed over, and then those of the region that it hands over now, if it does.
pub record HasDigested {S : Type 0} (system : Ghosts S) (client : ℕ) (s t : S) : Type 0 where
  pub before : S
  pub first : IsRegionDigested system client s before
  pub rest : ((u : S) × CameTo system.plays (event.Seal client) did.Done before u × IsRegionDigested system client u t) ⊎ CameTo system.plays (event.Seal client) did.Nothing before t

-- They are, or one of the events was refused.
abbrev pub IsDigested : {S : Type 0} → Ghosts S → ℕ → Result (Unit {0}) Refusal → S → S → Type 0
IsDigested system client (Ok x) s t = HasDigested system client s t
IsDigested system client (Err why) s t = IsRefusedIn system.plays (IsDigesting client) why s t

-- whether a file may be passed over that was to be dropped: nothing was refused but that it is in use
abbrev pub IsPassed : EventResult → Type 0
IsPassed d = (why : Refusal) → d ≡ did.Refused why → why ≡ refusals.InUse

-- It was dropped, or passed over.
abbrev pub IsReclaimed : {S : Type 0} → (S → Event → Outcome → S → Type 0) → ℕ → S → S → Type 0
IsReclaimed plays i s t = (d : EventResult) × CameTo plays (event.Reclaim i) d s t × IsPassed d

-- So was each file up to a number, rising.
abbrev pub Reclaims : {S : Type 0} → (S → Event → Outcome → S → Type 0) → ℕ → S → S → Type 0
Reclaims plays zero s t = t ≡ s
Reclaims {S = S} plays (suc n) s t = (u : S) × Reclaims plays n s u × IsReclaimed plays (suc n) u t

abbrev pub AreReclaimed : {S : Type 0} → (S → Event → Outcome → S → Type 0) → Result (Unit {0}) Refusal → S → S → Type 0
AreReclaimed plays (Ok x) s t = Reclaims plays INODES s t
AreReclaimed plays (Err why) s t = IsRefusedIn plays IsReclaim why s t

-- All that a client logged is digested, `count` records, and then each file was dropped that may go.
pub record HasCleared {S : Type 0} (system : Ghosts S) (client count : ℕ) (s t : S) : Type 0 where
  pub between : S
  pub digested : HasDigested system client s between
  pub counted : count ≡ system.undigested_count s client - system.undigested_count between client
  pub reclaimed : Reclaims system.plays INODES between t

-- So it was, or one of the events was refused.
abbrev pub IsCleared : {S : Type 0} → Ghosts S → ℕ → Result ℕ Refusal → S → S → Type 0
IsCleared system client (Ok count) s t = HasCleared system client count s t
IsCleared system client (Err why) s t = IsRefusedIn system.plays (IsClearing client) why s t

-- by how many device calls a client's regions are wiped: four for each of two
abbrev pub wipe_calls : ℕ
wipe_calls = 8

-- What there is to wipe of a client's regions is wiped: so many device calls were made, or nothing was left to do. And whether there was something.
abbrev pub HasWiped : {S : Type 0} → (S → Event → Outcome → S → Type 0) → ℕ → Bool → S → S → Type 0
HasWiped plays client wiped s t = (count : ℕ) × IsDoneUpTo plays (event.WipeStep client) wipe_calls count s t × (wiped ≡ nat_lt 0 count)

abbrev pub IsWiped : {S : Type 0} → (S → Event → Outcome → S → Type 0) → ℕ → Result Bool Refusal → S → S → Type 0
IsWiped plays client (Ok wiped) s t = HasWiped plays client wiped s t
IsWiped plays client (Err why) s t = IsRefusedIn plays (λ e. e ≡ event.WipeStep client) why s t
