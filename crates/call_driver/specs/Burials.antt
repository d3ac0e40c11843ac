-- How a client that died is buried, and a new one takes its seat.
use Rattle.std.specs.Prelude.{◌≡◌, ℕ, Bool, Result, Ok, Err}
use Rattle.interleavings.specs.libfs.Lives.{found_in}
use Rattle.interleavings.specs.libfs.declared.fate.Found.{Found}
use Rattle.interleavings.specs.libfs.declared.life.Life.{Life}
use Rattle.interleavings.specs.libfs.declared.life.Life.TheVariants as lives
use Rattle.interleavings.specs.event_steps.declared.event.Event.TheVariants as event
use Rattle.interleavings.specs.event_steps.declared.outcome.Outcome.{Outcome}
use Rattle.interleavings.specs.event_steps.declared.outcome.Outcome.TheVariants as outcome
use Rattle.interleavings.specs.event_steps.declared.outcome.Refusal.{Refusal}
use Rattle.call_driver.specs.Digests.{IsDigested, IsWiped}
use Rattle.call_driver.specs.declared.burials.BuryResult.{BuryResult}
use Rattle.call_driver.specs.declared.burials.BuryResult.TheVariants as burials
use Rattle.call_driver.specs.declared.events.Events.{Ghosts}

-- what a settling came to: what became of the dead client's call; or the burial ends with it
abbrev pub after_settle : Outcome → Result Found BuryResult
after_settle (outcome.Reply reply) = Err burials.Idle
after_settle outcome.Pending = Err burials.Idle
after_settle (outcome.Need need) = Err burials.Idle
after_settle outcome.Stepped = Err burials.Idle
after_settle (outcome.Refused why) = Err (burials.Refused why)
after_settle outcome.Died = Err burials.Idle
after_settle (outcome.Settled fate) = Ok (found_in fate)
after_settle outcome.Buried = Err burials.Idle
after_settle outcome.Joined = Err burials.Idle
after_settle outcome.Idle = Err burials.Idle

-- what became of the client's account with the kernel: it is gone, and the call of the dead client was found so; or the burial ends with it
abbrev pub after_bury : Found → Outcome → Result Found BuryResult
after_bury found (outcome.Reply reply) = Err burials.Idle
after_bury found outcome.Pending = Err burials.Idle
after_bury found (outcome.Need need) = Err burials.Idle
after_bury found outcome.Stepped = Err burials.Idle
after_bury found (outcome.Refused why) = Err (burials.Refused why)
after_bury found outcome.Died = Err burials.Idle
after_bury found (outcome.Settled fate) = Err burials.Idle
after_bury found outcome.Buried = Ok found
after_bury found outcome.Joined = Err burials.Idle
after_bury found outcome.Idle = Err burials.Idle

-- whether a new client took the seat
abbrev pub after_join : Found → Outcome → BuryResult
after_join found (outcome.Reply reply) = burials.Idle
after_join found outcome.Pending = burials.Idle
after_join found (outcome.Need need) = burials.Idle
after_join found outcome.Stepped = burials.Idle
after_join found (outcome.Refused why) = burials.Idle
after_join found outcome.Died = burials.Idle
after_join found (outcome.Settled fate) = burials.Idle
after_join found outcome.Buried = burials.Idle
after_join found outcome.Joined = burials.Buried found
after_join found outcome.Idle = burials.Idle

module _ {S : Type 0} (system : Ghosts S) where
  -- A new client is to take the seat of a buried one, once what there is to wipe of both regions is wiped.
  abbrev pub AfterWipe : ℕ → Found → Result Bool Refusal → BuryResult → S → S → Type 0
  AfterWipe client found (Ok wiped) x s t = (o : Outcome) × system.plays s (event.Join client) o t × (x ≡ after_join found o)
  AfterWipe client found (Err why) x s t = (x ≡ burials.Refused why) × (t ≡ s)

  pub record IsRenewed (client : ℕ) (found : Found) (x : BuryResult) (s t : S) : Type 0 where
    pub between : S
    pub answer : Result Bool Refusal
    pub wiped : IsWiped system.plays client answer s between
    pub rest : AfterWipe client found answer x between t

  -- The account of a client that has nothing undigested leaves the kernel's book, and then a new client is to take the seat.
  abbrev pub AfterBury : ℕ → Result Found BuryResult → BuryResult → S → S → Type 0
  AfterBury client (Ok found) x s t = IsRenewed client found x s t
  AfterBury client (Err y) x s t = (x ≡ y) × (t ≡ s)

  pub record LeavesBook (client : ℕ) (found : Found) (x : BuryResult) (s t : S) : Type 0 where
    pub between : S
    pub came : Outcome
    pub buried : system.plays s (event.Bury client) came between
    pub rest : AfterBury client (after_bury found came) x between t

  -- All that a settled client logged is digested, and then its account leaves the book.
  abbrev pub AfterDigests : ℕ → Found → Result (Unit {0}) Refusal → BuryResult → S → S → Type 0
  AfterDigests client found (Ok done) x s t = LeavesBook client found x s t
  AfterDigests client found (Err why) x s t = (x ≡ burials.Refused why) × (t ≡ s)

  pub record IsSettledBuried (client : ℕ) (found : Found) (x : BuryResult) (s t : S) : Type 0 where
    pub between : S
    pub answer : Result (Unit {0}) Refusal
    pub digested : IsDigested system client answer s between
    pub rest : AfterDigests client found answer x between t

  -- What became of a dead client's call is found, and then it is buried as a settled one.
  abbrev pub AfterSettle : ℕ → Result Found BuryResult → BuryResult → S → S → Type 0
  AfterSettle client (Ok found) x s t = IsSettledBuried client found x s t
  AfterSettle client (Err y) x s t = (x ≡ y) × (t ≡ s)

  pub record IsDeadBuried (client : ℕ) (x : BuryResult) (s t : S) : Type 0 where
    pub between : S
    pub came : Outcome
    pub settled : system.plays s (event.Settle client) came between
    pub rest : AfterSettle client (after_settle came) x between t

  -- From where its life has come: a living client is not buried, and no event is played.
  abbrev pub IsBuriedFrom : Life → ℕ → BuryResult → S → S → Type 0
  IsBuriedFrom lives.Alive client x s t = (x ≡ burials.Idle) × (t ≡ s)
  IsBuriedFrom lives.Dead client x s t = IsDeadBuried client x s t
  IsBuriedFrom (lives.Settled found) client x s t = IsSettledBuried client found x s t
  IsBuriedFrom (lives.Buried found) client x s t = IsRenewed client found x s t

  abbrev pub IsBurial : ℕ → BuryResult → S → S → Type 0
  IsBurial client x s t = IsBuriedFrom (system.lives s client) client x s t
