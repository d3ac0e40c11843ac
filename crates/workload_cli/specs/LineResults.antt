-- What a line of a script is answered, and what it makes of a running system.
use Rattle.std.specs.Prelude.{◌≡◌, ◌≢◌, ◌⊎◌, ◌-◌, ◌^◌, ℕ, min, Bool, true, false, List, Option, Some, None, Result, Ok}
use Rattle.tier_device.specs.declared.media.Tier.{Tier}
use Rattle.posix_calls.specs.declared.call.Call.{Call}
use Rattle.posix_calls.specs.declared.errno.Errno.TheVariants.{NoMemory}
use Rattle.script.specs.SystemLines.{Asked, Calls, Steps, Digests, Wipes, Dies, Buries, Moves, Places, Books, Stops, Halts, Fails, Recovers}
use Rattle.script.specs.declared.system_line.LowerTier.{LowerTier}
use Rattle.script.specs.declared.system_line.Manner.{Manner}
use Rattle.call_driver.specs.event_steps.declared.event.Event.TheVariants as event
use Rattle.call_driver.specs.event_steps.declared.outcome.Outcome.{Outcome}
use Rattle.call_driver.specs.event_steps.declared.outcome.Refusal.{Refusal}
use Rattle.call_driver.specs.Burials.{IsBurial}
use Rattle.call_driver.specs.Digests.{IsCleared, IsWiped}
use Rattle.call_driver.specs.Calls.{IsStepOf}
use Rattle.call_driver.specs.libfs.declared.life.Life.TheVariants as lives
use Rattle.call_driver.specs.declared.burials.BuryResult.{BuryResult}
use Rattle.call_driver.specs.declared.call_result.CallResult.{CallResult}
use Rattle.workload_cli.specs.Manners.{IsServedIn}
use Rattle.workload_cli.specs.Paths.{file_in}
use Rattle.workload_cli.specs.AnswerText.{IsNoFile, tier_below, book_answer, bury_answer, call_answer, die_answer, digest_answer, failure_answer, move_answer, step_answer, wipe_answer}
use Rattle.workload_cli.specs.declared.answer.Answer.{Answer}
use Rattle.workload_cli.specs.declared.answer.Answer.TheVariants as answers
use Rattle.workload_cli.specs.declared.system_queries.Running.{Ghosts as Looked}
use Rattle.call_driver.specs.declared.events.Events.{Ghosts}

-- the client that a line wants to be alive: who asks, steps, digests or wipes
abbrev pub asking : Asked → Option ℕ
asking (Calls client manner call) = Some client
asking (Steps client) = Some client
asking (Digests client) = Some client
asking (Wipes client) = Some client
asking (Dies client) = None
asking (Buries client) = None
asking (Moves path first count to) = None
asking (Places path block) = None
asking Books = None
asking (Stops call fill) = None
asking (Halts fills) = None
asking (Fails call medium) = None
asking Recovers = None

abbrev pub asking_in : Option Asked → Option ℕ
asking_in None = None
asking_in (Some asked) = asking asked

-- what a system plays, what its clients owe, hold, wait for and have broken, and how far their lives have come
module _ {S : Type 0} (system : Ghosts S) where
  -- There was no memory to build the call, and nothing was played; or it was served in its manner, and the answer is what became of it.
  abbrev pub IsCallAnswered : S → ℕ → Manner → Call → Answer → S → Type 0
  IsCallAnswered old client manner call answer new = ((answer ≡ failure_answer NoMemory) × (new ≡ old))
      ⊎ ((x : CallResult) × IsServedIn system manner client call x old new × (answer ≡ call_answer x))

  -- One step was played.
  abbrev pub IsStepAnswered : S → ℕ → Answer → S → Type 0
  IsStepAnswered old client answer new = (x : Option CallResult) × IsStepOf system.plays client x old new × (answer ≡ step_answer x)

  -- A client that has a call which waits for its answer, or a device that has failed, digests nothing.
  abbrev pub IsDigestAnswered : S → ℕ → Answer → S → Type 0
  IsDigestAnswered old client answer new = (((system.pending old client ≡ true) ⊎ (system.failed old client ≡ true)) × (answer ≡ answers.Blocked) × (new ≡ old))
      ⊎ ((system.pending old client ≡ false) × (system.failed old client ≡ false) × (r : Result ℕ Refusal) × IsCleared system client r old new × (answer ≡ digest_answer r))

  abbrev pub IsWipeAnswered : S → ℕ → Answer → S → Type 0
  IsWipeAnswered old client answer new = (r : Result Bool Refusal) × IsWiped system.plays client r old new × (answer ≡ wipe_answer r)

  -- One death was played.
  abbrev pub IsDieAnswered : S → ℕ → Answer → S → Type 0
  IsDieAnswered old client answer new = (o : Outcome) × system.plays old (event.Die client) o new × (answer ≡ die_answer o)

  -- The client was buried from where its life had come.
  abbrev pub IsBuryAnswered : S → ℕ → Answer → S → Type 0
  IsBuryAnswered old client answer new = (x : BuryResult) × IsBurial system client x old new × (answer ≡ bury_answer x)

  -- such a client, if there is one, is dead, and no other has joined
  abbrev pub IsDead : S → Option ℕ → Type 0
  IsDead s None = ⊥
  IsDead s (Some client) = system.lives s client ≢ lives.Alive

  -- what it answers of its shared area: whether a device of that has failed, its file tree, where blocks lie, how the units stand; and that it was only read
  module _ (area : Looked S) where
    -- The file was looked up, and its run moved, where there is such a file.
    pub record IsMoveAnswered (old : S) (path : List ℕ) (first count : ℕ) (to : LowerTier) (answer : Answer) (new : S) : Type 0 where
      pub between : S
      pub looked : area.only_reads old between
      pub came : (IsNoFile (file_in (area.tree old) path) (area.area_failed old) (area.area_failed between) answer × (new ≡ between)) ⊎ ((i : ℕ) × (o : Outcome) × (file_in (area.tree old) path ≡ Ok i) × system.plays between (event.Migrate i first (min count (2 ^ 32 - 1)) (tier_below to)) o new × (answer ≡ move_answer count o))

    -- The block was looked up.
    pub record IsPlaceAnswered (old : S) (path : List ℕ) (block : ℕ) (answer : Answer) (new : S) : Type 0 where
      pub looked : area.only_reads old new
      pub came : IsNoFile (file_in (area.tree old) path) (area.area_failed old) (area.area_failed new) answer ⊎ ((i : ℕ) × (tier : Option Tier) × (file_in (area.tree old) path ≡ Ok i) × area.tier_in old i block tier × (answer ≡ answers.Lies tier))

    -- What is asked of a system whose client of that line lives is answered so, and leaves it so.
    abbrev pub IsLiveAnswer : S → Option Asked → Answer → S → Type 0
    IsLiveAnswer old None answer new = (answer ≡ answers.Silent) × (new ≡ old)
    IsLiveAnswer old (Some (Calls client manner call)) answer new = IsCallAnswered old client manner call answer new
    IsLiveAnswer old (Some (Steps client)) answer new = IsStepAnswered old client answer new
    IsLiveAnswer old (Some (Digests client)) answer new = IsDigestAnswered old client answer new
    IsLiveAnswer old (Some (Wipes client)) answer new = IsWipeAnswered old client answer new
    IsLiveAnswer old (Some (Dies client)) answer new = IsDieAnswered old client answer new
    IsLiveAnswer old (Some (Buries client)) answer new = IsBuryAnswered old client answer new
    IsLiveAnswer old (Some (Moves path first count to)) answer new = IsMoveAnswered old path first count to answer new
    IsLiveAnswer old (Some (Places path block)) answer new = IsPlaceAnswered old path block answer new
    IsLiveAnswer old (Some Books) answer new = (answer ≡ book_answer (area.figures_now old)) × (new ≡ old)
    -- those of a world that is stopped ask nothing of a running one
    IsLiveAnswer old (Some (Stops call fill)) answer new = (answer ≡ answers.Silent) × (new ≡ old)
    IsLiveAnswer old (Some (Halts fills)) answer new = (answer ≡ answers.Silent) × (new ≡ old)
    IsLiveAnswer old (Some (Fails call medium)) answer new = (answer ≡ answers.Silent) × (new ≡ old)
    IsLiveAnswer old (Some Recovers) answer new = (answer ≡ answers.Silent) × (new ≡ old)

    -- So is every line, but one of a client that is dead is blocked, and no event is played.
    abbrev pub IsAnswerTo : S → Option Asked → Answer → S → Type 0
    IsAnswerTo old asked answer new = (IsDead old (asking_in asked) × (answer ≡ answers.Blocked) × (new ≡ old)) ⊎ ((IsDead old (asking_in asked) → ⊥) × IsLiveAnswer old asked answer new)
