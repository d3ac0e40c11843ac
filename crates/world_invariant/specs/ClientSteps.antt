-- The steps of a client's call, each with when it may be taken.
use Rattle.std.specs.Prelude.{◌≡◌, ◌≢◌, ◌⊎◌, ℕ, ◌+◌, ◌-◌, ◌≤◌, [], ◌∷◌, ◌++◌, true, Some, None, Ok}
use Rattle.posix_calls.specs.Part.{Known, run_part}
use Rattle.posix_calls.specs.Operations.{is_client}
use Rattle.posix_calls.specs.declared.call.Call.{Call}
use Rattle.posix_calls.specs.declared.operation.Operation.{Operation}
use Rattle.call_effects.specs.Records.{units_asked}
use Rattle.call_effects.specs.Knowledge.{IsPlanned, part_of, knows_after}
use Rattle.world_invariant.specs.Logs.{is_touched}
use Rattle.world_invariant.specs.World.{Begun, Alive, Failed, Dead, Client, World, moved_world}
use Rattle.world_invariant.specs.ClientParts.{OpensPinned}

-- the world with another part of a client
abbrev pub with_client : World → ℕ → Client → World
with_client w c p = moved_world w c w.kernel.shared (w.kernel.accounts c) p

-- ---- a call that writes no record

pub record CanAnswer (w : World) (c : ℕ) (call : Call) (new : ℕ) (operation : Operation) : Type 0 where
  pub client : is_client c ≡ true
  pub alive : (w.clients c).status ≡ Alive
  pub idle : (w.clients c).begun ≡ None
  pub planned : IsPlanned (w.clients c).knows call new operation []
  pub pinned : OpensPinned (w.clients c).pins new operation

abbrev pub after_answer : World → ℕ → ℕ → Operation → World
after_answer w c new operation = with_client w c (record (w.clients c) { knows = knows_after (w.clients c).knows new operation [] })

-- ---- a call that begins its record

pub record CanBegin (w : World) (c : ℕ) (b : Begun) : Type 0 where
  pub client : is_client c ≡ true
  pub alive : (w.clients c).status ≡ Alive
  pub idle : (w.clients c).begun ≡ None
  pub ready : (w.clients c).ready ≡ true
  -- by what the client knows
  pub planned : IsPlanned (w.clients c).knows b.call b.new b.operation b.change.effects
  pub some : b.change.effects ≢ []
  pub counted : run_part (part_of (w.clients c).knows) (units_asked b.operation) ≡ Known (Ok b.change.units)
  -- it holds for writing what the record touches, has its units, and has pinned what is opened
  pub leased : (i : ℕ) → is_touched i b.change ≡ true → (w.clients c).writes i ≡ true
  pub enough : b.change.units ≤ (w.clients c).spare
  pub pinned : OpensPinned (w.clients c).pins b.new b.operation

abbrev pub call_begun : World → ℕ → Begun → World
call_begun w c b = with_client w c (record (w.clients c) { begun = Some b; spare = (w.clients c).spare - b.change.units })

-- ---- what becomes of it

-- where the device failed it is never known
pub record IsBegun (w : World) (c : ℕ) (b : Begun) : Type 0 where
  pub client : is_client c ≡ true
  pub there : (w.clients c).begun ≡ Some b
  pub known : (w.clients c).status ≢ Failed

-- the record is in the log, and the call is answered; or it is found there once its client is gone
abbrev pub after_reply : World → ℕ → Begun → World
after_reply w c b = with_client w c (record (w.clients c) { begun = None; current = (w.clients c).current ++ (b.change ∷ []); knows = knows_after (w.clients c).knows b.new b.operation b.change.effects })

-- the call is given up, and its record is not in the log
abbrev pub given_up : World → ℕ → Begun → World
given_up w c b = with_client w c (record (w.clients c) { begun = None; spare = (w.clients c).spare + b.change.units })

-- the device fails in a step of the client, or as its call is settled
pub record CanFail (w : World) (c : ℕ) : Type 0 where
  pub client : is_client c ≡ true
  pub running : ((w.clients c).status ≡ Alive) ⊎ ((w.clients c).status ≡ Dead)

abbrev pub after_failure : World → ℕ → World
after_failure w c = with_client w c (record (w.clients c) { status = Failed })

-- the client dies
pub record CanDie (w : World) (c : ℕ) : Type 0 where
  pub client : is_client c ≡ true
  pub alive : (w.clients c).status ≡ Alive

abbrev pub after_death : World → ℕ → World
after_death w c = with_client w c (record (w.clients c) { status = Dead })
