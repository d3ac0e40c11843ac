-- Runs of the kernel's machine, from whichever it begins with.
use Rattle.std.specs.Prelude.{◌≡◌, ℕ, ◌+◌, ◌==◌, List, [], ◌∷◌, length, Bool, true, Option, Some, None, if◌then◌else◌}
use Rattle.posix_calls.specs.Operations.{is_client}
use Rattle.world_invariant.specs.log_record.declared.format.Record.{Record}
use Rattle.digester.specs.update_log.RecordCounts.{next_generation}
use Rattle.world_invariant.specs.BookSteps.{HasRoom, IsUnbooked}
use Rattle.world_invariant.specs.KernelSteps.{CanReclaim}
use Rattle.world_invariant.specs.Machine.{Machine, Sealed, StandsSealed, CanAccept, CanDigestNext, accept, digest, book_pin, unbook_pin, bury, reclaim}
use Rattle.world_invariant.specs.World.{at}
use Rattle.kernel_fs.specs.Steps.{grant, take_back}

-- An entry of the kernel that moves its machine: whose it is, and what was granted, given back, accepted, digested. A region is named by its client and its generation. What is digested is the first part
-- of what is left of it.
pub data Entry : Type 0 where
  Refill : (client units : ℕ) → (numbers : ℕ → Bool) → Entry
  GiveBack : (client units : ℕ) → (numbers : ℕ → Bool) → Entry
  Pin : (client inode : ℕ) → Entry
  Unpin : (client inode : ℕ) → Entry
  Bury : (client : ℕ) → Entry
  Accept : (client generation : ℕ) → (region : Sealed) → Entry
  Digest : (client generation : ℕ) → (region : Sealed) → (first rest : List Record) → Entry
  Reclaim : (inode : ℕ) → Entry

-- Where a run stands: its machine, and which generation the mark of each client names: that of the region whose records are waiting, or else of the one to be accepted next.
pub record RunState : Type 0 where
  pub machine : Machine
  pub generations : ℕ → ℕ

-- with another machine, and the same marks
abbrev pub with_machine : RunState → Machine → RunState
with_machine r m = record { machine = m; generations = r.generations }

-- the generation that a client's mark names after a digest of these records: with the last one that was accepted it goes to the next generation
abbrev pub generation_after : Machine → ℕ → ℕ → List Record → ℕ
generation_after m c g first = if (m.kernel.accounts c).mark + length first == m.accepted c then next_generation g else g

-- where it stands after an entry
abbrev pub after_entry : RunState → Entry → RunState
after_entry r (Refill c units numbers) = with_machine r (grant r.machine c units numbers)
after_entry r (GiveBack c units numbers) = with_machine r (take_back r.machine c units numbers)
after_entry r (Pin c i) = with_machine r (book_pin r.machine c i)
after_entry r (Unpin c i) = with_machine r (unbook_pin r.machine c i)
after_entry r (Bury c) = with_machine r (bury r.machine c)
after_entry r (Accept c g s) = with_machine r (accept r.machine c s)
after_entry r (Digest c g s first rest) = record { machine = digest r.machine c first; generations = at r.generations c (generation_after r.machine c g first) }
after_entry r (Reclaim i) = with_machine r (reclaim r.machine i)

-- It may take the entry. A region is accepted, and digested, only while its client's mark names its generation.
abbrev pub MayTake : RunState → Entry → Type 0
MayTake r (Refill c units numbers) = (is_client c ≡ true) × HasRoom r.machine.kernel units × ((i : ℕ) → numbers i ≡ true → IsUnbooked r.machine.kernel i)
MayTake r (GiveBack c units numbers) = is_client c ≡ true
MayTake r (Pin c i) = is_client c ≡ true
MayTake r (Unpin c i) = is_client c ≡ true
MayTake r (Bury c) = is_client c ≡ true
MayTake r (Accept c g s) = CanAccept r.machine c s × (g ≡ r.generations c)
MayTake r (Digest c g s first rest) = CanDigestNext r.machine c s first rest × (g ≡ r.generations c)
MayTake r (Reclaim i) = CanReclaim r.machine.kernel i

-- What is digested stands in the machine; of other entries nothing is asked.
abbrev pub StandsInMachine : Machine → Entry → Type 0
StandsInMachine m (Refill c units numbers) = Unit {0}
StandsInMachine m (GiveBack c units numbers) = Unit {0}
StandsInMachine m (Pin c i) = Unit {0}
StandsInMachine m (Unpin c i) = Unit {0}
StandsInMachine m (Bury c) = Unit {0}
StandsInMachine m (Accept c g s) = Unit {0}
StandsInMachine m (Digest c g s first rest) = StandsSealed m.kernel.shared (m.kernel.accounts c) s
StandsInMachine m (Reclaim i) = Unit {0}

-- These entries, the last one first, lead from one state to the other, and each is so of the state that takes it.
abbrev pub LeadsBy : (RunState → Entry → Type 0) → RunState → List Entry → RunState → Type 0
LeadsBy IsSo first [] last = last ≡ first
LeadsBy IsSo first (e ∷ es) last = (r : RunState) × LeadsBy IsSo first es r × IsSo r e × (last ≡ after_entry r e)

-- So they are a run: each may be taken where it is.
abbrev pub IsRun : RunState → List Entry → RunState → Type 0
IsRun = LeadsBy MayTake

-- the generation of the region of a client that these entries, the last one first, accepted last
abbrev pub generation_accepted_last : List Entry → ℕ → Option ℕ
generation_accepted_last [] c = None
generation_accepted_last (Accept d g s ∷ es) c = if c == d then Some g else generation_accepted_last es c
generation_accepted_last (e ∷ es) c = generation_accepted_last es c
