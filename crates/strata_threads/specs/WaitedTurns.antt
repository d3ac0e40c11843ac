-- How long a call was waited for, and why it was given up.
use Rattle.std.specs.Prelude.{◌≡◌, ◌⊎◌, ◌↔◌, ◌+◌, ◌==◌, ◌||◌, if◌then◌else◌, ℕ, Bool, List, [], ◌∷◌, Result, Ok, Err, IsErrOf, slice_index}
use Rattle.libfs.specs.client_plan.declared.need.Mode.{Mode}
use Rattle.libfs.specs.client_plan.declared.need.Mode.TheVariants.{Read, Write}
use Rattle.libfs.specs.client_plan.declared.need.Need.{Need}
use Rattle.libfs.specs.client_plan.declared.need.Need.TheVariants as needs
use Rattle.posix_calls.specs.declared.call.Reply.{Reply}
use Rattle.posix_calls.specs.declared.call.Reply.TheVariants as replies
use Rattle.libfs.specs.Denial.{errno_of}
use Rattle.libfs.specs.declared.denial.Denied.{Denied}
use Rattle.libfs.specs.declared.denial.Denied.TheVariants as denied

-- how many turns were waited, of how many, and three inodes that the call waited to write, 0 for none
pub record WaitedView : Type 0 where
  pub count : ℕ
  pub turns : ℕ
  pub to_write : List ℕ

-- ---- what was waited for

-- it is among the inodes that the call waited to write
abbrev pub is_to_write : List ℕ → ℕ → Bool
is_to_write inodes i = (slice_index inodes 0 == i) || (slice_index inodes 1 == i) || (slice_index inodes 2 == i)

-- with one more, unless it is there; of four the one that was added first is forgotten
abbrev pub with_inode : List ℕ → ℕ → List ℕ
with_inode inodes i = if is_to_write inodes i then inodes else i ∷ slice_index inodes 0 ∷ slice_index inodes 1 ∷ []

-- with one more, where it was to be written
abbrev pub with_busy : List ℕ → ℕ → Mode → List ℕ
with_busy inodes i Read = inodes
with_busy inodes i Write = with_inode inodes i

-- a turn in which a lease was busy
abbrev pub busy_turn : WaitedView → ℕ → Mode → WaitedView
busy_turn w i mode = record w { count = w.count + 1; to_write = with_busy w.to_write i mode }

-- a turn in which the region that a client sealed was away
abbrev pub away_turn : WaitedView → WaitedView
away_turn w = record w { count = w.count + 1 }

-- the mode in which a call takes a lease: for writing, where it waited to write that inode; else as it is needed
abbrev pub taken_mode : WaitedView → ℕ → Mode → Mode
taken_mode w i mode = if is_to_write w.to_write i then Write else mode

-- the turn that is waited for a need: a lease is busy, or the region is away that is to give room; for all else none is waited
abbrev pub IsTurnFor : Need → WaitedView → WaitedView → Type 0
IsTurnFor (needs.Lease i mode) old new = new ≡ busy_turn old i (taken_mode old i mode)
IsTurnFor needs.Room old new = new ≡ away_turn old
IsTurnFor _ old new = ⊥

-- none was waited, and all stays, or one for that need
abbrev pub HasWaitedFor : Need → WaitedView → WaitedView → Type 0
HasWaitedFor need old new = (new.turns ≡ old.turns) × ((new ≡ old) ⊎ IsTurnFor need old new)

-- A call is denied for its turns exactly where all of them were waited.
abbrev pub IsWithinTurns : Result Reply Denied → WaitedView → Type 0
IsWithinTurns answer waited = IsErrOf answer denied.Turns ↔ (waited.count ≡ waited.turns)

-- what a call is answered that is denied
abbrev pub reply_of : Result Reply Denied → Reply
reply_of (Ok reply) = reply
reply_of (Err why) = replies.Failed (errno_of why)
