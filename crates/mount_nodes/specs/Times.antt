-- When nodes were changed, and which times are told of them: nanoseconds from the beginning of 1970 on.
use Rattle.std.specs.Prelude.{◌≡◌, ◌⊎◌, ◌<◌, ◌≤◌, ◌+◌, ◌-◌, ◌^◌, ◌/◌, ◌%◌, ◌==◌, ℕ, [], ◌∷◌, ◌++◌, length, max, min, Option, Some, None, set, slice_index_or, unwrap_or, if◌then◌else◌}
use Rattle.fuse_wire.specs.declared.replies.Time.{Time}
use Rattle.fuse_wire.specs.declared.request.NewTime.{NewTime}
use Rattle.fuse_wire.specs.declared.request.NewTime.TheVariants as new_time
use Rattle.mount_nodes.specs.declared.times.NodeTimes.{NodeTimes}
use Rattle.mount_nodes.specs.declared.times.Stamp.{Stamp}
use Rattle.mount_nodes.specs.declared.times.Times.{Times}

-- ---- what is told

-- a time as it is told
abbrev pub time_of : ℕ → Time
time_of n = record { seconds = n / 1000000000; nanoseconds = n % 1000000000 }

-- the stamp of a node of which no change was seen since a time
abbrev pub first_stamp : ℕ → ℕ → Stamp
first_stamp generation began = record { generation = generation; changed = began; written = began; modified = None; accessed = None }

-- the stamp of the node that has a number; of a number that no node has had it is that of the last change of all
abbrev pub stamp_at : Times → ℕ → Stamp
stamp_at times id = slice_index_or times.stamps.items id (first_stamp 0 times.last)

-- what is told: the times that were set, in place of that of the last change of the bytes or entries
abbrev pub told_of : Stamp → NodeTimes
told_of s = record { accessed = unwrap_or s.accessed (time_of s.written); modified = unwrap_or s.modified (time_of s.written); changed = time_of s.changed }

-- a number was given to some node
abbrev pub IsGiven : Times → ℕ → Type 0
IsGiven times id = id < length times.stamps.items

-- the times of a mount that begins now: all of it is told as changed then
pub record IsBegun (times : Times) (now : ℕ) : Type 0 where
  pub began : times.began ≡ now
  pub last : times.last ≡ now
  pub stamps : (id : ℕ) → told_of (stamp_at times id) ≡ told_of (first_stamp 1 now)

-- ---- stamps

-- the stamp of a node whose bytes or entries are changed at a time
abbrev pub written_stamp : Stamp → ℕ → Stamp
written_stamp s time = record { generation = s.generation; changed = time; written = time; modified = None; accessed = s.accessed }

-- of one of which something else is
abbrev pub touched_stamp : Stamp → ℕ → Stamp
touched_stamp s time = record { generation = s.generation; changed = time; written = s.written; modified = s.modified; accessed = s.accessed }

-- of one that gets a name: one that was not changed since the mount began is as if its bytes were, since another node of the same time may
-- have had the name
abbrev pub named_stamp : Stamp → ℕ → ℕ → Stamp
named_stamp s time began =
    record { generation = s.generation; changed = time; written = if s.written == began then time else s.written; modified = s.modified; accessed = s.accessed }

-- what becomes of the time of the last change of bytes, and of those that were set, where a time is set
abbrev pub set_written : ℕ → ℕ → Option NewTime → ℕ
set_written written time (Some new_time.Now) = time
set_written written time m = written

abbrev pub set_modified : Option Time → Option NewTime → Option Time
set_modified was None = was
set_modified was (Some new_time.Now) = None
set_modified was (Some (new_time.At given)) = Some given

abbrev pub set_accessed : Option Time → ℕ → Option NewTime → Option Time
set_accessed was time None = was
set_accessed was time (Some new_time.Now) = Some (time_of time)
set_accessed was time (Some (new_time.At given)) = Some given

-- of one whose times are set
abbrev pub set_stamp : Stamp → ℕ → Option NewTime → Option NewTime → Stamp
set_stamp s time accessed modified = record {
  generation = s.generation;
  changed = time;
  written = set_written s.written time modified;
  modified = set_modified s.modified modified;
  accessed = set_accessed s.accessed time accessed;
}

-- a stamp is put in the place of another one, where the number was given
pub record Puts (old new : Times) (id : ℕ) (s : Stamp) : Type 0 where
  pub began : new.began ≡ old.began
  pub day : new.day ≡ old.day
  pub last : new.last ≡ old.last
  pub put : new.stamps.items ≡ set old.stamps.items id s

-- a stamp is added for the next number
pub record Adds (old new : Times) (s : Stamp) : Type 0 where
  pub began : new.began ≡ old.began
  pub day : new.day ≡ old.day
  pub last : new.last ≡ old.last
  pub added : new.stamps.items ≡ old.stamps.items ++ s ∷ []

-- no stamp is another one
pub record Stays (old new : Times) : Type 0 where
  pub began : new.began ≡ old.began
  pub day : new.day ≡ old.day
  pub last : new.last ≡ old.last
  pub kept : new.stamps.items ≡ old.stamps.items

-- ---- how times go on

-- the time of a change that is made now: the time of day, or the nanosecond behind the last change; it ends at 2^64 - 1, in the year 2554
abbrev pub next_time : Times → ℕ
next_time times = max times.day (min (times.last + 1) (2 ^ 64 - 1))

-- a time is later than those of all changes so far, or the last one that there is
abbrev pub IsLater : Times → ℕ → Type 0
IsLater times n = (times.last < n) ⊎ (2 ^ 64 - 1 ≤ n)

-- a time stays, or becomes that of a later change
abbrev pub StaysOrRises : Times → Times → ℕ → ℕ → Type 0
StaysOrRises old new m n = (n ≡ m) ⊎ (IsLater old n × (n ≤ new.last))

-- a node's times stay or rise, unless its number goes to another node
abbrev pub Ages : Times → Times → Stamp → Stamp → Type 0
Ages old new s t =
    ((t.generation ≡ s.generation) × StaysOrRises old new s.changed t.changed × StaysOrRises old new s.written t.written) ⊎ (s.generation < t.generation)

-- So the times of a mount go on: those of every node, and none comes again.
pub record GoesOn (old new : Times) : Type 0 where
  pub began : new.began ≡ old.began
  pub day : new.day ≡ old.day
  pub last : old.last ≤ new.last
  pub stamps : (id : ℕ) → Ages old new (stamp_at old id) (stamp_at new id)

-- a number goes to a node of which no change was seen, and it is told as changed when the mount began
abbrev pub BeginsAs : ℕ → Stamp → Stamp → Type 0
BeginsAs began s t = t ≡ first_stamp (s.generation + 1) began

-- nodes may get numbers; nothing else becomes of times
pub record Meets (old new : Times) : Type 0 where
  pub began : new.began ≡ old.began
  pub day : new.day ≡ old.day
  pub last : new.last ≡ old.last
  pub stamps : (id : ℕ) → (stamp_at new id ≡ stamp_at old id) ⊎ BeginsAs old.began (stamp_at old id) (stamp_at new id)

-- ---- what a change makes of a node's times

-- the times go on, and none is set
pub record Runs (old new : Times) : Type 0 where
  pub goes : GoesOn old new
  pub unset : (id : ℕ) → ((stamp_at new id).modified ≡ None) ⊎ ((stamp_at new id).modified ≡ (stamp_at old id).modified)

-- a node's number is still its own, and then this holds of its stamp
abbrev pub IfItsOwn : Times → Times → ℕ → (Stamp → Type 0) → Type 0
IfItsOwn old new id P = (stamp_at new id).generation ≡ (stamp_at old id).generation → P (stamp_at new id)

-- the bytes or entries of a node were changed: that is told as a later time than any before, and no time that was set is told
abbrev pub IsWritten : Times → Times → ℕ → Type 0
IsWritten old new id = IfItsOwn old new id (λ s. IsLater old s.changed × IsLater old s.written × (s.modified ≡ None))

-- a node was changed
abbrev pub IsTouched : Times → Times → ℕ → Type 0
IsTouched old new id = IfItsOwn old new id (λ s. IsLater old s.changed)

-- a node got a name: where no change of its bytes was seen, this counts as one
abbrev pub IsNamed : Times → Times → ℕ → Type 0
IsNamed old new id = IfItsOwn old new id (λ s. IsLater old s.changed × ((stamp_at old id).written ≡ old.began → IsLater old s.written))

-- a time was set: that of the change, or the one that is given
abbrev pub IsSetTo : Option NewTime → ℕ → Time → Type 0
IsSetTo None changed told = Unit {0}
IsSetTo (Some new_time.Now) changed told = told ≡ time_of changed
IsSetTo (Some (new_time.At given)) changed told = told ≡ given

-- the times of a node that are given were set
abbrev pub IsSet : Times → ℕ → Option NewTime → Option NewTime → Type 0
IsSet new id accessed modified =
    IsGiven new id → IsSetTo accessed (stamp_at new id).changed (told_of (stamp_at new id)).accessed × IsSetTo modified (stamp_at new id).changed (told_of (stamp_at new id)).modified
