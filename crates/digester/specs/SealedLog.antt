-- The records of a region that a client sealed, in memory.
use Rattle.std.specs.Prelude.{◌≡◌, ℕ, ◌+◌, ◌^◌, ◌<◌, ◌≤◌, true, List, Some, length, drop}
use Rattle.std.specs.List.{AllByRecursion}
use Rattle.std.specs.List.Sorted.{IsStrictlyIncreasing}
use Rattle.posix_calls.specs.Operations.{is_client}
use Rattle.update_log.specs.log_record.Grammar.{IsRecord}
use Rattle.update_log.specs.log_record.declared.format.Record.{Record}
use Rattle.shared_area.specs.layout.declared.marks.Mark.{Mark}
use Rattle.shared_area.specs.layout.declared.marks.Marks.{Marks}
use Rattle.shared_area.specs.area_reader.Store.{Store, marks}
use Rattle.digester.specs.MarkMoves.{mark_after, mark_of}

-- a sealed log: whose it is, its generation, how many of its records are digested, the inodes that its client held for writing, and all its records in their order
pub record SealedView : Type 0 where
  pub client : ℕ
  pub generation : ℕ
  pub done : ℕ
  pub held : List ℕ
  pub records : List Record

-- What holds of every one: it is a client's, the inodes rise, each once, its records have spellings, and no more of them are digested than there are.
pub record IsSealed (x : SealedView) : Type 0 where
  pub client : is_client x.client ≡ true
  pub rising : IsStrictlyIncreasing x.held
  pub spelled : AllByRecursion IsRecord x.records
  pub few : length x.records < 2 ^ 32
  pub within : x.done ≤ length x.records

-- some of its records are not digested
abbrev pub HasUndigested : SealedView → Type 0
HasUndigested x = x.done < length x.records

-- the records that are not digested yet
abbrev pub undone : SealedView → List Record
undone x = drop x.done x.records

-- the mark once so many more of them are digested
abbrev pub mark_then : SealedView → ℕ → Mark
mark_then x n = mark_after x.generation (x.done + n) (length x.records)

-- The log stands at its client's mark, which names its generation and so many records as are digested of it; once they all are, it names the next generation, and none.
abbrev pub StandsAt : SealedView → Marks → Type 0
StandsAt x v = mark_of v x.client ≡ mark_after x.generation x.done (length x.records)

-- So it stands at that of a store.
abbrev pub StandsAtMark : SealedView → Store → Type 0
StandsAtMark x s = (v : Marks) × (marks s ≡ Some v) × StandsAt x v

-- the same with so many of its records digested
abbrev pub done_to : ℕ → SealedView → SealedView
done_to done x = record x { done = done }

-- The same with so many more of its records digested.
abbrev pub IsDoneBy : SealedView → ℕ → SealedView → Type 0
IsDoneBy old n new = new ≡ done_to (old.done + n) old
