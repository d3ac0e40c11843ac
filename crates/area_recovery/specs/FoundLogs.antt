-- What is found of the clients' logs.
use Rattle.std.specs.Prelude.{◌≡◌, ℕ, zero, suc, ◌%◌, ◌+◌, ◌-◌, ◌<◌, true, List, [], drop, length, min, slice_get, take, Option, Some, None, IfSome}
use Rattle.log_survey.specs.Owners.{AreTouchedBy, IsClear, TouchInodes}
use Rattle.log_survey.specs.Regions.{AreStale, records_that_count}
use Rattle.log_survey.specs.update_log.Frames.{records}
use Rattle.log_survey.specs.update_log.WipeStops.{generation}
use Rattle.log_survey.specs.declared.regions.LogRest.{LogRest}
use Rattle.log_survey.specs.update_log.RecordCounts.{counted_records, next_generation}
use Rattle.graph_check.specs.log_record.declared.format.Record.{Record}
use Rattle.recovery_laws.specs.digester.MarkMoves.{mark_of}
use Rattle.recovery_laws.specs.layout.declared.marks.Mark.{Mark}
use Rattle.recovery_laws.specs.layout.declared.marks.Marks.{Marks}
use Rattle.posix_calls.specs.Operations.{is_client}
use Rattle.area_recovery.specs.Errors.{OnBadLog}
use Rattle.area_recovery.specs.Recovers.{Regions}
use Rattle.area_recovery.specs.declared.error.RecoveryError.{RecoveryError}
use Rattle.area_recovery.specs.declared.log_search.FoundLog.{FoundLog}

-- the records of a client that count, by the marks and what stands in the regions
abbrev pub log_by : Marks → Regions → ℕ → List Record
log_by marks regions client = counted_records (mark_of marks client).generation (mark_of marks client).done (regions client)

-- the records of a generation from one on: they stand in the region of its remainder, whose header names it
pub record IsRestOf (regions : ℕ → List ℕ) (g done : ℕ) (rest : LogRest) : Type 0 where
  pub region : rest.region ≡ g % 2
  pub named : generation (regions rest.region) ≡ g
  pub from : rest.from ≡ min done (length (records (regions rest.region)))

-- a region has a generation: that of its remainder, whose header names it
abbrev pub HasGeneration : (ℕ → List ℕ) → ℕ → ℕ → Type 0
HasGeneration regions g r = (r ≡ g % 2) × (generation (regions r) ≡ g)

-- What is found of a client's log: the records that count, those of the mark's generation in one region and those of the next in the other, and a generation under which neither
-- region counts, with the mark's remainder.
pub record IsFound (mark : Mark) (regions : ℕ → List ℕ) (log : FoundLog) : Type 0 where
  pub counted : counted_records mark.generation mark.done regions ≡ records_that_count regions log.counted
  pub first : IfSome log.counted.first (IsRestOf regions mark.generation mark.done)
  pub second : IfSome log.counted.second (HasGeneration regions (next_generation mark.generation))
  pub stale : AreStale regions log.generation
  pub parity : log.generation % 2 ≡ mark.generation % 2

-- of a region this generation is read, and the inodes that each of its records touches
pub record IsReadAs (content : List ℕ) (name : ℕ) (touched : List (List ℕ)) : Type 0 where
  pub named : generation content ≡ name
  pub has : AreTouchedBy (records content) touched

-- so of a client's two regions
pub record AreReadAs (regions : ℕ → List ℕ) (name other : ℕ) (even odd : List (List ℕ)) : Type 0 where
  pub even_is : IsReadAs (regions 0) name even
  pub odd_is : IsReadAs (regions 1) other odd

-- all that a region has, 0 or another one; nothing of no region
abbrev pub second_part : {A : Type 0} → List A → List A → Option ℕ → List A
second_part even odd None = []
second_part even odd (Some zero) = even
second_part even odd (Some (suc r)) = odd

-- what a region has behind what is passed over; nothing of no region
abbrev pub first_part : {A : Type 0} → List A → List A → Option LogRest → List A
first_part even odd None = []
first_part even odd (Some rest) = drop rest.from (second_part even odd (Some rest.region))

-- the records of two regions, which touch no number but inodes', touch these, a list for each record
pub record AreTouchedIn (even odd : List (List ℕ)) (evens odds : List Record) : Type 0 where
  pub even_is : AreTouchedBy evens even
  pub odd_is : AreTouchedBy odds odd
  pub inodes : (o : Option ℕ) → TouchInodes (second_part evens odds o)

-- so it is of each client
abbrev pub AreFound : Marks → Regions → List FoundLog → Type 0
AreFound marks regions logs = (client : ℕ) (log : FoundLog) → is_client client ≡ true → slice_get logs (client - 1) ≡ Some log → IsFound (mark_of marks client) (regions client) log

-- ---- records that touch what those of another client do

-- The record at this place touches an inode that another client's do, and none before it does.
pub record IsFirstForeign (own : ℕ → Option ℕ) (client : ℕ) (rs : List Record) (place : ℕ) : Type 0 where
  pub clear : IsClear own client (take place rs)
  pub touches : IsClear own client (take (place + 1) rs) → ⊥

-- a refusal for a record names the first such of these, which are that client's
abbrev pub NamesForeign : (ℕ → Option ℕ) → ℕ → List Record → RecoveryError → Type 0
NamesForeign own client rs e = OnBadLog e (λ c place. (c ≡ client) × IsFirstForeign own client rs place)

-- each of a client's regions has fewer records than a number has values
abbrev pub HoldsFew : (ℕ → List ℕ) → Type 0
HoldsFew regions = (r : ℕ) → r < 2 → length (records (regions r)) < 4294967296

-- so it is of each client
abbrev pub HoldFew : Regions → Type 0
HoldFew these = (client : ℕ) → is_client client ≡ true → HoldsFew (these client)
