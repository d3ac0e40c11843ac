-- What is read of a client's two regions, and which records an answer has.
use Rattle.std.specs.Prelude.{◌≡◌, ◌≢◌, ℕ, ◌<◌, List, [], ◌++◌, length, drop, slice_index, Option, Some, None}
use Rattle.update_log.specs.log_record.declared.format.Record.{Record}
use Rattle.update_log.specs.Frames.{header, records}
use Rattle.update_log.specs.WipeStops.{generation}
use Rattle.update_log.specs.RecordCounts.{next_generation}
use Rattle.log_survey.specs.declared.regions.LogRest.{LogRest}
use Rattle.log_survey.specs.declared.regions.CountedLogs.{CountedLogs}

-- the headers of regions 0 and 1 name these generations
abbrev pub HeadersName : (ℕ → List ℕ) → List ℕ → Type 0
HeadersName regions names = (r : ℕ) → r < 2 → generation (header (regions r)) ≡ slice_index names r

-- of regions 0 and 1 these are the generations that their headers name, and the numbers of their records
pub record AreRead (regions : ℕ → List ℕ) (names lengths : List ℕ) : Type 0 where
  pub named : HeadersName regions names
  pub long : (r : ℕ) → r < 2 → length (records (regions r)) ≡ slice_index lengths r

-- under a mark of this generation regions 0 and 1 are stale: neither names it or the next, so that no moment of a wipe of theirs counts
abbrev pub AreStale : (ℕ → List ℕ) → ℕ → Type 0
AreStale regions g = (r : ℕ) → r < 2 → (generation (regions r) ≢ g) × (generation (regions r) ≢ next_generation g)

-- the records of a region behind those that are passed over; none of no region
abbrev pub records_behind : (ℕ → List ℕ) → Option LogRest → List Record
records_behind regions None = []
records_behind regions (Some rest) = drop rest.from (records (regions rest.region))

-- all records of a region; none of no region
abbrev pub records_of : (ℕ → List ℕ) → Option ℕ → List Record
records_of regions None = []
records_of regions (Some region) = records (regions region)

-- the records that an answer has, in their order
abbrev pub records_that_count : (ℕ → List ℕ) → CountedLogs → List Record
records_that_count regions logs = records_behind regions logs.first ++ records_of regions logs.second
