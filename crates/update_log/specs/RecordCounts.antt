-- The records that count for a client: those of its two regions that are not digested.
use Rattle.std.specs.Prelude.{ℕ, ◌+◌, ◌%◌, ◌^◌, ◌==◌, List, [], ◌++◌, drop, if◌then◌else◌}
use Rattle.log_record.specs.declared.format.Record.{Record}
use Rattle.update_log.specs.Frames.{records}
use Rattle.update_log.specs.WipeStops.{generation}

-- the records of a region, where its header names this generation; else none counts
abbrev pub records_under : ℕ → List ℕ → List Record
records_under g content = if generation content == g then records content else []

-- the generation after this one: they are counted modulo 2^64
abbrev pub next_generation : ℕ → ℕ
next_generation g = (g + 1) % 2 ^ 64

-- the records of a generation, by what a client's two regions hold: it stands in region g mod 2
abbrev pub records_in : (ℕ → List ℕ) → ℕ → List Record
records_in regions g = records_under g (regions (g % 2))

-- those that count under a mark: of its generation those after the ones done, then those of the next
abbrev pub counted_records : ℕ → ℕ → (ℕ → List ℕ) → List Record
counted_records g done regions = drop done (records_in regions g) ++ records_in regions (next_generation g)

-- the regions, one of which holds this now
abbrev pub with_region : (ℕ → List ℕ) → ℕ → List ℕ → ℕ → List ℕ
with_region regions r content s = if s == r then content else regions s
