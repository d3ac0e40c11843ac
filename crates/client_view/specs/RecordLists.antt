-- The records that a client keeps in memory, and which of them count behind a mark.
use Rattle.std.specs.Prelude.{◌≡◌, ℕ, List, [], ◌++◌, drop, Bool, if◌then◌else◌}
use Rattle.client_plan.specs.log_record.declared.format.Record.{Record}

pub record Kept : Type 0 where
  -- those of the region that was handed over and is not back, and of the one that is written
  pub away : List Record
  pub current : List Record
  -- whether there is room for one record more of the one that is written
  pub has_room : Bool

-- those behind a mark, by whether that is in the generation of the region that is written, or in the one before, and how many records of that one are digested
abbrev pub beyond : Kept → Bool → ℕ → List Record
beyond k is_current done = if is_current then drop done k.current else drop done k.away ++ k.current

-- the effects of a record that is digested are gone
abbrev pub IsEmptied : Record → Type 0
IsEmptied r = r.effects ≡ []
