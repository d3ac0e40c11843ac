-- The stop of the regions that the words of a command line ask for.
use Rattle.std.specs.Prelude.{◌≡◌, ◌⊎◌, ⊤, ℕ, List, [], ◌∷◌, Option, Some, None, codes}
use Rattle.script.specs.Script.{hex_byte}
use Rattle.command_line.specs.Options.{App, IsNoNumber, Row, number_in, option_of, program_with, text_in}
use Rattle.command_line.specs.declared.option_table.OptionValue.TheVariants.{Number64, Text}
use Rattle.thread_runs.specs.declared.region_stops.RegionStop.{RegionStop}

-- `strata_first` and its options
abbrev pub first : App
first = program_with (codes "strata_first") (option_of (codes "stop") (Number64 1) ∷ option_of (codes "fill") Text ∷ [])

-- the byte that two digits spell
abbrev pub fill_in : List ℕ → Option ℕ
fill_in [] = None
fill_in (a ∷ []) = None
fill_in (high ∷ low ∷ []) = hex_byte high low
fill_in (a ∷ b ∷ c ∷ digits) = None

-- no stop, or one within this call that fills with the byte that these digits spell
abbrev pub IsStop : Option ℕ → Option (List ℕ) → Option RegionStop → Type 0
IsStop None None None = ⊤
IsStop (Some call) (Some digits) (Some stop) = (stop.call ≡ call) × (fill_in digits ≡ Some stop.byte)
IsStop _ _ _ = ⊥

abbrev pub IsStopIn : List Row → Option RegionStop → Type 0
IsStopIn rows stop = IsStop (number_in rows (codes "stop")) (text_in rows (codes "fill")) stop

-- one stands without the other, or a call that is none, or digits that spell no byte
abbrev pub IsBadStop : Option ℕ → Option (List ℕ) → Type 0
IsBadStop None None = ⊥
IsBadStop (Some call) (Some digits) = (call ≡ 0) ⊎ (fill_in digits ≡ None)
IsBadStop _ _ = ⊤

-- or the call is no number of 64 bits
abbrev pub HasBadStop : List Row → Type 0
HasBadStop rows = IsNoNumber 64 rows (codes "stop") ⊎ IsBadStop (number_in rows (codes "stop")) (text_in rows (codes "fill"))
