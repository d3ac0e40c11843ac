-- What the words of `strata_run` ask for.
use Rattle.std.specs.Prelude.{◌≡◌, ◌⊎◌, List, [], ◌∷◌, Some, None, codes, unwrap_or}
use Rattle.command_line.specs.Options.{App, IsNoNumber, Row, number_in, option_of, program_with}
use Rattle.command_line.specs.declared.option_table.OptionValue.TheVariants.{Number32, Number64, Text}
use Rattle.thread_runs.specs.DeathWords.{HasBadDeath, IsDeathIn}
use Rattle.thread_runs.specs.StopWords.{HasBadStop, IsStopIn}
use Rattle.thread_runs.specs.declared.options.Options.{Options}

-- the program and its options
abbrev pub run : App
run = program_with (codes "strata_run") (option_of (codes "clients") (Number32 1 8) ∷ option_of (codes "turns") (Number64 0)
    ∷ option_of (codes "start") (Number64 0) ∷ option_of (codes "workers") (Number32 1 8) ∷ option_of (codes "units") (Number32 2 65536)
    ∷ option_of (codes "stop") (Number64 1) ∷ option_of (codes "fill") Text ∷ option_of (codes "die") Text ∷ [])

-- what the words ask for
pub record AreRunOptions (rows : List Row) (o : Options) : Type 0 where
  pub clients : number_in rows (codes "clients") ≡ Some o.clients
  pub turns : number_in rows (codes "turns") ≡ Some o.turns
  pub start : number_in rows (codes "start") ≡ Some o.start
  pub workers : o.workers ≡ unwrap_or (number_in rows (codes "workers")) 2
  pub units : o.units ≡ unwrap_or (number_in rows (codes "units")) 1024
  pub stop : IsStopIn rows o.stop
  pub die : IsDeathIn rows o.die

-- clients, turns or a start are missing
abbrev pub LacksRun : List Row → Type 0
LacksRun rows = (number_in rows (codes "clients") ≡ None) ⊎ ((number_in rows (codes "turns") ≡ None) ⊎ (number_in rows (codes "start") ≡ None))

-- or a value is not of its form
abbrev pub HasBadRun : List Row → Type 0
HasBadRun rows = LacksRun rows ⊎ (IsNoNumber 32 rows (codes "clients") ⊎ (IsNoNumber 64 rows (codes "turns")
    ⊎ (IsNoNumber 64 rows (codes "start") ⊎ (IsNoNumber 32 rows (codes "workers") ⊎ (IsNoNumber 32 rows (codes "units")
    ⊎ (HasBadStop rows ⊎ HasBadDeath rows))))))
