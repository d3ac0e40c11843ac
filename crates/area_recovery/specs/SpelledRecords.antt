-- Records whose effects have a spelling.
use Rattle.std.specs.Prelude.{◌≤◌, length}
use Rattle.std.specs.List.{AllByRecursion}
use Rattle.graph_check.specs.log_record.Grammar.{FitsLimits}
use Rattle.graph_check.specs.log_record.declared.format.Record.{Record}
use Rattle.graph_check.specs.log_record.declared.format.TheConstants.{MAX_EFFECTS}

-- A record has 1 to 8 effects, and each keeps the limits.
pub record HasSpelledEffects (r : Record) : Type 0 where
  pub some : 1 ≤ length r.effects
  pub few : length r.effects ≤ MAX_EFFECTS
  pub fit : AllByRecursion FitsLimits r.effects
