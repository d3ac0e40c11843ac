-- How far a client's life has come.
use Rattle.std.specs.Prelude.{Bool, true, false, Result, Ok, Err}
use Rattle.client_log.specs.declared.error.LogError.{LogError}
use Rattle.libfs.specs.declared.bury_error.BuryError.{BuryError}
use Rattle.libfs.specs.declared.fate.Fate.{Fate}
use Rattle.libfs.specs.declared.fate.Fate.TheVariants as fates
use Rattle.libfs.specs.declared.fate.Found.{Found}
use Rattle.libfs.specs.declared.fate.Found.TheVariants as founds
use Rattle.libfs.specs.declared.life.Life.{Life}
use Rattle.libfs.specs.declared.life.Life.TheVariants as lives

-- a fate without its reply
abbrev pub found_in : Fate → Found
found_in (fates.Whole reply) = founds.Whole
found_in fates.Gone = founds.Gone
found_in fates.None = founds.Nothing

-- whether its call is settled, and it is not buried
abbrev pub is_settled : Life → Bool
is_settled lives.Alive = false
is_settled lives.Dead = false
is_settled (lives.Settled found) = true
is_settled (lives.Buried found) = false

-- whether it is buried
abbrev pub is_buried : Life → Bool
is_buried lives.Alive = false
is_buried lives.Dead = false
is_buried (lives.Settled found) = false
is_buried (lives.Buried found) = true

-- a dead client's life once it was to be settled: a refusal leaves it dead
abbrev pub life_settled : Result Fate LogError → Life
life_settled (Ok fate) = lives.Settled (found_in fate)
life_settled (Err e) = lives.Dead

-- a life once the client was to be buried: a settled one is buried where that was not refused
abbrev pub life_buried : Life → Result (Unit {0}) BuryError → Life
life_buried (lives.Settled found) (Ok done) = lives.Buried found
life_buried life answer = life
