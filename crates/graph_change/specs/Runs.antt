-- How what is put into a block is kept: as a run of bytes that others share, or as bytes of its own.
use Rattle.std.specs.Prelude.{ℕ, ◌+◌, ◌≤◌, List, [], ◌++◌, length, Bool, true, false, replicate}
use Rattle.posix_calls.specs.declared.limits.TheConstants.{UNIT_BYTES}
use Rattle.graph_change.specs.declared.kept_bytes.Kept.{Kept}
use Rattle.graph_change.specs.declared.kept_bytes.Kept.TheVariants.{Nothing, Run, Own}

-- bytes at a place of a block, with a mark for each place up to their end: those of the bytes alone are set
abbrev pub run_at : ℕ → List ℕ → List ℕ × List Bool
run_at place part = (replicate place 0 ++ part, replicate place false ++ replicate (length part) true)

-- the bytes and the marks that it stands for
abbrev pub kept_view : Kept → List ℕ × List Bool
kept_view Nothing = ([], [])
kept_view (Run place part) = run_at place part
kept_view (Own own) = own

-- a run ends within the block
abbrev pub IsWithin : Kept → Type 0
IsWithin Nothing = Unit {0}
IsWithin (Run place part) = place + length part ≤ UNIT_BYTES
IsWithin (Own own) = Unit {0}
