-- An operation that changes nothing asks nothing, and has no effects.
use Rattle.std.proofs.Common.{◌≡◌, ℕ, [], true, false, Ok}
use Rattle.posix_calls.specs.Answers.{IsAnswer}
use Rattle.posix_calls.specs.Part.{Part}
use Rattle.posix_calls.specs.declared.operation.Operation.{Operation}
use Rattle.posix_calls.specs.declared.operation.Operation.TheVariants.{Tell, NewDir, NewFile, OpenFile, CloseFile, Write, Resize, RemoveDir, AddName, DropName, Move, Exchange}
use Rattle.posix_calls.proofs.Chain.{bind_gives, gives}
use Rattle.call_effects.specs.ChangeTest.{changes}
use Rattle.call_effects.specs.Records.{effects_asked}

pub nothing_asked : (p : Part) (new : ℕ) (operation : Operation) → changes operation ≡ false → IsAnswer p (effects_asked new operation) (Ok [])
nothing_asked p new (Tell answer) e = bind_gives _ gives gives
nothing_asked p new (NewDir at) e = absurd cc
nothing_asked p new (NewFile at number reads writes) e = absurd cc
nothing_asked p new (OpenFile i true number reads writes) e = absurd cc
nothing_asked p new (OpenFile i false number reads writes) e = bind_gives _ gives gives
nothing_asked p new (CloseFile i number) e = bind_gives _ gives gives
nothing_asked p new (Write i at bytes) e = absurd cc
nothing_asked p new (Resize i len) e = absurd cc
nothing_asked p new (RemoveDir at i) e = absurd cc
nothing_asked p new (AddName at i) e = absurd cc
nothing_asked p new (DropName at i) e = absurd cc
nothing_asked p new (Move from to i is_dir replaced) e = absurd cc
nothing_asked p new (Exchange first second i j) e = absurd cc
