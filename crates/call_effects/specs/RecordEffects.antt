-- What holds of a record that was made, or of an operation that was handed back.
use Rattle.std.specs.Prelude.{ℕ, List, [], ◌∷◌, Option, Some, None, Result, Ok, Err}
use Rattle.posix_calls.specs.declared.operation.Location.{Location}
use Rattle.posix_calls.specs.declared.operation.Operation.{Operation}
use Rattle.posix_calls.specs.declared.operation.Operation.TheVariants.{Move}
use Rattle.posix_calls.specs.declared.operation.DecideError.{DecideError}
use Rattle.posix_calls.specs.declared.operation.Replaced.{Replaced}
use Rattle.posix_calls.specs.declared.operation.Replaced.TheVariants.{Nothing, OldFile, OldDir}
use Rattle.log_record.specs.file_graph.declared.effect.Effect.{Effect}
use Rattle.log_record.specs.file_graph.declared.effect.Effect.TheVariants as effect
use Rattle.log_record.specs.declared.format.Record.{Record}

-- the effects of a record, which are none where there is no record, or why none was made
abbrev pub effects_or_error : Result (Option Record) (DecideError × Operation) → Result (List Effect) DecideError
effects_or_error (Ok None) = Ok []
effects_or_error (Ok (Some made)) = Ok made.effects
effects_or_error (Err back) = Err back.0

-- the name of what a rename puts out of its place leaves its directory
abbrev pub leaving_first : Location → Replaced → List Effect
leaving_first to Nothing = []
leaving_first to (OldFile j) = effect.Leave to.parent to.name ∷ []
leaving_first to (OldDir j) = effect.Leave to.parent to.name ∷ []

-- what comes after that
abbrev pub putting_out : ℕ → Replaced → List Effect
putting_out names Nothing = []
putting_out names (OldFile j) = effect.Names j names ∷ []
putting_out names (OldDir j) = effect.Drop j ∷ []

-- the effects that are made before the operation is taken apart: the first one of a rename, if its name is needed for a second one
abbrev pub made_first : Operation → List Effect
made_first (Move from to i is_dir replaced) = leaving_first to replaced
made_first _ = []
