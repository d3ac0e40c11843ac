-- The rises of which an operation's growth is made, as questions.
use Rattle.std.specs.Prelude.{◌≡◌, ℕ, ◌+◌}
use Rattle.posix_calls.specs.Query.{Query, Gives, ◌>>=◌}
use Rattle.posix_calls.specs.Walk.{size_at}
use Rattle.posix_calls.specs.declared.operation.DecideError.{DecideError}
use Rattle.posix_calls.specs.declared.operation.DecideError.TheVariants as why
use Rattle.posix_calls.specs.declared.operation.Missing.TheVariants as missing
use Rattle.call_effects.specs.Records.{file_rise, entry_rise}

-- the units of a new node, and the rise of the directory that it gets a name in
abbrev pub new_rise : ℕ → ℕ → Query ℕ
new_rise units dir = entry_rise dir >>= (λ rise. Gives (units + rise))

-- the rise of a file to a size that follows from its old one
abbrev pub size_rise : (ℕ → ℕ) → ℕ → Query ℕ
size_rise size i = size_at i >>= (λ old. Gives (file_rise old (size old)))

-- an error that names a node of which more has to be known
abbrev pub IsOfNode : DecideError → Type 0
IsOfNode error = (i : ℕ) × (error ≡ why.Missing (missing.Node i))
