-- What a reader answers, against what the format reads.
use Rattle.std.specs.Prelude.{◌≡◌, ℕ, Option, Some, None, IsSome, Result, Ok, Err}
use Rattle.layout.specs.declared.error.What.{What}
use Rattle.layout.specs.declared.error.LayoutError.{LayoutError}
use Rattle.layout.specs.declared.error.LayoutError.TheVariants as errors

-- the value that is read, or that this block is damaged
abbrev pub or_damaged : {A : Type 0} → What → ℕ → Option A → Result A LayoutError
or_damaged what block (Some x) = Ok x
or_damaged what block None = Err (errors.Damaged what block)

-- the value that is read, or that this block is damaged; memory is wanted only for what is spelled
abbrev pub Reads : {A : Type 0} → What → ℕ → Result A LayoutError → Option A → Type 0
Reads what block (Ok x) read = read ≡ Some x
Reads what block (Err (errors.Damaged w b)) read = (w ≡ what) × (b ≡ block) × (read ≡ None)
Reads what block (Err errors.Memory) read = IsSome read
