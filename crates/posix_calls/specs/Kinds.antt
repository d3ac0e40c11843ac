-- Which calls and operations are of a kind.
use Rattle.std.specs.Prelude.{ℕ, Bool, true, false, Option, Some, None}
use Rattle.posix_calls.specs.declared.descriptor.Descriptor.{Descriptor}
use Rattle.posix_calls.specs.declared.operation.Operation.{Operation}
use Rattle.posix_calls.specs.declared.operation.Operation.TheVariants.{Tell, NewFile, OpenFile}
use Rattle.posix_calls.specs.declared.call.Call.{Call}
use Rattle.posix_calls.specs.declared.call.Call.TheVariants as call

-- whether an operation does no more than answer
abbrev pub is_query : Operation → Bool
is_query (Tell answer) = true
is_query _ = false

-- what an operation opens, and its number, where a new node has the number new
abbrev pub opens : ℕ → Operation → Option (ℕ × Descriptor)
opens new (NewFile at number reads writes) = Some (number, record { inode = new; reads = reads; writes = writes })
opens new (OpenFile i empties number reads writes) = Some (number, record { inode = i; reads = reads; writes = writes })
opens new _ = None

-- whether a call is `pread`
abbrev pub is_pread : Call → Bool
is_pread (call.Pread number at count) = true
is_pread _ = false
