-- Which calls take memory as they are planned.
use Rattle.std.specs.Prelude.{Bool, false, ◌||◌, Ok, Err}
use Rattle.posix_calls.specs.Tree.{Own}
use Rattle.posix_calls.specs.Part.{Part, Found, Known, Unknown, run_part}
use Rattle.posix_calls.specs.Decide.{decide}
use Rattle.posix_calls.specs.Memory.{takes_memory}
use Rattle.posix_calls.specs.declared.call.Call.{Call}
use Rattle.posix_calls.specs.declared.operation.Operation.{Operation}
use Rattle.call_effects.specs.ChangeTest.{changes}

-- whether a call has come to an operation that changes something
abbrev pub has_change : Found Operation → Bool
has_change (Known (Ok operation)) = changes operation
has_change (Known (Err e)) = false
has_change (Unknown what) = false

-- memory is taken for the names and bytes of a call, and for its record
abbrev pub wants_memory : Part → Own → Call → Bool
wants_memory p own call = takes_memory p own call || has_change (run_part p (decide own call))
