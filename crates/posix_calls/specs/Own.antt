-- The descriptors of one client, as a list of places.
use Rattle.std.specs.Prelude.{List, Option, None, get_or, ℕ}
use Rattle.posix_calls.specs.Tree.{Own, Descriptors, set_own, with_own}
use Rattle.posix_calls.specs.declared.descriptor.Descriptor.{Descriptor}

-- what is open at each number
abbrev pub own_of : List (Option Descriptor) → Own
own_of places n = get_or places n None

-- the descriptors with one number of one client changed
abbrev pub set_descriptor : Descriptors → ℕ → ℕ → Option Descriptor → Descriptors
set_descriptor held client number what = with_own held client (set_own (held client) number what)
