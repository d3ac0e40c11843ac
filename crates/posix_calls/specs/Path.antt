-- Trusted: headline
-- Paths: how one is read, and the order in which a bad one is refused.
use Rattle.std.specs.Prelude.{ℕ, List, [], ◌∷◌, length, Bool, false, ◌&&◌, ◌||◌, ◌==◌, nat_lt, Option, Some, None, Result, Ok, Err, if◌then◌else◌}
use Rattle.std.specs.List.{list_any, slice_split}
use Rattle.std.specs.Option.{option_or}
use Rattle.posix_calls.specs.declared.limits.TheConstants.{MAX_NAME, MAX_PATH}
use Rattle.posix_calls.specs.declared.errno.Errno.{Errno}
use Rattle.posix_calls.specs.declared.errno.Errno.TheVariants.{Invalid, NameTooLong}

-- the components between the slashes (47)
abbrev pub components : List ℕ → List (List ℕ)
components bytes = slice_split (λ b. b == 47) bytes

-- `.` (46) alone, or twice
abbrev pub is_dots : List ℕ → Bool
is_dots [] = false
is_dots (a ∷ []) = a == 46
is_dots (a ∷ b ∷ []) = (a == 46) && (b == 46)
is_dots (a ∷ b ∷ c ∷ rest) = false

-- whether a component is empty, `.`, `..` or has a zero byte
abbrev pub is_invalid : List ℕ → Bool
is_invalid part = (length part == 0) || is_dots part || list_any (λ b. b == 0) part

-- what is wrong with a component, if anything is
abbrev pub fault : List ℕ → Option Errno
fault part = if is_invalid part then Some Invalid else if nat_lt MAX_NAME (length part) then Some NameTooLong else None

-- what is wrong with the first component that is bad, if one is
abbrev pub first_fault : List (List ℕ) → Option Errno
first_fault [] = None
first_fault (part ∷ parts) = option_or (fault part) (first_fault parts)

-- these names, unless there is a fault
abbrev pub unless : Option Errno → List (List ℕ) → Result (List (List ℕ)) Errno
unless None names = Ok names
unless (Some errno) names = Err errno

-- what the bytes behind the first slash spell: none of them spell the root
abbrev pub reading_behind : List ℕ → Result (List (List ℕ)) Errno
reading_behind [] = Ok []
reading_behind (b ∷ bytes) = unless (first_fault (components (b ∷ bytes))) (components (b ∷ bytes))

-- what bytes that are not too many spell: they begin with a slash
abbrev pub reading_short : List ℕ → Result (List (List ℕ)) Errno
reading_short [] = Err Invalid
reading_short (b ∷ bytes) = if b == 47 then reading_behind bytes else Err Invalid

-- the names of the path that the bytes spell, from the root on, or what is wrong with them
abbrev pub path_names : List ℕ → Result (List (List ℕ)) Errno
path_names bytes = if nat_lt MAX_PATH (length bytes) then Err NameTooLong else reading_short bytes
