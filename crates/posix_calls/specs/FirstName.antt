-- Whether a path begins with a name.
use Rattle.std.specs.Prelude.{ℕ, List, [], ◌∷◌, length, Bool, false, ◌&&◌, ◌==◌, nat_lt, not, is_none}
use Rattle.std.specs.List.{list_any}
use Rattle.posix_calls.specs.declared.limits.TheConstants.{MAX_PATH}
use Rattle.posix_calls.specs.Path.{fault, components}

-- whether no byte is a slash
abbrev pub has_no_slash : List ℕ → Bool
has_no_slash part = not (list_any (λ b. b == 47) part)

-- whether the first component, if there is one, has no fault
abbrev pub first_is_faultless : List (List ℕ) → Bool
first_is_faultless [] = false
first_is_faultless (part ∷ parts) = is_none (fault part)

-- whether there are bytes behind the first slash, and the first component of them has no fault
abbrev pub name_behind : List ℕ → Bool
name_behind [] = false
name_behind (b ∷ bytes) = first_is_faultless (components (b ∷ bytes))

-- whether bytes begin with a slash and a name
abbrev pub name_first : List ℕ → Bool
name_first [] = false
name_first (b ∷ bytes) = (b == 47) && name_behind bytes

-- whether reading a path reaches a name: it is not too long, and begins with one
abbrev pub comes_to_name : List ℕ → Bool
comes_to_name bytes = not (nat_lt MAX_PATH (length bytes)) && name_first bytes
