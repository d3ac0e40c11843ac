-- The names that a directory entry may have.
use Rattle.std.specs.Prelude.{ℕ, List, length, Bool, ◌&&◌, ◌||◌, ◌==◌, nat_le, not}
use Rattle.std.specs.List.{list_any}
use Rattle.posix_calls.specs.declared.limits.TheConstants.{MAX_NAME}
use Rattle.posix_calls.specs.Path.{is_dots}

-- one byte to MAX_NAME of them, none zero or a slash (47), and neither `.` nor `..`
abbrev pub is_name : List ℕ → Bool
is_name name = nat_le 1 (length name) && nat_le (length name) MAX_NAME && not (list_any (λ b. (b == 0) || (b == 47)) name) && not (is_dots name)
