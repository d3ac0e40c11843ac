-- What passes the reading of paths is a name, and how a path's components come off from the left.
use Rattle.std.proofs.Common.{◌≡◌, ◌==◌, ◌||◌, All, List, ℕ, ◌+◌, ◌<◌, ◌≤◌, Bool, true, false, Option, None, Some, [], ◌∷◌, ◌⊎◌, inl, inr, refl, ap, ◌∙◌, arith, length, take, drop}
use Rattle.std.proofs.lemmas.Grind.{common_steps}
use Rattle.std.specs.List.{list_any, position, position_or_len}
use Rattle.std.proofs.lemmas.List.Folds.{list_any_none}
use Rattle.std.proofs.lemmas.List.Splits.{slice_split_first, slice_split_none}
use Rattle.std.proofs.lemmas.List.Sums.{fails_before_first}
use Rattle.std.specs.Option.{option_or}
use Rattle.posix_calls.specs.declared.errno.Errno.{Errno}
use Rattle.posix_calls.specs.Name.{is_name}
use Rattle.posix_calls.specs.Path.{is_invalid, fault, first_fault, components}
use Rattle.posix_calls.specs.FirstName.{has_no_slash, first_is_faultless}

-- a byte that no name has is a zero byte or a slash
pub bad_bytes : (part : List ℕ) → list_any (λ b. (b == 0) || (b == 47)) part ≡ (list_any (λ b. b == 0) part || list_any (λ b. b == 47) part)
bad_bytes [] = refl
bad_bytes (b ∷ part) = grind (arith, common_steps, bad_bytes part)

-- a component with no slash and no fault is a name
pub component_is_name : (part : List ℕ) → has_no_slash part ≡ true → is_invalid part ≡ false → length part ≤ 64 → is_name part ≡ true
component_is_name part slash invalid short = grind (arith, common_steps, bad_bytes part, slash, invalid, short)

-- where the first slash is found, as a number below the length
pub found_at : (p : ℕ → Bool) (xs : List ℕ) (i : ℕ) → position p xs ≡ Some i → (position_or_len p xs ≡ i) × (position_or_len p xs < length xs)
found_at p xs i found = grind (arith, common_steps)

-- where none is found, no place is below the length
pub not_found : (p : ℕ → Bool) (xs : List ℕ) → position p xs ≡ None → length xs ≤ position_or_len p xs
not_found p xs none = grind (arith, common_steps)

-- before the first element that passes none does
pub none_before : (p : ℕ → Bool) (xs : List ℕ) (i : ℕ) → i ≤ position_or_len p xs → list_any p (take i xs) ≡ false
none_before p xs i below = list_any_none p (take i xs) (λ k d h. grind (arith, common_steps, fails_before_first p xs k d))

-- where none is found, none passes
pub none_passes : (p : ℕ → Bool) (xs : List ℕ) → position p xs ≡ None → All (λ x. p x ≡ false) xs
none_passes p xs none = λ k d h. let h2 = not_found p xs none in fails_before_first p xs k d (omega (arith, h2))

-- the first component ends at the first slash
pub components_step : (bytes : List ℕ) (at : ℕ) → position (λ b. b == 47) bytes ≡ Some at → components bytes ≡ take at bytes ∷ components (drop (at + 1) bytes)
components_step bytes at found = let h = found_at (λ b. b == 47) bytes at found in rw (← h.0) (slice_split_first (λ b. b == 47) bytes 0 h.1)

-- and has no slash
pub step_has_no_slash : (bytes : List ℕ) (at : ℕ) → position (λ b. b == 47) bytes ≡ Some at → has_no_slash (take at bytes) ≡ true
step_has_no_slash bytes at found = let h = found_at (λ b. b == 47) bytes at found in rw (none_before (λ b. b == 47) bytes at (omega (arith, h.0))) refl

-- with no slash there is one component
pub components_last : (bytes : List ℕ) → position (λ b. b == 47) bytes ≡ None → components bytes ≡ bytes ∷ []
components_last bytes none = slice_split_none (λ b. b == 47) bytes (none_passes (λ b. b == 47) bytes none)

-- which has no slash
pub last_has_no_slash : (bytes : List ℕ) → position (λ b. b == 47) bytes ≡ None → has_no_slash bytes ≡ true
last_has_no_slash bytes none = rw (list_any_none (λ b. b == 47) bytes (none_passes (λ b. b == 47) bytes none)) refl

-- a fault of the first component decides, and otherwise the rest does
pub first_fault_step : (bytes : List ℕ) (at : ℕ) → position (λ b. b == 47) bytes ≡ Some at → first_fault (components bytes) ≡ option_or (fault (take at bytes)) (first_fault (components (drop (at + 1) bytes)))
first_fault_step bytes at found = rw (components_step bytes at found) refl

pub option_or_none : (o : Option Errno) → option_or o None ≡ o
option_or_none None = refl
option_or_none (Some e) = refl

-- a lone component decides
pub first_fault_last : (bytes : List ℕ) → position (λ b. b == 47) bytes ≡ None → first_fault (components bytes) ≡ fault bytes
first_fault_last bytes none = rw (components_last bytes none) (option_or_none (fault bytes))

-- a first component with no fault
pub faultless_step : (bytes : List ℕ) (at : ℕ) → position (λ b. b == 47) bytes ≡ Some at → fault (take at bytes) ≡ None → first_is_faultless (components bytes) ≡ true
faultless_step bytes at found none = rw (components_step bytes at found, none) refl

pub faultless_last : (bytes : List ℕ) → position (λ b. b == 47) bytes ≡ None → fault bytes ≡ None → first_is_faultless (components bytes) ≡ true
faultless_last bytes last none = rw (components_last bytes last, none) refl

-- the first component of all is that of the rest, or it had no fault
pub faultless_all : (all rest : List (List ℕ)) → (all ≡ rest) ⊎ (first_is_faultless all ≡ true) → first_is_faultless rest ≡ true → first_is_faultless all ≡ true
faultless_all all rest (inl same) first = ap first_is_faultless same ∙ first
faultless_all all rest (inr is) first = is
