-- The names of a path that was read are names.
use Rattle.std.proofs.Common.{◌≡◌, ℕ, zero, suc, ◌+◌, ◌<◌, ◌≤◌, List, [], ◌∷◌, length, drop, refl, Some, None, Option, Ok, Err, sym, ◌∙◌, subst, Bool, true, false, arith, ◌==◌}
use Rattle.std.proofs.lemmas.Grind.{common_steps}
use Rattle.std.specs.Prelude.{nat_lt, if◌then◌else◌}
use Rattle.std.proofs.lemmas.Bool.{ltb-false}
use Rattle.std.specs.List.{position}
use Rattle.std.specs.Option.{option_or}
use Rattle.posix_calls.specs.declared.errno.Errno.{Errno}
use Rattle.posix_calls.specs.declared.errno.Errno.TheVariants.{Invalid, NameTooLong}
use Rattle.posix_calls.specs.Name.{is_name}
use Rattle.posix_calls.specs.Path.{components, is_invalid, fault, first_fault, unless, reading_behind, reading_short, path_names}
use Rattle.posix_calls.specs.FirstName.{has_no_slash}
use Rattle.posix_calls.proofs.Components.{component_is_name, found_at, components_step, step_has_no_slash, components_last, last_has_no_slash}

-- all of them are names
abbrev pub AreNames : List (List ℕ) → Type 0
AreNames [] = Unit {0}
AreNames (name ∷ names) = (is_name name ≡ true) × AreNames names

-- none of them has a slash
abbrev AreFree : List (List ℕ) → Type 0
AreFree [] = Unit {0}
AreFree (part ∷ parts) = (has_no_slash part ≡ true) × AreFree parts

drop_shorter : (bytes : List ℕ) (at n : ℕ) → length bytes ≤ suc n → at < length bytes → length (drop (at + 1) bytes) ≤ n
drop_shorter bytes at n short below = grind (arith, common_steps)

-- by the first slash, where the rest is known
by_first : (bytes : List ℕ) (o : Option ℕ) → position (λ b. b == 47) bytes ≡ o → ((at : ℕ) → o ≡ Some at → AreFree (components (drop (at + 1) bytes))) → AreFree (components bytes)
by_first bytes None is rest = subst AreFree (sym (components_last bytes is)) (last_has_no_slash bytes is, tt)
by_first bytes (Some at) is rest = subst AreFree (sym (components_step bytes at is)) (step_has_no_slash bytes at is, rest at refl)

below : (bytes : List ℕ) (o : Option ℕ) (at : ℕ) → position (λ b. b == 47) bytes ≡ o → o ≡ Some at → at < length bytes
below bytes o at is same = let h = found_at (λ b. b == 47) bytes at (is ∙ same) in let e = h.0 in let l = h.1 in omega (arith, e, l)

free_parts : (n : ℕ) (bytes : List ℕ) → length bytes ≤ n → AreFree (components bytes)
free_parts zero bytes short = by_first bytes (position (λ b. b == 47) bytes) refl (λ at same. let l = below bytes (position (λ b. b == 47) bytes) at refl same in absurd (omega (arith, short, l)))
free_parts (suc n) bytes short = by_first bytes (position (λ b. b == 47) bytes) refl (λ at same. free_parts n (drop (at + 1) bytes) (drop_shorter bytes at n short (below bytes (position (λ b. b == 47) bytes) at refl same)))

-- a component without a fault is a name
faultless : (part : List ℕ) → has_no_slash part ≡ true → fault part ≡ None → is_name part ≡ true
faultless part free none = by_invalid (is_invalid part) refl none where
  by_long : (b : Bool) → nat_lt 64 (length part) ≡ b → is_invalid part ≡ false → ◌≡◌ {A = Option Errno} (if b then Some NameTooLong else None) None → is_name part ≡ true
  by_long true long valid e = absurd (cc)
  by_long false long valid e = component_is_name part free valid (ltb-false 64 (length part) long)

  by_invalid : (b : Bool) → is_invalid part ≡ b → ◌≡◌ {A = Option Errno} (if b then Some Invalid else if nat_lt 64 (length part) then Some NameTooLong else None) None → is_name part ≡ true
  by_invalid true is e = absurd (cc)
  by_invalid false is e = by_long (nat_lt 64 (length part)) refl is e

first_none : (o p : Option Errno) → option_or o p ≡ None → (o ≡ None) × (p ≡ None)
first_none None p e = (refl, e)
first_none (Some x) p e = absurd (cc)

all_names : (parts : List (List ℕ)) → AreFree parts → first_fault parts ≡ None → AreNames parts
all_names [] free none = tt
all_names (part ∷ parts) free none = let n = first_none (fault part) (first_fault parts) none in (faultless part free.0 n.0, all_names parts free.1 n.1)

unless_ok : (o : Option Errno) (parts names : List (List ℕ)) → unless o parts ≡ Ok names → (o ≡ None) × (parts ≡ names)
unless_ok None parts names e = (refl, (let same : parts ≡ names = cc in same))
unless_ok (Some x) parts names e = absurd (cc)

behind_names : (bytes : List ℕ) (names : List (List ℕ)) → reading_behind bytes ≡ Ok names → AreNames names
behind_names [] names e = let same : [] ≡ names = cc in subst AreNames same tt
behind_names (b ∷ bytes) names e =
    let u = unless_ok (first_fault (components (b ∷ bytes))) (components (b ∷ bytes)) names e in
    subst AreNames u.1 (all_names (components (b ∷ bytes)) (free_parts (length (b ∷ bytes)) (b ∷ bytes) (omega arith)) u.0)

short_names : (bytes : List ℕ) (names : List (List ℕ)) → reading_short bytes ≡ Ok names → AreNames names
short_names [] names e = absurd (cc)
short_names (b ∷ bytes) names e = by_slash (b == 47) e where
  by_slash : (c : Bool) → (if c then reading_behind bytes else Err Invalid) ≡ Ok names → AreNames names
  by_slash true e = behind_names bytes names e
  by_slash false e = absurd (cc)

-- what was read is a list of names
pub reading_names : (bytes : List ℕ) (names : List (List ℕ)) → path_names bytes ≡ Ok names → AreNames names
reading_names bytes names e = by_length (nat_lt 1024 (length bytes)) e where
  by_length : (c : Bool) → (if c then Err NameTooLong else reading_short bytes) ≡ Ok names → AreNames names
  by_length true e = absurd (cc)
  by_length false e = short_names bytes names e
