-- When a call on paths may want memory.
use Rattle.std.proofs.Common.{◌≡◌, ℕ, List, [], ◌∷◌, ◌==◌, ◌&&◌, not, Bool, true, false, refl, Option, Some, None, Result, Ok, Err, ap, sym, ◌∙◌, if◌then◌else◌, nat_lt, length}
use Rattle.std.specs.Prelude.{is_ok, is_none}
use Rattle.std.specs.Option.{option_or}
use Rattle.std.specs.Result.{IsErrAnd}
use Rattle.std.proofs.lemmas.Result.{err_from_is_err_and}
use Rattle.posix_calls.specs.declared.operation.DecideError.{DecideError}
use Rattle.posix_calls.specs.declared.operation.DecideError.TheVariants.{Refused, Memory}
use Rattle.posix_calls.specs.declared.limits.TheConstants.{MAX_PATH}
use Rattle.posix_calls.specs.declared.errno.Errno.{Errno}
use Rattle.posix_calls.specs.declared.errno.Errno.TheVariants.{Invalid, NameTooLong}
use Rattle.posix_calls.specs.Path.{path_names, reading_short, reading_behind, components, first_fault, unless, fault}
use Rattle.posix_calls.specs.FirstName.{comes_to_name, name_first, name_behind, first_is_faultless}
use Rattle.posix_calls.specs.Memory.{come_to_names}
use Rattle.posix_calls.specs.Walk.{is_root}
use Rattle.posix_calls.proofs.Chain.{or_left, or_right}

-- the exit of a `?` wants memory where what was told there did
pub exit_wants : {A B : Type 0} {r : Result A DecideError} {s : DecideError} → IsErrAnd r (λ t. t ≡ s) → r ≡ Err Memory → ◌≡◌ {A = Result B DecideError} (Err s) (Err Memory)
exit_wants {r = r} {s = s} is want =
    let e = err_from_is_err_and r is in
    let same : s ≡ Memory = let both : ◌≡◌ {A = Result _ DecideError} (Err s) (Err Memory) = sym (e.1 ∙ ap (λ z. Err z) e.2) ∙ want in cc in
    ap (λ z. Err z) same

-- the first path is read at once, and the second once the first was
pub first_comes : (old new : List ℕ) → comes_to_name old ≡ true → come_to_names old new ≡ true
first_comes old new comes = or_left (is_ok (path_names old) && comes_to_name new) comes

pub second_comes : (old new : List ℕ) {names : List (List ℕ)} → path_names old ≡ Ok names → comes_to_name new ≡ true → come_to_names old new ≡ true
second_comes old new is comes = or_right (comes_to_name old) (ap (λ z. is_ok z && comes_to_name new) is ∙ comes)

-- an exit that is refused does not
pub refused_wants : {A X : Type 0} {r : Result A DecideError} {s : DecideError} {e : Errno} → IsErrAnd r (λ t. t ≡ s) → s ≡ Refused e → r ≡ Err Memory → X
refused_wants {A = A} {r = r} {s = s} {e = e} is refused want =
    absurd (let found = err_from_is_err_and r is in let both : ◌≡◌ {A = Result A DecideError} (Err (Refused e)) (Err Memory) = ap (λ z. Err z) (sym (found.2 ∙ refused)) ∙ sym found.1 ∙ want in cc)

-- ---- a path that is read, and is not `/`, comes to a name

faultless_first : (o rest : Option Errno) (parts names : List (List ℕ)) → unless (option_or o rest) parts ≡ Ok names → is_none o ≡ true
faultless_first None rest parts names is = refl
faultless_first (Some e) rest parts names is = absurd (cc)

no_root : {names : List (List ℕ)} {X : Type 0} → ◌≡◌ {A = Result (List (List ℕ)) Errno} (Ok []) (Ok names) → is_root names ≡ false → X
no_root {names = names} is some = absurd (let same : [] ≡ names = cc in let clash : true ≡ false = ap is_root same ∙ some in cc)

name_in : (parts names : List (List ℕ)) → unless (first_fault parts) parts ≡ Ok names → is_root names ≡ false → first_is_faultless parts ≡ true
name_in [] names is some = no_root is some
name_in (part ∷ parts) names is some = faultless_first (fault part) (first_fault parts) (part ∷ parts) names is

behind_slash : (t : Bool) (bytes : List ℕ) (names : List (List ℕ)) → (if t then reading_behind bytes else Err Invalid) ≡ Ok names → is_root names ≡ false → (t && name_behind bytes) ≡ true
behind_slash false bytes names is some = absurd (cc)
behind_slash true [] names is some = no_root is some
behind_slash true (b ∷ bytes) names is some = name_in (components (b ∷ bytes)) names is some

short_enough : (t : Bool) (bytes : List ℕ) (names : List (List ℕ)) → (if t then Err NameTooLong else reading_short bytes) ≡ Ok names → is_root names ≡ false → (not t && name_first bytes) ≡ true
short_enough true bytes names is some = absurd (cc)
short_enough false [] names is some = absurd (cc)
short_enough false (b ∷ bytes) names is some = behind_slash (b == 47) bytes names is some

pub name_comes : (bytes : List ℕ) (names : List (List ℕ)) → path_names bytes ≡ Ok names → is_root names ≡ false → comes_to_name bytes ≡ true
name_comes bytes names is some = short_enough (nat_lt MAX_PATH (length bytes)) bytes names is some
