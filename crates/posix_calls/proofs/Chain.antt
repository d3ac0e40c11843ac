-- How a decision that is made step by step stands to a chain of questions.
use Rattle.std.proofs.Common.{arith, zero, suc, ◌+◌, ◌==◌, ◌||◌, List, [], ◌∷◌, length, not, nat_lt, if◌then◌else◌, ◌≡◌, ◌≢◌, ℕ, Bool, true, false, refl, Option, Some, None, Result, Ok, Err, ap, sym, ◌∙◌, subst, ◌⊎◌, inl, inr}
use Rattle.std.specs.Prelude.{option_map, IfOk, IfErr}
use Rattle.std.specs.FinMap as fin
use Rattle.std.specs.Result.{IsErrAnd}
use Rattle.std.proofs.lemmas.Bool.Decides.{nat_tests, eqb_tells}
use Rattle.std.proofs.lemmas.Result.{err_from_is_err_and}
use Rattle.posix_calls.specs.declared.errno.Errno.{Errno}
use Rattle.posix_calls.specs.declared.operation.DecideError.{DecideError}
use Rattle.posix_calls.specs.declared.operation.DecideError.TheVariants.{Refused, Memory}
use Rattle.posix_calls.specs.declared.operation.DecideError.TheVariants as why
use Rattle.posix_calls.specs.declared.operation.Missing.{Missing}
use Rattle.posix_calls.specs.declared.operation.Missing.TheVariants as missing
use Rattle.posix_calls.specs.declared.errno.Errno.TheVariants.{NoMemory}
use Rattle.posix_calls.specs.Query.{Seen, File, Dir, Query, Gives, Refuses, IsDir, Look, Range, ◌>>=◌}
use Rattle.posix_calls.specs.Part.{Part, Found, Known, Unknown, blocks_missing, run_part}
use Rattle.posix_calls.specs.Walk.{refuse, read_or_error}
use Rattle.posix_calls.specs.Answers.{IsAnswer, decide_error, description_of}
use Rattle.posix_calls.specs.Decide.{node_description, open_inode, bytes_from, write_at}
use Rattle.posix_calls.specs.declared.descriptor.Descriptor.{Descriptor}
use Rattle.posix_calls.specs.declared.limits.TheConstants.{MAX_FILE}
use Rattle.posix_calls.specs.declared.errno.Errno.TheVariants as errno
use Rattle.posix_calls.specs.declared.operation.Operation.TheVariants.{Tell, Write}
use Rattle.posix_calls.specs.declared.operation.Description.TheVariants as description
use Rattle.posix_calls.specs.declared.call.Reply.TheVariants as reply

-- what a first answer leads to
abbrev pub then_found : {A B : Type 0} → Found A → (A → Found B) → Found B
then_found (Known (Ok x)) f = f x
then_found (Known (Err e)) f = Known (Err e)
then_found (Unknown what) f = Unknown what

-- questions one after another come to what the first leads to
pub part_bind : {A B : Type 0} (p : Part) (q : Query A) (f : A → Query B) → run_part p (q >>= f) ≡ then_found (run_part p q) (λ x. run_part p (f x))
unfolding run_part ◌>>=◌
part_bind p (Gives x) f = refl
part_bind p (Refuses e) f = refl
part_bind {B = B} p (IsDir i next) f =
    elim (p.is_dir i) as (λ o. ◌≡◌ {A = Found B} (elim o [ None ↦ Unknown (missing.Node i) | Some a ↦ run_part p (next a >>= f) ]) (then_found (elim o [ None ↦ Unknown (missing.Node i) | Some a ↦ run_part p (next a) ]) (λ x. run_part p (f x)))) [
      | None ↦ refl
      | Some a ↦ part_bind p (next a) f
    ]
part_bind {B = B} p (Look i next) f =
    elim (p.node i) as (λ o. ◌≡◌ {A = Found B} (elim o [ None ↦ Unknown (missing.Node i) | Some a ↦ run_part p (next a >>= f) ]) (then_found (elim o [ None ↦ Unknown (missing.Node i) | Some a ↦ run_part p (next a) ]) (λ x. run_part p (f x)))) [
      | None ↦ refl
      | Some a ↦ part_bind p (next a) f
    ]
part_bind {B = B} p (Range i at count next) f =
    elim (p.bytes i at count) as (λ o. ◌≡◌ {A = Found B} (elim o [ None ↦ Unknown (blocks_missing i at count) | Some a ↦ run_part p (next a >>= f) ]) (then_found (elim o [ None ↦ Unknown (blocks_missing i at count) | Some a ↦ run_part p (next a) ]) (λ x. run_part p (f x)))) [
      | None ↦ refl
      | Some a ↦ part_bind p (next a) f
    ]

pub part_gives : {A : Type 0} (p : Part) (x : A) → run_part p (Gives x) ≡ Known (Ok x)
unfolding run_part
part_gives p x = refl

pub part_refuses : (A : Type 0) (p : Part) (e : Errno) → run_part {A = A} p (Refuses e) ≡ Known (Err e)
unfolding run_part
part_refuses A p e = refl

-- ---- a result, an error

-- what is found is told
pub tells_ok : {A : Type 0} {p : Part} {q : Query A} {x : A} → run_part p q ≡ Known (Ok x) → IsAnswer p q (Ok x)
tells_ok {x = x} is = record { gives = λ y h. let same : x ≡ y = cc in is ∙ ap (λ z. Known (Ok z)) same; refuses = λ e h. absurd (cc); missing = λ i h. absurd (cc) }

pub tells_err : {A : Type 0} {p : Part} {q : Query A} {e : Errno} → run_part p q ≡ Known (Err e) → IsAnswer p q (Err (Refused e))
tells_err {e = e} is = record { gives = λ y h. absurd (cc); refuses = λ d h. let same : e ≡ d = cc in is ∙ ap (λ z. Known (Err z)) same; missing = λ i h. absurd (cc) }

pub tells_missing : {A : Type 0} {p : Part} {q : Query A} {what : Missing} → run_part p q ≡ Unknown what → IsAnswer p q (Err (why.Missing what))
tells_missing {what = what} is = record { gives = λ y h. absurd (cc); refuses = λ d h. absurd (cc); missing = λ other h. let same : what ≡ other = cc in is ∙ ap (λ z. Unknown z) same }

-- want of memory says nothing
pub tells_memory : {A : Type 0} (p : Part) (q : Query A) → IsAnswer p q (Err Memory)
tells_memory p q = record { gives = λ y h. absurd (cc); refuses = λ d h. absurd (cc); missing = λ j h. absurd (cc) }

-- what comes to the same is told by the same
pub tells_same : {A : Type 0} {p : Part} {q r : Query A} {s : Result A DecideError} → run_part p q ≡ run_part p r → IsAnswer p r s → IsAnswer p q s
tells_same is h = record { gives = λ y e. is ∙ h.gives y e; refuses = λ e t. is ∙ h.refuses e t; missing = λ i t. is ∙ h.missing i t }

-- the exit of a `?` tells what was told there
pub exits : {A : Type 0} {p : Part} {q : Query A} {r : Result A DecideError} {s : DecideError} → IsErrAnd r (λ t. t ≡ s) → IsAnswer p q (Err s) → IsAnswer p q r
exits {p = p} {q = q} {r = r} is h = let e = err_from_is_err_and r is in subst (λ z. IsAnswer p q z) (sym (e.1 ∙ ap (λ z. Err z) e.2)) h

-- the same question is told by the same
pub tells_is : {A : Type 0} {p : Part} {q t : Query A} {r : Result A DecideError} → q ≡ t → IsAnswer p t r → IsAnswer p q r
tells_is {p = p} {r = r} is h = subst (λ z. IsAnswer p z r) (sym is) h

-- what is given is told
pub gives : {A : Type 0} {p : Part} {x : A} → IsAnswer p (Gives x) (Ok x)
gives {p = p} {x = x} = tells_ok (part_gives p x)

pub gives_as : {A : Type 0} {p : Part} {x y : A} → x ≡ y → IsAnswer p (Gives x) (Ok y)
gives_as {p = p} {y = y} is = subst (λ z. IsAnswer p (Gives z) (Ok y)) (sym is) gives

-- so is what is refused
pub refuses : {A : Type 0} {p : Part} {e : Errno} → IsAnswer {A = A} p (Refuses e) (Err (Refused e))
refuses {A = A} {p = p} {e = e} = tells_err (part_refuses A p e)

-- ---- one after another

-- after a result comes what it leads to
pub bind_gives : {A B : Type 0} {p : Part} {q : Query A} (f : A → Query B) {x : A} {r : Result B DecideError} → IsAnswer p q (Ok x) → IsAnswer p (f x) r → IsAnswer p (q >>= f) r
bind_gives {p = p} {q = q} f {x = x} h rest = tells_same (part_bind p q f ∙ ap (λ z. then_found z (λ y. run_part p (f y))) (h.gives x refl)) rest

-- after a stop comes nothing
pub bind_stops : {A B : Type 0} {p : Part} {q : Query A} (f : A → Query B) {s : DecideError} → IsAnswer p q (Err s) → IsAnswer p (q >>= f) (Err s)
bind_stops {p = p} {q = q} f {s = Refused e} h = tells_err (part_bind p q f ∙ ap (λ z. then_found z (λ y. run_part p (f y))) (h.refuses e refl))
bind_stops {p = p} {q = q} f {s = why.Missing what} h = tells_missing (part_bind p q f ∙ ap (λ z. then_found z (λ y. run_part p (f y))) (h.missing what refl))
bind_stops {p = p} {q = q} f {s = Memory} h = tells_memory p (q >>= f)

-- a test that does not hold is passed
pub passes : {B : Type 0} {p : Part} (e : Errno) {b : Bool} (f : Unit {0} → Query B) {r : Result B DecideError} → b ≡ false → IsAnswer p (f tt) r → IsAnswer p (refuse e b >>= f) r
passes {p = p} e {b = b} f {r = r} clear rest = subst (λ z. IsAnswer p (refuse e z >>= f) r) (sym clear) (bind_gives f gives rest)

-- one that does is refused
pub fails : {B : Type 0} {p : Part} (e : Errno) {b : Bool} (f : Unit {0} → Query B) {s : DecideError} → s ≡ Refused e → b ≡ true → IsAnswer p (refuse e b >>= f) (Err s)
fails {p = p} e {b = b} f {s = s} why holds = subst (λ z. IsAnswer p (refuse e z >>= f) (Err s)) (sym holds) (bind_stops f (subst (λ z. IsAnswer p (refuse e true) (Err z)) (sym why) refuses))

-- numbers that differ are not tested equal
pub not_same : (a b : ℕ) → a ≢ b → (a == b) ≡ false
not_same a b apart = elim (eqb_tells a b) [ inl same ↦ absurd (apart same.1) | inr off ↦ off.0 ]

-- two tests are tested as they are
pub or_same : {a b c d : Bool} → a ≡ c → b ≡ d → (a || b) ≡ (c || d)
or_same e h = rw (e, h) refl

-- two tests in one
pub or_clear : {a b : Bool} → a ≡ false → b ≡ false → (a || b) ≡ false
or_clear e h = rw (e, h) refl

pub or_left : {a : Bool} (b : Bool) → a ≡ true → (a || b) ≡ true
or_left b e = rw e refl

pub or_right : (a : Bool) {b : Bool} → b ≡ true → (a || b) ≡ true
or_right true h = refl
or_right false h = h

-- a branch that is taken
pub if_holds : {A : Type 0} {p : Part} {b : Bool} {q : Query A} (t : Query A) {r : Result A DecideError} → b ≡ true → IsAnswer p q r → IsAnswer p (if b then q else t) r
if_holds {p = p} {q = q} t {r = r} e h = subst (λ z. IsAnswer p (if z then q else t) r) (sym e) h

pub if_fails : {A : Type 0} {p : Part} {b : Bool} (q : Query A) {t : Query A} {r : Result A DecideError} → b ≡ false → IsAnswer p t r → IsAnswer p (if b then q else t) r
if_fails {p = p} q {t = t} {r = r} e h = subst (λ z. IsAnswer p (if z then q else t) r) (sym e) h

pub same_if : {A : Type 0} (n m : ℕ) (x y : A) → n ≡ m → (if n == m then x else y) ≡ x
same_if n m x y e = grind (arith, nat_tests)

pub apart_if : {A : Type 0} (n m : ℕ) (x y : A) → (n ≡ m → ⊥) → (if n == m then x else y) ≡ y
apart_if n m x y e = grind (arith, nat_tests)

-- ---- questions

-- a question that is answered leads on
pub is_dir_known : {A : Type 0} {p : Part} {i : ℕ} {next : Option Bool → Query A} {o : Option Bool} {r : Result A DecideError} → p.is_dir i ≡ Some o → IsAnswer p (next o) r → IsAnswer p (IsDir i next) r
unfolding run_part
is_dir_known {p = p} {i = i} {next = next} is rest = tells_same (ap (λ z. elim z [ None ↦ Unknown (missing.Node i) | Some a ↦ run_part p (next a) ]) is) rest

-- one that is not is missing
pub is_dir_missing : {A : Type 0} {p : Part} {i : ℕ} {next : Option Bool → Query A} {s : DecideError} → s ≡ why.Missing (missing.Node i) → p.is_dir i ≡ None → IsAnswer p (IsDir i next) (Err s)
unfolding run_part
is_dir_missing {p = p} {i = i} {next = next} lack is = subst (λ z. IsAnswer p (IsDir i next) (Err z)) (sym lack) (tells_missing (ap (λ z. elim z [ None ↦ Unknown (missing.Node i) | Some a ↦ run_part p (next a) ]) is))

-- the same of a look, by what is told of the node
pub look_known : {A C : Type 0} {p : Part} {i : ℕ} (g : Option Seen → C) (next : C → Query A) {y : C} {r : Result A DecideError} → option_map g (p.node i) ≡ Some y → IsAnswer p (next y) r → IsAnswer p (Look i (λ s. next (g s))) r
unfolding run_part
look_known {A = A} {p = p} {i = i} g next {y = y} is rest =
    tells_same (elim (p.node i) as (λ z. option_map g z ≡ Some y → ◌≡◌ {A = Found A} (elim z [ None ↦ Unknown (missing.Node i) | Some a ↦ run_part p (next (g a)) ]) (run_part p (next y))) [
      | None ↦ λ h. absurd (cc)
      | Some a ↦ λ h. let same : g a ≡ y = cc in ap (λ z. run_part p (next z)) same
    ] is) rest

pub look_missing : {A C : Type 0} {p : Part} {i : ℕ} (g : Option Seen → C) (next : Option Seen → Query A) {s : DecideError} → s ≡ why.Missing (missing.Node i) → option_map g (p.node i) ≡ None → IsAnswer p (Look i next) (Err s)
unfolding run_part
look_missing {A = A} {p = p} {i = i} g next lack is =
    subst (λ z. IsAnswer p (Look i next) (Err z)) (sym lack) (tells_missing (elim (p.node i) as (λ z. option_map g z ≡ None → ◌≡◌ {A = Found A} (elim z [ None ↦ Unknown (missing.Node i) | Some a ↦ run_part p (next a) ]) (Unknown (missing.Node i))) [
      | None ↦ λ h. refl
      | Some a ↦ λ h. absurd (cc)
    ] is))

-- a look of which not all is told
pub look_seen : {A C : Type 0} {p : Part} {i : ℕ} (g : Option Seen → C) (next : Option Seen → Query A) {y : C} {r : Result A DecideError} → option_map g (p.node i) ≡ Some y → ((s : Option Seen) → g s ≡ y → IsAnswer p (next s) r) → IsAnswer p (Look i next) r
unfolding run_part
look_seen {p = p} {i = i} g next {y = y} {r = r} is rest =
    elim (p.node i) as (λ z. p.node i ≡ z → option_map g z ≡ Some y → IsAnswer p (Look i next) r) [
      | None ↦ λ at h. absurd (cc)
      | Some a ↦ λ at h. let same : g a ≡ y = cc in tells_same (ap (λ z. elim z [ None ↦ Unknown (missing.Node i) | Some a ↦ run_part p (next a) ]) at) (rest a same)
    ] refl is

pub bind_look : {B C D : Type 0} {p : Part} (i : ℕ) (h : Option Seen → C) (g : Option Seen → D) (f : C → Query B) {y : D} {r : Result B DecideError} → option_map g (p.node i) ≡ Some y → ((s : Option Seen) → g s ≡ y → IsAnswer p (f (h s)) r) → IsAnswer p (Look i (λ s. Gives (h s)) >>= f) r
unfolding ◌>>=◌
bind_look i h g f is rest = look_seen g (λ s. f (h s)) is rest

pub bind_look_missing : {B C D : Type 0} {p : Part} (i : ℕ) (h : Option Seen → C) (g : Option Seen → D) (f : C → Query B) {s : DecideError} → s ≡ why.Missing (missing.Node i) → option_map g (p.node i) ≡ None → IsAnswer p (Look i (λ s. Gives (h s)) >>= f) (Err s)
bind_look_missing i h g f lack is = bind_stops f (look_missing g _ lack is)

-- the same of a range of bytes
pub range_known : {A : Type 0} {p : Part} {i at count : ℕ} {next : List ℕ → Query A} {bytes : List ℕ} {r : Result A DecideError} → p.bytes i at count ≡ Some bytes → IsAnswer p (next bytes) r → IsAnswer p (Range i at count next) r
unfolding run_part
range_known {p = p} {i = i} {at = at} {count = count} {next = next} is rest = tells_same (ap (λ z. elim z [ None ↦ Unknown (blocks_missing i at count) | Some a ↦ run_part p (next a) ]) is) rest

pub range_missing : {A : Type 0} {p : Part} {i at count : ℕ} {next : List ℕ → Query A} {s : DecideError} → s ≡ why.Missing (blocks_missing i at count) → p.bytes i at count ≡ None → IsAnswer p (Range i at count next) (Err s)
unfolding run_part
range_missing {p = p} {i = i} {at = at} {count = count} {next = next} lack is = subst (λ z. IsAnswer p (Range i at count next) (Err z)) (sym lack) (tells_missing (ap (λ z. elim z [ None ↦ Unknown (blocks_missing i at count) | Some a ↦ run_part p (next a) ]) is))

-- so a range is told by what was answered
pub range_told : {p : Part} (i at count : ℕ) {answer : Option (List ℕ)} {what : Missing} (r : Result (List ℕ) DecideError) → answer ≡ p.bytes i at count → what ≡ blocks_missing i at count → IfOk r (λ bytes. answer ≡ Some bytes) → IfErr r (λ e. (e ≡ why.Missing what) × (answer ≡ None)) → IsAnswer p (Range i at count (λ bytes. Gives bytes)) r
range_told i at count (Ok bytes) is same known lack = range_known (sym is ∙ known) gives
range_told i at count (Err e) is same known lack = range_missing (lack.0 ∙ ap (λ z. why.Missing z) same) (sym is ∙ lack.1)

-- what stat tells of a node
pub file_told : {p : Part} (s : Option Seen) (size names : ℕ) → description_of s ≡ Some (description.File size names) → IsAnswer p (node_description s) (Ok (Tell (reply.File size names)))
file_told None size names is = absurd (cc)
file_told (Some (File many long)) size names is =
    let long_is : long ≡ size = cc in
    let same : many ≡ names = cc in
    gives_as (ap (λ z. Tell (reply.File z many)) long_is ∙ ap (λ z. Tell (reply.File size z)) same)
file_told (Some (Dir entries)) size names is = absurd (cc)

pub dir_told : {p : Part} (s : Option Seen) (many : ℕ) → description_of s ≡ Some (description.Dir many) → IsAnswer p (node_description s) (Ok (Tell (reply.Dir many)))
dir_told None many is = absurd (cc)
dir_told (Some (File names size)) many is = absurd (cc)
dir_told (Some (Dir entries)) many is = let same : fin.len entries ≡ many = cc in gives_as (ap (λ z. Tell (reply.Dir z)) same)

pub nothing_told : {p : Part} (s : Option Seen) → description_of s ≡ None → IsAnswer p (node_description s) (Err (Refused errno.NoEntry))
nothing_told None is = refuses
nothing_told (Some (File names size)) is = absurd (cc)
nothing_told (Some (Dir entries)) is = absurd (cc)

-- what is written
pub write_nothing : (i at : ℕ) (bytes : List ℕ) → (length bytes == 0) ≡ true → write_at i at bytes ≡ Gives (Tell (reply.Wrote 0))
write_nothing i at [] none = refl
write_nothing i at (b ∷ bytes) none = absurd (grind (arith, nat_tests))

pub write_some : (i at : ℕ) (bytes : List ℕ) → (length bytes == 0) ≡ false → write_at i at bytes ≡ (refuse errno.FileTooBig (nat_lt MAX_FILE (at + length bytes)) >>= (λ _. Gives (Write i at bytes)))
write_some i at [] some = absurd (grind (arith, nat_tests))
write_some i at (b ∷ bytes) some = refl

-- what is read
pub bytes_none : (i at count : ℕ) → count ≡ 0 → bytes_from i at count ≡ Gives []
bytes_none i at count none = ap (bytes_from i at) none

pub bytes_some : (i at count : ℕ) → (count ≡ 0 → ⊥) → bytes_from i at count ≡ Range i at count (λ bytes. Gives bytes)
bytes_some i at zero some = absurd (some refl)
bytes_some i at (suc count) some = refl

-- ---- descriptors

-- what is open is found
pub opened_passes : {p : Part} (test : Descriptor → Bool) {o : Option Descriptor} (d : Descriptor) → o ≡ Some d → test d ≡ true → IsAnswer p (open_inode test o) (Ok d.inode)
opened_passes {p = p} test d is passes = subst (λ z. IsAnswer p (open_inode test z) (Ok d.inode)) (sym is) (if_holds (Refuses errno.BadDescriptor) passes gives)

-- what does not pass is refused
pub opened_fails : {p : Part} (test : Descriptor → Bool) {o : Option Descriptor} (d : Descriptor) {s : DecideError} → o ≡ Some d → s ≡ Refused errno.BadDescriptor → test d ≡ false → IsAnswer p (open_inode test o) (Err s)
opened_fails {p = p} test d {s = s} is why fails = subst (λ z. IsAnswer p (open_inode test z) (Err s)) (sym is) (if_fails (Gives d.inode) fails (subst (λ z. IsAnswer {A = ℕ} p (Refuses errno.BadDescriptor) (Err z)) (sym why) refuses))

-- so is what is not open
pub opened_none : {p : Part} (test : Descriptor → Bool) {o : Option Descriptor} → o ≡ None → IsAnswer p (open_inode test o) (Err (Refused errno.BadDescriptor))
opened_none {p = p} test is = subst (λ z. IsAnswer p (open_inode test z) (Err (Refused errno.BadDescriptor))) (sym is) refuses

pub not_false : (b : Bool) → not b ≡ true → b ≡ false
not_false true e = absurd (cc)
not_false false e = refl

pub not_true : (b : Bool) → not b ≡ false → b ≡ true
not_true true e = refl
not_true false e = absurd (cc)

-- ---- errors

-- what was read is told
pub said_ok : {A : Type 0} {p : Part} {r : Result A Errno} {x : A} → r ≡ Ok x → IsAnswer p (read_or_error r) (Ok x)
said_ok {p = p} {x = x} is = subst (λ z. IsAnswer p (read_or_error z) (Ok x)) (sym is) gives

refused_as : {A : Type 0} (p : Part) (e : Errno) → IsAnswer {A = A} p (Refuses e) (Err (decide_error e))
refused_as p NoMemory = tells_memory p (Refuses NoMemory)
refused_as p e = refuses

-- so is why it was not
pub said_err : {A : Type 0} {p : Part} {r : Result A Errno} {e : Errno} → (e ≡ NoMemory) ⊎ (r ≡ Err e) → IsAnswer p (read_or_error r) (Err (decide_error e))
said_err {p = p} {r = r} {e = e} why =
    elim why [
      | inl memory ↦ subst (λ z. IsAnswer p (read_or_error r) (Err (decide_error z))) (sym memory) (tells_memory p (read_or_error r))
      | inr is ↦ subst (λ z. IsAnswer p (read_or_error z) (Err (decide_error e))) (sym is) (refused_as p e)
    ]
