-- What a call comes to is in range: no more is written than one call may write, and what is opened has the number of a descriptor.
use Rattle.std.proofs.Common.{◌≡◌, ℕ, ◌<◌, ◌==◌, List, [], ◌∷◌, length, Bool, true, false, refl, subst, Option, Some, None, Result, Ok, Err, cond, nat_lt, ltb-false}
use Rattle.std.specs.Prelude.{IfOk}
use Rattle.posix_calls.specs.Tree.{Own}
use Rattle.posix_calls.specs.Query.{Seen, File, Dir, Query, Gives, Refuses, IsDir, Look, Range, ◌>>=◌}
use Rattle.posix_calls.specs.Part.{Part, Known, Unknown, blocks_missing, run_part}
use Rattle.posix_calls.specs.Walk.{Place, refuse, leads_to}
use Rattle.posix_calls.specs.Answers.{IsAnswer}
use Rattle.posix_calls.specs.Decide.{lowest_free, number_or, open_there, open_path, close, pread, write_at, pwrite, truncate, mkdir, rmdir, link, unlink, rename_to, rename, exchange_apart, exchange, list_path, node_description, stat}
use Rattle.posix_calls.specs.Exact.{IsInRange}
use Rattle.posix_calls.specs.declared.call.Flags.{Flags}
use Rattle.posix_calls.specs.declared.call.Reply.TheVariants as reply
use Rattle.posix_calls.specs.declared.errno.Errno.{Errno}
use Rattle.posix_calls.specs.declared.errno.Errno.TheVariants as errno
use Rattle.posix_calls.specs.declared.limits.TheConstants.{MAX_DESCRIPTORS, MAX_TRANSFER}
use Rattle.posix_calls.specs.declared.operation.DecideError.{DecideError}
use Rattle.posix_calls.specs.declared.operation.Missing.TheVariants as missing
use Rattle.posix_calls.specs.declared.operation.Operation.{Operation}
use Rattle.posix_calls.specs.declared.operation.Operation.TheVariants.{Tell, Resize}
use Rattle.posix_calls.proofs.Comes.{lowest_is}

-- whatever is answered, what comes has a property
abbrev pub Always : {A : Type 0} → (A → Type 0) → Query A → Type 0
Always P (Gives x) = P x
Always P (Refuses e) = Unit {0}
Always P (IsDir i next) = (o : Option Bool) → Always P (next o)
Always P (Look i next) = (o : Option Seen) → Always P (next o)
Always P (Range i at count next) = (bytes : List ℕ) → Always P (next bytes)

-- what comes of two parts of a call has it where the second has it after the first
always_bind : {A B : Type 0} (P : A → Type 0) (Q : B → Type 0) (q : Query A) (f : A → Query B) → Always P q → ((x : A) → P x → Always Q (f x)) → Always Q (q >>= f)
unfolding ◌>>=◌
always_bind P Q (Gives x) f first rest = rest x first
always_bind P Q (Refuses e) f first rest = tt
always_bind P Q (IsDir i next) f first rest = λ o. always_bind P Q (next o) f (first o) rest
always_bind P Q (Look i next) f first rest = λ o. always_bind P Q (next o) f (first o) rest
always_bind P Q (Range i at count next) f first rest = λ bytes. always_bind P Q (next bytes) f (first bytes) rest

-- anything may come of any part
anything : {A : Type 0} (q : Query A) → Always (λ x. Unit {0}) q
anything (Gives x) = tt
anything (Refuses e) = tt
anything (IsDir i next) = λ o. anything (next o)
anything (Look i next) = λ o. anything (next o)
anything (Range i at count next) = λ bytes. anything (next bytes)

-- where it does not matter what came
then_always : {A : Type 0} (q : Query A) (f : A → Query Operation) → ((x : A) → Always IsInRange (f x)) → Always IsInRange (q >>= f)
then_always q f rest = always_bind (λ x. Unit {0}) IsInRange q f (anything q) (λ x _. rest x)

-- what a part gives has the property
found : {A : Type 0} (P : A → Type 0) (p : Part) (q : Query A) (x : A) → Always P q → run_part p q ≡ Known (Ok x) → P x
unfolding run_part
found P p (Gives y) x all e = let same : y ≡ x = cc in subst P same all
found P p (Refuses d) x all e = absurd (cc)
found P p (IsDir i next) x all e =
    elim (p.is_dir i) as (λ o. elim o [ None ↦ Unknown (missing.Node i) | Some a ↦ run_part p (next a) ] ≡ Known (Ok x) → P x) [
      | None ↦ λ h. absurd (cc)
      | Some a ↦ λ h. found P p (next a) x (all a) h
    ] e
found P p (Look i next) x all e =
    elim (p.node i) as (λ o. elim o [ None ↦ Unknown (missing.Node i) | Some a ↦ run_part p (next a) ] ≡ Known (Ok x) → P x) [
      | None ↦ λ h. absurd (cc)
      | Some a ↦ λ h. found P p (next a) x (all a) h
    ] e
found P p (Range i at count next) x all e =
    elim (p.bytes i at count) as (λ o. elim o [ None ↦ Unknown (blocks_missing i at count) | Some a ↦ run_part p (next a) ] ≡ Known (Ok x) → P x) [
      | None ↦ λ h. absurd (cc)
      | Some a ↦ λ h. found P p (next a) x (all a) h
    ] e

-- so does what is told of a call
pub told_in_range : {p : Part} {q : Query Operation} (r : Result Operation DecideError) → Always IsInRange q → IsAnswer p q r → IfOk r (λ operation. IsInRange operation)
told_in_range {p = p} {q = q} (Ok operation) all tells = found IsInRange p q operation all (tells.gives operation refl)
told_in_range (Err e) all tells = tt

-- ---- the calls

passed : (e : Errno) (b : Bool) → Always (λ _. b ≡ false) (refuse e b)
passed e true = tt
passed e false = refl

numbered : (own : Own) → Always (λ n. n < MAX_DESCRIPTORS) (number_or (lowest_free own 0 MAX_DESCRIPTORS))
numbered own = of_number (lowest_free own 0 MAX_DESCRIPTORS) refl where
  of_number : (o : Option ℕ) → lowest_free own 0 MAX_DESCRIPTORS ≡ o → Always (λ n. n < MAX_DESCRIPTORS) (number_or o)
  of_number None is = tt
  of_number (Some n) is = (lowest_is own n is).0

there_in_range : (place : Place) (number : ℕ) (f : Flags) (o : Option ℕ) → number < MAX_DESCRIPTORS → Always IsInRange (open_there place number f o)
there_in_range place number f (Some i) low = then_always _ _ (λ empty. low)
there_in_range place number f None low = then_always _ _ (λ _. then_always _ _ (λ _. low))

pub open_in_range : (own : Own) (path : List ℕ) (f : Flags) → Always IsInRange (open_path own path f)
unfolding open_path
open_in_range own path f =
    then_always _ _ (λ names. then_always _ _ (λ _. always_bind (λ n. n < MAX_DESCRIPTORS) IsInRange _ _ (numbered own) (λ number low. then_always _ _ (λ place. then_always _ _ (λ _. then_always _ _ (λ is_dir. then_always _ _ (λ _. there_in_range place number f place.inode low)))))))

pub close_in_range : (own : Own) (number : ℕ) → Always IsInRange (close own number)
unfolding close
close_in_range own number = then_always _ _ (λ i. tt)

pub pread_in_range : (own : Own) (number at count : ℕ) → Always IsInRange (pread own number at count)
unfolding pread
pread_in_range own number at count = then_always _ _ (λ i. then_always _ _ (λ _. then_always _ _ (λ size. then_always _ _ (λ bytes. tt))))

write_in_range : (i at : ℕ) (bytes : List ℕ) → nat_lt MAX_TRANSFER (length bytes) ≡ false → Always IsInRange (write_at i at bytes)
write_in_range i at [] few = tt
write_in_range i at (b ∷ bytes) few = then_always _ _ (λ _. ltb-false MAX_TRANSFER (length (b ∷ bytes)) few)

pub pwrite_in_range : (own : Own) (number at : ℕ) (bytes : List ℕ) → Always IsInRange (pwrite own number at bytes)
unfolding pwrite
pwrite_in_range own number at bytes = then_always _ _ (λ i. always_bind (λ _. nat_lt MAX_TRANSFER (length bytes) ≡ false) IsInRange _ _ (passed errno.Invalid (nat_lt MAX_TRANSFER (length bytes))) (λ _ few. write_in_range i at bytes few))

pub truncate_in_range : (path : List ℕ) (len : ℕ) → Always IsInRange (truncate path len)
unfolding truncate
truncate_in_range path len =
    then_always _ _ (λ names. then_always _ _ (λ place. then_always _ _ (λ i. then_always _ _ (λ is_dir. then_always _ _ (λ _. then_always _ _ (λ _. then_always _ _ (λ size. elim (size == len) as (λ b. IsInRange (cond b (Tell reply.Done) (Resize i len))) [ true ↦ tt | false ↦ tt ])))))))

pub mkdir_in_range : (path : List ℕ) → Always IsInRange (mkdir path)
unfolding mkdir
mkdir_in_range path = then_always _ _ (λ names. then_always _ _ (λ place. then_always _ _ (λ _. then_always _ _ (λ _. tt))))

pub rmdir_in_range : (path : List ℕ) → Always IsInRange (rmdir path)
unfolding rmdir
rmdir_in_range path = then_always _ _ (λ names. then_always _ _ (λ _. then_always _ _ (λ place. then_always _ _ (λ i. then_always _ _ (λ is_dir. then_always _ _ (λ _. then_always _ _ (λ entries. then_always _ _ (λ _. tt))))))))

pub link_in_range : (old new : List ℕ) → Always IsInRange (link old new)
unfolding link
link_in_range old new =
    then_always _ _ (λ old_names. then_always _ _ (λ new_names. then_always _ _ (λ from. then_always _ _ (λ i. then_always _ _ (λ is_dir. then_always _ _ (λ _. then_always _ _ (λ to. then_always _ _ (λ _. then_always _ _ (λ names. then_always _ _ (λ _. then_always _ _ (λ _. tt)))))))))))

pub unlink_in_range : (path : List ℕ) → Always IsInRange (unlink path)
unfolding unlink
unlink_in_range path = then_always _ _ (λ names. then_always _ _ (λ _. then_always _ _ (λ place. then_always _ _ (λ i. then_always _ _ (λ is_dir. then_always _ _ (λ _. tt))))))

pub rename_in_range : (old new : List ℕ) → Always IsInRange (rename old new)
unfolding rename
rename_in_range old new =
    then_always _ _ (λ old_names. then_always _ _ (λ new_names. then_always _ _ (λ _. then_always _ _ (λ from. then_always _ _ (λ i. then_always _ _ (λ to. then_always _ _ (λ _. moved from to i (leads_to i to.inode))))))))
  where
    moved : (from to : Place) (i : ℕ) (same : Bool) → Always IsInRange (cond same (Gives (Tell reply.Done)) (rename_to from to i))
    moved from to i true = tt
    moved from to i false = then_always _ _ (λ old_dir. then_always _ _ (λ replaced. tt))

pub exchange_in_range : (first second : List ℕ) → Always IsInRange (exchange first second)
unfolding exchange
exchange_in_range first second =
    then_always _ _ (λ first_names. then_always _ _ (λ second_names. then_always _ _ (λ _. then_always _ _ (λ one. then_always _ _ (λ i. then_always _ _ (λ two. then_always _ _ (λ j. exchanged one two i j (i == j))))))))
  where
    exchanged : (one two : Place) (i j : ℕ) (same : Bool) → Always IsInRange (cond same (Gives (Tell reply.Done)) (exchange_apart one two i j))
    exchanged one two i j true = tt
    exchanged one two i j false = then_always _ _ (λ _. tt)

pub list_in_range : (path : List ℕ) → Always IsInRange (list_path path)
unfolding list_path
list_in_range path = then_always _ _ (λ names. then_always _ _ (λ place. then_always _ _ (λ i. then_always _ _ (λ is_dir. then_always _ _ (λ _. then_always _ _ (λ entries. tt))))))

described_in_range : (s : Option Seen) → Always IsInRange (node_description s)
described_in_range None = tt
described_in_range (Some (File names size)) = tt
described_in_range (Some (Dir entries)) = tt

pub stat_in_range : (path : List ℕ) → Always IsInRange (stat path)
unfolding stat
stat_in_range path = then_always _ _ (λ names. then_always _ _ (λ place. then_always _ _ (λ i. λ s. described_in_range s)))
