-- How questions run: one after another, and by a part as by the whole.
use Rattle.std.proofs.Common.{◌≡◌, ℕ, List, Bool, refl, Option, Ok, Err, Result}
use Rattle.posix_calls.specs.declared.errno.Errno.{Errno}
use Rattle.posix_calls.specs.Query.{Seen, Query, Gives, Refuses, IsDir, Look, Range, ◌>>=◌, View, run}

-- what a first answer leads to
abbrev pub then_run : {A B : Type 0} → Result A Errno → (A → Result B Errno) → Result B Errno
then_run (Ok x) f = f x
then_run (Err e) f = Err e

-- questions one after another run one after another
pub run_bind : {A B : Type 0} (v : View) (q : Query A) (f : A → Query B) → run v (q >>= f) ≡ then_run (run v q) (λ x. run v (f x))
unfolding run ◌>>=◌
run_bind v (Gives x) f = refl
run_bind v (Refuses x) f = refl
run_bind v (IsDir i next) f = run_bind v (next (v.is_dir i)) f
run_bind v (Look i next) f = run_bind v (next (v.node i)) f
run_bind v (Range i at count next) f = run_bind v (next (v.bytes i at count)) f

-- a result is what comes
pub run_gives : {A : Type 0} (v : View) (x : A) → run v (Gives x) ≡ Ok x
unfolding run
run_gives v x = refl

-- an error is what comes
pub run_refuses : (A : Type 0) (v : View) (e : Errno) → run {A = A} v (Refuses e) ≡ Err e
unfolding run
run_refuses A v e = refl

-- a question is answered by the view
pub run_is_dir : {A : Type 0} (v : View) (i : ℕ) (next : Option Bool → Query A) → run v (IsDir i next) ≡ run v (next (v.is_dir i))
unfolding run
run_is_dir v i next = refl

-- so is a look
pub run_look : {A : Type 0} (v : View) (i : ℕ) (next : Option Seen → Query A) → run v (Look i next) ≡ run v (next (v.node i))
unfolding run
run_look v i next = refl

-- and a range of bytes
pub run_range : {A : Type 0} (v : View) (i at count : ℕ) (next : List ℕ → Query A) → run v (Range i at count next) ≡ run v (next (v.bytes i at count))
unfolding run
run_range v i at count next = refl

pub ruleset runs = (run_bind, run_gives, run_refuses, run_is_dir, run_look, run_range)
