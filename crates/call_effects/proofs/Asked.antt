-- What it tells that questions came to a result.
use Rattle.std.proofs.Common.{◌≡◌, ℕ, Bool, true, false, refl, Option, Ok}
use Rattle.posix_calls.specs.declared.errno.Errno.{Errno}
use Rattle.posix_calls.specs.Query.{Seen, Query, Gives, Refuses, IsDir, Look, Range, ◌>>=◌, View, run}
use Rattle.posix_calls.specs.Walk.{refuse}

pub bind_ok : {A B : Type 0} (v : View) (q : Query A) (f : A → Query B) (b : B) → run v (q >>= f) ≡ Ok b → (a : A) × (run v q ≡ Ok a) × (run v (f a) ≡ Ok b)
unfolding run ◌>>=◌
bind_ok v (Gives x) f b e = (x, refl, e)
bind_ok v (Refuses x) f b e = absurd (cc)
bind_ok v (IsDir i next) f b e = bind_ok v (next (v.is_dir i)) f b e
bind_ok v (Look i next) f b e = bind_ok v (next (v.node i)) f b e
bind_ok v (Range i at count next) f b e = bind_ok v (next (v.bytes i at count)) f b e

pub not_refused : (v : View) (x : Errno) (test : Bool) (u : Unit {0}) → run v (refuse x test) ≡ Ok u → test ≡ false
unfolding run
not_refused v x true u e = absurd (cc)
not_refused v x false u e = refl

-- what is given, read or asked is what comes
pub given : {A : Type 0} (v : View) {x y : A} → run v (Gives x) ≡ Ok y → x ≡ y
unfolding run
given v e = cc

pub looked : {A : Type 0} (v : View) (i : ℕ) (f : Option Seen → A) (y : A) → run v (Look i (λ s. Gives (f s))) ≡ Ok y → f (v.node i) ≡ y
unfolding run
looked v i f y e = cc
