-- The exits of a `?`.
use Rattle.std.proofs.Common.{◌≡◌, ◌∙◌, ap, sym}
use Rattle.std.specs.Prelude.{Result, Ok, Err, IfOk, IsErrAnd}

-- an error that stays as it is
pub err_of : {A E : Type 0} (r : Result A E) (e z : E) → IsErrAnd r (λ y. y ≡ e) → e ≡ z → r ≡ Err z
err_of (Ok x) e z is same = absurd is
err_of (Err y) e z is same = ap Err (is ∙ same)

-- one that is the same as another
pub err_again : {A B E : Type 0} (r : Result A E) (s : Result B E) (e z : E) → IsErrAnd r (λ y. y ≡ e) → s ≡ Err e → s ≡ Err z → r ≡ Err z
err_again r s e z is was same = let both = sym was ∙ same in err_of r e z is (cc)

-- nothing is so of a value there
pub ok_at_exit : {A E : Type 0} (r : Result A E) (P : A → Type 0) (Q : E → Type 0) → IsErrAnd r Q → IfOk r P
ok_at_exit (Ok x) P Q is = absurd is
ok_at_exit (Err y) P Q is = tt
