-- Of two Booleans.
use Rattle.std.proofs.Common.{◌≡◌, Bool, true, false, refl, true≢false}
use Rattle.std.specs.Prelude.{◌||◌}

pub or_true : (b : Bool) → (b || true) ≡ true
or_true true = refl
or_true false = refl

pub neither : (x y : Bool) → (x || y) ≡ false → (x ≡ false) × (y ≡ false)
neither true y e = absurd (true≢false e)
neither false y e = (refl, e)

pub second_of : (x y : Bool) → x ≡ false → (x || y) ≡ true → y ≡ true
second_of true y off e = absurd (true≢false off)
second_of false y off e = e
