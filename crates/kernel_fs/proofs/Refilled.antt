-- Which refusals of the book are told.
use Rattle.std.proofs.Common.{◌≡◌, ℕ, ◌+◌, ◌≤◌, Bool, false, arith}
use Rattle.std.specs.Prelude.{◌↔◌, Ok, Err, IsErrOf}
use Rattle.kernel_fs.specs.declared.book_error.RefillError.{RefillError}
use Rattle.kernel_fs.specs.declared.error.KernelError.TheVariants as why

pub told_few : {T : Type 0} (e wanted : RefillError) (failed : Bool) (charge charge' out units capacity capacity' : ℕ) (Few : Type 0) → failed ≡ false → charge ≡ charge' → capacity ≡ capacity'
    → IsErrOf {T = T} (Err e) wanted ↔ ((charge + out + units ≤ capacity) × Few)
    → IsErrOf {T = T} (Err (why.Refused e)) (why.Refused wanted) ↔ ((failed ≡ false) × (charge' + out + units ≤ capacity') × Few)
told_few e wanted failed charge charge' out units capacity capacity' Few going same all told = (
  λ is. let t = told.0 (cc is) in let fits = t.0 in (going, omega (arith, fits, same, all), t.1),
  λ few. let fits = few.1 in let t = told.1 (omega (arith, fits, same, all), few.2) in cc t,
)

pub told_none : {T : Type 0} (x : T) (wanted : RefillError) (failed : Bool) (charge charge' out units capacity capacity' : ℕ) (Few : Type 0) → failed ≡ false → charge ≡ charge' → capacity ≡ capacity'
    → IsErrOf {T = T} (Ok x) wanted ↔ ((charge + out + units ≤ capacity) × Few)
    → IsErrOf {T = T} (Ok x) (why.Refused wanted) ↔ ((failed ≡ false) × (charge' + out + units ≤ capacity') × Few)
told_none x wanted failed charge charge' out units capacity capacity' Few going same all told = (
  λ is. absurd (cc is),
  λ few. let fits = few.1 in let t = told.1 (omega (arith, fits, same, all), few.2) in absurd (cc t),
)
