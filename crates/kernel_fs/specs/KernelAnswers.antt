-- How the kernel answers.
use Rattle.std.specs.Prelude.{◌≡◌, Bool, true, false, Result, Ok, Err}
use Rattle.kernel_fs.specs.declared.error.KernelError.{KernelError}
use Rattle.kernel_fs.specs.declared.error.KernelError.TheVariants as why

-- what its area answered, as the kernel tells it
abbrev pub kernel_answer : {T E : Type 0} → Result T E → Result T (KernelError E)
kernel_answer (Ok x) = Ok x
kernel_answer (Err e) = Err (why.Refused e)

-- what is so of a refusal that is not told for an earlier fault
abbrev pub OnRefusal : {E : Type 0} → KernelError E → (E → Type 0) → Type 0
OnRefusal why.Failed P = Unit {0}
OnRefusal (why.Refused e) P = P e

-- A kernel that has failed answers just that, and is not touched; one that has not answers what was answered to it.
pub record Answers {V T E : Type 0} (has_failed : Bool) (old new : V) (result : Result T (KernelError E)) (IsAnswer : Result T E → Type 0) : Type 0 where
  pub failed : has_failed ≡ true → (result ≡ Err why.Failed) × (new ≡ old)
  pub going : has_failed ≡ false → (r : Result T E) × (result ≡ kernel_answer r) × IsAnswer r
