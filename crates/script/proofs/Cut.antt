-- Bytes that are cut are too many to write, before and after.
use Rattle.std.proofs.Common.{◌≡◌, ℕ, ◌<◌, inl, inr, List, true, length, take, ap, arith}
use Rattle.std.specs.Prelude.{nat_lt}
use Rattle.std.proofs.lemmas.List.{take_all, length-take}
use Rattle.std.proofs.lemmas.Bool.{cases_lt, lt-ltb}
use Rattle.posix_calls.specs.Tree.{Own}
use Rattle.posix_calls.specs.Query.{◌>>=◌}
use Rattle.posix_calls.specs.Decide.{pwrite}
use Rattle.posix_calls.specs.declared.limits.TheConstants.{MAX_TRANSFER}
use Rattle.script.specs.declared.runs.TheConstants.{MAX_DATA}

pub over : (bytes : List ℕ) → MAX_TRANSFER < length bytes → MAX_TRANSFER < length (take MAX_DATA bytes)
over bytes more = omega (arith, length-take MAX_DATA bytes, more)

-- whatever is too much to write is refused alike
refused : (own : Own) (number at : ℕ) (bytes others : List ℕ) → nat_lt MAX_TRANSFER (length bytes) ≡ true → nat_lt MAX_TRANSFER (length others) ≡ true → pwrite own number at bytes ≡ pwrite own number at others
unfolding pwrite ◌>>=◌
refused own number at bytes others more most = rw (more, most)

pub alike : (own : Own) (number at : ℕ) (bytes : List ℕ) → pwrite own number at (take MAX_DATA bytes) ≡ pwrite own number at bytes
alike own number at bytes = elim (cases_lt MAX_TRANSFER (length bytes)) [
  | inl more ↦ refused own number at (take MAX_DATA bytes) bytes (lt-ltb MAX_TRANSFER (length (take MAX_DATA bytes)) (over bytes more)) (lt-ltb MAX_TRANSFER (length bytes) more)
  | inr few ↦ ap (pwrite own number at) (take_all MAX_DATA bytes (omega arith))
]
