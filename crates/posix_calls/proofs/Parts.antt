-- Who knows a part answers as the whole does, and asks first what it misses.
use Rattle.std.proofs.Common.{◌≡◌, refl, Some, None, Result, ap, ◌∙◌}
use Rattle.posix_calls.specs.declared.errno.Errno.{Errno}
use Rattle.posix_calls.specs.declared.operation.Missing.{Missing}
use Rattle.posix_calls.specs.declared.operation.Missing.TheVariants as missing
use Rattle.posix_calls.specs.Query.{Query, Gives, Refuses, IsDir, Look, Range, View, run}
use Rattle.posix_calls.specs.Part.{Part, Found, Known, Unknown, blocks_missing, IsPart, IsLeft, run_part}

-- what is known by a part is so in the whole
pub known_is_run : {A : Type 0} (p : Part) (v : View) → IsPart p v → (q : Query A) (r : Result A Errno) → run_part p q ≡ Known r → run v q ≡ r
unfolding run run_part
known_is_run p v part (Gives x) r e = cc
known_is_run p v part (Refuses x) r e = cc
known_is_run p v part (IsDir i next) r e =
    elim (p.is_dir i) as (λ o. p.is_dir i ≡ o → elim o [ None ↦ Unknown (missing.Node i) | Some a ↦ run_part p (next a) ] ≡ Known r → run v (next (v.is_dir i)) ≡ r) [
      | None ↦ λ is lacking. cc
      | Some a ↦ λ is known. rw (part.is_dir i a is) (known_is_run p v part (next a) r known)
    ] refl e
known_is_run p v part (Look i next) r e =
    elim (p.node i) as (λ o. p.node i ≡ o → elim o [ None ↦ Unknown (missing.Node i) | Some a ↦ run_part p (next a) ] ≡ Known r → run v (next (v.node i)) ≡ r) [
      | None ↦ λ is lacking. cc
      | Some a ↦ λ is known. rw (part.node i a is) (known_is_run p v part (next a) r known)
    ] refl e
known_is_run p v part (Range i at count next) r e =
    elim (p.bytes i at count) as (λ o. p.bytes i at count ≡ o → elim o [ None ↦ Unknown (blocks_missing i at count) | Some a ↦ run_part p (next a) ] ≡ Known r → run v (next (v.bytes i at count)) ≡ r) [
      | None ↦ λ is lacking. cc
      | Some a ↦ λ is known. rw (part.bytes i at count a is) (known_is_run p v part (next a) r known)
    ] refl e

-- what a part misses is asked next
pub missing_is_left : {A : Type 0} (p : Part) (q : Query A) (what : Missing) → run_part p q ≡ Unknown what → IsLeft p what q
unfolding run run_part
missing_is_left p (Gives x) what e = absurd (cc)
missing_is_left p (Refuses x) what e = absurd (cc)
missing_is_left {A = A} p (IsDir i next) what e =
    elim (p.is_dir i) as (λ o. p.is_dir i ≡ o → ◌≡◌ {A = Found A} (elim o [ None ↦ Unknown (missing.Node i) | Some a ↦ run_part p (next a) ]) (Unknown what) → IsLeft p what (IsDir i next)) [
      | None ↦ λ is lacking. record { rest = IsDir i next; beyond = (cc, is); same = λ v part. refl }
      | Some a ↦ λ is lacking.
          let left = missing_is_left p (next a) what lacking in
          record { rest = left.rest; beyond = left.beyond; same = λ v part. ap (λ o. run v (next o)) (part.is_dir i a is) ∙ left.same v part }
    ] refl e
missing_is_left {A = A} p (Look i next) what e =
    elim (p.node i) as (λ o. p.node i ≡ o → ◌≡◌ {A = Found A} (elim o [ None ↦ Unknown (missing.Node i) | Some a ↦ run_part p (next a) ]) (Unknown what) → IsLeft p what (Look i next)) [
      | None ↦ λ is lacking. record { rest = Look i next; beyond = (cc, is); same = λ v part. refl }
      | Some a ↦ λ is lacking.
          let left = missing_is_left p (next a) what lacking in
          record { rest = left.rest; beyond = left.beyond; same = λ v part. ap (λ o. run v (next o)) (part.node i a is) ∙ left.same v part }
    ] refl e
missing_is_left {A = A} p (Range i at count next) what e =
    elim (p.bytes i at count) as (λ o. p.bytes i at count ≡ o → ◌≡◌ {A = Found A} (elim o [ None ↦ Unknown (blocks_missing i at count) | Some a ↦ run_part p (next a) ]) (Unknown what) → IsLeft p what (Range i at count next)) [
      | None ↦ λ is lacking. record { rest = Range i at count next; beyond = (cc, is); same = λ v part. refl }
      | Some a ↦ λ is lacking.
          let left = missing_is_left p (next a) what lacking in
          record { rest = left.rest; beyond = left.beyond; same = λ v part. ap (λ o. run v (next o)) (part.bytes i at count a is) ∙ left.same v part }
    ] refl e
