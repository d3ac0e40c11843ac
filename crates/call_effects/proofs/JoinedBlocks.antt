-- Which blocks have to be known for a range of a file's bytes.
use Rattle.std.proofs.Common.{◌≡◌, ℕ, zero, suc, ◌+◌, ◌≤◌, ◌<◌, List, ◌++◌, refl, Some, None, Option, ap, ◌∙◌, arith}
use Rattle.std.specs.Prelude.{◌/◌, option_map}
use Rattle.posix_calls.specs.Part.{blocks_touched}
use Rattle.call_effects.specs.Blocks.{joined_bytes, blocks_joined, range_by}
use Rattle.call_effects.proofs.Blocks.{mapped, both_known}

-- where so many blocks are not all known, this one isn't
pub record IsUnknownBlock (blocks : ℕ → Option (List ℕ)) (first count : ℕ) : Type 0 where
  pub block : ℕ
  pub low : first ≤ block
  pub high : block < first + count
  pub unknown : blocks block ≡ None

unmapped : {X Y : Type 0} (f : X → Y) (o : Option X) → option_map f o ≡ None → o ≡ None
unmapped f None e = refl
unmapped f (Some x) e = absurd (cc)

pub a_block : (blocks : ℕ → Option (List ℕ)) (first count : ℕ) → blocks_joined blocks first count ≡ None → IsUnknownBlock blocks first count
a_block blocks first zero e = absurd (cc)
a_block blocks first (suc count) e = elim (blocks first) as (λ o. blocks first ≡ o → joined_bytes o (blocks_joined blocks (first + 1) count) ≡ None → IsUnknownBlock blocks first (suc count)) [
  | None ↦ λ is lacking. record { block = first; low = omega arith; high = omega arith; unknown = is }
  | Some bytes ↦ λ is lacking.
      let rest = a_block blocks (first + 1) count (unmapped (λ more. bytes ++ more) (blocks_joined blocks (first + 1) count) lacking) in
      let low = rest.low in
      let high = rest.high in
      record { block = rest.block; low = omega (arith, low); high = omega (arith, high); unknown = rest.unknown }
] refl e

pub not_joined : (blocks : ℕ → Option (List ℕ)) (at count : ℕ) → range_by blocks at count ≡ None → blocks_joined blocks (at / 4096) (blocks_touched at count) ≡ None
not_joined blocks at count e = unmapped _ (blocks_joined blocks (at / 4096) (blocks_touched at count)) e

-- with more blocks the same is known
abbrev pub HasBlocks : (ℕ → Option (List ℕ)) → (ℕ → Option (List ℕ)) → Type 0
HasBlocks more blocks = (b : ℕ) (bytes : List ℕ) → blocks b ≡ Some bytes → more b ≡ Some bytes

joined_more : (blocks more : ℕ → Option (List ℕ)) → HasBlocks more blocks → (first count : ℕ) (all : List ℕ) → blocks_joined blocks first count ≡ Some all → blocks_joined more first count ≡ Some all
joined_more blocks more has first zero all e = e
joined_more blocks more has first (suc count) all e =
    let f = both_known (blocks first) (blocks_joined blocks (first + 1) count) all e in
    ap (λ o. joined_bytes o (blocks_joined more (first + 1) count)) (has first f.bytes f.first_is)
    ∙ ap (joined_bytes (Some f.bytes)) (joined_more blocks more has (first + 1) count f.more f.rest_is)
    ∙ ap (λ x. Some x) f.all_is

pub range_more : (blocks more : ℕ → Option (List ℕ)) → HasBlocks more blocks → (at count : ℕ) (bytes : List ℕ) → range_by blocks at count ≡ Some bytes → range_by more at count ≡ Some bytes
range_more blocks more has at count bytes e =
    let all = mapped _ (blocks_joined blocks (at / 4096) (blocks_touched at count)) bytes e in
    ap (option_map _) (joined_more blocks more has (at / 4096) (blocks_touched at count) all.0 all.1) ∙ ap (λ x. Some x) all.2
