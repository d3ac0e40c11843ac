-- The bytes of a fresh region.
use Rattle.std.proofs.Common.{◌≡◌, ℕ, zero, suc, ◌+◌, ◌-◌, ◌^◌, ◌<◌, List, [], ◌∷◌, ◌++◌, length, get_or, refl, ap, ◌∙◌, arith}
use Rattle.std.proofs.lemmas.List.{get_or-append-add, get_or-replicate}
use Rattle.byteorder.specs.Endian.{little_number}
use Rattle.byteorder.specs.Numbers.{little_number-reads_back, length-bytes_low_first}
use Rattle.layout.specs.Bytes.{u64, zeros}
use Rattle.tier_device.specs.declared.media.Tier.{Tier}
use Rattle.tier_device.specs.declared.media.Tier.TheVariants.{Fast, Block, Slow}
use Rattle.update_log.specs.Frames.{payloads_from, records, spelled_records}
use Rattle.update_log.specs.View.{HasSize}
use Rattle.update_log.specs.WipeStops.{generation}
use Rattle.recovery_laws.specs.Fresh.{fresh_region}
use Rattle.recovery_laws.proofs.Zeros.{padded_is, padded_long}

u64_long : (n : ℕ) → length (u64 n) ≡ 8
unfolding u64
u64_long n = length-bytes_low_first 0 8 n

pub region_long : (n : ℕ) → length (fresh_region n) ≡ 262144
region_long n = padded_long 262144 (u64 n) (omega (arith, u64_long n))

pub region_sized : (n : ℕ) (seen : Tier → List ℕ) → seen Fast ≡ fresh_region n → seen Block ≡ [] → seen Slow ≡ [] → HasSize seen
region_sized n seen fast block slow = record { fast = ap length fast ∙ region_long n; block = ap length block; slow = ap length slow }

pub region_named : (n : ℕ) → n < 2 ^ 64 → generation (fresh_region n) ≡ n
unfolding u64
region_named n small = ap (little_number 8) (padded_is 262144 (u64 n)) ∙ little_number-reads_back 8 n (zeros (262144 - length (u64 n))) small

-- past the header the first gate is closed, whatever stands before
closed_behind : (skip : ℕ) (front : List ℕ) (more : ℕ) → payloads_from (length front + skip) (front ++ zeros more) ≡ payloads_from skip (zeros more)
closed_behind skip [] more = let none : 0 + skip ≡ skip = omega arith in ap (λ k. payloads_from k (zeros more)) none
closed_behind skip (b ∷ front) more = let one : suc (length front) + skip ≡ suc (length front + skip) = omega arith in ap (λ k. payloads_from k (b ∷ (front ++ zeros more))) one ∙ closed_behind skip front more

none_in : (skip more : ℕ) → payloads_from skip (zeros more) ≡ []
unfolding zeros
none_in skip zero = refl
none_in zero (suc more) = refl
none_in (suc skip) (suc more) = none_in skip more

pub region_closed : (n : ℕ) → get_or (fresh_region n) 16 0 ≡ 0
unfolding zeros
region_closed n =
    let rest : ℕ = 262144 - length (u64 n) in
    let header : 16 ≡ length (u64 n) + 8 = omega (arith, u64_long n) in
    ap (λ c. get_or c 16 0) (padded_is 262144 (u64 n)) ∙ ap (λ k. get_or (u64 n ++ zeros rest) k 0) header ∙ get_or-append-add (u64 n) (zeros rest) 8 0
    ∙ get_or-replicate rest 8 0 0 (omega (arith, u64_long n))

pub region_empty : (n : ℕ) → records (fresh_region n) ≡ []
region_empty n =
    let rest : ℕ = 262144 - length (u64 n) in
    let header : 16 ≡ length (u64 n) + 8 = omega (arith, u64_long n) in
    ap (λ c. spelled_records (payloads_from 16 c)) (padded_is 262144 (u64 n))
    ∙ ap spelled_records (ap (λ k. payloads_from k (u64 n ++ zeros rest)) header ∙ closed_behind 8 (u64 n) rest ∙ none_in 8 rest)
