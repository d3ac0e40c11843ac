-- The places of a client's descriptors: an empty list of them, and the lowest that is free.
use Rattle.std.proofs.Common.{◌≡◌, ℕ, zero, suc, ◌+◌, ◌-◌, ◌<◌, replicate, get_or, Option, Some, None, refl, arith, ap, ◌∙◌}
use Rattle.posix_calls.specs.Tree.{Own}
use Rattle.posix_calls.specs.Decide.{lowest_free}
use Rattle.posix_calls.specs.declared.descriptor.Descriptor.{Descriptor}

-- nothing stands in a list of empty places
pub nothing_at : (many n : ℕ) → get_or {A = Option Descriptor} (replicate many None) n None ≡ None
nothing_at zero n = refl
nothing_at (suc many) zero = refl
nothing_at (suc many) (suc n) = nothing_at many n

-- a free place is the lowest
free_here : (own : Own) (n many : ℕ) → own n ≡ None → 0 < many → lowest_free own n many ≡ Some n
unfolding lowest_free
free_here own n zero is some = absurd (omega arith)
free_here own n (suc many) is some = rw (is, lowest_free) refl

pub free_below : (own : Own) (n end : ℕ) → own n ≡ None → n < end → lowest_free own n (end - n) ≡ Some n
free_below own n end is below = free_here own n (end - n) is (omega arith)

-- one that is not leaves those above it
taken_here : (own : Own) (n many : ℕ) (d : Descriptor) → own n ≡ Some d → lowest_free own n (suc many) ≡ lowest_free own (n + 1) many
unfolding lowest_free
taken_here own n many d is = rw (is, lowest_free) refl

pub taken_below : (own : Own) (n end : ℕ) (d : Descriptor) → own n ≡ Some d → n < end → lowest_free own n (end - n) ≡ lowest_free own (n + 1) (end - (n + 1))
taken_below own n end d is below =
    let more : end - n ≡ suc (end - (n + 1)) = omega arith in
    ap (lowest_free own n) more ∙ taken_here own n (end - (n + 1)) d is

-- none is free among none
pub none_left : (own : Own) (n end : ℕ) → end - n ≡ 0 → lowest_free own n (end - n) ≡ None
unfolding lowest_free
none_left own n end is = ap (lowest_free own n) is
