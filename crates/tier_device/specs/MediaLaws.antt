-- That the count of failed calls rose holds over several calls.
use Rattle.std.specs.Prelude.{◌<◌, ◌≤◌, ◌^◌, ℕ}
use Rattle.std.proofs.Common.{inl, inr, arith}
use Rattle.tier_device.specs.Media.{Rose}

pub Rose-later : (a b c : ℕ) → Rose a b → b ≤ c → c < 2 ^ 64 → Rose a c
Rose-later a b c (inl lt) le few = inl (omega arith)
Rose-later a b c (inr most) le few = inr (omega arith)

pub Rose-earlier : (a b c : ℕ) → a ≤ b → Rose b c → Rose a c
Rose-earlier a b c le (inl lt) = inl (omega arith)
Rose-earlier a b c le (inr most) = inr most
