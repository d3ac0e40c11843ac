-- Generations, counted modulo 2^64.
use Rattle.std.proofs.Common.{◌≡◌, ◌≢◌, ℕ, ◌^◌, ◌<◌, arith}
use Rattle.update_log.specs.RecordCounts.{next_generation}

pub next_is_small : (g : ℕ) → next_generation g < 2 ^ 64
next_is_small g = omega arith

-- none is the one after the next
pub apart : (g m : ℕ) → g < 2 ^ 64 → next_generation m ≡ g → m ≢ next_generation g
apart g m small is same = omega (arith, small, is, same)
