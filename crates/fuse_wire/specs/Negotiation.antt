-- What INIT settles.
use Rattle.std.specs.Prelude.{◌≡◌, ℕ, ◌<◌, ◌==◌, ◌||◌, false, ◌⊎◌, if◌then◌else◌}
use Rattle.std.specs.Int.{bit_at}
use Rattle.fuse_wire.specs.Fields.{has_bit}

-- a version before 7.23
abbrev pub IsOld : ℕ → ℕ → Type 0
IsOld major minor = (major < 7) ⊎ ((major ≡ 7) × (minor < 23))

-- of the offer the flags of big writes and of the bound on pages are taken, and no other
abbrev pub TakesOffer : ℕ → ℕ → Type 0
TakesOffer offer flags = (bit : ℕ) → bit_at flags bit ≡ (if bit == 5 || bit == 22 then bit_at offer bit else 0)

-- what stays with the kernel: locks of both kinds, truncation beside an open, plain directories, and no write that is answered before it is sent
pub record LeavesToKernel (flags : ℕ) : Type 0 where
  pub posix_locks : has_bit 1 flags ≡ false
  pub truncation : has_bit 3 flags ≡ false
  pub flock_locks : has_bit 10 flags ≡ false
  pub entries : has_bit 13 flags ≡ false
  pub entries_at_need : has_bit 14 flags ≡ false
  pub written_back : has_bit 16 flags ≡ false
