-- Which numbers may be given to new nodes, and which of them are given next.
use Rattle.std.specs.Prelude.{◌≡◌, ℕ, ◌<◌, Bool, true, false, ◌&&◌, not, nat_le, if◌then◌else◌}
use Rattle.posix_calls.specs.Tree.{sum_up_to}
use Rattle.posix_calls.specs.declared.limits.TheConstants.{MAX_INODE}

-- inodes that are not among these
abbrev pub is_absent : (ℕ → Bool) → ℕ → Bool
is_absent taken i = nat_le 1 i && nat_le i MAX_INODE && not (taken i)

-- how many inodes pass
abbrev pub count_of : (ℕ → Bool) → ℕ
count_of p = sum_up_to MAX_INODE (λ i. if p i then 1 else 0)

-- so many of the free ones are chosen, and those that are not are greater
pub record AreLowest (free chosen : ℕ → Bool) (n : ℕ) : Type 0 where
  pub among : (i : ℕ) → chosen i ≡ true → free i ≡ true
  pub count : count_of chosen ≡ n
  pub lowest : (i j : ℕ) → chosen i ≡ true → free j ≡ true → chosen j ≡ false → i < j
