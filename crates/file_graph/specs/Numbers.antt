-- Tests of numbers that graphs, formats and maps of blocks have in common.
use Rattle.std.specs.Prelude.{ℕ, ◌+◌, Bool, ◌&&◌, nat_le, nat_lt}
use Rattle.posix_calls.specs.declared.limits.TheConstants.{MAX_INODE}

-- whether a number is an inode's
abbrev pub is_inode : ℕ → Bool
is_inode i = nat_le 1 i && nat_le i MAX_INODE

-- whether a number k is one of the `count` numbers from a first one on
abbrev pub in_run : ℕ → ℕ → ℕ → Bool
in_run first count k = nat_le first k && nat_lt k (first + count)
