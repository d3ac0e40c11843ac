-- Sets of inodes.
use Rattle.std.specs.Prelude.{ℕ, zero, suc, ◌-◌, ◌/◌, ◌%◌, ◌≤◌, List, [], ◌∷◌, get_or, Bool, ◌&&◌, ◌==◌, nat_le, if◌then◌else◌}
use Rattle.std.specs.Int.{bit_at}
use Rattle.posix_calls.specs.declared.limits.TheConstants.{MAX_INODE}

-- inodes are numbered from 1 to 1,024
abbrev pub IsInode : ℕ → Type 0
IsInode i = (1 ≤ i) × (i ≤ MAX_INODE)

abbrev pub is_inode : ℕ → Bool
is_inode i = nat_le 1 i && nat_le i MAX_INODE

-- whether an inode is in a set: bit b of row r is for inode 64 r + b + 1
unfoldable pub has : List ℕ → ℕ → Bool
has rows i = is_inode i && (bit_at (get_or rows ((i - 1) / 64) 0) ((i - 1) % 64) == 1)

-- those of the numbers from 1 to n that pass, the greatest first
unfoldable pub passing_numbers : (ℕ → Bool) → ℕ → List ℕ
passing_numbers p zero = []
passing_numbers p (suc n) = if p (suc n) then suc n ∷ passing_numbers p n else passing_numbers p n

-- the inodes of a set, the greatest first
abbrev pub members : List ℕ → List ℕ
members rows = passing_numbers (has rows) MAX_INODE
