-- What holds of every change that effects sum up to, whatever stood there before.
use Rattle.std.specs.Prelude.{◌≡◌, ℕ, ◌*◌, ◌<◌, true}
use Rattle.posix_calls.specs.declared.limits.TheConstants.{UNIT_BYTES}
use Rattle.graph_change.specs.Bytes.{IsTidy, end}
use Rattle.graph_change.specs.Change.{Change, Changes, net_of, writes_block, change_at}

-- of one inode: no byte is put at the end that its file is left with or behind it, and each block that is written begins before that end
pub record IsTidyChange (c : Change) : Type 0 where
  pub bytes : IsTidy (net_of c).bytes
  pub blocks : (b : ℕ) → writes_block c b ≡ true → UNIT_BYTES * b < end c.length

-- of each inode
abbrev pub AreTidyChanges : Changes → Type 0
AreTidyChanges cs = (i : ℕ) → IsTidyChange (change_at cs i)
