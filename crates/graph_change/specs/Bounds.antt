-- Numbers that keep to the limits, in effects and in their sum.
use Rattle.std.specs.Prelude.{◌≡◌, ℕ, ◌+◌, ◌≤◌, nat_le, Bool, true, ◌&&◌, List, length, Option, IfSome}
use Rattle.std.specs.List.{AllByRecursion}
use Rattle.std.specs.FinMap as fin
use Rattle.posix_calls.specs.declared.limits.TheConstants.{MAX_FILE, MAX_NAMES}
use Rattle.file_graph.specs.Numbers.{is_inode}
use Rattle.file_graph.specs.declared.effect.Effect.{Effect}
use Rattle.file_graph.specs.declared.effect.Effect.TheVariants as effect
use Rattle.graph_change.specs.Bytes.{end}
use Rattle.graph_change.specs.Net.{Child}
use Rattle.graph_change.specs.Change.{Change, Changes, change_at}

-- whether an effect is on an inode and names no number past its limit: an entry leads to an inode, a node has no more names and a file no more bytes than it may
abbrev pub is_bounded : Effect → Bool
is_bounded (effect.Make i kind) = is_inode i
is_bounded (effect.Enter d i kind name) = is_inode d && is_inode i
is_bounded (effect.Leave d name) = is_inode d
is_bounded (effect.Names i n) = is_inode i && nat_le n MAX_NAMES
is_bounded (effect.Size i size) = is_inode i && nat_le size MAX_FILE
is_bounded (effect.Bytes i at bytes) = is_inode i && nat_le (at + length bytes) MAX_FILE
is_bounded (effect.Drop i) = is_inode i
is_bounded (effect.Swap d a e b) = is_inode d && is_inode e

-- what stands at a name leads to an inode, if it is not taken out
abbrev pub LeadsToInode : List ℕ × Option Child → Type 0
LeadsToInode e = IfSome e.1 (λ child. is_inode child.0 ≡ true)

-- the change of one inode names no number past its limit
pub record IsBounded (c : Change) : Type 0 where
  pub names : IfSome c.names (λ n. n ≤ MAX_NAMES)
  pub length : end c.length ≤ MAX_FILE
  pub entries : AllByRecursion LeadsToInode (fin.entries c.entries)

-- a change of many is one of inodes, and none of them names such a number
pub record AreBounded (cs : Changes) : Type 0 where
  pub inodes : (i : ℕ) → fin.contains_key cs i ≡ true → is_inode i ≡ true
  pub changes : (i : ℕ) → IsBounded (change_at cs i)
