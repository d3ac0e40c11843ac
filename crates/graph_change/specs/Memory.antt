-- Which effects want memory, and blocks that are made before bytes are put into them.
use Rattle.std.specs.Prelude.{◌≡◌, ℕ, Bool, true, false, not, ◌||◌, List, length, None, nat_eq, nat_lt}
use Rattle.std.specs.List.{list_any}
use Rattle.std.specs.FinMap as fin
use Rattle.file_graph.specs.declared.effect.Effect.{Effect}
use Rattle.file_graph.specs.declared.effect.Effect.TheVariants as effect
use Rattle.graph_change.specs.Change.{Patches, Change, Changes, patch_at, change_at, subject}

-- whether nothing was put yet into one of these blocks
abbrev pub lacks_one : List ℕ → Patches → Bool
lacks_one bs ps = list_any (λ b. not (fin.contains_key ps b)) bs

-- whether an effect that is added to the change of its inode wants memory
abbrev pub takes_memory : Effect → Change → Bool
takes_memory (effect.Make i kind) c = false
takes_memory (effect.Enter d i kind name) c = true
takes_memory (effect.Leave d name) c = true
takes_memory (effect.Names i n) c = false
takes_memory (effect.Size i size) c = false
takes_memory (effect.Bytes i at bytes) c = nat_lt 0 (length bytes)
takes_memory (effect.Drop i) c = false
takes_memory (effect.Swap d a e b) c = false

-- whether an effect that is added to the changes of many inodes does: the first on its inode does
abbrev pub takes_memory_among : Effect → Changes → Bool
takes_memory_among e cs = not (fin.contains_key cs (subject e)) || takes_memory e (change_at cs (subject e))

-- these blocks are there, and no more is put into any block than before
pub record AddsBlanks (bs : List ℕ) (old new : Patches) : Type 0 where
  pub there : (b : ℕ) → list_any (nat_eq b) bs ≡ true → fin.contains_key new b ≡ true
  pub patches : (b : ℕ) → patch_at new b ≡ patch_at old b
  pub others : (b : ℕ) → list_any (nat_eq b) bs ≡ false → fin.get new b ≡ fin.get old b

-- the blocks of these numbers, and no others, have been made since
pub record HasMade (made : List ℕ) (old now : Patches) : Type 0 where
  pub absent : (b : ℕ) → list_any (nat_eq b) made ≡ true → fin.get old b ≡ None
  pub others : (b : ℕ) → list_any (nat_eq b) made ≡ false → fin.get now b ≡ fin.get old b
