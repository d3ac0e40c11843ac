-- The inodes that an effect changes, one or two.
use Rattle.std.specs.Prelude.{ℕ, List, [], ◌∷◌, Option, Some, None}
use Rattle.file_graph.specs.declared.effect.Effect.{Effect}
use Rattle.file_graph.specs.declared.effect.Effect.TheVariants as effect

-- the one inode that it changes; one that is entered stays as it was, and of a Swap it is the first directory
abbrev pub subject : Effect → ℕ
subject (effect.Make i kind) = i
subject (effect.Enter d i kind name) = d
subject (effect.Leave d name) = d
subject (effect.Names i n) = i
subject (effect.Size i size) = i
subject (effect.Bytes i at bytes) = i
subject (effect.Drop i) = i
subject (effect.Swap d a e b) = d

-- one inode, or two
abbrev pub one_or_two : ℕ → Option ℕ → List ℕ
one_or_two i None = i ∷ []
one_or_two i (Some j) = i ∷ j ∷ []
