use Rattle.std.proofs.Common.{◌≡◌, ℕ, None, cond, take}
use Rattle.std.specs.Prelude.{nat_eq}
use Rattle.std.specs.List.{list_any}
use Rattle.std.specs.FinMap as fin
use Rattle.graph_change.specs.View.{patches_of}
use Rattle.graph_change.proofs.made_blocks.drop_blocks.Given as goal

abbrev pub invariant-numbers : goal.invariant-numbers
invariant-numbers l = (b : ℕ) → fin.get (patches_of l.blocks) b ≡ cond (list_any (nat_eq b) (take l.at l.numbers)) None (fin.get (patches_of l.fn.blocks) b)
