use Rattle.std.proofs.Common.{◌≡◌, ◌≤◌, ◌<◌, ◌⊎◌, ℕ, true}
use Rattle.std.specs.FinMap as fin
use Rattle.graph_change.specs.Change.{patch_at}
use Rattle.graph_change.specs.Memory.{HasMade}
use Rattle.graph_change.specs.View.{patches_of}
use Rattle.graph_change.proofs.made_blocks.make_each.Given as goal

abbrev pub invariant-loop-number : goal.invariant-loop-number
invariant-loop-number l = record {
  there : (b : ℕ) → l.first ≤ b → b < l.number → fin.contains_key (patches_of l.blocks) b ≡ true;
  patches : (b : ℕ) → patch_at (patches_of l.blocks) b ≡ patch_at (patches_of l.fn.blocks) b;
  others : (b : ℕ) → (b < l.first) ⊎ (l.number ≤ b) → fin.get (patches_of l.blocks) b ≡ fin.get (patches_of l.fn.blocks) b;
  made : HasMade l.made.items (patches_of l.fn.blocks) (patches_of l.blocks);
}
