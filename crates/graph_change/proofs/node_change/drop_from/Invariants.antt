use Rattle.std.proofs.Common.{◌≡◌, nat_lt, length}
use Rattle.std.specs.FinMap as fin
use Rattle.graph_change.specs.View.{patches_of}
use Rattle.graph_change.proofs.node_change.drop_from.Given as goal

-- what stays at the end is that of the blocks that are left
abbrev pub invariant-last : goal.invariant-last
invariant-last l = fin.retain_keys (patches_of l.blocks) (λ b. nat_lt b l.end) ≡ fin.retain_keys (patches_of l.fn.blocks) (λ b. nat_lt b l.end)

abbrev pub decreases-last : goal.decreases-last
decreases-last l = length l.blocks.entries
