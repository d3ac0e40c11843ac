use Rattle.std.proofs.Common.{◌⊎◌, ◌≤◌, ◌+◌, ◌*◌, ℕ, List}
use Rattle.mount_nodes.specs.Sizes.{AreZeros}
use Rattle.mount_nodes.proofs.files.write_zeros.Given as goal

-- the zeros so far, of which each piece was as long as could be
abbrev pub invariant-loop-turn : goal.invariant-loop-turn
invariant-loop-turn g l = (counts : List ℕ) × AreZeros g.T.Tree l.fn.number l.fn.to counts l.fn.from l.at l.fn.tree l.tree × ((l.turn * 4096 + l.fn.from ≤ l.at) ⊎ (l.fn.to ≤ l.at))
