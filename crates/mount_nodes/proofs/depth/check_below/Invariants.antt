use Rattle.mount_nodes.specs.Renames.{HasLooked}
use Rattle.mount_nodes.proofs.depth.check_below.Given as goal

-- nothing but upkeep was asked so far, `Stat` of the path among it
abbrev pub invariant-loop : goal.invariant-loop
invariant-loop g l = HasLooked g.T.Tree l.fn.path l.fn.tree l.tree
