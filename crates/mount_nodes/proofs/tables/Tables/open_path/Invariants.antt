use Rattle.std.proofs.Common.{◌≡◌, ◌⊎◌}
use Rattle.mount_nodes.specs.Upkeep.{IsRefusedIn, Upkeep}
use Rattle.mount_nodes.proofs.UpkeepLemmas.{too_many}
use Rattle.mount_nodes.proofs.tables.Tables.open_path.Given as goal

-- each path that was tried was refused since too many files are open
abbrev pub invariant-loop-attempt : goal.invariant-loop-attempt
invariant-loop-attempt g l = record {
  kept : Upkeep g.T.Tree l.fn.tree l.tree;
  refused : (l.attempt ≡ 0) ⊎ IsRefusedIn g.T.Tree too_many l.fn.tree l.tree;
  times : l.self.times ≡ l.fn.self.times;
}
