-- None is found so far: what is left has the first.
use Rattle.std.proofs.Common.{◌≡◌, drop}
use Rattle.std.specs.Prelude.{find}
use Rattle.log_survey.specs.Owners.{is_foreign, owner}
use Rattle.log_survey.proofs.owners.first_of.Given as goal

abbrev pub invariant-loop-inode : goal.invariant-loop-inode
invariant-loop-inode l = find (is_foreign (owner l.clients) l.client) (drop l.inode-index l.inodes) ≡ find (is_foreign (owner l.clients) l.client) l.inodes
