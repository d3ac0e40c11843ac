-- What is left would make of the table what all make of it at first.
use Rattle.std.proofs.Common.{◌≡◌, ℕ, drop}
use Rattle.update_log.specs.log_record.Grammar.{IsInode}
use Rattle.log_survey.specs.Owners.{owner, with_owner}
use Rattle.log_survey.proofs.owners.own_inodes.Given as goal

abbrev pub invariant-loop-inode : goal.invariant-loop-inode
invariant-loop-inode l = (i : ℕ) → IsInode i → with_owner (owner l.clients) l.client (drop l.inode-index l.inodes) i ≡ with_owner (owner l.initial.clients) l.client l.inodes i
