-- What is left would make of the table what all make of it at first.
use Rattle.std.proofs.Common.{◌≡◌, ℕ, drop}
use Rattle.update_log.specs.log_record.Grammar.{IsInode}
use Rattle.log_survey.specs.Owners.{listed, owner, with_owner}
use Rattle.log_survey.proofs.owners.own_records.Given as goal

abbrev pub invariant-loop-logged : goal.invariant-loop-logged
invariant-loop-logged l = (i : ℕ) → IsInode i → with_owner (owner l.clients) l.client (listed (drop l.logged-index l.records)) i ≡ with_owner (owner l.initial.clients) l.client (listed l.records) i
