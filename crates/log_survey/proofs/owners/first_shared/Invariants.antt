-- None is found so far: what is left has the first.
use Rattle.std.proofs.Common.{◌≡◌, drop}
use Rattle.std.specs.Prelude.{find}
use Rattle.log_survey.specs.Owners.{is_foreign, listed, owner}
use Rattle.log_survey.proofs.owners.first_shared.Given as goal

abbrev pub invariant-loop-logged : goal.invariant-loop-logged
invariant-loop-logged l = find (is_foreign (owner l.clients) l.client) (listed (drop l.logged-index l.records)) ≡ find (is_foreign (owner l.clients) l.client) (listed l.records)
