use Rattle.std.proofs.Common.{◌≡◌, ◌≤◌, ◌<◌, ◌+◌, ◌-◌, ℕ, length, true}
use Rattle.std.specs.List.{AllZip}
use Rattle.std.specs.Prelude.{slice_get, Some}
use Rattle.std.specs.Vec.{vec_capacity}
use Rattle.log_survey.specs.Owners.{AreOwners, IsClear, owner, owner_among}
use Rattle.recovery_laws.specs.digester.MarkMoves.{mark_of}
use Rattle.posix_calls.specs.Operations.{is_client}
use Rattle.area_recovery.specs.FoundLogs.{IsFound, log_by}
use Rattle.area_recovery.specs.Regions.{IsOnlyRead, regions_read}
use Rattle.area_recovery.specs.declared.log_search.FoundLog.{FoundLog}
use Rattle.area_recovery.proofs.log_search.find_logs.Given as goal

abbrev pub invariant-loop-client : goal.invariant-loop-client
invariant-loop-client g l =
    let logs = log_by l.marks (regions_read g.M.Media l.fn.regions) in
    record {
      same : AllZip (IsOnlyRead g.M.Media) l.fn.regions l.regions;
      owners : AreOwners (owner l.owners) logs l.client;
      clear : (n : ℕ) → n < l.client → IsClear (owner_among logs n) (n + 1) (logs (n + 1));
      count : length l.logs.items ≡ l.client;
      found : (client : ℕ) (log : FoundLog) → is_client client ≡ true → slice_get l.logs.items (client - 1) ≡ Some log → IsFound (mark_of l.marks client) (regions_read g.M.Media l.fn.regions client) log;
      room : 8 ≤ vec_capacity l.logs;
    }
