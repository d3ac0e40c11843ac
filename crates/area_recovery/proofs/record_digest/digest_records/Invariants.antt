use Rattle.std.proofs.Common.{◌≡◌, ◌≢◌, ◌≤◌, ◌+◌, ◌-◌, ℕ, false, true, length, Some}
use Rattle.recovery_laws.specs.digester.MarkMoves.{mark_of}
use Rattle.recovery_laws.specs.digester.Plan.{AreGood, IsFirstBad}
use Rattle.recovery_laws.specs.digester.SealedLog.{StandsAtMark, done_to, undone}
use Rattle.recovery_laws.specs.area_reader.Store.{disk, graph, marks}
use Rattle.recovery_laws.specs.layout.declared.marks.Marks.{Marks}
use Rattle.posix_calls.specs.Operations.{is_client}
use Rattle.log_survey.specs.world_invariant.Logs.{after_records}
use Rattle.area_recovery.specs.DigestedLogs.{HaveRecords}
use Rattle.area_recovery.specs.Phases.{StaysRecovered}
use Rattle.area_recovery.proofs.record_digest.digest_records.Given as goal

abbrev pub invariant-chunks : goal.invariant-chunks
invariant-chunks g l =
    let m = g.M.Media in
    record {
      going : l.area.failed ≡ false;
      log : l.log ≡ done_to l.log.done l.fn.log;
      within : l.log.done ≤ length l.fn.log.records;
      stays : StaysRecovered m (HaveRecords l.fn.log) l.fn.area.media l.area.media;
      at_mark : StandsAtMark l.log (disk m l.area);
      rest : after_records (graph l.area.geometry (disk m l.area)) (undone l.log) ≡ after_records (graph l.fn.area.geometry (disk m l.fn.area)) (undone l.fn.log);
      others : (v w : Marks) (d : ℕ) → marks (disk m l.fn.area) ≡ Some v → marks (disk m l.area) ≡ Some w → is_client d ≡ true → d ≢ l.fn.log.client → mark_of w d ≡ mark_of v d;
      geometry : l.area.geometry ≡ l.fn.area.geometry;
      risen : l.fn.log.done ≤ l.log.done;
      goods : AreGood l.fn.log.held l.fn.area.geometry.units (graph l.area.geometry (disk m l.area)) (undone l.log) → AreGood l.fn.log.held l.fn.area.geometry.units (graph l.fn.area.geometry (disk m l.fn.area)) (undone l.fn.log);
      bads : (k : ℕ) → IsFirstBad l.fn.log.held l.fn.area.geometry.units (graph l.area.geometry (disk m l.area)) (undone l.log) k
          → IsFirstBad l.fn.log.held l.fn.area.geometry.units (graph l.fn.area.geometry (disk m l.fn.area)) (undone l.fn.log) (l.log.done - l.fn.log.done + k);
      quiet : m.faults l.area.media ≡ m.faults l.fn.area.media;
    }

abbrev pub decreases-chunks : goal.decreases-chunks
decreases-chunks g l = length l.log.records - l.log.done
