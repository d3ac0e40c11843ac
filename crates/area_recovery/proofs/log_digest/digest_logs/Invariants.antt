use Rattle.std.proofs.Common.{◌≡◌, ◌≤◌, false}
use Rattle.std.specs.List.{AllZip}
use Rattle.area_recovery.specs.Phases.{StaysRecovered}
use Rattle.area_recovery.specs.Recovers.{AreThese}
use Rattle.area_recovery.specs.Regions.{IsOnlyRead, regions_read}
use Rattle.area_recovery.proofs.DigestedClients.{AreDigestedTo}
use Rattle.area_recovery.proofs.log_digest.digest_logs.Given as goal

abbrev pub invariant-loop-before : goal.invariant-loop-before
invariant-loop-before g l =
    let m = g.M.Media in
    record {
      going : l.area.failed ≡ false;
      stays : StaysRecovered m (AreThese (regions_read m l.fn.regions)) l.fn.area.media l.area.media;
      read : AllZip (IsOnlyRead m) l.fn.regions l.regions;
      digested : AreDigestedTo m (regions_read m l.fn.regions) l.before l.fn.area l.area;
      geometry : l.area.geometry ≡ l.fn.area.geometry;
      faults : m.faults l.fn.area.media ≤ m.faults l.area.media;
    }
