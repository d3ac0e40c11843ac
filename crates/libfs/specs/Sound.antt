-- What holds of a client between two calls.
use Rattle.std.specs.Prelude.{◌≡◌, ◌++◌, Bool, true, [], Option, None, is_some}
use Rattle.std.specs.Option.{ForSome}
use Rattle.atomic_table.specs.Seated.{TableId}
use Rattle.tier_device.specs.declared.media.Media.{Ghosts}
use Rattle.client_log.specs.update_log.Frames.{with_record}
use Rattle.lease_manager.specs.Passes.{PassView, client_of}
use Rattle.client_log.specs.View.{LogView, current_records}
use Rattle.client_view.specs.KnowledgeTables.{Held, knows}
use Rattle.client_view.specs.Preparation.{IsPreparedFor}
use Rattle.libfs.specs.declared.begun_record.Begun.{Begun}
use Rattle.libfs.specs.View.{begun_record}
use Rattle.libfs.specs.OwnCopies.{AreCopied, number_made}
use Rattle.lease_manager.specs.RecordCounts.{Counts}
use Rattle.client_view.specs.RecordLists.{Kept}

-- Pass, log and copies are one client's; what is begun here is begun in the log, and prepared; the pass counts the records that are not digested, and there is a copy of each inode that they touch.
pub record IsSound {M : Type 0} (device : Ghosts M) (leases : TableId) (pass : PassView) (log : LogView M) (copies : Held) (begun : Option Begun) (answered : Bool) (records : Kept) : Type 0 where
  pub table : pass.table ≡ leases
  pub number : copies.client ≡ client_of pass
  -- the records of the current region are in memory too; those of the other one while it is away
  pub written_is : records.current ≡ current_records device log
  pub back : is_some log.other ≡ true → records.away ≡ []
  pub begins : begun_record begun ≡ log.current.begun
  pub prepared : ForSome begun (λ b. IsPreparedFor (knows copies) b.change)
  -- its record has room among those of the current region
  pub room : is_some begun ≡ true → records.has_room ≡ true
  pub counts : Counts pass (with_record (records.away ++ records.current) (begun_record begun))
  -- each was planned by these copies, and a copy goes only with its lease, which such a record holds
  pub copied : AreCopied (with_record (records.away ++ records.current) (begun_record begun)) (number_made begun) (knows copies)
  -- and so it is of those that are kept, whatever is begun
  pub copied_before : AreCopied (records.away ++ records.current) None (knows copies)
  -- only a fault answers a call whose record stays begun
  pub failed : answered ≡ true → (log.failed ≡ true) × (is_some begun ≡ true)
