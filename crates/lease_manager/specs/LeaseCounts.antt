-- What a call on a lease leaves of the counts.
use Rattle.std.specs.Prelude.{◌≡◌}
use Rattle.lease_manager.specs.Passes.{PassView}

-- The pass is of the same client and table, and counts what it counted.
pub record CountsAs (old new : PassView) : Type 0 where
  pub table : new.table ≡ old.table
  pub place : new.part.place ≡ old.part.place
  pub records : new.records ≡ old.records
