use Rattle.std.proofs.Common.{take}
use Rattle.lease_manager.specs.RecordCounts.{HasCleaned}
use Rattle.lease_manager.proofs.inode_leases.clean_records.Given as goal

abbrev pub invariant-loop-logged : goal.invariant-loop-logged
invariant-loop-logged l = HasCleaned l.fn.pass (take l.logged-index l.records) l.pass
