use Rattle.std.proofs.Common.{take}
use Rattle.std.specs.List.{AllByRecursion}
use Rattle.graph_check.specs.log_record.Grammar.{IsRecord}
use Rattle.area_recovery.proofs.record_reads.records_are_spelled.Given as goal

abbrev pub invariant-loop-logged : goal.invariant-loop-logged
invariant-loop-logged l = AllByRecursion IsRecord (take l.logged-index l.records)
