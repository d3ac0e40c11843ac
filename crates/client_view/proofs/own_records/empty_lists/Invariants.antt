use Rattle.std.proofs.Common.{take}
use Rattle.std.specs.List.{AllByRecursion}
use Rattle.client_view.specs.RecordLists.{IsEmptied}
use Rattle.client_view.proofs.own_records.empty_lists.Given as goal

abbrev pub invariant-loop-entry : goal.invariant-loop-entry
invariant-loop-entry l = AllByRecursion IsEmptied (take l.entry-index l.records)
