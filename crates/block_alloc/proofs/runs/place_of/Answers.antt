use Rattle.std.proofs.Common.{◌≤◌, ◌<◌, ◌+◌, arith, rules, ltb, length}
use Rattle.std.proofs.lemmas.Bool.{ltb-true, ltb-false}
use Rattle.std.proofs.lemmas.List.Sorted.{IsPartitionPoint-from_clause, IsPartitionedBy-ltb}
use Rattle.block_alloc.proofs.Search.{end_of, ends_in_order, ends_before_from}
use Rattle.block_alloc.proofs.runs.place_of.Goals as goal

pub returns-clause-before : goal.returns-clause-before
returns-clause-before c =
    let parted = IsPartitionedBy-ltb end_of _ c.args.block (ends_in_order 0 4294967295 c.args.runs.now c.requires) in
    let point = IsPartitionPoint-from_clause (λ r. ltb (end_of r) c.args.block) _ _ c.partition_point.ensures.partitioned parted (λ a r q k. search rules) in
    ends_before_from c.args.block c.partition_point.result c.args.runs.now c.partition_point.ensures.bound (λ k d lt. ltb-true _ _ (point.0 k d (omega arith) lt))

pub returns-clause-next : goal.returns-clause-next
returns-clause-next c r below =
    let parted = IsPartitionedBy-ltb end_of _ c.args.block (ends_in_order 0 4294967295 c.args.runs.now c.requires) in
    let point = IsPartitionPoint-from_clause (λ r. ltb (end_of r) c.args.block) _ _ c.partition_point.ensures.partitioned parted (λ a r q k. search rules) in
    ltb-false _ _ (point.1 c.partition_point.result r (omega arith) below)
