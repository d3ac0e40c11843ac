use Rattle.std.proofs.Common.{arith, rules, ltb}
use Rattle.std.proofs.lemmas.Bool.{ltb-true, ltb-false}
use Rattle.std.proofs.lemmas.List.Sorted.{IsPartitionPoint-from_clause, IsPartitionedBy-ltb}
use Rattle.extent_tree.specs.Nodes.{last_end}
use Rattle.extent_tree.proofs.Levels.{ends-in-order, all-end-before}
use Rattle.extent_tree.proofs.node_search.nodes_before.Goals as goal

pub returns-clause-before : goal.returns-clause-before
returns-clause-before c =
    let parted = IsPartitionedBy-ltb (λ n. last_end 0 n) _ c.args.block (ends-in-order 0 4294967295 c.args.nodes.now c.requires.rising c.requires.filled) in
    let point = IsPartitionPoint-from_clause (λ n. ltb (last_end 0 n) c.args.block) _ _ c.partition_point.ensures.partitioned parted (λ a r q k. search rules) in
    all-end-before c.args.block 0 4294967295 c.partition_point.result c.args.nodes.now c.requires.rising c.requires.filled c.partition_point.ensures.bound (λ k d lt. ltb-true _ _ (point.0 k d (omega arith) lt))

pub returns-clause-next : goal.returns-clause-next
returns-clause-next c d below =
    let parted = IsPartitionedBy-ltb (λ n. last_end 0 n) _ c.args.block (ends-in-order 0 4294967295 c.args.nodes.now c.requires.rising c.requires.filled) in
    let point = IsPartitionPoint-from_clause (λ n. ltb (last_end 0 n) c.args.block) _ _ c.partition_point.ensures.partitioned parted (λ a r q k. search rules) in
    ltb-false _ _ (point.1 c.partition_point.result d (omega arith) below)
