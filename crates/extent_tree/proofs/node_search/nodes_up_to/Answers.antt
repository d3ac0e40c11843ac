use Rattle.std.proofs.Common.{◌≤◌, ◌<◌, ◌+◌, ◌-◌, arith, rules, ltb, get_or}
use Rattle.std.proofs.lemmas.Bool.{ltb-true, ltb-false}
use Rattle.std.proofs.lemmas.List.Sorted.{IsPartitionPoint-from_clause, IsPartitionedBy-ltb}
use Rattle.extent_tree.specs.Nodes.{begin_of}
use Rattle.extent_tree.proofs.Levels.{begins-in-order, all-begin-behind}
use Rattle.extent_tree.proofs.node_search.nodes_up_to.Goals as goal

pub returns-clause-behind : goal.returns-clause-behind
returns-clause-behind c =
    let parted = IsPartitionedBy-ltb begin_of _ (c.args.block + 1) (begins-in-order 0 4294967295 c.args.nodes.now c.requires.rising c.requires.filled) in
    let point = IsPartitionPoint-from_clause (λ n. ltb (begin_of n) (c.args.block + 1)) _ _ c.partition_point.ensures.partitioned parted (λ a r q k. search rules) in
    all-begin-behind c.args.block 0 4294967295 c.partition_point.result c.args.nodes.now c.requires.rising c.requires.filled c.partition_point.ensures.bound
    (λ d lt. let past : c.args.block + 1 ≤ begin_of (get_or c.args.nodes.now c.partition_point.result d) = ltb-false _ _ (point.1 c.partition_point.result d (omega arith) lt) in omega (arith, past))

pub returns-clause-last : goal.returns-clause-last
returns-clause-last c d some =
    let parted = IsPartitionedBy-ltb begin_of _ (c.args.block + 1) (begins-in-order 0 4294967295 c.args.nodes.now c.requires.rising c.requires.filled) in
    let point = IsPartitionPoint-from_clause (λ n. ltb (begin_of n) (c.args.block + 1)) _ _ c.partition_point.ensures.partitioned parted (λ a r q k. search rules) in
    let at : begin_of (get_or c.args.nodes.now (c.partition_point.result - 1) d) < c.args.block + 1 = ltb-true _ _ (point.0 (c.partition_point.result - 1) d (omega (arith, some)) (omega (arith, some, c.partition_point.ensures.bound))) in
    omega (arith, at)
