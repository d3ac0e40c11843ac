use Rattle.std.proofs.Common.{◌<◌, ◌-◌, arith, length}
use Rattle.block_alloc.specs.declared.runs.Run.{Run}
use Rattle.block_alloc.proofs.Joins.{normal-at}
use Rattle.area_commit.proofs.allocation.go_on.Goals as goal

pub overflow_add-result : goal.overflow_add-result
overflow_add-result c =
    let runs = c.args.runs.now in
    let none : Run = record { first = 0; count = 0 } in
    let some : 0 < length runs = grind (arith, c.is_empty.ensures, c.if-is_empty.false) in
    omega (arith, normal-at 0 4294967295 (length runs - 1) runs none c.requires (omega (arith, some)))
