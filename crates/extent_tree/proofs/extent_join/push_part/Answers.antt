use Rattle.std.proofs.Common.{◌+◌, sym, subst}
use Rattle.extent_tree.proofs.Cuts.{Partly, partly-rising, partly-piece, partly-skipped, partly-all}
use Rattle.extent_tree.proofs.extent_join.push_part.Goals as goal
use Rattle.extent_tree.proofs.extent_join.push_part.Goals.{then-start-stop+in_ok-push, else-start-stop}

pub push-requires-clause-rising : goal.push-requires-clause-rising
push-requires-clause-rising c =
    partly-rising c.args.from c.args.to c.more.index c.max-start.result c.args.more.now c.args.extents.now.items c.more.extents.items (record { logical = 0; length = 0; place = 0 }) c.more-test.true c.max-start.ensures c.more.invariant

pub more-preserved : goal.more-preserved
more-preserved c = elim c.if-start-stop.branch [
  | then-start-stop+in_ok-push w ↦
      subst (λ v. Partly c.args.from c.args.to (c.more.index + 1) c.args.more.now c.args.extents.now.items v.items) (sym w.extents-is)
      (partly-piece c.args.from c.args.to c.more.index c.max-start.result c.min-stop.result c.args.more.now c.args.extents.now.items c.more.extents.items w.push.new.extents.items (record { logical = 0; length = 0; place = 0 }) c.more-test.true c.max-start.ensures c.min-stop.ensures w.if-start-stop.true c.more.invariant w.in_ok-push.ensures)
  | else-start-stop w ↦
      subst (λ v. Partly c.args.from c.args.to (c.more.index + 1) c.args.more.now c.args.extents.now.items v.items) (sym w.extents-is)
      (partly-skipped c.args.from c.args.to c.more.index c.max-start.result c.min-stop.result c.args.more.now c.args.extents.now.items c.more.extents.items (record { logical = 0; length = 0; place = 0 }) c.more-test.true c.max-start.ensures c.min-stop.ensures w.if-start-stop.false c.more.invariant)
]

pub returns : goal.returns
returns c = partly-all c.args.from c.args.to c.more.index c.args.more.now c.args.extents.now.items c.more.extents.items c.requires.range c.more-test.false c.more.invariant
