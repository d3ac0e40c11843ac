use Rattle.std.proofs.Common.{◌∙◌, ◌+◌, ◌-◌, ◌++◌, arith, length, take, drop, ap}
use Rattle.std.specs.Prelude.{replicate}
use Rattle.std.specs.List.{count_by}
use Rattle.posix_calls.specs.declared.limits.TheConstants.{UNIT_BYTES}
use Rattle.graph_change.specs.KeptBytes.{is_set}
use Rattle.graph_change.proofs.Marks.{back_is, front_is}
use Rattle.graph_change.proofs.own_block.cut_marking.Goals as goal

pub returns-clause-bytes : goal.returns-clause-bytes
returns-clause-bytes c = front_is UNIT_BYTES c.split_at_mut-marks.result.0.now c.unmark_from.new.marks c.split_at_mut-marks.ensures.front_len ∙ c.split_at_mut-marks.ensures.front

pub returns-clause-marks : goal.returns-clause-marks
returns-clause-marks c =
    let at = c.args.place in
    let long = c.requires.long in
    let back = c.split_at_mut-marks.ensures.back_len in
    back_is UNIT_BYTES c.split_at_mut-marks.result.0.now c.unmark_from.new.marks c.split_at_mut-marks.ensures.front_len
    ∙ c.unmark_from.ensures.marks
    ∙ ap (λ xs. take at xs ++ replicate (length c.split_at_mut-marks.result.1.now - at) 0) c.split_at_mut-marks.ensures.back
    ∙ ap (λ k. take at (drop UNIT_BYTES c.args.slots.now) ++ replicate (k - at) 0) (omega (arith, long, back))

pub returns-clause-fewer : goal.returns-clause-fewer
returns-clause-fewer c =
    ap (λ xs. count_by is_set xs + c.unmark_from.result) (back_is UNIT_BYTES c.split_at_mut-marks.result.0.now c.unmark_from.new.marks c.split_at_mut-marks.ensures.front_len)
    ∙ c.unmark_from.ensures.fewer
    ∙ ap (count_by is_set) c.split_at_mut-marks.ensures.back
