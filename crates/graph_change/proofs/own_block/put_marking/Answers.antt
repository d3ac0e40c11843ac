use Rattle.std.proofs.Common.{◌∙◌, ◌+◌, ◌++◌, length, take, drop, ap, sym}
use Rattle.std.specs.Prelude.{replicate}
use Rattle.std.specs.List.{count_by}
use Rattle.posix_calls.specs.declared.limits.TheConstants.{UNIT_BYTES}
use Rattle.graph_change.specs.KeptBytes.{is_set}
use Rattle.graph_change.proofs.Marks.{back_is, front_is}
use Rattle.graph_change.proofs.own_block.put_marking.Goals as goal

pub returns-clause-bytes : goal.returns-clause-bytes
returns-clause-bytes c =
    let at = c.args.at in
    let part = c.args.part.now in
    front_is UNIT_BYTES c.overwrite.new.block c.mark_more.new.marks (c.overwrite.auto.block ∙ c.split_at_mut-bytes.ensures.front_len)
    ∙ c.overwrite.ensures
    ∙ ap (λ xs. take at xs ++ part ++ drop (at + length part) xs) c.split_at_mut-bytes.ensures.front

pub returns-clause-marks : goal.returns-clause-marks
returns-clause-marks c =
    let at = c.args.at in
    let n = length c.args.part.now in
    back_is UNIT_BYTES c.overwrite.new.block c.mark_more.new.marks (c.overwrite.auto.block ∙ c.split_at_mut-bytes.ensures.front_len)
    ∙ c.mark_more.ensures.marks
    ∙ ap (λ xs. take at xs ++ replicate n 1 ++ drop (at + n) xs) c.split_at_mut-bytes.ensures.back

pub returns-clause-more : goal.returns-clause-more
returns-clause-more c =
    sym (ap (λ xs. count_by is_set xs + c.mark_more.result) c.split_at_mut-bytes.ensures.back)
    ∙ c.mark_more.ensures.more
    ∙ sym (ap (count_by is_set) (back_is UNIT_BYTES c.overwrite.new.block c.mark_more.new.marks (c.overwrite.auto.block ∙ c.split_at_mut-bytes.ensures.front_len)))
