use Rattle.std.proofs.Common.{◌<◌, ◌-◌, ◌++◌, length, ap, ◌∙◌, arith}
use Rattle.std.proofs.lemmas.Result.{on_ok_weaker}
use Rattle.client_view.specs.KnowledgeTables.{file_block}
use Rattle.client_view.proofs.Joined.{joins}
use Rattle.client_view.proofs.file_reads.+join.Goals as goal

pub returns-in_ok-extend_from_slice-in-Some : goal.returns-in_ok-extend_from_slice-in-Some
returns-in_ok-extend_from_slice-in-Some t c =
    let some : 0 < c.args.count = omega arith in
    on_ok_weaker c.join.result (λ rest. joins (file_block c.args.file.size c.args.blocks.now c.args.file.inode) c.args.first c.args.count c.args.part.skip c.args.part.len c.in-Some.block.now c.args.bytes.now.items c.extend_from_slice.new.self.items c.join.new.bytes.items
    (c.next_part-rest.result.skip, c.next_part-rest.result.len) some c.in-Some.ensures.bytes (c.in_ok-extend_from_slice-in-Some.ensures.items ∙ ap (λ xs. c.args.bytes.now.items ++ xs) c.range-taken.ensures) c.next_part-rest.ensures.skip
    (c.next_part-rest.ensures.len ∙ ap (λ xs. c.args.part.len - length xs) c.range-taken.ensures) rest) c.join.ensures
