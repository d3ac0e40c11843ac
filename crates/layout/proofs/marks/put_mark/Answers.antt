use Rattle.std.proofs.Common.{◌+◌, ap, ◌∙◌, arith}
use Rattle.layout.specs.Bytes.{u32, u64, with_text}
use Rattle.layout.proofs.Fields.{u32_long, u64_long}
use Rattle.layout.proofs.Blocks.{overwritten_thrice}
use Rattle.layout.proofs.marks.put_mark.Goals as goal

pub returns : goal.returns
returns c =
    let at = c.args.at in
    let m = c.args.mark in
    c.put_u32-2.ensures
    ∙ ap (with_text (at + 12) (u32 0)) (c.put_u32.ensures ∙ ap (with_text (at + 8) (u32 m.done)) c.put_u64.ensures)
    ∙ overwritten_thrice at (at + 8) (at + 12) (u64 m.generation) (u32 m.done) (u32 0) c.args.block.now (omega (arith, u64_long m.generation)) (omega (arith, u32_long m.done)) (omega (arith, c.requires, u32_long 0))
