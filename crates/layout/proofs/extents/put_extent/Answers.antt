use Rattle.std.proofs.Common.{◌+◌, ap, ◌∙◌, arith}
use Rattle.layout.specs.Bytes.{u32, with_text}
use Rattle.layout.proofs.Fields.{u32_long}
use Rattle.layout.proofs.Blocks.{overwritten_thrice}
use Rattle.layout.proofs.extents.put_extent.Goals as goal

pub returns : goal.returns
returns c =
    let at = c.args.at in
    let e = c.args.extent in
    c.put_u32-3.ensures
    ∙ ap (with_text (at + 8) (u32 e.place)) (c.put_u32-2.ensures ∙ ap (with_text (at + 4) (u32 e.length)) c.put_u32.ensures)
    ∙ overwritten_thrice at (at + 4) (at + 8) (u32 e.logical) (u32 e.length) (u32 e.place) c.args.block.now (omega (arith, u32_long e.logical)) (omega (arith, u32_long e.length)) (omega (arith, c.requires, u32_long e.place))
