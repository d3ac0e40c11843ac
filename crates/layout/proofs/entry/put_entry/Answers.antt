use Rattle.std.proofs.Common.{◌+◌, ℕ, List, [], ◌∷◌, length, ap, ◌∙◌, arith}
use Rattle.layout.specs.Bytes.{u32, padded_text, with_text}
use Rattle.file_graph.specs.Kinds.{kind_byte}
use Rattle.layout.proofs.Fields.{u32_long}
use Rattle.layout.proofs.Blocks.{overwritten_thrice, filled_long}
use Rattle.layout.proofs.entry.put_entry.Goals as goal

pub returns : goal.returns
returns c =
    let at = c.args.at in
    let old = c.args.block.now in
    let e = c.args.entry in
    let i : List ℕ = u32 e.inode in
    let tags : List ℕ = kind_byte e.kind ∷ length e.name.now ∷ 0 ∷ 0 ∷ [] in
    let field : List ℕ = padded_text 64 e.name.now in
    c.put_name.ensures
    ∙ ap (with_text (at + 8) field) (c.put_tags.ensures ∙ ap (with_text (at + 4) tags) c.put_u32.ensures)
    ∙ overwritten_thrice at (at + 4) (at + 8) i tags field old (omega (arith, u32_long e.inode)) (omega arith) (omega (arith, c.requires, filled_long 64 e.name.now c.requires.short))
