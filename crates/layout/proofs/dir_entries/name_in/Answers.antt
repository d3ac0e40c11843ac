use Rattle.std.proofs.Common.{◌+◌, ◌*◌, [], length, sym, ap, ◌∙◌, arith}
use Rattle.file_graph.specs.declared.effect.Kind.TheVariants as kind
use Rattle.layout.specs.declared.directory.DirEntry.{DirEntry}
use Rattle.layout.proofs.DirPlaces.{listed_name, cut_name}
use Rattle.layout.proofs.dir_entries.name_in.Goals as goal

pub slice_bounds-result-end : goal.slice_bounds-result-end
slice_bounds-result-end c =
    let none : DirEntry = record { inode = 0; kind = kind.File; name = [] } in
    let at = 64 + 72 * c.args.index in
    let n = listed_name c.args.block.now c.args.index none (λ i. (c.type_inv.block i).fits) c.requires.listed c.requires.inside in
    let cut = cut_name c.args.block.now at _ _ n (sym n.count) (omega (arith, c.requires.listed.few, c.requires.listed.long, c.requires.inside)) in
    n.count ∙ ap length (sym cut.1)

pub returns : goal.returns
returns c d =
    let at = 64 + 72 * c.args.index in
    let n = listed_name c.args.block.now c.args.index d (λ i. (c.type_inv.block i).fits) c.requires.listed c.requires.inside in
    (cut_name c.args.block.now at _ _ n (sym n.count) (omega (arith, c.requires.listed.few, c.requires.listed.long, c.requires.inside))).1
