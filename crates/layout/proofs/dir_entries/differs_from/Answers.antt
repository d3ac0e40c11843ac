use Rattle.std.proofs.Common.{◌≡◌, ◌∙◌, ◌+◌, ◌&&◌, true, false, ap, sym, arith, get_or, [], drop}
use Rattle.std.specs.Prelude.{not}
use Rattle.std.specs.Str.{bytes_eq}
use Rattle.std.specs.List.{list_all}
use Rattle.file_graph.specs.declared.effect.Kind.TheVariants as kind
use Rattle.layout.specs.declared.directory.DirEntry.{DirEntry}
use Rattle.layout.specs.Directory.{block_entries}
use Rattle.layout.proofs.DirPlaces.{is_other, other_more}
use Rattle.layout.proofs.dir_entries.differs_from.Goals as goal

pub returns-then-eq : goal.returns-then-eq
returns-then-eq c =
    let none : DirEntry = record { inode = 0; kind = kind.File; name = [] } in
    let name = c.args.name.now in
    let es = (block_entries c.args.block.now).entries in
    let i = c.entries.index in
    let same : not (bytes_eq name (get_or es i none).name) ≡ false = ap (λ n. not (bytes_eq name n)) (sym (c.name_in.ensures none)) ∙ ap not (sym c.eq.ensures ∙ c.if-eq.true) in
    sym (sym c.entries.invariant ∙ other_more name es i none (omega (arith, c.entries-test.true, c.requires.count)) ∙ ap (λ b. b && list_all (is_other name) (drop (i + 1) es)) same)

pub entries-preserved : goal.entries-preserved
entries-preserved c =
    let none : DirEntry = record { inode = 0; kind = kind.File; name = [] } in
    let name = c.args.name.now in
    let es = (block_entries c.args.block.now).entries in
    let i = c.entries.index in
    let other : not (bytes_eq name (get_or es i none).name) ≡ true = ap (λ n. not (bytes_eq name n)) (sym (c.name_in.ensures none)) ∙ ap not (sym c.eq.ensures ∙ c.if-eq.false) in
    sym (other_more name es i none (omega (arith, c.entries-test.true, c.requires.count)) ∙ ap (λ b. b && list_all (is_other name) (drop (i + 1) es)) other) ∙ c.entries.invariant
