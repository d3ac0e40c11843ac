use Rattle.std.proofs.Common.{◌≡◌, ◌∙◌, ◌+◌, ◌&&◌, true, false, ap, sym, arith, get_or, [], drop}
use Rattle.std.specs.List.{list_all}
use Rattle.file_graph.specs.declared.effect.Kind.TheVariants as kind
use Rattle.layout.specs.declared.directory.DirEntry.{DirEntry}
use Rattle.layout.specs.Directory.{block_entries, are_distinct}
use Rattle.layout.proofs.DirPlaces.{is_other, distinct_more}
use Rattle.layout.proofs.dir_entries.are_distinct.Goals as goal

pub returns-then-not-differs_from : goal.returns-then-not-differs_from
returns-then-not-differs_from c =
    let none : DirEntry = record { inode = 0; kind = kind.File; name = [] } in
    let es = (block_entries c.args.block.now).entries in
    let i = c.entries.index in
    let rest = drop (i + 1) es in
    let meets : list_all (is_other (get_or es i none).name) rest ≡ false = ap (λ n. list_all (is_other n) rest) (sym (c.name_in-name.ensures none)) ∙ sym c.differs_from.ensures ∙ c.if-not-differs_from.true in
    sym (sym c.entries.invariant ∙ distinct_more es i none (omega (arith, c.entries-test.true, c.requires.count)) ∙ ap (λ b. b && are_distinct rest) meets)

pub entries-preserved : goal.entries-preserved
entries-preserved c =
    let none : DirEntry = record { inode = 0; kind = kind.File; name = [] } in
    let es = (block_entries c.args.block.now).entries in
    let i = c.entries.index in
    let rest = drop (i + 1) es in
    let differs : list_all (is_other (get_or es i none).name) rest ≡ true = ap (λ n. list_all (is_other n) rest) (sym (c.name_in-name.ensures none)) ∙ sym c.differs_from.ensures ∙ c.if-not-differs_from.false in
    sym (distinct_more es i none (omega (arith, c.entries-test.true, c.requires.count)) ∙ ap (λ b. b && are_distinct rest) differs) ∙ c.entries.invariant
