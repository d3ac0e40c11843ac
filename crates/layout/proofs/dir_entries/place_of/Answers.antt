use Rattle.std.proofs.Common.{◌∙◌, ap, sym, arith}
use Rattle.std.specs.Str.{bytes_eq}
use Rattle.layout.specs.Directory.{block_entries}
use Rattle.layout.proofs.DirPlaces.{found_at, found_nowhere}
use Rattle.layout.proofs.dir_entries.place_of.Goals as goal

pub returns-then-eq : goal.returns-then-eq
returns-then-eq c =
    let name = c.args.name.now in
    sym (found_at name (block_entries c.args.block.now).entries c.entries.index (omega (arith, c.entries-test.true, c.requires.count)) c.entries.invariant
    (λ d. ap (λ n. bytes_eq n name) (sym (c.name_in.ensures d)) ∙ sym c.eq.ensures ∙ c.if-eq.true))

pub returns : goal.returns
returns c =
    sym (found_nowhere c.args.name.now (block_entries c.args.block.now).entries (λ k d lt. c.entries.invariant k d (omega (arith, lt, c.entries-test.false, c.requires.count))))
