use Rattle.std.proofs.Common.{◌∙◌, ap, sym, Some}
use Rattle.layout.specs.Directory.{fits_entry}
use Rattle.layout.specs.LentEntry.{owned_entry}
use Rattle.layout.proofs.DirPlaces.{fields_there, same_entry}
use Rattle.layout.proofs.dir_entries.entry_in.Goals as goal

pub unreachable-requires : goal.unreachable-requires
unreachable-requires c =
    let f = fields_there c.args.block.now c.args.index (λ i. (c.type_inv.block i).fits) c.requires.listed c.requires.inside in
    let none = c.in-None.ensures in
    let some = f.2 in
    absurd cc

pub returns-clause-entry : goal.returns-clause-entry
returns-clause-entry c =
    let f = fields_there c.args.block.now c.args.index (λ i. (c.type_inv.block i).fits) c.requires.listed c.requires.inside in
    f.3 ∙ ap Some (same_entry _ f.0 (owned_entry c.in-Some.entry) f.1 c.in-Some.field-0-1.now f.2 (sym c.in-Some.ensures))

pub returns-clause-fits : goal.returns-clause-fits
returns-clause-fits c =
    let f = fields_there c.args.block.now c.args.index (λ i. (c.type_inv.block i).fits) c.requires.listed c.requires.inside in
    ap fits_entry (sym (same_entry _ f.0 (owned_entry c.in-Some.entry) f.1 c.in-Some.field-0-1.now f.2 (sym c.in-Some.ensures))) ∙ f.4
