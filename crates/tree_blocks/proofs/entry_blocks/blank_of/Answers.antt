use Rattle.std.proofs.Common.{◌∙◌, [], arith, ap, refl}
use Rattle.layout.specs.Directory.{EntryList, entries_spelling}
use Rattle.layout.proofs.DirChanges.{entries_now, fit_from}
use Rattle.tree_blocks.proofs.entry_blocks.blank_of.Goals as goal

pub returns-clause-entries : goal.returns-clause-entries
returns-clause-entries c =
    let v : EntryList = record { owner = c.args.owner; entries = [] } in
    (entries_now c.encode-2.new.block v (fit_from v (record { owner = c.requires; few = omega arith; each = refl; distinct = refl }))
    (c.encode-2.ensures ∙ ap entries_spelling (λ t. record { owner = c.new-2.ensures.owner t; entries = (c.new-2.ensures.entries ∙ c.new.ensures.items) t }))).0

pub returns-clause-listed : goal.returns-clause-listed
returns-clause-listed c =
    let v : EntryList = record { owner = c.args.owner; entries = [] } in
    (entries_now c.encode-2.new.block v (fit_from v (record { owner = c.requires; few = omega arith; each = refl; distinct = refl }))
    (c.encode-2.ensures ∙ ap entries_spelling (λ t. record { owner = c.new-2.ensures.owner t; entries = (c.new-2.ensures.entries ∙ c.new.ensures.items) t }))).1
