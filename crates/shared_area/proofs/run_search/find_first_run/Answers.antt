use Rattle.area_reader.specs.Store.{disk}
use Rattle.shared_area.proofs.Sound.{parts_some, parts_none}
use Rattle.shared_area.proofs.FirstRuns.{parts_once, parts_within, no_inode_lies}
use Rattle.shared_area.proofs.run_search.find_first_run.Goals as goal

pub run_of-requires-clause-once : goal.run_of-requires-clause-once
run_of-requires-clause-once g c =
    let old = c.args.journal.now in
    let s = disk g.M.Media old in
    let found = c.in_ok-parts in
    let parts = c.in-Some.parts in
    parts_once old.geometry s c.args.inode parts (parts_some old.geometry s c.args.inode found.field-0 parts c.in-Some.is found.ensures.parts) (c.requires.opens found.ensures.looks.going.0)

pub run_of-requires-clause-within : goal.run_of-requires-clause-within
run_of-requires-clause-within g c =
    let old = c.args.journal.now in
    let s = disk g.M.Media old in
    let found = c.in_ok-parts in
    let parts = c.in-Some.parts in
    parts_within old.geometry s c.args.inode parts (parts_some old.geometry s c.args.inode found.field-0 parts c.in-Some.is found.ensures.parts) c.args.tier

pub returns-clause-run : goal.returns-clause-run
returns-clause-run g c =
    let old = c.args.journal.now in
    let s = disk g.M.Media old in
    no_inode_lies old.geometry s c.args.inode c.args.tier (parts_none old.geometry s c.args.inode c.in_ok-parts.field-0 c.in-None.is c.in_ok-parts.ensures.parts)
