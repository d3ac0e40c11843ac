use Rattle.area_reader.specs.Store.{disk}
use Rattle.shared_area.proofs.Sound.{tier_none, tier_of, parts_some, parts_none}
use Rattle.shared_area.proofs.block_search.find_tier.Goals as goal

pub returns-in-Some-clause-tier : goal.returns-in-Some-clause-tier
returns-in-Some-clause-tier g c =
    let old = c.args.journal.now in
    let s = disk g.M.Media old in
    let found = c.in_ok-parts in
    let parts = c.in-Some.parts in
    let has = parts_some old.geometry s c.args.inode found.field-0 parts c.in-Some.is found.ensures.parts in
    tier_of old.geometry s c.args.inode parts has (c.requires found.ensures.looks.going.0) c.args.block c.mapping_tier.result c.mapping_tier.ensures.some c.mapping_tier.ensures.none

pub returns-in-None-clause-tier : goal.returns-in-None-clause-tier
returns-in-None-clause-tier g c =
    let old = c.args.journal.now in
    let s = disk g.M.Media old in
    tier_none old.geometry s c.args.inode (parts_none old.geometry s c.args.inode c.in_ok-parts.field-0 c.in-None.is c.in_ok-parts.ensures.parts) c.args.block
