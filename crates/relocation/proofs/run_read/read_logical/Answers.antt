use Rattle.std.proofs.Common.{◌≡◌, ◌∙◌, Some, sym}
use Rattle.std.proofs.lemmas.Result.{on_ok_weaker}
use Rattle.inode_plan.specs.area_reader.Store.{Store, disk, place}
use Rattle.inode_plan.proofs.area_reader_lemmas.Damages.{logical_is}
use Rattle.inode_plan.proofs.area_reader_lemmas.Lists.{place_placed}
use Rattle.inode_plan.proofs.area_reader_lemmas.Twins.{room_home}
use Rattle.relocation.proofs.run_read.read_logical.Goals as goal

pub read_block-requires-clause-inside : goal.read_block-requires-clause-inside
read_block-requires-clause-inside g c =
    let old = c.args.journal.now in
    let s : Store = disk g.M.Media old in
    let there : place old.geometry s c.args.inode c.in-Some.place.tier c.args.block ≡ Some c.in-Some.place.block = sym (c.requires.map c.in-Some.place.tier c.args.block) ∙ c.in-Some.ensures.found in
    (place_placed old.geometry s c.args.inode c.in-Some.place.tier c.args.block c.in-Some.place.block there).room.last

pub read_block-requires-clause-home : goal.read_block-requires-clause-home
read_block-requires-clause-home g c =
    let old = c.args.journal.now in
    let s : Store = disk g.M.Media old in
    let there : place old.geometry s c.args.inode c.in-Some.place.tier c.args.block ≡ Some c.in-Some.place.block = sym (c.requires.map c.in-Some.place.tier c.args.block) ∙ c.in-Some.ensures.found in
    room_home old.geometry c.in-Some.place.tier c.in-Some.place.block (place_placed old.geometry s c.args.inode c.in-Some.place.tier c.args.block c.in-Some.place.block there).room

pub returns-clause-bytes : goal.returns-clause-bytes
returns-clause-bytes g c =
    let old = c.args.journal.now in
    let s : Store = disk g.M.Media old in
    let there : place old.geometry s c.args.inode c.in-Some.place.tier c.args.block ≡ Some c.in-Some.place.block = sym (c.requires.map c.in-Some.place.tier c.args.block) ∙ c.in-Some.ensures.found in
    on_ok_weaker c.read_block.result (λ is. is ∙ sym (logical_is old.geometry s c.args.inode c.requires.once c.in-Some.place.tier c.args.block c.in-Some.place.block there)) c.read_block.ensures.bytes
