use Rattle.std.proofs.Common.{◌≡◌, ◌<◌, ◌/◌, ◌∙◌, ℕ, Some, length, sym, ap, subst}
use Rattle.std.proofs.lemmas.Result.{on_ok_weaker}
use Rattle.area_reader.specs.layout.Places.{Sizes, tier_blocks}
use Rattle.area_reader.specs.Store.{Store, disk, place, logical_block}
use Rattle.area_reader.specs.Reads.{IsRoom}
use Rattle.area_reader.proofs.Damages.{logical_is}
use Rattle.area_reader.proofs.Tails.{place_is, placed_by}
use Rattle.shared_area.proofs.Files.{piece_shows, hole_shows, no_block}
use Rattle.shared_area.proofs.file_read.read_within.Goals as goal

pub block_number-block-requires : goal.block_number-block-requires
block_number-block-requires g c =
    let old = c.args.journal.now in
    let p = placed_by old.geometry (disk g.M.Media old) c.args.inode c.args.found.now c.requires.found c.in-Some.tier (c.args.at / 4096) c.in-Some.place c.in-Some.ensures.some in
    subst (λ (x : Sizes). c.in-Some.place < tier_blocks x c.in-Some.tier) (sym c.geometry-geometry.ensures) p.room.last

pub read_part-requires-clause-room : goal.read_part-requires-clause-room
read_part-requires-clause-room g c =
    let old = c.args.journal.now in
    let p = placed_by old.geometry (disk g.M.Media old) c.args.inode c.args.found.now c.requires.found c.in-Some.tier (c.args.at / 4096) c.in-Some.place c.in-Some.ensures.some in
    subst (λ (n : ℕ). IsRoom old.geometry c.in-Some.tier n) (sym c.block_number-block.ensures) p.room

pub returns-in-Some-clause-bytes : goal.returns-in-Some-clause-bytes
returns-in-Some-clause-bytes g c =
    let old = c.args.journal.now in
    let s : Store = disk g.M.Media old in
    let t = c.in-Some.tier in
    let k : ℕ = c.args.at / 4096 in
    let there : place old.geometry s c.args.inode t k ≡ Some c.in-Some.place = place_is old.geometry s c.args.inode c.args.found.now c.requires.found t k ∙ c.in-Some.ensures.some in
    let read : logical_block old.geometry s c.args.inode k ≡ s t c.block_number-block.result = logical_is old.geometry s c.args.inode c.requires.once t k c.in-Some.place there ∙ ap (s t) (sym c.block_number-block.ensures) in
    on_ok_weaker c.read_part.result (λ is. piece_shows (logical_block old.geometry s c.args.inode) c.args.at (length c.args.out.now) c.read_part.new.out (s t c.block_number-block.result) c.requires.inside c.read_part.auto.out is read) c.read_part.ensures.bytes

pub returns-in-None-clause-bytes : goal.returns-in-None-clause-bytes
returns-in-None-clause-bytes g c =
    let old = c.args.journal.now in
    let s : Store = disk g.M.Media old in
    let k : ℕ = c.args.at / 4096 in
    let none = no_block old.geometry s c.args.inode k (λ t. place_is old.geometry s c.args.inode c.args.found.now c.requires.found t k ∙ c.in-None.ensures.none t) in
    hole_shows (logical_block old.geometry s c.args.inode) c.args.at (length c.args.out.now) c.clear.new.out c.requires.inside c.clear.auto.out c.clear.ensures none
