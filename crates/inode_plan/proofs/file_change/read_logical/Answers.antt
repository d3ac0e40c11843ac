use Rattle.std.proofs.Common.{◌≡◌, ◌<◌, ◌∙◌, ℕ, List, [], Some, None, replicate, get_or, sym, ap, subst}
use Rattle.std.proofs.lemmas.Result.{on_ok_weaker}
use Rattle.area_commit.specs.layout.Places.{Sizes, tier_blocks}
use Rattle.area_commit.proofs.tree_blocks_lemmas.FileBlocks.{zeros_are_none}
use Rattle.area_commit.specs.area_reader.Store.{Store, disk, place, logical_block}
use Rattle.area_commit.specs.area_reader.Reads.{IsRoom}
use Rattle.area_commit.proofs.area_reader_lemmas.Damages.{logical_is, at_none}
use Rattle.area_commit.proofs.area_reader_lemmas.Tails.{place_is, placed_by}
use Rattle.area_commit.proofs.area_reader_lemmas.Twins.{room_home}
use Rattle.tier_device.specs.declared.media.Tier.{Tier}
use Rattle.tier_device.specs.declared.media.Tier.TheVariants.{Fast, Block, Slow}
use Rattle.inode_plan.proofs.file_change.read_logical.Goals as goal

pub block_number-block-requires : goal.block_number-block-requires
block_number-block-requires g c =
    let old = c.args.journal.now in
    let p = placed_by old.geometry (disk g.M.Media old) c.args.inode c.args.found.now c.requires.found c.in-Some.tier c.args.number c.in-Some.place c.in-Some.ensures.some in
    subst (λ (x : Sizes). c.in-Some.place < tier_blocks x c.in-Some.tier) (sym c.geometry-geometry.ensures) p.room.last

pub read_block-requires-clause-inside : goal.read_block-requires-clause-inside
read_block-requires-clause-inside g c =
    let old = c.args.journal.now in
    let p = placed_by old.geometry (disk g.M.Media old) c.args.inode c.args.found.now c.requires.found c.in-Some.tier c.args.number c.in-Some.place c.in-Some.ensures.some in
    subst (λ (n : ℕ). n < tier_blocks old.geometry c.in-Some.tier) (sym c.block_number-block.ensures) p.room.last

pub read_block-requires-clause-home : goal.read_block-requires-clause-home
read_block-requires-clause-home g c =
    let old = c.args.journal.now in
    let p = placed_by old.geometry (disk g.M.Media old) c.args.inode c.args.found.now c.requires.found c.in-Some.tier c.args.number c.in-Some.place c.in-Some.ensures.some in
    room_home old.geometry c.in-Some.tier c.block_number-block.result (subst (λ (n : ℕ). IsRoom old.geometry c.in-Some.tier n) (sym c.block_number-block.ensures) p.room)

pub returns-in-Some-clause-bytes : goal.returns-in-Some-clause-bytes
returns-in-Some-clause-bytes g c =
    let old = c.args.journal.now in
    let s : Store = disk g.M.Media old in
    let t = c.in-Some.tier in
    let k : ℕ = c.args.number in
    let there : place old.geometry s c.args.inode t k ≡ Some c.in-Some.place = place_is old.geometry s c.args.inode c.args.found.now c.requires.found t k ∙ c.in-Some.ensures.some in
    let read : logical_block old.geometry s c.args.inode k ≡ s t c.block_number-block.result = logical_is old.geometry s c.args.inode c.requires.once t k c.in-Some.place there ∙ ap (s t) (sym c.block_number-block.ensures) in
    on_ok_weaker c.read_block.result (λ is p lt. ap (λ (b : List ℕ). get_or b p 0) (is ∙ sym read)) c.read_block.ensures.bytes

pub returns-in-None-clause-bytes : goal.returns-in-None-clause-bytes
returns-in-None-clause-bytes g c p lt =
    let old = c.args.journal.now in
    let s : Store = disk g.M.Media old in
    let k : ℕ = c.args.number in
    let none : (t : Tier) → place old.geometry s c.args.inode t k ≡ None = λ t. place_is old.geometry s c.args.inode c.args.found.now c.requires.found t k ∙ c.in-None.ensures.none t in
    let hole : logical_block old.geometry s c.args.inode k ≡ [] = at_none old.geometry s c.args.inode k (none Fast) (none Block) (none Slow) in
    let zeros : c.clear.new.out ≡ replicate 4096 0 = c.clear.ensures ∙ ap (λ (n : ℕ). replicate n 0) c.requires.size in
    ap (λ (b : List ℕ). get_or b p 0) zeros ∙ zeros_are_none p lt ∙ sym (ap (λ (b : List ℕ). get_or b p 0) hole)
