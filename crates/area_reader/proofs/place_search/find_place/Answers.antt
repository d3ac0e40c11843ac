use Rattle.std.proofs.Common.{◌≡◌, ◌≢◌, ◌<◌, ◌∙◌, ℕ, sym, ap, subst, true}
use Rattle.tier_device.specs.declared.media.Tier.TheVariants.{Fast}
use Rattle.batch_journal.specs.Blocks.{is_home}
use Rattle.batch_journal.specs.layout.Extents.{extents_of}
use Rattle.batch_journal.specs.layout.Places.{tier_blocks}
use Rattle.area_reader.specs.Store.{disk, root_of, space_of}
use Rattle.area_reader.proofs.PlaceSearch.{root_pooled, rootless, list_tells, none_behind}
use Rattle.area_reader.proofs.Shown.{node_home}
use Rattle.area_reader.proofs.place_search.find_place.Goals as goal

pub returns-then-root-eq0-clause-place : goal.returns-then-root-eq0-clause-place
returns-then-root-eq0-clause-place g c =
    let old = c.args.journal.now in
    sym (rootless old.geometry (disk g.M.Media old) c.args.inode c.args.slot.now c.requires.slot c.args.tier c.args.block (sym c.root_of-root.ensures ∙ c.if-root-eq0.true))

pub returns-then-block-clause-place : goal.returns-then-block-clause-place
returns-then-block-clause-place g c =
    let old = c.args.journal.now in
    sym (none_behind old.geometry (disk g.M.Media old) c.args.inode c.args.tier c.args.block c.if-block.true)

pub read_block-requires-clause-inside : goal.read_block-requires-clause-inside
read_block-requires-clause-inside g c =
    let old = c.args.journal.now in
    let slot = c.args.slot.now in
    let some : root_of slot c.args.tier ≢ 0 = λ e. c.if-root-eq0.false (c.root_of-root.ensures ∙ e) in
    let pooled = node_home old.geometry (root_of slot c.args.tier) (root_pooled old.geometry (disk g.M.Media old) c.args.inode slot c.requires.slot c.args.tier some) in
    subst (λ (k : ℕ). k < tier_blocks old.geometry Fast) (sym c.root_of-root.ensures) pooled.1

pub read_block-requires-clause-home : goal.read_block-requires-clause-home
read_block-requires-clause-home g c _ =
    let old = c.args.journal.now in
    let slot = c.args.slot.now in
    let some : root_of slot c.args.tier ≢ 0 = λ e. c.if-root-eq0.false (c.root_of-root.ensures ∙ e) in
    let pooled = node_home old.geometry (root_of slot c.args.tier) (root_pooled old.geometry (disk g.M.Media old) c.args.inode slot c.requires.slot c.args.tier some) in
    subst (λ (k : ℕ). is_home k ≡ true) (sym c.root_of-root.ensures) pooled.0

pub returns-clause-place : goal.returns-clause-place
returns-clause-place g c =
    let old = c.args.journal.now in
    let s = disk g.M.Media old in
    let slot = c.args.slot.now in
    let t = c.args.tier in
    let some : root_of slot t ≢ 0 = λ e. c.if-root-eq0.false (c.root_of-root.ensures ∙ e) in
    let list = list_tells old.geometry s c.args.inode slot c.requires.slot t (c.requires.spelled (sym c.has_failed.ensures ∙ c.if-has_failed.false)) some in
    let bytes : c.read_block.new.out ≡ s Fast (root_of slot t) = c.in_ok-read_block.ensures.bytes ∙ ap (s Fast) c.root_of-root.ensures in
    c.place_in_list.ensures old.geometry (space_of slot t) list.0 (ap (extents_of old.geometry (space_of slot t)) bytes ∙ list.1) ∙ sym (list.2 c.args.block)
