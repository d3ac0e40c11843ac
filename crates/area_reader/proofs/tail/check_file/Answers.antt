use Rattle.std.proofs.Common.{◌≡◌, ◌<◌, ◌/◌, ◌%◌, ◌∙◌, Some, ℕ, drop, false, length, sym, ap, subst}
use Rattle.std.proofs.lemmas.Result.{on_ok_weaker, IfErr-weaker}
use Rattle.batch_journal.specs.layout.Bytes.{are_zero}
use Rattle.batch_journal.specs.layout.Places.{Sizes, tier_blocks}
use Rattle.batch_journal.specs.layout.declared.error.What.{What}
use Rattle.batch_journal.specs.layout.declared.error.What.TheVariants as what
use Rattle.area_reader.specs.Store.{Store, disk, place, logical_block}
use Rattle.area_reader.specs.Reads.{IsRoom}
use Rattle.area_reader.specs.Checks.{IsTailDamageOf}
use Rattle.area_reader.proofs.Parts.{on_damage}
use Rattle.area_reader.proofs.Damages.{logical_is}
use Rattle.area_reader.proofs.Tails.{place_is, placed_by, zero_whole, zero_none, zero_last, tail_damage}
use Rattle.area_reader.proofs.tail.check_file.Goals as goal

pub returns-then-rest-eq0-clause-zero : goal.returns-then-rest-eq0-clause-zero
returns-then-rest-eq0-clause-zero g c =
    let old = c.args.journal.now in
    zero_whole old.geometry (disk g.M.Media old) c.args.inode c.args.size c.requires.file c.if-rest-eq0.true

pub block_number-at-requires : goal.block_number-at-requires
block_number-at-requires g c =
    let old = c.args.journal.now in
    let p = placed_by old.geometry (disk g.M.Media old) c.args.inode c.args.found.now c.requires.found c.in-Some.tier (c.args.size / 4096) c.in-Some.place c.in-Some.ensures.some in
    subst (λ (x : Sizes). c.in-Some.place < tier_blocks x c.in-Some.tier) (sym c.geometry-geometry.ensures) p.room.last

pub read_tail-requires-clause-room : goal.read_tail-requires-clause-room
read_tail-requires-clause-room g c =
    let old = c.args.journal.now in
    let p = placed_by old.geometry (disk g.M.Media old) c.args.inode c.args.found.now c.requires.found c.in-Some.tier (c.args.size / 4096) c.in-Some.place c.in-Some.ensures.some in
    subst (λ (n : ℕ). IsRoom old.geometry c.in-Some.tier n) (sym c.block_number-at.ensures) p.room

pub returns-in-Some-clause-zero : goal.returns-in-Some-clause-zero
returns-in-Some-clause-zero g c =
    let old = c.args.journal.now in
    let s : Store = disk g.M.Media old in
    let t = c.in-Some.tier in
    let k : ℕ = c.args.size / 4096 in
    let there : place old.geometry s c.args.inode t k ≡ Some c.in-Some.place = place_is old.geometry s c.args.inode c.args.found.now c.requires.found t k ∙ c.in-Some.ensures.some in
    let read : logical_block old.geometry s c.args.inode k ≡ s t c.block_number-at.result = logical_is old.geometry s c.args.inode c.requires.once t k c.in-Some.place there ∙ ap (s t) (sym c.block_number-at.ensures) in
    on_ok_weaker c.read_tail.result (λ zero. zero_last old.geometry s c.args.inode c.args.size c.requires.file (s t c.block_number-at.result) read zero) c.read_tail.ensures.zero

pub returns-in-Some-clause-damaged : goal.returns-in-Some-clause-damaged
returns-in-Some-clause-damaged g c =
    let old = c.args.journal.now in
    let s : Store = disk g.M.Media old in
    let i = c.args.inode in
    let t = c.in-Some.tier in
    let k : ℕ = c.args.size / 4096 in
    let at : ℕ = c.block_number-at.result in
    let there : place old.geometry s i t k ≡ Some at = place_is old.geometry s i c.args.found.now c.requires.found t k ∙ c.in-Some.ensures.some ∙ ap Some (sym c.block_number-at.ensures) in
    IfErr-weaker c.read_tail.result _ _ (λ e damaged. on_damage e (λ part block is.
    let damage : (length (s t at) ≡ 4096) × (are_zero (drop (c.args.size % 4096) (s t at)) ≡ false) → IsTailDamageOf old.geometry s i what.FileData at = λ (x : (length (s t at) ≡ 4096) × (are_zero (drop (c.args.size % 4096) (s t at)) ≡ false)). tail_damage old.geometry s i c.args.size c.requires.file t at there x.0 x.1 in
    let here : IsTailDamageOf old.geometry s i what.FileData at = damage (is.2, is.3) in
    subst (λ (w : What). IsTailDamageOf old.geometry s i w block) (sym is.0) (subst (IsTailDamageOf old.geometry s i what.FileData) (sym is.1) here)) damaged) c.read_tail.ensures.damaged

pub returns-in-None-clause-zero : goal.returns-in-None-clause-zero
returns-in-None-clause-zero g c =
    let old = c.args.journal.now in
    let s : Store = disk g.M.Media old in
    zero_none old.geometry s c.args.inode c.args.size c.requires.file (λ t. place_is old.geometry s c.args.inode c.args.found.now c.requires.found t (c.args.size / 4096) ∙ c.in-None.ensures.none t)
