use Rattle.std.proofs.Common.{◌≡◌, ◌<◌, ◌∙◌, ℕ, Some, length, sym, ap, subst, inl, inr}
use Rattle.std.proofs.lemmas.Result.{err_from_is_err_and}
use Rattle.tier_device.specs.declared.media.Tier.{Tier}
use Rattle.tier_device.specs.declared.media.Tier.TheVariants.{Fast}
use Rattle.batch_journal.specs.layout.Places.{Sizes, tier_blocks}
use Rattle.batch_journal.specs.layout.declared.error.What.TheVariants as what
use Rattle.tree_blocks.specs.Inode.{IsDirectoryBlock}
use Rattle.area_reader.specs.declared.error.AreaError.{AreaError}
use Rattle.area_reader.specs.Store.{Store, disk, place, logical_block}
use Rattle.area_reader.specs.Damage.{OnDamage}
use Rattle.area_reader.specs.Reads.{IsRoom}
use Rattle.area_reader.specs.Checks.{IsSlotDamageOf, IsDirectoryDamageOf}
use Rattle.area_reader.specs.Names.{SharesName, AddsNames}
use Rattle.batch_journal.specs.layout.Directory.{block_entries}
use Rattle.std.specs.Prelude.{Bool, MatchBool, List}
use Rattle.area_reader.proofs.Damages.{is_some_at}
use Rattle.area_reader.proofs.Tails.{place_is, placed_by}
use Rattle.area_reader.proofs.Twins.{directory_tier, block_at, room_home, lacks, no_part, twin, same_name, first_more, part_held}
use Rattle.area_reader.proofs.entries.check_part.Goals as goal

pub returns-in_default-clause-damaged : goal.returns-in_default-clause-damaged
returns-in_default-clause-damaged g c =
    let old = c.args.journal.now in
    let s : Store = disk g.M.Media old in
    let k : ℕ = c.args.part.number in
    let none = place_is old.geometry s c.args.part.inode c.args.part.found.now c.requires.found Fast k ∙ c.in_default.ensures.none Fast in
    let damage = lacks old.geometry s c.args.part.inode c.args.part.entries c.requires.directory k c.requires.more (is_some_at _ _ (c.requires.found Fast)) none in
    inl (subst (IsSlotDamageOf old.geometry s c.args.part.inode what.Slot) (sym c.slot_block.ensures.block) damage)

pub block_number-at-requires : goal.block_number-at-requires
block_number-at-requires g c =
    let old = c.args.journal.now in
    let p = placed_by old.geometry (disk g.M.Media old) c.args.part.inode c.args.part.found.now c.requires.found c.in-Some.tier c.args.part.number c.in-Some.place c.in-Some.ensures.some in
    subst (λ (x : Sizes). c.in-Some.place < tier_blocks x c.in-Some.tier) (sym c.geometry-geometry.ensures) p.room.last

pub read_block-requires-clause-inside : goal.read_block-requires-clause-inside
read_block-requires-clause-inside g c =
    let old = c.args.journal.now in
    let p = placed_by old.geometry (disk g.M.Media old) c.args.part.inode c.args.part.found.now c.requires.found c.in-Some.tier c.args.part.number c.in-Some.place c.in-Some.ensures.some in
    subst (λ (n : ℕ). n < tier_blocks old.geometry c.in-Some.tier) (sym c.block_number-at.ensures) p.room.last

pub read_block-requires-clause-home : goal.read_block-requires-clause-home
read_block-requires-clause-home g c =
    let old = c.args.journal.now in
    let p = placed_by old.geometry (disk g.M.Media old) c.args.part.inode c.args.part.found.now c.requires.found c.in-Some.tier c.args.part.number c.in-Some.place c.in-Some.ensures.some in
    room_home old.geometry c.in-Some.tier c.block_number-at.result (subst (IsRoom old.geometry c.in-Some.tier) (sym c.block_number-at.ensures) p.room)

pub returns-then-not-is_part-clause-damaged : goal.returns-then-not-is_part-clause-damaged
returns-then-not-is_part-clause-damaged g c =
    let old = c.args.journal.now in
    let s : Store = disk g.M.Media old in
    let i = c.args.part.inode in
    let t = c.in-Some.tier in
    let k : ℕ = c.args.part.number in
    let at : ℕ = c.block_number-at.result in
    let dir = c.requires.directory in
    let there : place old.geometry s i t k ≡ Some at = place_is old.geometry s i c.args.part.found.now c.requires.found t k ∙ c.in-Some.ensures.some ∙ ap Some (sym c.block_number-at.ensures) in
    let fast = subst (λ (u : Tier). place old.geometry s i u k ≡ Some at) (directory_tier old.geometry s i t k at dir.kind_is there) there in
    let read : c.read_block.new.out ≡ logical_block old.geometry s i k = c.in_ok-read_block.ensures.bytes ∙ sym (block_at old.geometry s i t k at dir.kind_is there) in
    let wrong : IsDirectoryBlock i c.args.part.entries k (logical_block old.geometry s i k) → ⊥ = λ part. c.if-not-is_part.ensures (subst (IsDirectoryBlock i c.args.part.entries k) (sym read) part) in
    let damage : IsDirectoryDamageOf old.geometry s i what.DirBlock at = inr (no_part old.geometry s i c.args.part.entries dir k at c.requires.more fast wrong) in
    subst (λ (e : AreaError). OnDamage e (IsDirectoryDamageOf old.geometry s i)) (sym c.entries_damaged.ensures) damage

pub returns-then-not-is_new-clause-damaged : goal.returns-then-not-is_new-clause-damaged
returns-then-not-is_new-clause-damaged g c =
    let old = c.args.journal.now in
    let s : Store = disk g.M.Media old in
    let i = c.args.part.inode in
    let t = c.in-Some.tier in
    let k : ℕ = c.args.part.number in
    let at : ℕ = c.block_number-at.result in
    let dir = c.requires.directory in
    let there : place old.geometry s i t k ≡ Some at = place_is old.geometry s i c.args.part.found.now c.requires.found t k ∙ c.in-Some.ensures.some ∙ ap Some (sym c.block_number-at.ensures) in
    let read : c.read_block.new.out ≡ logical_block old.geometry s i k = c.in_ok-read_block.ensures.bytes ∙ sym (block_at old.geometry s i t k at dir.kind_is there) in
    let part : IsDirectoryBlock i c.args.part.entries k (logical_block old.geometry s i k) = subst (IsDirectoryBlock i c.args.part.entries k) read c.if-not-is_part.ensures in
    let fast = subst (λ (u : Tier). place old.geometry s i u k ≡ Some at) (directory_tier old.geometry s i t k at dir.kind_is there) there in
    let shares : SharesName c.read_block.new.out c.args.names.now = subst (λ (b : Bool). MatchBool b (AddsNames c.read_block.new.out (length (block_entries c.read_block.new.out).entries) c.args.names.now c.add_names.new.names) (SharesName c.read_block.new.out c.args.names.now)) c.if-not-is_new.true c.in_ok-is_new.ensures in
    let same = same_name old.geometry s i c.args.part.entries k c.args.names.now c.requires.before (subst (λ (b : List ℕ). SharesName b c.args.names.now) read shares) in
    let damage : IsDirectoryDamageOf old.geometry s i what.DirBlock at = inr (twin old.geometry s i c.args.part.entries dir k at c.requires.more fast part c.requires.before.parts same) in
    subst (λ (e : AreaError). OnDamage e (IsDirectoryDamageOf old.geometry s i)) (sym c.entries_damaged-then-not-is_new.ensures) damage

pub returns-clause-parts : goal.returns-clause-parts
returns-clause-parts g c =
    let old = c.args.journal.now in
    let s : Store = disk g.M.Media old in
    let i = c.args.part.inode in
    let t = c.in-Some.tier in
    let k : ℕ = c.args.part.number in
    let at : ℕ = c.block_number-at.result in
    let dir = c.requires.directory in
    let there : place old.geometry s i t k ≡ Some at = place_is old.geometry s i c.args.part.found.now c.requires.found t k ∙ c.in-Some.ensures.some ∙ ap Some (sym c.block_number-at.ensures) in
    let read : c.read_block.new.out ≡ logical_block old.geometry s i k = c.in_ok-read_block.ensures.bytes ∙ sym (block_at old.geometry s i t k at dir.kind_is there) in
    let part : IsDirectoryBlock i c.args.part.entries k (logical_block old.geometry s i k) = subst (IsDirectoryBlock i c.args.part.entries k) read c.if-not-is_part.ensures in
    let adds : AddsNames c.read_block.new.out (length (block_entries c.read_block.new.out).entries) c.args.names.now c.add_names.new.names = subst (λ (b : Bool). MatchBool b (AddsNames c.read_block.new.out (length (block_entries c.read_block.new.out).entries) c.args.names.now c.add_names.new.names) (SharesName c.read_block.new.out c.args.names.now)) c.if-not-is_new.false c.in_ok-is_new.ensures in
    first_more old.geometry s i c.args.part.entries k c.args.names.now c.requires.before part c.add_names.new.names (subst (λ (b : List ℕ). AddsNames b (length (block_entries b).entries) c.args.names.now c.add_names.new.names) read adds)

pub returns-in_err-is_new-clause-memory : goal.returns-in_err-is_new-clause-memory
returns-in_err-is_new-clause-memory g c =
    let old = c.args.journal.now in
    let s : Store = disk g.M.Media old in
    let i = c.args.part.inode in
    let t = c.in-Some.tier in
    let k : ℕ = c.args.part.number in
    let at : ℕ = c.block_number-at.result in
    let dir = c.requires.directory in
    let there : place old.geometry s i t k ≡ Some at = place_is old.geometry s i c.args.part.found.now c.requires.found t k ∙ c.in-Some.ensures.some ∙ ap Some (sym c.block_number-at.ensures) in
    let read : c.read_block.new.out ≡ logical_block old.geometry s i k = c.in_ok-read_block.ensures.bytes ∙ sym (block_at old.geometry s i t k at dir.kind_is there) in
    let part : IsDirectoryBlock i c.args.part.entries k (logical_block old.geometry s i k) = subst (IsDirectoryBlock i c.args.part.entries k) read c.if-not-is_part.ensures in
    let p = err_from_is_err_and c.from_residual-in_err-is_new.result c.from_residual-in_err-is_new.ensures.1 in
    rw p.1 (λ is. part_held old.geometry s i c.args.part.entries k dir c.requires.more part)
