use Rattle.std.proofs.Common.{◌≡◌, ◌<◌, ◌*◌, ℕ, List, true, length, sym, ap, subst, ◌∙◌, arith, inl, inr}
use Rattle.std.proofs.lemmas.Bool.{cases_lt}
use Rattle.tier_device.specs.declared.media.Tier.{Tier}
use Rattle.tier_device.specs.declared.media.Tier.TheVariants.{Fast, Block, Slow}
use Rattle.tier_device.specs.AfterStop.{AtRest}
use Rattle.area_reader.specs.layout.Places.{Sizes, tier_blocks}
use Rattle.area_reader.specs.batch_journal.Blocks.{home, block_of, is_home}
use Rattle.area_reader.proofs.batch_journal_lemmas.Courses.{tiers_same}
use Rattle.area_commit.specs.DataWrite.{HoldParts, part_in}
use Rattle.area_commit.proofs.Courses.{loose_next}
use Rattle.area_commit.proofs.Stored.{hold_data}
use Rattle.area_commit.proofs.Turns.{turn_fenced}
use Rattle.area_commit.proofs.data_write.flush_runs.Goals as goal

pub returns-in_err-fence_all-clause-loose : goal.returns-in_err-fence_all-clause-loose
returns-in_err-fence_all-clause-loose g c s fast block slow =
    let m = g.M.Media in
    let old = c.args.journal.now in
    let one = c.write_all.new.journal in
    let new = c.fence_all.new.journal in
    loose_next one.geometry old.geometry s (m.moment old.media) (m.moment one.media) (m.moment new.media) (m.left old.media) (m.left one.media) (m.left new.media) c.write_all.ensures.went.geometry
    (c.write_all.ensures.loose s fast block slow) (c.fence_all.ensures.loose s)

pub returns-clause-loose : goal.returns-clause-loose
returns-clause-loose g c s fast block slow =
    let m = g.M.Media in
    let old = c.args.journal.now in
    let one = c.write_all.new.journal in
    let new = c.fence_all.new.journal in
    loose_next one.geometry old.geometry s (m.moment old.media) (m.moment one.media) (m.moment new.media) (m.left old.media) (m.left one.media) (m.left new.media) c.write_all.ensures.went.geometry
    (c.write_all.ensures.loose s fast block slow) (c.fence_all.ensures.loose s)

pub returns-clause-written : goal.returns-clause-written
returns-clause-written g c =
    let m = g.M.Media in
    let old = c.args.journal.now in
    let one = c.write_all.new.journal in
    let new = c.fence_all.new.journal in
    let geometry = c.fence_all.ensures.went.geometry ∙ c.write_all.ensures.went.geometry in
    let going = c.in_ok-fence_all.ensures.went.going in
    let sizes : (t : Tier) → length (m.seen new.media t) ≡ 4096 * tier_blocks old.geometry t = λ t. c.left_now.ensures.sizes going t ∙ ap (λ (x : Sizes). 4096 * tier_blocks x t) geometry in
    let in_place : (k : ℕ) → is_home k ≡ true → home (m.seen new.media Fast) k ≡ block_of (m.seen new.media Fast) k = λ k is. c.left_now.ensures.in_place going (m.seen new.media Fast) k (g.met.M.Media.seen_now new.media Fast) is in
    let parts = subst (λ (f : Tier → List ℕ). HoldParts f c.args.fast.now c.args.block.now c.args.slow.now c.args.«data».now) (sym (tiers_same (m.seen one.media) (m.seen new.media) c.in_ok-fence_all.ensures.seen)) c.in_ok-write_all.ensures.written in
    hold_data old.geometry (m.seen new.media) sizes in_place c.args.fast.now c.args.block.now c.args.slow.now c.requires.fast c.requires.block c.requires.slow c.args.«data».now parts

pub returns-clause-keeps_rest : goal.returns-clause-keeps_rest
returns-clause-keeps_rest g c t rest =
    let m = g.M.Media in
    let runs = part_in c.args.fast.now c.args.block.now c.args.slow.now in
    elim (cases_lt 0 (length (runs t))) [
      | inl some ↦ written t some
      | inr none ↦ c.in_ok-fence_all.ensures.keeps_rest t (c.in_ok-write_all.ensures.keeps_rest t (omega (arith, none)) rest)
    ]
  where
    written : (u : Tier) → 0 < length (part_in c.args.fast.now c.args.block.now c.args.slow.now u) → AtRest (g.M.Media.seen c.fence_all.new.journal.media) (g.M.Media.left c.fence_all.new.journal.media (g.M.Media.moment c.fence_all.new.journal.media)) u
    written Fast some = c.in_ok-fence_all.ensures.fast some
    written Block some = c.in_ok-fence_all.ensures.block some
    written Slow some = c.in_ok-fence_all.ensures.slow some

pub returns-in_err-fence_all-clause-turn : goal.returns-in_err-fence_all-clause-turn
returns-in_err-fence_all-clause-turn g c =
    let m = g.M.Media in
    let old = c.args.journal.now.media in
    let one = c.write_all.new.journal.media in
    let new = c.fence_all.new.journal.media in
    turn_fenced c.args.fast.now c.args.block.now c.args.slow.now (m.moment old) (m.moment one) (m.moment new) (m.left old) (m.left one) (m.left new) c.write_all.ensures.turn c.in_ok-write_all.ensures.calls c.fence_all.ensures.turn

pub returns-clause-turn : goal.returns-clause-turn
returns-clause-turn g c =
    let m = g.M.Media in
    let old = c.args.journal.now.media in
    let one = c.write_all.new.journal.media in
    let new = c.fence_all.new.journal.media in
    turn_fenced c.args.fast.now c.args.block.now c.args.slow.now (m.moment old) (m.moment one) (m.moment new) (m.left old) (m.left one) (m.left new) c.write_all.ensures.turn c.in_ok-write_all.ensures.calls c.fence_all.ensures.turn

pub returns-clause-at_most : goal.returns-clause-at_most
returns-clause-at_most g c = omega (arith, c.in_ok-fence_all.ensures.calls, c.in_ok-write_all.ensures.calls)

pub returns-clause-calls : goal.returns-clause-calls
returns-clause-calls g c = omega (arith, c.in_ok-fence_all.ensures.calls, c.in_ok-write_all.ensures.calls)

pub returns-in_err-fence_all-clause-at_most : goal.returns-in_err-fence_all-clause-at_most
returns-in_err-fence_all-clause-at_most g c = omega (arith, c.fence_all.ensures.at_most, c.in_ok-write_all.ensures.calls)

pub returns-in_err-write_all-clause-at_most : goal.returns-in_err-write_all-clause-at_most
returns-in_err-write_all-clause-at_most g c = omega (arith, c.write_all.ensures.at_most)

pub returns-clause-lengths : goal.returns-clause-lengths
returns-clause-lengths g c t = c.fence_all.ensures.lengths t ∙ c.write_all.ensures.lengths t

pub returns-in_err-fence_all-clause-lengths : goal.returns-in_err-fence_all-clause-lengths
returns-in_err-fence_all-clause-lengths g c t = c.fence_all.ensures.lengths t ∙ c.write_all.ensures.lengths t
