use Rattle.std.proofs.Common.{◌≡◌, length, sym, subst, ◌∙◌}
use Rattle.tier_device.specs.declared.media.Tier.{Tier}
use Rattle.tier_device.specs.declared.media.Tier.TheVariants.{Fast, Block, Slow}
use Rattle.tier_device.specs.AfterStop.{AtRest}
use Rattle.area_reader.specs.layout.Places.{Sizes}
use Rattle.area_reader.proofs.batch_journal_lemmas.Courses.{on_ok}
use Rattle.area_commit.specs.DataWrite.{AreFreeIn, RestsBut, part_in}
use Rattle.area_commit.proofs.Courses.{loose_next}
use Rattle.area_commit.proofs.Turns.{turn_fast, turn_block, turn_slow}
use Rattle.area_commit.proofs.data_write.write_all.Goals as goal

pub returns-in_err-write_runs-clause-loose : goal.returns-in_err-write_runs-clause-loose
returns-in_err-write_runs-clause-loose g c s fast block slow = c.write_runs.ensures.loose s fast

pub returns-in_err-write_runs-2-clause-loose : goal.returns-in_err-write_runs-2-clause-loose
returns-in_err-write_runs-2-clause-loose g c s fast block slow =
    let m = g.M.Media in
    let old = c.args.journal.now in
    let one = c.write_runs.new.journal in
    let two = c.write_runs-2.new.journal in
    let same = c.write_runs.ensures.went.geometry in
    loose_next one.geometry old.geometry s (m.moment old.media) (m.moment one.media) (m.moment two.media) (m.left old.media) (m.left one.media) (m.left two.media) same
    (c.write_runs.ensures.loose s fast) (c.write_runs-2.ensures.loose s (subst (λ (x : Sizes). AreFreeIn x s Block c.args.block.now) (sym same) block))

pub returns-clause-loose : goal.returns-clause-loose
returns-clause-loose g c s fast block slow =
    let m = g.M.Media in
    let old = c.args.journal.now in
    let one = c.write_runs.new.journal in
    let two = c.write_runs-2.new.journal in
    let new = c.write_runs-3.new.journal in
    let same = c.write_runs.ensures.went.geometry in
    let same_two = c.write_runs-2.ensures.went.geometry ∙ same in
    let so_far = loose_next one.geometry old.geometry s (m.moment old.media) (m.moment one.media) (m.moment two.media) (m.left old.media) (m.left one.media) (m.left two.media) same
    (c.write_runs.ensures.loose s fast) (c.write_runs-2.ensures.loose s (subst (λ (x : Sizes). AreFreeIn x s Block c.args.block.now) (sym same) block)) in
    loose_next two.geometry old.geometry s (m.moment old.media) (m.moment two.media) (m.moment new.media) (m.left old.media) (m.left two.media) (m.left new.media) same_two
    so_far (c.write_runs-3.ensures.loose s (subst (λ (x : Sizes). AreFreeIn x s Slow c.args.slow.now) (sym same_two) slow))

pub returns-clause-keeps_rest : goal.returns-clause-keeps_rest
returns-clause-keeps_rest g c =
    let m = g.M.Media in
    let old = c.args.journal.now in
    let two = c.write_runs-2.new.journal in
    let new = c.write_runs-3.new.journal in
    let runs = part_in c.args.fast.now c.args.block.now c.args.slow.now in
    let at : (u : Tier) → (t : Tier) → length (runs t) ≡ 0 → t ≡ u → length (runs u) ≡ 0 = λ u t none same. subst (λ (v : Tier). length (runs v) ≡ 0) same none in
    on_ok c.write_runs-3.result (λ (last : RestsBut (λ t. t ≡ Slow → length c.args.slow.now ≡ 0) (m.seen two.media) (m.seen new.media) (m.left two.media (m.moment two.media)) (m.left new.media (m.moment new.media))) (t : Tier) (none : length (runs t) ≡ 0) (rest : AtRest (m.seen old.media) (m.left old.media (m.moment old.media)) t).
    last t (at Slow t none) (c.in_ok-write_runs-2.ensures.keeps_rest t (at Block t none) (c.in_ok-write_runs.ensures.keeps_rest t (at Fast t none) rest))) c.write_runs-3.ensures.keeps_rest

pub returns-in_err-write_runs-clause-turn : goal.returns-in_err-write_runs-clause-turn
returns-in_err-write_runs-clause-turn g c =
    let m = g.M.Media in
    let old = c.args.journal.now.media in
    let one = c.write_runs.new.journal.media in
    turn_fast c.args.fast.now c.args.block.now c.args.slow.now (m.moment old) (m.moment one) (m.left old) (m.left one) c.write_runs.ensures.turn c.write_runs.ensures.at_most

pub returns-in_err-write_runs-2-clause-turn : goal.returns-in_err-write_runs-2-clause-turn
returns-in_err-write_runs-2-clause-turn g c =
    let m = g.M.Media in
    let old = c.args.journal.now.media in
    let one = c.write_runs.new.journal.media in
    let two = c.write_runs-2.new.journal.media in
    turn_block c.args.fast.now c.args.block.now c.args.slow.now (m.moment old) (m.moment one) (m.moment two) (m.left old) (m.left one) (m.left two)
    c.write_runs.ensures.turn c.in_ok-write_runs.ensures.calls c.write_runs-2.ensures.turn c.write_runs-2.ensures.at_most

pub returns-clause-turn : goal.returns-clause-turn
returns-clause-turn g c =
    let m = g.M.Media in
    let old = c.args.journal.now.media in
    let one = c.write_runs.new.journal.media in
    let two = c.write_runs-2.new.journal.media in
    let new = c.write_runs-3.new.journal.media in
    turn_slow c.args.fast.now c.args.block.now c.args.slow.now (m.moment old) (m.moment one) (m.moment two) (m.moment new) (m.left old) (m.left one) (m.left two) (m.left new)
    c.write_runs.ensures.turn c.in_ok-write_runs.ensures.calls c.write_runs-2.ensures.turn c.in_ok-write_runs-2.ensures.calls c.write_runs-3.ensures.turn c.write_runs-3.ensures.at_most
