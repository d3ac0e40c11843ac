use Rattle.std.proofs.Common.{◌<◌, length, ◌∙◌}
use Rattle.tier_device.specs.declared.media.Tier.{Tier}
use Rattle.tier_device.specs.declared.media.Tier.TheVariants.{Fast, Block}
use Rattle.tier_device.specs.AfterStop.{AtRest}
use Rattle.area_reader.proofs.batch_journal_lemmas.Courses.{on_ok}
use Rattle.area_commit.specs.DataWrite.{KeepsRest}
use Rattle.area_commit.proofs.Courses.{loose_next}
use Rattle.area_commit.proofs.Turns.{fences_fast, fences_block, fences_slow}
use Rattle.area_commit.proofs.data_write.fence_all.Goals as goal

pub returns-in_err-fence_runs-2-clause-loose : goal.returns-in_err-fence_runs-2-clause-loose
returns-in_err-fence_runs-2-clause-loose g c s =
    let m = g.M.Media in
    let old = c.args.journal.now in
    let one = c.fence_runs.new.journal in
    let two = c.fence_runs-2.new.journal in
    loose_next one.geometry old.geometry s (m.moment old.media) (m.moment one.media) (m.moment two.media) (m.left old.media) (m.left one.media) (m.left two.media) c.fence_runs.ensures.went.geometry
    (c.fence_runs.ensures.loose s) (c.fence_runs-2.ensures.loose s)

pub returns-clause-loose : goal.returns-clause-loose
returns-clause-loose g c s =
    let m = g.M.Media in
    let old = c.args.journal.now in
    let one = c.fence_runs.new.journal in
    let two = c.fence_runs-2.new.journal in
    let new = c.fence_runs-3.new.journal in
    let same = c.fence_runs.ensures.went.geometry in
    let so_far = loose_next one.geometry old.geometry s (m.moment old.media) (m.moment one.media) (m.moment two.media) (m.left old.media) (m.left one.media) (m.left two.media) same (c.fence_runs.ensures.loose s) (c.fence_runs-2.ensures.loose s) in
    loose_next two.geometry old.geometry s (m.moment old.media) (m.moment two.media) (m.moment new.media) (m.left old.media) (m.left two.media) (m.left new.media) (c.fence_runs-2.ensures.went.geometry ∙ same) so_far (c.fence_runs-3.ensures.loose s)

pub returns-clause-fast : goal.returns-clause-fast
returns-clause-fast g c =
    let m = g.M.Media in
    let two = c.fence_runs-2.new.journal.media in
    let new = c.fence_runs-3.new.journal.media in
    on_ok c.fence_runs-3.result (λ (keeps : KeepsRest (m.seen two) (m.seen new) (m.left two (m.moment two)) (m.left new (m.moment new))) (some : 0 < length c.args.fast.now).
    keeps Fast (c.in_ok-fence_runs-2.ensures.keeps_rest Fast (c.in_ok-fence_runs.ensures.rests some))) c.fence_runs-3.ensures.keeps_rest

pub returns-clause-block : goal.returns-clause-block
returns-clause-block g c =
    let m = g.M.Media in
    let two = c.fence_runs-2.new.journal.media in
    let new = c.fence_runs-3.new.journal.media in
    on_ok c.fence_runs-3.result (λ (keeps : KeepsRest (m.seen two) (m.seen new) (m.left two (m.moment two)) (m.left new (m.moment new))) (some : 0 < length c.args.block.now).
    keeps Block (c.in_ok-fence_runs-2.ensures.rests some)) c.fence_runs-3.ensures.keeps_rest

pub returns-clause-keeps_rest : goal.returns-clause-keeps_rest
returns-clause-keeps_rest g c =
    let m = g.M.Media in
    let old = c.args.journal.now.media in
    let two = c.fence_runs-2.new.journal.media in
    let new = c.fence_runs-3.new.journal.media in
    on_ok c.fence_runs-3.result (λ (keeps : KeepsRest (m.seen two) (m.seen new) (m.left two (m.moment two)) (m.left new (m.moment new))) (t : Tier) (rest : AtRest (m.seen old) (m.left old (m.moment old)) t).
    keeps t (c.in_ok-fence_runs-2.ensures.keeps_rest t (c.in_ok-fence_runs.ensures.keeps_rest t rest))) c.fence_runs-3.ensures.keeps_rest

pub returns-in_err-fence_runs-clause-turn : goal.returns-in_err-fence_runs-clause-turn
returns-in_err-fence_runs-clause-turn g c =
    let m = g.M.Media in
    let old = c.args.journal.now.media in
    let one = c.fence_runs.new.journal.media in
    fences_fast c.args.fast.now c.args.block.now (m.moment old) (m.moment one) (m.left old) (m.left one) c.fence_runs.ensures.turn c.fence_runs.ensures.at_most

pub returns-in_err-fence_runs-2-clause-turn : goal.returns-in_err-fence_runs-2-clause-turn
returns-in_err-fence_runs-2-clause-turn g c =
    let m = g.M.Media in
    let old = c.args.journal.now.media in
    let one = c.fence_runs.new.journal.media in
    let two = c.fence_runs-2.new.journal.media in
    fences_block c.args.fast.now c.args.block.now (m.moment old) (m.moment one) (m.moment two) (m.left old) (m.left one) (m.left two) (m.seen one)
    c.fence_runs.ensures.turn c.in_ok-fence_runs.ensures.calls c.in_ok-fence_runs.ensures.rests c.fence_runs-2.ensures.turn c.fence_runs-2.ensures.at_most

pub returns-clause-turn : goal.returns-clause-turn
returns-clause-turn g c =
    let m = g.M.Media in
    let old = c.args.journal.now.media in
    let one = c.fence_runs.new.journal.media in
    let two = c.fence_runs-2.new.journal.media in
    let new = c.fence_runs-3.new.journal.media in
    fences_slow c.args.fast.now c.args.block.now (m.moment old) (m.moment one) (m.moment two) (m.moment new) (m.left old) (m.left one) (m.left two) (m.left new) (m.seen one) (m.seen two)
    c.fence_runs.ensures.turn c.in_ok-fence_runs.ensures.calls c.in_ok-fence_runs.ensures.rests c.fence_runs-2.ensures.turn c.in_ok-fence_runs-2.ensures.calls c.in_ok-fence_runs-2.ensures.rests c.fence_runs-3.ensures.turn
