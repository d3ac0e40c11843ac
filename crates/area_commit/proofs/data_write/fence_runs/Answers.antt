use Rattle.area_commit.proofs.Courses.{loose_start}
use Rattle.area_reader.proofs.batch_journal_lemmas.Courses.{weaker, no_call}
use Rattle.area_commit.proofs.data_write.fence_runs.Goals as goal

pub returns-then-is_empty-clause-loose : goal.returns-then-is_empty-clause-loose
returns-then-is_empty-clause-loose g c s =
    let m = g.M.Media in
    let old = c.args.journal.now in
    loose_start old.geometry s (m.moment old.media) (m.left old.media)

pub returns-then-is_empty-clause-turn : goal.returns-then-is_empty-clause-turn
returns-then-is_empty-clause-turn g c = weaker (no_call c.args.tier (g.M.Media.moment c.args.journal.now.media) (g.M.Media.left c.args.journal.now.media)) (λ x l. tt)

pub returns-clause-turn : goal.returns-clause-turn
returns-clause-turn g c = weaker c.fence.ensures.any_moment (λ x l. tt)
