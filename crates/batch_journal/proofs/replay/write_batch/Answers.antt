use Rattle.std.proofs.Common.{inr, ℕ, sym, ◌∙◌, subst, arith}
use Rattle.std.proofs.lemmas.Result.{err_from_is_err_and}
use Rattle.tier_device.specs.declared.media.Tier.TheVariants.{Fast}
use Rattle.batch_journal.specs.Images.{images_of}
use Rattle.batch_journal.specs.Blocks.{Fit}
use Rattle.batch_journal.proofs.Courses.{and_then, rose_later, on_ok, on_err}
use Rattle.batch_journal.proofs.Meaning.{after_on}
use Rattle.batch_journal.proofs.replay.write_batch.Goals as goal

pub returns-clause-course : goal.returns-clause-course
returns-clause-course g c =
    let m = g.M.Media in
    and_then c.open_batch.ensures.course c.replay.ensures.course (λ x is. is)
    (λ x same. inr (after_on c.args.bytes.now (m.seen c.args.media.now Fast) (m.seen c.open_batch.new.media Fast) x c.in_ok-open_batch.ensures.after same))

pub returns-clause-after : goal.returns-clause-after
returns-clause-after g c =
    let m = g.M.Media in
    let course = c.replay.ensures.course in
    let last = course.all (m.moment c.replay.new.media) (m.seen c.replay.new.media Fast) course.later (omega arith) (g.met.M.Media.seen_now c.replay.new.media Fast) in
    let after = after_on c.args.bytes.now (m.seen c.args.media.now Fast) (m.seen c.open_batch.new.media Fast) (m.seen c.replay.new.media Fast) c.in_ok-open_batch.ensures.after last in
    on_ok c.replay.result (λ more. after) c.replay.ensures.closed

pub replay-requires-clause-fit : goal.replay-requires-clause-fit
replay-requires-clause-fit g c =
    subst (λ (n : ℕ). Fit n (images_of c.args.bytes.now)) (sym (c.open_batch.ensures.lengths Fast)) c.requires.fit

pub replay-requires-clause-size : goal.replay-requires-clause-size
replay-requires-clause-size g c = omega (arith, c.requires.size, c.open_batch.ensures.lengths Fast)

pub returns-clause-others : goal.returns-clause-others
returns-clause-others g c = on_ok c.replay.result (λ more t other. more t other ∙ c.in_ok-open_batch.ensures.others t other) c.replay.ensures.others

pub returns-clause-lengths : goal.returns-clause-lengths
returns-clause-lengths g c t = c.replay.ensures.lengths t ∙ c.open_batch.ensures.lengths t

pub returns-clause-calls : goal.returns-clause-calls
returns-clause-calls g c = on_ok c.replay.result (λ more. omega (arith, more, c.in_ok-open_batch.ensures.calls)) c.replay.ensures.calls

pub returns-clause-cause : goal.returns-clause-cause
returns-clause-cause g c =
    let m = g.M.Media in
    on_err c.replay.result (λ rose. rose_later (m.faults c.args.media.now) (m.faults c.open_batch.new.media) (m.faults c.replay.new.media) c.open_batch.ensures.faults c.replay.ensures.faults rose) c.replay.ensures.cause

pub returns-in_err-open_batch-clause-cause : goal.returns-in_err-open_batch-clause-cause
returns-in_err-open_batch-clause-cause g c =
    let p = err_from_is_err_and c.from_residual.result c.from_residual.ensures.1 in
    rw p.1 c.in_err-open_batch.ensures.cause

pub returns-clause-quiet : goal.returns-clause-quiet
returns-clause-quiet g c = on_ok c.replay.result (λ more. more ∙ c.in_ok-open_batch.ensures.quiet) c.replay.ensures.quiet
