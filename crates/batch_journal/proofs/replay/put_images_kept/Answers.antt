use Rattle.std.proofs.Common.{ℕ, List, sym, ◌∙◌, subst, arith}
use Rattle.tier_device.specs.declared.media.Tier.TheVariants.{Fast}
use Rattle.batch_journal.specs.Images.{images_of}
use Rattle.batch_journal.specs.Course.{IsPut}
use Rattle.batch_journal.proofs.Courses.{and_then, rose_later, on_ok, on_err}
use Rattle.batch_journal.proofs.replay.put_images_kept.Goals as goal

pub returns-clause-course : goal.returns-clause-course
returns-clause-course g c =
    let m = g.M.Media in
    let first = c.put_images.ensures.course in
    and_then first c.settle.ensures.course (λ x l. l) (λ x l. first.all (m.moment c.put_images.new.media) x first.later (omega arith) l)

pub returns-clause-put : goal.returns-clause-put
returns-clause-put g c =
    let m = g.M.Media in
    on_ok c.settle.result (λ same. subst (λ (s : List ℕ). IsPut (images_of c.args.bytes.now) (m.seen c.args.media.now Fast) s) (sym (same Fast)) c.in_ok-put_images.ensures.put) c.settle.ensures.seen

pub returns-clause-others : goal.returns-clause-others
returns-clause-others g c = on_ok c.settle.result (λ more t other. more t ∙ c.in_ok-put_images.ensures.others t other) c.settle.ensures.seen

pub returns-clause-calls : goal.returns-clause-calls
returns-clause-calls g c = on_ok c.settle.result (λ more. omega (arith, more, c.in_ok-put_images.ensures.calls)) c.settle.ensures.one_call

pub returns-clause-cause : goal.returns-clause-cause
returns-clause-cause g c =
    let m = g.M.Media in
    on_err c.settle.result (λ rose. rose_later (m.faults c.args.media.now) (m.faults c.put_images.new.media) (m.faults c.settle.new.media) c.put_images.ensures.faults c.settle.ensures.faults rose) c.settle.ensures.cause

pub returns-clause-lengths : goal.returns-clause-lengths
returns-clause-lengths g c t = c.settle.ensures.lengths t ∙ c.put_images.ensures.lengths t

pub returns-clause-quiet : goal.returns-clause-quiet
returns-clause-quiet g c = on_ok c.settle.result (λ more. more ∙ c.in_ok-put_images.ensures.quiet) c.settle.ensures.quiet
