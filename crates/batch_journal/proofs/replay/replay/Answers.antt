use Rattle.std.proofs.Common.{◌≤◌, ℕ, List, length, ◌∙◌, subst, arith}
use Rattle.tier_device.specs.declared.media.Tier.TheVariants.{Fast}
use Rattle.tier_device.specs.Media.{Torn}
use Rattle.batch_journal.specs.Images.{images_of}
use Rattle.batch_journal.specs.Course.{Beside}
use Rattle.batch_journal.proofs.Courses.{and_then, weaker, rose_later, on_ok, on_err}
use Rattle.batch_journal.proofs.Meaning.{beside_alike, closing_alike}
use Rattle.batch_journal.proofs.Stages.{gate_now, gate_byte}
use Rattle.batch_journal.proofs.replay.replay.Goals as goal

pub returns-clause-course : goal.returns-clause-course
returns-clause-course g c =
    let m = g.M.Media in
    let images = images_of c.args.bytes.now in
    let seen = m.seen c.args.media.now Fast in
    let seen2 = m.seen c.put_images_kept.new.media Fast in
    and_then c.put_images_kept.ensures.course c.keep.ensures.course
    (λ x from. beside_alike images seen x c.requires.opened c.requires.staged (subst (λ (e : List ℕ). Beside images e x) (c.requires.rest from.0 from.1) from.2))
    (λ x from. closing_alike images seen seen2 x c.requires.opened c.requires.staged c.in_ok-put_images_kept.ensures.put (subst (λ (e : List ℕ). Torn 139264 1 e x) (c.in_ok-put_images_kept.ensures.rest from.0 from.1) from.2))

pub returns-in_err-put_images_kept-clause-course : goal.returns-in_err-put_images_kept-clause-course
returns-in_err-put_images_kept-clause-course g c =
    let m = g.M.Media in
    let images = images_of c.args.bytes.now in
    let seen = m.seen c.args.media.now Fast in
    weaker c.put_images_kept.ensures.course
    (λ x from. beside_alike images seen x c.requires.opened c.requires.staged (subst (λ (e : List ℕ). Beside images e x) (c.requires.rest from.0 from.1) from.2))

pub returns-clause-closed : goal.returns-clause-closed
returns-clause-closed g c =
    let m = g.M.Media in
    let seen2 = m.seen c.put_images_kept.new.media Fast in
    let le : 139265 ≤ length seen2 = omega (arith, c.requires.size, c.put_images_kept.ensures.lengths Fast) in
    on_ok c.keep.result (gate_now 0 seen2 (m.seen c.keep.new.media Fast) le) c.keep.ensures.written

pub returns-clause-others : goal.returns-clause-others
returns-clause-others g c = on_ok c.keep.result (λ more t other. more t other ∙ c.in_ok-put_images_kept.ensures.others t other) c.keep.ensures.others

pub returns-clause-lengths : goal.returns-clause-lengths
returns-clause-lengths g c t = c.keep.ensures.lengths t ∙ c.put_images_kept.ensures.lengths t

pub returns-clause-calls : goal.returns-clause-calls
returns-clause-calls g c = on_ok c.keep.result (λ more. omega (arith, more, c.in_ok-put_images_kept.ensures.calls)) c.keep.ensures.two_calls

pub returns-clause-cause : goal.returns-clause-cause
returns-clause-cause g c =
    let m = g.M.Media in
    on_err c.keep.result (λ rose. rose_later (m.faults c.args.media.now) (m.faults c.put_images_kept.new.media) (m.faults c.keep.new.media) c.put_images_kept.ensures.faults c.keep.ensures.faults rose) c.keep.ensures.cause

pub keep-requires : goal.keep-requires
keep-requires g c = omega (arith, c.requires.size, c.put_images_kept.ensures.lengths Fast)

pub returns-clause-quiet : goal.returns-clause-quiet
returns-clause-quiet g c = on_ok c.keep.result (λ more. more ∙ c.in_ok-put_images_kept.ensures.quiet) c.keep.ensures.quiet

pub returns-clause-gate_byte : goal.returns-clause-gate_byte
returns-clause-gate_byte g c =
    let m = g.M.Media in
    let seen2 = m.seen c.put_images_kept.new.media Fast in
    let le : 139265 ≤ length seen2 = omega (arith, c.requires.size, c.put_images_kept.ensures.lengths Fast) in
    on_ok c.keep.result (gate_byte 0 seen2 (m.seen c.keep.new.media Fast) le) c.keep.ensures.written
