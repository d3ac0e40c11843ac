use Rattle.std.proofs.Common.{◌+◌, ◌≤◌, inl, ℕ, List, length, ◌∙◌, subst, arith}
use Rattle.tier_device.specs.declared.media.Tier.TheVariants.{Fast}
use Rattle.tier_device.specs.Media.{Torn}
use Rattle.batch_journal.proofs.Courses.{and_then, weaker, rose_later, on_ok, on_err}
use Rattle.batch_journal.proofs.Meaning.{staging_alike}
use Rattle.batch_journal.proofs.Stages.{staged_by, opened_by, opening_by}
use Rattle.batch_journal.proofs.replay.open_batch.Goals as goal

pub returns-in_err-keep-clause-course : goal.returns-in_err-keep-clause-course
returns-in_err-keep-clause-course g c =
    let n = length c.args.bytes.now in
    let high : 143360 + n ≤ 1196032 = omega (arith, c.requires.few, c.requires.long) in
    weaker c.keep.ensures.course (λ x from. inl (from.0, from.1, staging_alike n from.0 x high (c.requires.closed from.0 from.1) from.2))

pub returns-clause-course : goal.returns-clause-course
returns-clause-course g c =
    let m = g.M.Media in
    let law = g.met.M.Media in
    let bytes = c.args.bytes.now in
    let seen = m.seen c.args.media.now Fast in
    let seen1 = m.seen c.keep.new.media Fast in
    let n = length bytes in
    let high : 143360 + n ≤ 1196032 = omega (arith, c.requires.few, c.requires.long) in
    let now = law.seen_now c.args.media.now Fast in
    let left : List ℕ → Type 0 = λ x. m.left c.args.media.now (m.moment c.args.media.now) Fast x in
    let st = staged_by bytes seen seen1 c.requires.few c.requires.long c.requires.size (c.requires.closed seen now) c.in_ok-keep.ensures.written in
    and_then c.keep.ensures.course c.keep-2.ensures.course
    (λ x from. inl (from.0, from.1, staging_alike n from.0 x high (c.requires.closed from.0 from.1) from.2))
    (λ x from. opening_by left bytes seen seen1 x now st (subst (λ (e : List ℕ). Torn 139264 1 e x) (c.in_ok-keep.ensures.rest from.0 from.1) from.2))

pub returns-clause-opened : goal.returns-clause-opened
returns-clause-opened g c =
    let m = g.M.Media in
    let seen = m.seen c.args.media.now Fast in
    let st = staged_by c.args.bytes.now seen (m.seen c.keep.new.media Fast) c.requires.few c.requires.long c.requires.size (c.requires.closed seen (g.met.M.Media.seen_now c.args.media.now Fast)) c.in_ok-keep.ensures.written in
    on_ok c.keep-2.result (λ is. (opened_by c.args.bytes.now seen (m.seen c.keep.new.media Fast) (m.seen c.keep-2.new.media Fast) st is).0) c.keep-2.ensures.written

pub returns-clause-staged : goal.returns-clause-staged
returns-clause-staged g c =
    let m = g.M.Media in
    let seen = m.seen c.args.media.now Fast in
    let st = staged_by c.args.bytes.now seen (m.seen c.keep.new.media Fast) c.requires.few c.requires.long c.requires.size (c.requires.closed seen (g.met.M.Media.seen_now c.args.media.now Fast)) c.in_ok-keep.ensures.written in
    on_ok c.keep-2.result (λ is. (opened_by c.args.bytes.now seen (m.seen c.keep.new.media Fast) (m.seen c.keep-2.new.media Fast) st is).2) c.keep-2.ensures.written

pub returns-clause-after : goal.returns-clause-after
returns-clause-after g c =
    let m = g.M.Media in
    let seen = m.seen c.args.media.now Fast in
    let st = staged_by c.args.bytes.now seen (m.seen c.keep.new.media Fast) c.requires.few c.requires.long c.requires.size (c.requires.closed seen (g.met.M.Media.seen_now c.args.media.now Fast)) c.in_ok-keep.ensures.written in
    on_ok c.keep-2.result (λ is. (opened_by c.args.bytes.now seen (m.seen c.keep.new.media Fast) (m.seen c.keep-2.new.media Fast) st is).1) c.keep-2.ensures.written

pub returns-clause-others : goal.returns-clause-others
returns-clause-others g c = on_ok c.keep-2.result (λ more t other. more t other ∙ c.in_ok-keep.ensures.others t other) c.keep-2.ensures.others

pub returns-clause-lengths : goal.returns-clause-lengths
returns-clause-lengths g c t = c.keep-2.ensures.lengths t ∙ c.keep.ensures.lengths t

pub returns-clause-calls : goal.returns-clause-calls
returns-clause-calls g c = on_ok c.keep-2.result (λ more. omega (arith, more, c.in_ok-keep.ensures.two_calls)) c.keep-2.ensures.two_calls

pub returns-clause-cause : goal.returns-clause-cause
returns-clause-cause g c =
    let m = g.M.Media in
    on_err c.keep-2.result (λ rose. rose_later (m.faults c.args.media.now) (m.faults c.keep.new.media) (m.faults c.keep-2.new.media) c.keep.ensures.faults c.keep-2.ensures.faults rose) c.keep-2.ensures.cause

pub returns-clause-quiet : goal.returns-clause-quiet
returns-clause-quiet g c = on_ok c.keep-2.result (λ more. more ∙ c.in_ok-keep.ensures.quiet) c.keep-2.ensures.quiet
