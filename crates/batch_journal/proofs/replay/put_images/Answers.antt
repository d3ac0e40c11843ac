use Rattle.std.proofs.Common.{◌∙◌, refl, arith}
use Rattle.std.proofs.lemmas.Result.{err_from_is_err_and}
use Rattle.tier_device.specs.declared.media.Tier.TheVariants.{Fast}
use Rattle.batch_journal.specs.Images.{images_of}
use Rattle.batch_journal.proofs.Images.{doing_first, doing_fits, doing_more, doing_done, beside_same}
use Rattle.batch_journal.proofs.Courses.{one_torn, rose_later, weaker, no_call}
use Rattle.batch_journal.proofs.replay.put_images.Goals as goal

pub put_image-requires-clause-fits : goal.put_image-requires-clause-fits
put_image-requires-clause-fits g c =
    let m = g.M.Media in
    (doing_fits c.args.bytes.now (m.seen c.args.media.now Fast) (m.seen c.images.media Fast) c.images.place c.args.count c.images-test.true c.images.invariant.doing).1

pub returns-in_err-put_image-clause-course : goal.returns-in_err-put_image-clause-course
returns-in_err-put_image-clause-course g c =
    let m = g.M.Media in
    let at_home = (doing_fits c.args.bytes.now (m.seen c.args.media.now Fast) (m.seen c.images.media Fast) c.images.place c.args.count c.images-test.true c.images.invariant.doing).0 in
    one_torn c.args.bytes.now c.images.place c.args.count (m.moment c.args.media.now) (m.moment c.images.media) (m.moment c.put_image.new.media)
    (m.left c.args.media.now) (m.left c.images.media) (m.left c.put_image.new.media) c.images-test.true c.requires.count at_home c.images.invariant.course c.put_image.ensures.course

pub returns-in_err-put_image-clause-cause : goal.returns-in_err-put_image-clause-cause
returns-in_err-put_image-clause-cause g c =
    let m = g.M.Media in
    let p = err_from_is_err_and c.from_residual.result c.from_residual.ensures.1 in
    rw p.1 (rose_later (m.faults c.args.media.now) (m.faults c.images.media) (m.faults c.put_image.new.media) c.images.invariant.faults c.put_image.ensures.faults c.in_err-put_image.ensures.cause)

pub images-preserved : goal.images-preserved
images-preserved g c =
    let m = g.M.Media in
    let first = m.seen c.args.media.now Fast in
    let seen = m.seen c.images.media Fast in
    let new = m.seen c.put_image.new.media Fast in
    let at_home = (doing_fits c.args.bytes.now first seen c.images.place c.args.count c.images-test.true c.images.invariant.doing).0 in
    record {
      within = omega (arith, c.images-test.true);
      doing = doing_more c.args.bytes.now first seen new c.images.place c.args.count c.images-test.true c.requires.count c.requires.long c.images.invariant.doing c.in_ok-put_image.ensures.written;
      course = one_torn c.args.bytes.now c.images.place c.args.count (m.moment c.args.media.now) (m.moment c.images.media) (m.moment c.put_image.new.media)
          (m.left c.args.media.now) (m.left c.images.media) (m.left c.put_image.new.media) c.images-test.true c.requires.count at_home c.images.invariant.course c.put_image.ensures.course;
      others = λ t other. c.in_ok-put_image.ensures.others t other ∙ c.images.invariant.others t other;
      lengths = λ t. c.put_image.ensures.lengths t ∙ c.images.invariant.lengths t;
      calls = omega (arith, c.in_ok-put_image.ensures.one_call, c.images.invariant.calls);
      faults = omega (arith, c.put_image.ensures.faults, c.images.invariant.faults);
      quiet = omega (arith, c.in_ok-put_image.ensures.quiet, c.images.invariant.quiet);
    }

pub returns-clause-put : goal.returns-clause-put
returns-clause-put g c =
    let m = g.M.Media in
    doing_done c.args.bytes.now (m.seen c.args.media.now Fast) (m.seen c.images.media Fast) c.images.place c.args.count c.images-test.false c.images.invariant.doing

pub images-init : goal.images-init
images-init g c =
    let m = g.M.Media in
    let first = m.seen c.args.media.now Fast in
    record {
      within = omega arith;
      doing = doing_first c.args.bytes.now first c.args.count c.requires.count c.requires.fit;
      course = weaker (no_call Fast (m.moment c.args.media.now) (m.left c.args.media.now)) (λ x l. (x, l, beside_same (images_of c.args.bytes.now) x));
      others = λ t other. refl;
      lengths = λ t. refl;
      calls = omega arith;
      faults = omega arith;
      quiet = refl;
    }
