use Rattle.std.proofs.Common.{sym, ◌∙◌, arith}
use Rattle.std.proofs.lemmas.Bool.{false≢true}
use Rattle.batch_journal.specs.Images.{images_of}
use Rattle.batch_journal.specs.Blocks.{RisesJournaled}
use Rattle.batch_journal.proofs.Images.{rising_stops, rising_goes}
use Rattle.batch_journal.proofs.head.is_rising.Goals as goal

pub returns-then-not-may_follow : goal.returns-then-not-may_follow
returns-then-not-may_follow c =
    let stops = rising_stops c.args.bytes.now c.args.geometry.now c.places.low c.places.place c.args.count c.number_in-number.result c.places-test.true c.number_in-number.ensures
    (RisesJournaled c.args.geometry.now 0 (images_of c.args.bytes.now)) c.places.invariant.same (λ has. false≢true (sym c.if-not-may_follow.true ∙ c.may_follow.ensures.1 has)) in
    (λ no. absurd (false≢true no), λ whole. absurd (stops whole))

pub places-preserved : goal.places-preserved
places-preserved c = record {
  within = omega (arith, c.places-test.true);
  same = rising_goes c.args.bytes.now c.args.geometry.now c.places.low c.places.place c.args.count c.number_in-number.result c.places-test.true c.number_in-number.ensures
      (RisesJournaled c.args.geometry.now 0 (images_of c.args.bytes.now)) c.places.invariant.same (c.may_follow.ensures.0 c.if-not-may_follow.false);
}
