use Rattle.std.proofs.Common.{◌≡◌, ◌≢◌, inl, inr, refl, ap, sym, subst, ◌∙◌, arith}
use Rattle.std.specs.Prelude.{slice_get}
use Rattle.std.proofs.lemmas.Bool.{cases_eq}
use Rattle.std.proofs.lemmas.Option.{get_or_from_slice_get, slice_get_within}
use Rattle.log_survey.specs.update_log.View.{HasSize}
use Rattle.area_recovery.proofs.ChangedRows.{all_from_places}
use Rattle.area_recovery.proofs.size_check.check_sizes.Goals as goal

pub loop-place-preserved : goal.loop-place-preserved
loop-place-preserved g c k m lt at = elim (cases_eq k c.loop-place.place) [
  | inl same ↦
      let is : c.index-media-place.result ≡ m = c.index-media-place.is ∙ get_or_from_slice_get c.args.media.now c.loop-place.place m c.index-media-place.result (ap (slice_get c.args.media.now) (sym same) ∙ at) in
      subst (λ x. HasSize (g.M.Media.seen x)) is (c.if-not-has_region_size.ensures.0 refl)
  | inr off ↦ c.loop-place.invariant k m (let other : k ≢ c.loop-place.place = off in omega (arith, other, lt)) at
]

pub returns-clause-sizes : goal.returns-clause-sizes
returns-clause-sizes g c = record {
  shared = c.if-not-has_area_size.ensures.0 refl;
  regions = all_from_places (λ m. HasSize (g.M.Media.seen m)) c.args.media.now (λ k m at. c.loop-place.invariant k m (omega (arith, slice_get_within c.args.media.now k m at, c.loop-place-test.false)) at);
}
