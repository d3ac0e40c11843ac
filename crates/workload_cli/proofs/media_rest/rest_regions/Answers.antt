use Rattle.std.proofs.Common.{◌≡◌, ◌+◌, ◌/◌, ◌<◌, ◌∙◌, Some, length, refl, subst, arith}
use Rattle.std.specs.Prelude.{get_or, slice_get}
use Rattle.std.proofs.lemmas.List.{length-set}
use Rattle.std.proofs.lemmas.Option.{slice_get_within}
use Rattle.world_files.proofs.area_recovery_lemmas.ChangedRows.{below_more, each_more, rest_more, there}
use Rattle.world_files.proofs.area_recovery_lemmas.SettlementPhases.{passed_on}
use Rattle.workload_cli.specs.Rests.{LeavesNoMore}
use Rattle.workload_cli.specs.Fills.{IsRestBy, fill_for}
use Rattle.workload_cli.proofs.RestingMedia.{no_more_of_rest, same_item}
use Rattle.workload_cli.proofs.media_rest.rest_regions.Goals as goal

pub loop-place-init : goal.loop-place-init
loop-place-init g c = record {
  long = refl;
  each = λ k v w is_v is_w. subst (LeavesNoMore g.M.Media v) (same_item c.args.regions.now k v w is_v is_w) (λ t d left. left);
  done = λ k w lt is_w v is_v. absurd (omega (arith, lt));
  counted = λ k w lt. absurd (omega (arith, lt));
  rest = λ k le. refl;
}

pub returns-in_err-rest_medium-clause-refused : goal.returns-in_err-rest_medium-clause-refused
returns-in_err-rest_medium-clause-refused g c =
    let i = c.loop-place.invariant in
    passed_on c.from_residual.result _ _ c.from_residual.ensures.1
    (each_more c.args.regions.now c.loop-place.regions c.loop-place.place c.index-regions-place.result c.rest_medium.new.self (omega (arith, c.loop-place-test.true, i.long)) i.rest
    (λ k. LeavesNoMore g.M.Media) i.each c.in_err-rest_medium.ensures.refused)

pub loop-place-preserved : goal.loop-place-preserved
loop-place-preserved g c =
    let m = g.M.Media in
    let i = c.loop-place.invariant in
    let within : c.loop-place.place < length c.loop-place.regions = omega (arith, c.loop-place-test.true, i.long) in
    record {
      long = length-set c.loop-place.regions c.loop-place.place c.rest_medium.new.self ∙ i.long;
      each = each_more c.args.regions.now c.loop-place.regions c.loop-place.place c.index-regions-place.result c.rest_medium.new.self within i.rest (λ k. LeavesNoMore m) i.each (no_more_of_rest m _ _ c.in_ok-rest_medium.ensures.rest);
      done = below_more c.args.regions.now c.loop-place.regions c.loop-place.place c.index-regions-place.result c.rest_medium.new.self within i.rest (λ k w. (v : _) → slice_get c.args.regions.now k ≡ Some v → IsRestBy m g.M.Resting.holds (fill_for c.args.fills.now (k / 2 + 1)) v w) i.done
          (λ v is_v. subst (λ x. IsRestBy m g.M.Resting.holds (fill_for c.args.fills.now (c.loop-place.place / 2 + 1)) x c.rest_medium.new.self) (same_item c.args.regions.now c.loop-place.place _ v (there c.args.regions.now c.loop-place.regions c.loop-place.place c.index-regions-place.result c.rest_medium.new.self within i.rest) is_v) (record { rest = c.in_ok-rest_medium.ensures.rest; held = subst (λ f. g.M.Resting.holds f (get_or c.loop-place.regions c.loop-place.place c.index-regions-place.result) c.rest_medium.new.self) c.fill_for.ensures c.in_ok-rest_medium.ensures.held }));
      counted = below_more c.args.regions.now c.loop-place.regions c.loop-place.place c.index-regions-place.result c.rest_medium.new.self within i.rest (λ k w. g.M.Resting.counts c.args.trips.now (k / 2 + 1) w) i.counted c.in_ok-rest_medium.ensures.counted;
      rest = rest_more c.args.regions.now c.loop-place.regions c.loop-place.place c.index-regions-place.result c.rest_medium.new.self within i.rest;
    }

pub returns-clause-rest : goal.returns-clause-rest
returns-clause-rest g c k v w is_v is_w = c.loop-place.invariant.done k w (omega (arith, slice_get_within c.loop-place.regions k w is_w, c.loop-place-test.false, c.loop-place.invariant.long)) is_w v is_v

pub returns-clause-counted : goal.returns-clause-counted
returns-clause-counted g c k w is_w = c.loop-place.invariant.counted k w (omega (arith, slice_get_within c.loop-place.regions k w is_w, c.loop-place-test.false, c.loop-place.invariant.long)) is_w
