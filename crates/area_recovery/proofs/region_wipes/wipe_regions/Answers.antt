use Rattle.std.proofs.Common.{◌<◌, ◌∙◌, refl, sym, subst, length, arith}
use Rattle.std.proofs.lemmas.List.{length-set}
use Rattle.std.proofs.lemmas.Option.{get_or_from_slice_get, slice_get_within}
use Rattle.std.specs.Prelude.{slice_index, slice_set, ◌/◌, ◌%◌}
use Rattle.area_recovery.specs.Silent.{IsWiped, StaysSilent, wiped_name}
use Rattle.area_recovery.proofs.WipedRegions.{all_silent, stays_silent, wipe_stays}
use Rattle.area_recovery.proofs.SilentRegions.{same_state}
use Rattle.area_recovery.proofs.ChangedRows.{below_more, each_more, rest_more, set_here, there}
use Rattle.area_recovery.proofs.RegionRow.{on_fault, risen_at}
use Rattle.area_recovery.proofs.region_wipes.wipe_regions.Goals as goal

pub loop-place-init : goal.loop-place-init
loop-place-init g c = record {
  long = refl;
  each = λ k v w hv hw.
      subst (λ y. StaysSilent g.M.Media (slice_index c.args.generations.now (k / 2)) v y) (sym (get_or_from_slice_get c.args.regions.now k v v hv) ∙ get_or_from_slice_get c.args.regions.now k w v hw)
      (stays_silent g.M.Media (slice_index c.args.generations.now (k / 2)) 0 v (c.requires.ready k v hv));
  wiped = λ k w lt hw. absurd (omega (arith, lt));
  rest = λ k le. refl;
}

pub wipe_region-requires : goal.wipe_region-requires
wipe_region-requires g c = record {
  ready = c.requires.ready c.loop-place.place _
      (there c.args.regions.now c.loop-place.regions c.loop-place.place c.index-regions-place.result c.index-regions-place.result (omega (arith, c.loop-place-test.true, c.loop-place.invariant.long)) c.loop-place.invariant.rest);
}

pub returns-in_err-wipe_region-clause-each : goal.returns-in_err-wipe_region-clause-each
returns-in_err-wipe_region-clause-each g c =
    let e = c.wipe_region.ensures in
    each_more c.args.regions.now c.loop-place.regions c.loop-place.place c.index-regions-place.result c.wipe_region.new.region (omega (arith, c.loop-place-test.true, c.loop-place.invariant.long)) c.loop-place.invariant.rest (λ k v w. StaysSilent g.M.Media (slice_index c.args.generations.now (k / 2)) v w) c.loop-place.invariant.each
    (wipe_stays g.M.Media g.met.M.Media.seen_now g.met.M.Media.sized _ c.wipe_region.new.region e.past (slice_index c.args.generations.now (c.loop-place.place / 2)) e.any_moment e.faults)

pub returns-in_err-wipe_region-clause-fault : goal.returns-in_err-wipe_region-clause-fault
returns-in_err-wipe_region-clause-fault g c =
    let i = c.loop-place.invariant in
    let new = c.wipe_region.new.region in
    let within : c.loop-place.place < length c.loop-place.regions = omega (arith, c.loop-place-test.true, i.long) in
    on_fault c.from_residual.result
    (risen_at g.M.Media c.args.regions.now (slice_set c.loop-place.regions c.loop-place.place new) c.loop-place.place _ new
    (there c.args.regions.now c.loop-place.regions c.loop-place.place c.index-regions-place.result new within i.rest)
    (set_here c.loop-place.regions c.loop-place.place new within) c.in_err-wipe_region.ensures.fault)

pub returns-in_err-wipe_region-clause-any_moment : goal.returns-in_err-wipe_region-clause-any_moment
returns-in_err-wipe_region-clause-any_moment g c =
    all_silent g.M.Media c.args.generations.now c.args.regions.now (slice_set c.loop-place.regions c.loop-place.place c.wipe_region.new.region) c.requires.all
    (length-set c.loop-place.regions c.loop-place.place c.wipe_region.new.region ∙ c.loop-place.invariant.long ∙ c.requires.all) (returns-in_err-wipe_region-clause-each g c)

pub loop-place-preserved : goal.loop-place-preserved
loop-place-preserved g c =
    let e = c.wipe_region.ensures in
    let i = c.loop-place.invariant in
    record {
      long = length-set c.loop-place.regions c.loop-place.place c.wipe_region.new.region ∙ i.long;
      each = each_more c.args.regions.now c.loop-place.regions c.loop-place.place c.index-regions-place.result c.wipe_region.new.region (omega (arith, c.loop-place-test.true, i.long)) i.rest (λ k v w. StaysSilent g.M.Media (slice_index c.args.generations.now (k / 2)) v w) i.each
          (wipe_stays g.M.Media g.met.M.Media.seen_now g.met.M.Media.sized _ c.wipe_region.new.region e.past (slice_index c.args.generations.now (c.loop-place.place / 2)) e.any_moment e.faults);
      wiped = below_more c.args.regions.now c.loop-place.regions c.loop-place.place c.index-regions-place.result c.wipe_region.new.region (omega (arith, c.loop-place-test.true, i.long)) i.rest (λ k w. IsWiped g.M.Media (wiped_name (slice_index c.args.generations.now (k / 2)) (k % 2)) w) i.wiped
          (subst (λ n. IsWiped g.M.Media n c.wipe_region.new.region) c.wiped_generation.ensures c.in_ok-wipe_region.ensures.wiped);
      rest = rest_more c.args.regions.now c.loop-place.regions c.loop-place.place c.index-regions-place.result c.wipe_region.new.region (omega (arith, c.loop-place-test.true, i.long)) i.rest;
    }

pub returns-clause-any_moment : goal.returns-clause-any_moment
returns-clause-any_moment g c = all_silent g.M.Media c.args.generations.now c.args.regions.now c.loop-place.regions c.requires.all (c.loop-place.invariant.long ∙ c.requires.all) c.loop-place.invariant.each

pub returns-clause-wiped : goal.returns-clause-wiped
returns-clause-wiped g c = λ k w hw. c.loop-place.invariant.wiped k w (omega (arith, slice_get_within c.loop-place.regions k w hw, c.loop-place-test.false, c.loop-place.invariant.long)) hw

pub returns-clause-recovers : goal.returns-clause-recovers
returns-clause-recovers g c = λ sizes state shared others left marked silent r is. same_state c.args.generations.now shared marked sizes state others left silent (returns-clause-any_moment g c left is) r

pub returns-in_err-wipe_region-clause-recovers : goal.returns-in_err-wipe_region-clause-recovers
returns-in_err-wipe_region-clause-recovers g c = λ sizes state shared others left marked silent r is.
    same_state c.args.generations.now shared marked sizes state others left silent (returns-in_err-wipe_region-clause-any_moment g c left is) r
