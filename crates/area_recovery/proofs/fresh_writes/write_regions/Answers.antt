use Rattle.std.proofs.Common.{◌<◌, ◌%◌, ◌∙◌, length, arith}
use Rattle.std.proofs.lemmas.List.{length-set}
use Rattle.std.proofs.lemmas.Option.{slice_get_within}
use Rattle.std.proofs.lemmas.Result.{err_from_is_err_and}
use Rattle.recovery_laws.specs.Fresh.{fresh_region}
use Rattle.tier_device.specs.Media.{Rose}
use Rattle.area_recovery.specs.FreshContents.{HoldsContent, IsLater}
use Rattle.area_recovery.specs.Recovers.{region_content}
use Rattle.area_recovery.proofs.ChangedRows.{below_more, each_more, put, rest_more, some_at_place, there}
use Rattle.area_recovery.proofs.fresh_writes.write_regions.Goals as goal

pub returns-in_err-write_region-clause-each_later : goal.returns-in_err-write_region-clause-each_later
returns-in_err-write_region-clause-each_later g c =
    let i = c.loop-place.invariant in
    each_more c.args.media.now c.loop-place.media c.loop-place.place c.index-media-place.result c.write_region.new.medium (omega (arith, c.loop-place-test.true, i.long)) i.rest
    (λ k. IsLater g.M.Media) i.each c.write_region.ensures.later

pub returns-in_err-write_region-clause-fault : goal.returns-in_err-write_region-clause-fault
returns-in_err-write_region-clause-fault g c =
    let m = g.M.Media in
    let i = c.loop-place.invariant in
    let within : c.loop-place.place < length c.loop-place.media = omega (arith, c.loop-place-test.true, i.long) in
    let p = err_from_is_err_and c.from_residual.result c.from_residual.ensures.1 in
    rw (p.1, p.2) (λ fault. some_at_place (λ a b. Rose (m.faults a) (m.faults b)) c.args.media.now _ c.loop-place.place _ _
    (there c.args.media.now c.loop-place.media c.loop-place.place c.index-media-place.result c.write_region.new.medium within i.rest)
    (put c.args.media.now c.loop-place.media c.loop-place.place c.index-media-place.result c.write_region.new.medium within i.rest) (c.in_err-write_region.ensures.fault fault))

pub loop-place-preserved : goal.loop-place-preserved
loop-place-preserved g c =
    let m = g.M.Media in
    let i = c.loop-place.invariant in
    let within : c.loop-place.place < length c.loop-place.media = omega (arith, c.loop-place-test.true, i.long) in
    record {
      long = length-set c.loop-place.media c.loop-place.place c.write_region.new.medium ∙ i.long;
      each = each_more c.args.media.now c.loop-place.media c.loop-place.place c.index-media-place.result c.write_region.new.medium within i.rest (λ k. IsLater m) i.each c.write_region.ensures.later;
      fresh = below_more c.args.media.now c.loop-place.media c.loop-place.place c.index-media-place.result c.write_region.new.medium within i.rest (λ k. HoldsContent m (region_content (fresh_region (k % 2)))) i.fresh
          c.in_ok-write_region.ensures.holds;
      rest = rest_more c.args.media.now c.loop-place.media c.loop-place.place c.index-media-place.result c.write_region.new.medium within i.rest;
    }

pub returns-clause-fresh : goal.returns-clause-fresh
returns-clause-fresh g c k m is = c.loop-place.invariant.fresh k m (omega (arith, slice_get_within c.loop-place.media k m is, c.loop-place-test.false, c.loop-place.invariant.long)) is
