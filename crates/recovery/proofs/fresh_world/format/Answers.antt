use Rattle.std.proofs.Common.{◌≡◌, sym, subst, arith}
use Rattle.std.proofs.lemmas.Result.{IfErr-weaker, IfOk-weaker}
use Rattle.interleavings.specs.system_laws.Parts.{medium_of}
use Rattle.area_recovery.specs.declared.error.RecoveryError.TheVariants.{DeviceFault}
use Rattle.area_recovery.specs.FreshContents.{AreFreshRegions, AreLater}
use Rattle.area_recovery.specs.Parts.{PartsView, part_medium}
use Rattle.area_recovery.specs.PartMedia.{SomeRose}
use Rattle.area_recovery.proofs.PartRows.{after, all_later_on, earlier_rises, slice_left, written_later, written_rose}
use Rattle.recovery.proofs.fresh_world.format.Goals as goal

pub open_fresh-requires-clause-regions : goal.open_fresh-requires-clause-regions
open_fresh-requires-clause-regions g c =
    let m = g.M.Media in
    let media = c.into_media-shared.result.1 in
    let was = c.into_media-shared.ensures in
    subst (AreFreshRegions m) (sym (slice_left m c.args.parts c.into_media-shared.result.0 c.write_parts.new.shared media.items c.as_mut_slice.result.now c.write_parts.new.media media.len was.shared was.regions was.sixteen c.as_mut_slice.ensures.value c.write_parts.ensures.len (omega (arith, media.ok)))) c.in-Ok.ensures.regions

pub returns-in-Ok-clause-past : goal.returns-in-Ok-clause-past
returns-in-Ok-clause-past g c =
    let m = g.M.Media in
    let media = c.into_media-shared.result.1 in
    let was = c.into_media-shared.ensures in
    let mid = after m c.args.parts c.into_media-shared.result.0 c.write_parts.new.shared media.items c.as_mut_slice.result.now c.write_parts.new.media media.len was.shared was.regions was.sixteen c.as_mut_slice.ensures.value c.write_parts.ensures.len (omega (arith, media.ok)) in
    let first = written_later m c.args.parts c.into_media-shared.result.0 c.write_parts.new.shared media.items c.as_mut_slice.result.now c.write_parts.new.media media.len was.shared was.regions was.sixteen c.as_mut_slice.ensures.value c.write_parts.ensures.len (omega (arith, media.ok)) c.write_parts.ensures.later c.write_parts.ensures.each_later in
    IfOk-weaker c.open_fresh.result (λ w. AreLater m (part_medium mid) (medium_of w.system)) (λ w. AreLater m (part_medium c.args.parts) (medium_of w.system))
    (λ w later. all_later_on m (part_medium c.args.parts) (part_medium mid) (medium_of w.system) first later) c.open_fresh.ensures.later

pub returns-in-Ok-clause-past_refused : goal.returns-in-Ok-clause-past_refused
returns-in-Ok-clause-past_refused g c =
    let m = g.M.Media in
    let media = c.into_media-shared.result.1 in
    let was = c.into_media-shared.ensures in
    let mid = after m c.args.parts c.into_media-shared.result.0 c.write_parts.new.shared media.items c.as_mut_slice.result.now c.write_parts.new.media media.len was.shared was.regions was.sixteen c.as_mut_slice.ensures.value c.write_parts.ensures.len (omega (arith, media.ok)) in
    let first = written_later m c.args.parts c.into_media-shared.result.0 c.write_parts.new.shared media.items c.as_mut_slice.result.now c.write_parts.new.media media.len was.shared was.regions was.sixteen c.as_mut_slice.ensures.value c.write_parts.ensures.len (omega (arith, media.ok)) c.write_parts.ensures.later c.write_parts.ensures.each_later in
    IfErr-weaker c.open_fresh.result (λ e. AreLater m (part_medium mid) (part_medium e.1)) (λ e. AreLater m (part_medium c.args.parts) (part_medium e.1))
    (λ e later. all_later_on m (part_medium c.args.parts) (part_medium mid) (part_medium e.1) first later) c.open_fresh.ensures.later_refused

pub returns-in-Ok-clause-fault : goal.returns-in-Ok-clause-fault
returns-in-Ok-clause-fault g c =
    let m = g.M.Media in
    let media = c.into_media-shared.result.1 in
    let was = c.into_media-shared.ensures in
    let mid = after m c.args.parts c.into_media-shared.result.0 c.write_parts.new.shared media.items c.as_mut_slice.result.now c.write_parts.new.media media.len was.shared was.regions was.sixteen c.as_mut_slice.ensures.value c.write_parts.ensures.len (omega (arith, media.ok)) in
    let first = written_later m c.args.parts c.into_media-shared.result.0 c.write_parts.new.shared media.items c.as_mut_slice.result.now c.write_parts.new.media media.len was.shared was.regions was.sixteen c.as_mut_slice.ensures.value c.write_parts.ensures.len (omega (arith, media.ok)) c.write_parts.ensures.later c.write_parts.ensures.each_later in
    IfErr-weaker c.open_fresh.result (λ e. e.0 ≡ DeviceFault → SomeRose m (part_medium mid) (part_medium e.1)) (λ e. e.0 ≡ DeviceFault → SomeRose m (part_medium c.args.parts) (part_medium e.1))
    (λ e rose is. earlier_rises m (part_medium c.args.parts) (part_medium mid) (part_medium e.1) first (rose is)) c.open_fresh.ensures.fault

pub returns-in-Err-write_parts-clause-past_refused : goal.returns-in-Err-write_parts-clause-past_refused
returns-in-Err-write_parts-clause-past_refused g c =
    let m = g.M.Media in
    let media = c.into_media-shared.result.1 in
    let was = c.into_media-shared.ensures in
    subst (λ (v : PartsView _). AreLater m (part_medium c.args.parts) (part_medium v)) (sym (c.of-in-Err-write_parts.ensures))
    (written_later m c.args.parts c.into_media-shared.result.0 c.write_parts.new.shared media.items c.as_mut_slice.result.now c.write_parts.new.media media.len was.shared was.regions was.sixteen c.as_mut_slice.ensures.value c.write_parts.ensures.len (omega (arith, media.ok)) c.write_parts.ensures.later c.write_parts.ensures.each_later)

pub returns-in-Err-write_parts-clause-fault : goal.returns-in-Err-write_parts-clause-fault
returns-in-Err-write_parts-clause-fault g c is =
    let m = g.M.Media in
    let media = c.into_media-shared.result.1 in
    let was = c.into_media-shared.ensures in
    subst (λ (v : PartsView _). SomeRose m (part_medium c.args.parts) (part_medium v)) (sym (c.of-in-Err-write_parts.ensures))
    (written_rose m c.args.parts c.into_media-shared.result.0 c.write_parts.new.shared media.items c.as_mut_slice.result.now c.write_parts.new.media media.len was.shared was.regions was.sixteen c.as_mut_slice.ensures.value c.write_parts.ensures.len (omega (arith, media.ok)) (c.in-Err-write_parts.ensures.fault is))
