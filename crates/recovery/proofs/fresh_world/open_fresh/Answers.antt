use Rattle.std.proofs.Common.{◌≡◌, ◌<◌, ℕ, Some, ap, sym, ◌∙◌, subst, arith}
use Rattle.std.specs.List.{AllByRecursion}
use Rattle.std.proofs.lemmas.Result.{IfErr-weaker, IfOk-weaker}
use Rattle.interleavings.proofs.call_effects_lemmas.Fresh.{fresh_state}
use Rattle.interleavings.specs.shared_area.AreaOpen.{SpellsNone}
use Rattle.area_recovery.specs.recovery_laws.Fresh.{no_marks}
use Rattle.interleavings.specs.area_reader.Store.{disk, graph, marks}
use Rattle.interleavings.specs.layout.declared.marks.Marks.{Marks}
use Rattle.interleavings.specs.update_log.View.{HasSize}
use Rattle.interleavings.specs.system_laws.Idle.{IsIdleSystem}
use Rattle.interleavings.specs.system_laws.Parts.{medium_of}
use Rattle.interleavings.specs.system_laws.WorldTree.{world_tree}
use Rattle.interleavings.specs.event_lists.Courses.{PARTS}
use Rattle.interleavings.specs.call_effects.ClosedGraph.{nobody}
use Rattle.interleavings.specs.call_effects.Wholes.{state_of}
use Rattle.posix_calls.specs.EmptyTree.{empty_state}
use Rattle.area_recovery.specs.declared.error.RecoveryError.TheVariants.{DeviceFault}
use Rattle.area_recovery.specs.FreshContents.{AreLater, HoldsContent, IsLater, fresh_contents}
use Rattle.area_recovery.specs.Parts.{PartsView, part_medium}
use Rattle.area_recovery.specs.PartMedia.{AreUntouched, SomeRose, media_beneath}
use Rattle.recovery.specs.WorldRecovery.{IsIdle}
use Rattle.area_recovery.specs.Regions.{IsGivenBack}
use Rattle.area_recovery.proofs.FreshMedia.{all_rest, all_sized, area_holds, area_ready, fresh_marks, geometry_is, graph_is, later_by_recovery, marks_are, no_damage_there, no_size_there, opens_not, regions_ready}
use Rattle.area_recovery.proofs.FreshWorlds.{beneath_later, given_later, parts_hold, parts_later}
use Rattle.area_recovery.proofs.PartRows.{earlier_rises, region_rose, shared_later, zip_long}
use Rattle.area_recovery.proofs.RisenFaults.{shared_rose}
use Rattle.recovery.proofs.fresh_world.open_fresh.Goals as goal

pub returns-in-Err-clause-only : goal.returns-in-Err-clause-only
returns-in-Err-clause-only g c =
    let m = g.M.Media in
    let sizes = c.args.geometry.now in
    let allowed = c.units-units.ensures.allowed in
    let fresh = c.fresh_area_opens.ensures in
    no_damage_there c.in-Err.error (SpellsNone (m.seen c.args.shared)) c.in-Err.ensures.only c.in-Err.ensures.damaged
    (opens_not m g.met.M.Media.seen_now g.met.M.Media.sized sizes c.args.shared c.requires.area (fresh.volume sizes allowed) (fresh.opens sizes allowed))

pub returns-in-Err-clause-later_refused : goal.returns-in-Err-clause-later_refused
returns-in-Err-clause-later_refused g c =
    let m = g.M.Media in
    let law = g.met.M.Media in
    let media = c.args.media.items in
    let refused = c.in-Err.ensures in
    subst (λ (v : PartsView _). AreLater m (part_medium (record { shared = c.args.shared; regions = media })) (part_medium v)) (sym (c.of.ensures))
    (shared_later m c.args.shared c.in-Err.shared media c.requires.sixteen (later_by_recovery m law.seen_now law.sized c.args.shared c.in-Err.shared refused.any_moment_refused refused.faults_refused))

pub returns-in-Err-clause-fault : goal.returns-in-Err-clause-fault
returns-in-Err-clause-fault g c is =
    let m = g.M.Media in
    let old : PartsView _ = record { shared = c.args.shared; regions = c.args.media.items } in
    subst (λ (v : PartsView _). SomeRose m (part_medium old) (part_medium v)) (sym (c.of.ensures)) (shared_rose m (part_medium old) _ (c.in-Err.ensures.fault is))

pub reopen_regions-requires : goal.reopen_regions-requires
reopen_regions-requires g c = record { rest = all_rest g.M.Media c.args.media.items c.requires.regions }

pub assemble-requires-clause-area : goal.assemble-requires-clause-area
assemble-requires-clause-area g c =
    let m = g.M.Media in
    let law = g.met.M.Media in
    let sizes = c.args.geometry.now in
    let allowed = c.units-units.ensures.allowed in
    let fresh = c.fresh_area_opens.ensures in
    let opened = c.in-Ok.ensures in
    let same = geometry_is m law.seen_now law.sized sizes c.args.shared c.requires.area c.in-Ok.area (fresh.volume sizes allowed) opened.volume in
    area_ready m law.seen_now law.sized sizes c.args.shared c.requires.area c.in-Ok.area same opened.blocks opened.unfailed (fresh.graph sizes allowed) (fresh.marks sizes allowed) fresh.undigested

pub assemble-requires-clause-regions : goal.assemble-requires-clause-regions
assemble-requires-clause-regions g c =
    let m = g.M.Media in
    let law = g.met.M.Media in
    let sizes = c.args.geometry.now in
    let allowed = c.units-units.ensures.allowed in
    let fresh = c.fresh_area_opens.ensures in
    let bytes = c.fresh_region_is_empty.ensures in
    let opened = c.in-Ok.ensures in
    let same = geometry_is m law.seen_now law.sized sizes c.args.shared c.requires.area c.in-Ok.area (fresh.volume sizes allowed) opened.volume in
    regions_ready bytes.named bytes.none bytes.closed m law.seen_now law.sized c.args.media.items c.in-Ok-reopen_regions.regions.items c.requires.sixteen c.requires.regions c.in-Ok-reopen_regions.ensures.reopened c.in-Ok.area
    (marks_are m law.seen_now law.sized sizes c.args.shared c.requires.area c.in-Ok.area same opened.blocks (fresh.marks sizes allowed)) fresh.undigested

pub of-requires-in-Err-reopen_regions : goal.of-requires-in-Err-reopen_regions
of-requires-in-Err-reopen_regions g c = record { sixteen = sym (zip_long (IsGivenBack g.M.Media) c.args.media.items c.reopen_regions.new.media.items c.in-Err-reopen_regions.ensures.back) ∙ c.requires.sixteen }

pub returns-in-Ok-reopen_regions-clause-tree : goal.returns-in-Ok-reopen_regions-clause-tree
returns-in-Ok-reopen_regions-clause-tree g c =
    let m = g.M.Media in
    let law = g.met.M.Media in
    let sizes = c.args.geometry.now in
    let allowed = c.units-units.ensures.allowed in
    let fresh = c.fresh_area_opens.ensures in
    let area = c.in-Ok.area in
    let opened = c.in-Ok.ensures in
    let same = geometry_is m law.seen_now law.sized sizes c.args.shared c.requires.area area (fresh.volume sizes allowed) opened.volume in
    IfOk-weaker c.assemble.result (λ w. world_tree m w ≡ state_of (graph area.geometry (disk m area)) nobody) (λ w. world_tree m w ≡ empty_state)
    (λ w is. is ∙ ap (λ h. state_of h nobody) (graph_is m law.seen_now law.sized sizes c.args.shared c.requires.area area same opened.blocks (fresh.graph sizes allowed)) ∙ fresh_state) c.assemble.ensures.tree

pub returns-in-Ok-reopen_regions-clause-idle : goal.returns-in-Ok-reopen_regions-clause-idle
returns-in-Ok-reopen_regions-clause-idle g c =
    let m = g.M.Media in
    let law = g.met.M.Media in
    let sizes = c.args.geometry.now in
    let allowed = c.units-units.ensures.allowed in
    let fresh = c.fresh_area_opens.ensures in
    let area = c.in-Ok.area in
    let opened = c.in-Ok.ensures in
    let same = geometry_is m law.seen_now law.sized sizes c.args.shared c.requires.area area (fresh.volume sizes allowed) opened.volume in
    IfOk-weaker c.assemble.result (λ w. (v : Marks) → marks (disk m area) ≡ Some v → IsIdleSystem m w.system v) (λ w. IsIdle m w.system)
    (λ w idle. (no_marks, idle no_marks (fresh_marks m law.seen_now law.sized sizes c.args.shared c.requires.area area same opened.blocks (fresh.marks sizes allowed)))) c.assemble.ensures.idle

pub returns-in-Ok-reopen_regions-clause-geometry : goal.returns-in-Ok-reopen_regions-clause-geometry
returns-in-Ok-reopen_regions-clause-geometry g c =
    let m = g.M.Media in
    let law = g.met.M.Media in
    let sizes = c.args.geometry.now in
    let area = c.in-Ok.area in
    let same = geometry_is m law.seen_now law.sized sizes c.args.shared c.requires.area area (c.fresh_area_opens.ensures.volume sizes c.units-units.ensures.allowed) c.in-Ok.ensures.volume in
    IfOk-weaker c.assemble.result (λ w. w.system.kernel.area.geometry ≡ area.geometry) (λ w. w.system.kernel.area.geometry ≡ sizes) (λ w is. is ∙ same) c.assemble.ensures.geometry

pub returns-in-Ok-reopen_regions-clause-contents : goal.returns-in-Ok-reopen_regions-clause-contents
returns-in-Ok-reopen_regions-clause-contents g c =
    let m = g.M.Media in
    let law = g.met.M.Media in
    let sizes = c.args.geometry.now in
    let area = c.in-Ok.area in
    let media = c.args.media.items in
    let regions = c.in-Ok-reopen_regions.regions.items in
    let opened = c.in-Ok.ensures in
    IfOk-weaker c.assemble.result (λ w. AreUntouched m (part_medium (media_beneath area regions)) (medium_of w.system)) (λ w. (p : ℕ) → p < PARTS → HoldsContent m (fresh_contents sizes p) (medium_of w.system p))
    (λ w kept. parts_hold m law.seen_now law.sized area media regions c.requires.sixteen c.in-Ok-reopen_regions.ensures.reopened sizes
    (area_holds m law.seen_now law.sized sizes c.args.shared c.requires.area area opened.any_moment opened.calls) c.requires.regions (medium_of w.system) kept) c.assemble.ensures.kept

pub returns-in-Ok-reopen_regions-clause-later : goal.returns-in-Ok-reopen_regions-clause-later
returns-in-Ok-reopen_regions-clause-later g c =
    let m = g.M.Media in
    let law = g.met.M.Media in
    let area = c.in-Ok.area in
    let media = c.args.media.items in
    let regions = c.in-Ok-reopen_regions.regions.items in
    let later : IsLater m c.args.shared area.media = later_by_recovery m law.seen_now law.sized c.args.shared area.media c.in-Ok.ensures.any_moment (omega (arith, c.in-Ok.ensures.quiet)) in
    IfOk-weaker c.assemble.result (λ w. AreUntouched m (part_medium (media_beneath area regions)) (medium_of w.system)) (λ w. AreLater m (part_medium (record { shared = c.args.shared; regions = media })) (medium_of w.system))
    (λ w kept. parts_later m law.seen_now law.sized area media regions c.requires.sixteen c.in-Ok-reopen_regions.ensures.reopened c.args.shared (medium_of w.system) later kept) c.assemble.ensures.kept

pub returns-in-Ok-reopen_regions-clause-later_refused : goal.returns-in-Ok-reopen_regions-clause-later_refused
returns-in-Ok-reopen_regions-clause-later_refused g c =
    let m = g.M.Media in
    let law = g.met.M.Media in
    let area = c.in-Ok.area in
    let media = c.args.media.items in
    let regions = c.in-Ok-reopen_regions.regions.items in
    let later : IsLater m c.args.shared area.media = later_by_recovery m law.seen_now law.sized c.args.shared area.media c.in-Ok.ensures.any_moment (omega (arith, c.in-Ok.ensures.quiet)) in
    IfErr-weaker c.assemble.result (λ e. AreUntouched m (part_medium (media_beneath area regions)) (part_medium e.1)) (λ e. AreLater m (part_medium (record { shared = c.args.shared; regions = media })) (part_medium e.1))
    (λ e kept. parts_later m law.seen_now law.sized area media regions c.requires.sixteen c.in-Ok-reopen_regions.ensures.reopened c.args.shared (part_medium e.1) later kept) c.assemble.ensures.back

pub returns-in-Ok-reopen_regions-clause-fault : goal.returns-in-Ok-reopen_regions-clause-fault
returns-in-Ok-reopen_regions-clause-fault g c =
    let m = g.M.Media in
    let law = g.met.M.Media in
    let area = c.in-Ok.area in
    let media = c.args.media.items in
    let regions = c.in-Ok-reopen_regions.regions.items in
    let old = part_medium (record { shared = c.args.shared; regions = media }) in
    let beneath = part_medium (media_beneath area regions) in
    let later : IsLater m c.args.shared area.media = later_by_recovery m law.seen_now law.sized c.args.shared area.media c.in-Ok.ensures.any_moment (omega (arith, c.in-Ok.ensures.quiet)) in
    IfErr-weaker c.assemble.result (λ e. e.0 ≡ DeviceFault → SomeRose m beneath (part_medium e.1)) (λ e. e.0 ≡ DeviceFault → SomeRose m old (part_medium e.1))
    (λ e rose is. earlier_rises m old beneath (part_medium e.1) (beneath_later m law.seen_now law.sized area media regions c.requires.sixteen c.in-Ok-reopen_regions.ensures.reopened c.args.shared later) (rose is)) c.assemble.ensures.fault

pub returns-in-Err-reopen_regions-clause-later_refused : goal.returns-in-Err-reopen_regions-clause-later_refused
returns-in-Err-reopen_regions-clause-later_refused g c =
    let m = g.M.Media in
    let law = g.met.M.Media in
    let area = c.in-Ok.area in
    let media = c.args.media.items in
    let back = c.reopen_regions.new.media.items in
    let later : IsLater m c.args.shared area.media = later_by_recovery m law.seen_now law.sized c.args.shared area.media c.in-Ok.ensures.any_moment (omega (arith, c.in-Ok.ensures.quiet)) in
    subst (λ (v : PartsView _). AreLater m (part_medium (record { shared = c.args.shared; regions = media })) (part_medium v))
    (sym (c.of-in-Err-reopen_regions.ensures ∙ ap (λ x. record { shared = x; regions = back }) c.into_medium.ensures))
    (given_later m law.seen_now law.sized c.args.shared area.media media back c.requires.sixteen later c.in-Err-reopen_regions.ensures.back)

pub returns-in-Err-reopen_regions-clause-only : goal.returns-in-Err-reopen_regions-clause-only
returns-in-Err-reopen_regions-clause-only g c =
    let m = g.M.Media in
    no_size_there c.in-Err-reopen_regions.error (AllByRecursion (λ x. HasSize (m.seen x)) c.args.media.items) c.in-Err-reopen_regions.ensures.only c.in-Err-reopen_regions.ensures.size
    (all_sized m c.args.media.items c.requires.regions c.fresh_region_is_empty.ensures.size)

pub returns-in-Err-reopen_regions-clause-fault : goal.returns-in-Err-reopen_regions-clause-fault
returns-in-Err-reopen_regions-clause-fault g c is =
    let m = g.M.Media in
    let media = c.args.media.items in
    let back = c.reopen_regions.new.media.items in
    let old : PartsView _ = record { shared = c.args.shared; regions = media } in
    subst (λ (v : PartsView _). SomeRose m (part_medium old) (part_medium v)) (sym (c.of-in-Err-reopen_regions.ensures))
    (region_rose m old _ c.requires.sixteen (c.in-Err-reopen_regions.ensures.fault is))
