use Rattle.std.proofs.Common.{ap, sym, subst, ◌∙◌, inl, inr}
use Rattle.std.proofs.lemmas.Bool.{false≢true}
use Rattle.interleavings.specs.event_steps.View.{SystemView}
use Rattle.interleavings.specs.area_reader.Looks.{call_answer}
use Rattle.interleavings.specs.area_reader.Refusals.{IsReadRefusal}
use Rattle.interleavings.specs.shared_area.Parts.{IsNoDamage}
use Rattle.interleavings.specs.batch_journal.View.{JournalView}
use Rattle.interleavings.specs.layout.declared.marks.Marks.{Marks}
use Rattle.interleavings.specs.system_laws.Idle.{IsIdleSystem}
use Rattle.interleavings.specs.system_laws.Parts.{medium_of}
use Rattle.interleavings.specs.call_effects.ClosedGraph.{nobody}
use Rattle.interleavings.specs.call_effects.Wholes.{state_of}
use Rattle.interleavings.specs.file_graph.Graph.{Graph}
use Rattle.area_recovery.specs.Parts.{part_medium}
use Rattle.area_recovery.specs.PartMedia.{AreUntouched, media_beneath}
use Rattle.area_recovery.specs.Regions.{media_of}
use Rattle.area_recovery.proofs.Faults.{no_damage}
use Rattle.recovery.proofs.IdleWorlds.{idle_assembled, idle_tree, looked_untouched, same_graph_read, same_mark}
use Rattle.recovery.proofs.OpenedSeats.{are_seats, seats_read, unread}
use Rattle.recovery.proofs.SystemParts.{given_back, region_rose, shared_rose, system_untouched}
use Rattle.recovery.proofs.assembly.assemble.Goals as goal

pub seat_clients-requires-clause-wiped : goal.seat_clients-requires-clause-wiped
seat_clients-requires-clause-wiped g c = λ k r is. c.requires.regions.wiped c.marks-marks.result k r (c.marks-marks.ensures c.requires.area.going) is

pub world_of-requires-clause-idle : goal.world_of-requires-clause-idle
world_of-requires-clause-idle g c =
    let m = g.M.Media in
    let area = c.args.area in
    let marks = c.marks-marks.result in
    let marked = c.marks-marks.ensures c.requires.area.going in
    let k = c.in-Ok.ensures in
    let seats = c.in-Ok-seat_clients.ensures.opened in
    (marks, idle_assembled m area c.in-Ok.kernel k.looks marks c.requires.area marked (c.left_now.ensures.opens c.requires.area.going) c.openable_area_is_within_limits.ensures k.opens c.args.regions.items c.requires.regions seats.0 c.in-Ok-seat_clients.seats.items seats.1)

pub world_of-requires-clause-right : goal.world_of-requires-clause-right
world_of-requires-clause-right g c =
    let seats = c.in-Ok-seat_clients.ensures.opened in
    are_seats g.M.Media seats.0 c.marks-marks.result c.args.regions.items c.in-Ok-seat_clients.seats.items c.requires.regions.all seats.1

pub returns-in-Ok-seat_clients-clause-geometry : goal.returns-in-Ok-seat_clients-clause-geometry
returns-in-Ok-seat_clients-clause-geometry g c = ap (λ (w : SystemView _). w.kernel.area.geometry) c.world_of.ensures.system ∙ c.in-Ok.ensures.looks.geometry

pub returns-in-Ok-seat_clients-clause-idle : goal.returns-in-Ok-seat_clients-clause-idle
returns-in-Ok-seat_clients-clause-idle g c = λ v is.
    let m = g.M.Media in
    let area = c.args.area in
    let marks = c.marks-marks.result in
    let marked = c.marks-marks.ensures c.requires.area.going in
    let k = c.in-Ok.ensures in
    let seats = c.in-Ok-seat_clients.ensures.opened in
    let idle = idle_assembled m area c.in-Ok.kernel k.looks marks c.requires.area marked (c.left_now.ensures.opens c.requires.area.going) c.openable_area_is_within_limits.ensures k.opens c.args.regions.items c.requires.regions seats.0 c.in-Ok-seat_clients.seats.items seats.1 in
    subst (λ (w : SystemView _). IsIdleSystem m w v) (sym c.world_of.ensures.system) (subst (λ (x : Marks). IsIdleSystem m (record { kernel = c.in-Ok.kernel; seats = c.in-Ok-seat_clients.seats.items }) x) (same_mark marks v (sym marked ∙ is)) idle)

pub returns-in-Ok-seat_clients-clause-tree : goal.returns-in-Ok-seat_clients-clause-tree
returns-in-Ok-seat_clients-clause-tree g c =
    let m = g.M.Media in
    let area = c.args.area in
    let marks = c.marks-marks.result in
    let marked = c.marks-marks.ensures c.requires.area.going in
    let k = c.in-Ok.ensures in
    let seats = c.in-Ok-seat_clients.ensures.opened in
    let idle = idle_assembled m area c.in-Ok.kernel k.looks marks c.requires.area marked (c.left_now.ensures.opens c.requires.area.going) c.openable_area_is_within_limits.ensures k.opens c.args.regions.items c.requires.regions seats.0 c.in-Ok-seat_clients.seats.items seats.1 in
    idle_tree m (record { kernel = c.in-Ok.kernel; seats = c.in-Ok-seat_clients.seats.items }) marks idle c.world_of.result c.world_of.ensures.system ∙ ap (λ (graph : Graph). state_of graph nobody) (same_graph_read m area c.in-Ok.kernel k.looks)

pub returns-in-Ok-seat_clients-clause-kept : goal.returns-in-Ok-seat_clients-clause-kept
returns-in-Ok-seat_clients-clause-kept g c =
    let m = g.M.Media in
    let seats = c.in-Ok-seat_clients.ensures.opened in
    let first = looked_untouched m c.args.area c.in-Ok.kernel.area call_answer c.in-Ok.ensures.looks in
    let read = seats_read m seats.0 c.marks-marks.result 0 c.args.regions.items c.in-Ok-seat_clients.seats.items seats.1 in
    subst
    (λ (w : SystemView _). AreUntouched m (part_medium (media_beneath c.args.area c.args.regions.items)) (medium_of w))
    (sym c.world_of.ensures.system)
    (system_untouched m c.args.area.media c.args.regions.items (record { kernel = c.in-Ok.kernel; seats = c.in-Ok-seat_clients.seats.items }) first read)

pub returns-in-Err-clause-back : goal.returns-in-Err-clause-back
returns-in-Err-clause-back g c =
    let m = g.M.Media in
    let parts = c.parts_of-parts.ensures ∙ ap (λ (x : _). record { shared = x; regions = media_of c.args.regions.items }) c.into_medium.ensures in
    given_back m c.args.area.media c.args.regions.items c.parts_of-parts.result c.in-Err.area.media c.args.regions.items parts (looked_untouched m c.args.area c.in-Err.area _ c.in-Err.ensures.refused) (unread m c.args.regions.items)

pub area_fault-requires : goal.area_fault-requires
area_fault-requires g c = subst IsReadRefusal (sym c.in-Err.ensures.only) tt

pub returns-in-Err-clause-only : goal.returns-in-Err-clause-only
returns-in-Err-clause-only g c = no_damage c.in-Err.error c.area_fault.result ⊥ c.area_fault.ensures (subst IsNoDamage (sym c.in-Err.ensures.only) tt) (λ x. x)

pub returns-in-Err-clause-fault : goal.returns-in-Err-clause-fault
returns-in-Err-clause-fault g c = λ e.
    let m = g.M.Media in
    let parts = c.parts_of-parts.ensures ∙ ap (λ (x : _). record { shared = x; regions = media_of c.args.regions.items }) c.into_medium.ensures in
    elim (c.in-Err.ensures.refused.fault c.in-Err.ensures.only).1 [
      | inl failed ↦ absurd (false≢true (sym c.requires.area.going ∙ failed))
      | inr rose ↦ shared_rose m c.args.area.media c.args.regions.items c.parts_of-parts.result c.in-Err.area.media c.args.regions.items parts rose
    ]

pub returns-in-Err-seat_clients-clause-back : goal.returns-in-Err-seat_clients-clause-back
returns-in-Err-seat_clients-clause-back g c =
    let m = g.M.Media in
    let medium = c.into_medium-in-Err-seat_clients.ensures ∙ ap (λ (a : JournalView _). a.media) c.into_area.ensures in
    let after = c.seat_clients.new.regions.items in
    let parts = c.parts_of-parts-in-Err-seat_clients.ensures ∙ ap (λ (x : _). record { shared = x; regions = media_of after }) medium in
    given_back m c.args.area.media c.args.regions.items c.parts_of-parts-in-Err-seat_clients.result c.in-Ok.kernel.area.media after parts (looked_untouched m c.args.area c.in-Ok.kernel.area call_answer c.in-Ok.ensures.looks) c.in-Err-seat_clients.ensures.back

pub returns-in-Err-seat_clients-clause-fault : goal.returns-in-Err-seat_clients-clause-fault
returns-in-Err-seat_clients-clause-fault g c = λ e.
    let m = g.M.Media in
    let medium = c.into_medium-in-Err-seat_clients.ensures ∙ ap (λ (a : JournalView _). a.media) c.into_area.ensures in
    let after = c.seat_clients.new.regions.items in
    let parts = c.parts_of-parts-in-Err-seat_clients.ensures ∙ ap (λ (x : _). record { shared = x; regions = media_of after }) medium in
    region_rose m c.args.area.media c.args.regions.items c.parts_of-parts-in-Err-seat_clients.result c.in-Ok.kernel.area.media after parts c.requires.regions.all (c.in-Err-seat_clients.ensures.fault e)
