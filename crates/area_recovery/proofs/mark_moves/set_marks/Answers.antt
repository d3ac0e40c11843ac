use Rattle.std.proofs.Common.{◌≤◌, [], Err, ap, sym, ◌∙◌, subst}
use Rattle.graph_check.specs.file_graph.Units.{charge}
use Rattle.recovery_laws.specs.layout.Places.{Sizes}
use Rattle.recovery_laws.specs.area_reader.Store.{disk, graph}
use Rattle.recovery_laws.specs.graph_change.Bounds.{AreBounded}
use Rattle.recovery_laws.specs.graph_change.Change.{Coalesces}
use Rattle.recovery_laws.specs.graph_change.View.{changes_of}
use Rattle.graph_check.specs.file_graph.Graph.{Graph}
use Rattle.area_recovery.proofs.Changing.{apply_answers, nothing_few, nothing_has, nothing_written, set_stays}
use Rattle.area_recovery.proofs.Faults.{no_damage, of_other, of_reader}
use Rattle.recovery_laws.proofs.shared_area_lemmas.Sound.{found_change}
use Rattle.area_recovery.proofs.mark_moves.set_marks.Goals as goal

pub apply-requires-clause-bounded : goal.apply-requires-clause-bounded
apply-requires-clause-bounded g c = subst AreBounded (sym c.new-change.ensures.change) (c.changes_keep_to_the_limits.ensures.coalesced [] tt)

pub apply-requires-clause-images : goal.apply-requires-clause-images
apply-requires-clause-images g c = nothing_few (changes_of c.new-change.result) c.new-change.ensures.change

pub apply-requires-clause-entries : goal.apply-requires-clause-entries
apply-requires-clause-entries g c =
    let law = subst (Coalesces []) (sym c.new-change.ensures.change) (c.changes_are_the_effects.ensures []) in
    λ going i its. absurd (nothing_has (changes_of c.new-change.result) law i its)

pub apply-requires-clause-units : goal.apply-requires-clause-units
apply-requires-clause-units g c =
    let law = subst (Coalesces []) (sym c.new-change.ensures.change) (c.changes_are_the_effects.ensures []) in
    let old = c.args.area.now in
    λ going. subst (λ (h : Graph). charge h ≤ old.geometry.units) (sym (law.meaning (graph old.geometry (disk g.M.Media old)))) (c.left_now.ensures.opens c.requires.going).units

pub area_fault-requires : goal.area_fault-requires
area_fault-requires g c =
    let law = subst (Coalesces []) (sym c.new-change.ensures.change) (c.changes_are_the_effects.ensures []) in
    let old = c.args.area.now in
    of_reader c.in-Err.error (λ _ _. ⊥) (found_change (Err c.in-Err.error) c.in-Err.ensures.only (c.in-Err.ensures.never (λ bs are. nothing_written (changes_of c.new-change.result) law old.geometry (disk g.M.Media old) bs are)))

pub returns-clause-only : goal.returns-clause-only
returns-clause-only g c =
    let law = subst (Coalesces []) (sym c.new-change.ensures.change) (c.changes_are_the_effects.ensures []) in
    let old = c.args.area.now in
    no_damage c.in-Err.error c.area_fault.result ⊥ c.area_fault.ensures (found_change (Err c.in-Err.error) c.in-Err.ensures.only (c.in-Err.ensures.never (λ bs are. nothing_written (changes_of c.new-change.result) law old.geometry (disk g.M.Media old) bs are))) (λ x. x)

pub returns-clause-unmoved : goal.returns-clause-unmoved
returns-clause-unmoved g c = λ other. c.in-Err.ensures.applies.unmoved (of_other c.in-Err.error c.area_fault.result c.area_fault.ensures other)

pub returns-in-Ok-clause-any_moment : goal.returns-in-Ok-clause-any_moment
returns-in-Ok-clause-any_moment g c =
    let law = subst (Coalesces []) (sym c.new-change.ensures.change) (c.changes_are_the_effects.ensures []) in
    let old = c.args.area.now in
    set_stays g.M.Media g.met.M.Media.seen_now old c.apply.new.self (c.left_now.ensures.same c.requires.going) (changes_of c.new-change.result) (record { clients = c.args.clients; digests = c.marks.result.digests }) (law.meaning (graph old.geometry (disk g.M.Media old))) (c.in-Ok.ensures.any_moment c.requires.going)

pub returns-clause-any_moment : goal.returns-clause-any_moment
returns-clause-any_moment g c =
    let law = subst (Coalesces []) (sym c.new-change.ensures.change) (c.changes_are_the_effects.ensures []) in
    let old = c.args.area.now in
    set_stays g.M.Media g.met.M.Media.seen_now old c.apply.new.self (c.left_now.ensures.same c.requires.going) (changes_of c.new-change.result) (record { clients = c.args.clients; digests = c.marks.result.digests }) (law.meaning (graph old.geometry (disk g.M.Media old))) (c.in-Err.ensures.any_moment c.requires.going)

pub returns-in-Ok-clause-graph : goal.returns-in-Ok-clause-graph
returns-in-Ok-clause-graph g c =
    let m = g.M.Media in
    let law = subst (Coalesces []) (sym c.new-change.ensures.change) (c.changes_are_the_effects.ensures []) in
    let old = c.args.area.now in
    ap (λ (h : Sizes). graph h (disk m c.apply.new.self)) c.in-Ok.ensures.applies.geometry ∙ c.in-Ok.ensures.applied.graph_after ∙ law.meaning (graph old.geometry (disk m old))

pub returns-clause-answers : goal.returns-clause-answers
returns-clause-answers g c =
    let law = subst (Coalesces []) (sym c.new-change.ensures.change) (c.changes_are_the_effects.ensures []) in
    let old = c.args.area.now in
    apply_answers g.M.Media old c.apply.new.self c.in-Err.error c.area_fault.result c.requires.going c.area_fault.ensures (found_change (Err c.in-Err.error) c.in-Err.ensures.only (c.in-Err.ensures.never (λ bs are. nothing_written (changes_of c.new-change.result) law old.geometry (disk g.M.Media old) bs are))) c.in-Err.ensures.applies
