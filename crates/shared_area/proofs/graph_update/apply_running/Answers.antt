use Rattle.std.proofs.Common.{◌≡◌, sym, ap, subst, arith}
use Rattle.std.specs.Prelude.{Ok, Err}
use Rattle.std.proofs.lemmas.Result.{err_from_is_err_and}
use Rattle.record_validation.specs.file_graph.Units.{charge}
use Rattle.area_reader.specs.graph_change.View.{changes_of}
use Rattle.area_reader.specs.layout.Places.{Sizes, IsAllowed}
use Rattle.area_reader.specs.Store.{Store, disk, graph}
use Rattle.area_reader.specs.declared.error.AreaError.TheVariants.{DeviceFault}
use Rattle.shared_area.proofs.Ending.{err_same}
use Rattle.shared_area.proofs.AppliedChange.{ends_of}
use Rattle.shared_area.proofs.graph_update.apply_running.Goals as goal

pub apply-requires-clause-settled : goal.apply-requires-clause-settled
apply-requires-clause-settled g c = λ going. c.requires.settled

pub apply-requires-clause-bounded : goal.apply-requires-clause-bounded
apply-requires-clause-bounded g c = c.requires.can.bounded

pub apply-requires-clause-tidy : goal.apply-requires-clause-tidy
apply-requires-clause-tidy g c = c.requires.can.tidy

pub apply-requires-clause-images : goal.apply-requires-clause-images
apply-requires-clause-images g c = c.requires.can.images

pub apply-requires-clause-fits : goal.apply-requires-clause-fits
apply-requires-clause-fits g c = c.requires.can.fits

pub apply-requires-clause-entries : goal.apply-requires-clause-entries
apply-requires-clause-entries g c = λ going. c.requires.can.entries

pub apply-requires-clause-units : goal.apply-requires-clause-units
apply-requires-clause-units g c = λ going. c.requires.can.units

pub returns-in_err-cost-clause-ends : goal.returns-in_err-cost-clause-ends
returns-in_err-cost-clause-ends g c =
    let m = g.M.Media in
    let is = c.apply.ensures in
    let refused = c.in_err-cost.ensures in
    let error = c.in_err-cost.field-0.0 in
    let p = err_from_is_err_and c.from_residual.result c.from_residual.ensures.1 in
    rw (p.1, p.2)
    (ends_of m g.met.M.Media.sized (changes_of c.args.marked.now.change.now) c.args.marked.now.marks c.args.journal.now c.apply.new.journal c.apply.new.pools (Err error) c.requires.going is.any_moment tt is.settled refused.only refused.unmoved (λ is. refused.fault (ap Err (err_same error DeviceFault is))) tt is.geometry is.faults is.one_fault is.at_most)

pub returns-clause-ends : goal.returns-clause-ends
returns-clause-ends g c =
    let m = g.M.Media in
    let is = c.apply.ensures in
    let ok = c.in_ok-cost.ensures in
    ends_of m g.met.M.Media.sized (changes_of c.args.marked.now.change.now) c.args.marked.now.marks c.args.journal.now c.apply.new.journal c.apply.new.pools (Ok tt) c.requires.going is.any_moment ok.applied is.settled tt tt (λ e. absurd cc) ok.quiet is.geometry is.faults is.one_fault is.at_most

pub charge_after-requires-clause-before : goal.charge_after-requires-clause-before
charge_after-requires-clause-before g c =
    let old = c.args.journal.now in
    let s : Store = disk g.M.Media old in
    let cs = changes_of c.args.marked.now.change.now in
    let within = c.charge_follows_the_change.ensures.within old.geometry s cs c.requires.settled.opens.spelled c.requires.can.bounded in
    omega (arith, within, c.requires.charged, c.in_ok-cost.ensures.cost.before)

pub charge_after-requires-clause-small : goal.charge_after-requires-clause-small
charge_after-requires-clause-small g c =
    let old = c.args.journal.now in
    let after : Store = disk g.M.Media c.apply.new.journal in
    let cs = changes_of c.args.marked.now.change.now in
    let opens = c.in_ok-cost.ensures.applied.opens in
    let within = c.charge_follows_the_change.ensures.within old.geometry after cs opens.spelled c.requires.can.bounded in
    let allowed : IsAllowed old.geometry = subst IsAllowed c.geometry.ensures c.units-units.ensures.allowed in
    omega (arith, within, opens.units, c.requires.settled.opens.units, allowed.few_units, c.requires.charged, c.in_ok-cost.ensures.cost.after)

pub returns-clause-charged : goal.returns-clause-charged
returns-clause-charged g c =
    let m = g.M.Media in
    let old = c.args.journal.now in
    let s : Store = disk m old in
    let after : Store = disk m c.apply.new.journal in
    let cs = changes_of c.args.marked.now.change.now in
    let applied = c.in_ok-cost.ensures.applied in
    let cost = c.in_ok-cost.ensures.cost in
    let law = c.charge_follows_the_change.ensures.follows old.geometry s after cs c.requires.settled.opens.spelled applied.opens.spelled c.requires.can.bounded applied.graph_after in
    subst (λ (h : Sizes). c.charge_after.result ≡ charge (graph h after)) (sym c.apply.ensures.geometry)
    (omega (arith, law, c.charge_after.ensures, c.requires.charged, cost.before, cost.after))
