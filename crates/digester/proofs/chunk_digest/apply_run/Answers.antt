use Rattle.std.proofs.Common.{◌≡◌, true, subst}
use Rattle.std.proofs.lemmas.Result.{on_ok_weaker}
use Rattle.coalescer.specs.graph_change.View.{changes_of}
use Rattle.shared_area.specs.layout.Marks.{fits_marks}
use Rattle.shared_area.specs.layout.declared.marks.Marks.{Marks}
use Rattle.shared_area.specs.area_reader.Store.{disk, graph}
use Rattle.shared_area.specs.ChangeApply.{IsAppliedStore}
use Rattle.shared_area.proofs.Leads.{names_lead}
use Rattle.shared_area.proofs.Sound.{found_change}
use Rattle.digester.proofs.Runs as runs
use Rattle.digester.proofs.chunk_digest.apply_run.Goals as goal

pub apply-requires-clause-bounded : goal.apply-requires-clause-bounded
apply-requires-clause-bounded g c =
    let old = c.args.area.now in
    let r = c.requires.run in
    let s = disk g.M.Media old in
    runs.bounded r.0 old.geometry.units (graph old.geometry s) r.1 (changes_of c.args.change.now) r.2 (names_lead old.geometry s (c.left_now.ensures.opens c.requires.going))

pub apply-requires-clause-tidy : goal.apply-requires-clause-tidy
apply-requires-clause-tidy g c =
    let old = c.args.area.now in
    let r = c.requires.run in
    runs.tidy r.0 old.geometry.units (graph old.geometry (disk g.M.Media old)) r.1 (changes_of c.args.change.now) r.2

pub apply-requires-clause-images : goal.apply-requires-clause-images
apply-requires-clause-images g c =
    let old = c.args.area.now in
    let r = c.requires.run in
    runs.images r.0 old.geometry.units (graph old.geometry (disk g.M.Media old)) r.1 (changes_of c.args.change.now) r.2

pub apply-requires-clause-entries : goal.apply-requires-clause-entries
apply-requires-clause-entries g c =
    let old = c.args.area.now in
    let r = c.requires.run in
    λ going. runs.entries r.0 old.geometry.units (graph old.geometry (disk g.M.Media old)) r.1 (changes_of c.args.change.now) r.2

pub apply-requires-clause-units : goal.apply-requires-clause-units
apply-requires-clause-units g c =
    let old = c.args.area.now in
    let r = c.requires.run in
    λ going. runs.units r.0 old.geometry.units (graph old.geometry (disk g.M.Media old)) r.1 (changes_of c.args.change.now) r.2

pub returns-clause-only : goal.returns-clause-only
returns-clause-only g c =
    let old = c.args.area.now in
    let s = disk g.M.Media old in
    let r = c.requires.run in
    found_change c.apply.result c.apply.ensures.only (c.apply.ensures.never (runs.few_written r.0 old.geometry.units (graph old.geometry s) r.1 (changes_of c.args.change.now) r.2 old.geometry s))

pub returns-clause-fits : goal.returns-clause-fits
returns-clause-fits g c =
    (c.marks.result, c.marks.ensures c.requires.going, subst (λ (v : Marks). fits_marks v ≡ true) c.marks_after-marks.ensures.exact c.marks_after-marks.ensures.fits)

pub returns-clause-applied : goal.returns-clause-applied
returns-clause-applied g c =
    let old = c.args.area.now in
    let s = disk g.M.Media old in
    on_ok_weaker c.apply.result
    (λ applied. (c.marks.result, c.marks.ensures c.requires.going, subst (λ (v : Marks). IsAppliedStore old.geometry s (changes_of c.args.change.now) v (disk g.M.Media c.apply.new.self)) c.marks_after-marks.ensures.exact applied))
    c.apply.ensures.applied
