use Rattle.std.proofs.Common.{◌∙◌, ℕ, length, inl, inr, sym, subst, arith}
use Rattle.std.specs.Prelude.{Ok, Err}
use Rattle.std.proofs.lemmas.Bool.{true≢false}
use Rattle.std.proofs.lemmas.Result.{err_from_is_err_and}
use Rattle.area_reader.specs.graph_change.View.{changes_of}
use Rattle.area_reader.specs.Store.{disk}
use Rattle.area_reader.specs.declared.error.AreaError.TheVariants.{DeviceFault, NoBlock}
use Rattle.shared_area.proofs.Ending.{block_fault, err_same}
use Rattle.shared_area.specs.Ready.{IsReady}
use Rattle.shared_area.proofs.AppliedChange.{stays_or_changes, too_few_data, ready_made, ready_refused, applies_or_stays, failed_stays}
use Rattle.shared_area.proofs.graph_update.make_change.Goals as goal

-- ---- where a device has failed

pub returns-then-has_failed-clause-any_moment : goal.returns-then-has_failed-clause-any_moment
returns-then-has_failed-clause-any_moment g c going = absurd (true≢false (sym c.if-has_failed.true ∙ c.has_failed.ensures ∙ going))

pub returns-then-has_failed-clause-ready : goal.returns-then-has_failed-clause-ready
returns-then-has_failed-clause-ready g c going = absurd (true≢false (sym c.if-has_failed.true ∙ c.has_failed.ensures ∙ going))

pub returns-then-has_failed-clause-no_block : goal.returns-then-has_failed-clause-no_block
returns-then-has_failed-clause-no_block g c is = absurd (block_fault (sym (err_same DeviceFault NoBlock is)))

pub returns-then-has_failed-clause-never : goal.returns-then-has_failed-clause-never
returns-then-has_failed-clause-never g c few is = block_fault (sym (err_same DeviceFault NoBlock is))

pub returns-then-has_failed-clause-applies : goal.returns-then-has_failed-clause-applies
returns-then-has_failed-clause-applies g c =
    let m = g.M.Media in
    failed_stays m g.met.M.Media.sized c.args.journal.now (sym c.has_failed.ensures ∙ c.if-has_failed.true)

pub returns-then-has_failed-clause-at_most : goal.returns-then-has_failed-clause-at_most
returns-then-has_failed-clause-at_most g c = inl (omega arith)

-- ---- where none has

pub apply_running-requires-clause-going : goal.apply_running-requires-clause-going
apply_running-requires-clause-going g c = sym c.has_failed.ensures ∙ c.if-has_failed.false

pub apply_running-requires-clause-settled : goal.apply_running-requires-clause-settled
apply_running-requires-clause-settled g c = (let ready = c.requires.ready (sym c.has_failed.ensures ∙ c.if-has_failed.false) in record { opens = ready.opens; rests = ready.rests; ranges = ready.ranges; free = ready.free })

pub apply_running-requires-clause-charged : goal.apply_running-requires-clause-charged
apply_running-requires-clause-charged g c = (c.requires.ready (sym c.has_failed.ensures ∙ c.if-has_failed.false)).charged

pub apply_running-requires-clause-can : goal.apply_running-requires-clause-can
apply_running-requires-clause-can g c =
    let going = sym c.has_failed.ensures ∙ c.if-has_failed.false in
    record { bounded = c.requires.bounded; tidy = c.requires.tidy; entries = c.requires.entries going; images = c.requires.images; units = c.requires.units going; fits = c.requires.fits }

pub returns-clause-ready : goal.returns-clause-ready
returns-clause-ready g c going =
    let m = g.M.Media in
    ready_made m g.met.M.Media.sized (changes_of c.args.marked.now.change.now) c.args.marked.now.marks c.args.journal.now c.apply_running.new.journal c.apply_running.new.pools c.apply_running.new.units tt c.in_ok-apply_running.ensures.ends c.in_ok-apply_running.ensures.charged

pub returns-clause-any_moment : goal.returns-clause-any_moment
returns-clause-any_moment g c going =
    let m = g.M.Media in
    let old = c.args.journal.now in
    let new = c.apply_running.new.journal in
    stays_or_changes old.geometry (disk m old) (changes_of c.args.marked.now.change.now) c.args.marked.now.marks (m.moment old.media) (m.moment new.media) (m.left old.media) (m.left new.media) (c.requires.ready going).opens c.in_ok-apply_running.ensures.ends.any_moment

pub returns-clause-applied : goal.returns-clause-applied
returns-clause-applied g c = c.in_ok-apply_running.ensures.ends.applied

pub returns-clause-applies : goal.returns-clause-applies
returns-clause-applies g c =
    let m = g.M.Media in
    applies_or_stays m g.met.M.Media.sized (changes_of c.args.marked.now.change.now) c.args.marked.now.marks c.args.journal.now c.apply_running.new.journal c.apply_running.new.pools (Ok tt) (sym c.has_failed.ensures ∙ c.if-has_failed.false) c.in_ok-apply_running.ensures.ends

pub returns-in_err-apply_running-clause-ready : goal.returns-in_err-apply_running-clause-ready
returns-in_err-apply_running-clause-ready g c going =
    let m = g.M.Media in
    let old = c.args.journal.now in
    let new = c.apply_running.new.journal in
    let was = sym c.has_failed.ensures ∙ c.if-has_failed.false in
    subst (λ (n : ℕ). IsReady new.geometry (m.seen new.media) (m.left new.media (m.moment new.media)) c.apply_running.new.pools c.args.told.now n) (sym c.in_err-apply_running.ensures.kept)
    (ready_refused m g.met.M.Media.sized (changes_of c.args.marked.now.change.now) c.args.marked.now.marks old new c.args.pools.now c.apply_running.new.pools c.args.told.now c.args.units.now c.in_err-apply_running.field-0.0 (c.requires.ready was) c.in_err-apply_running.ensures.ends going)

pub returns-in_err-apply_running-clause-any_moment : goal.returns-in_err-apply_running-clause-any_moment
returns-in_err-apply_running-clause-any_moment g c going =
    let m = g.M.Media in
    let old = c.args.journal.now in
    let new = c.apply_running.new.journal in
    stays_or_changes old.geometry (disk m old) (changes_of c.args.marked.now.change.now) c.args.marked.now.marks (m.moment old.media) (m.moment new.media) (m.left old.media) (m.left new.media) (c.requires.ready going).opens c.in_err-apply_running.ensures.ends.any_moment

pub returns-in_err-apply_running-clause-no_block : goal.returns-in_err-apply_running-clause-no_block
returns-in_err-apply_running-clause-no_block g c =
    let m = g.M.Media in
    let old = c.args.journal.now in
    let ready = c.requires.ready (sym c.has_failed.ensures ∙ c.if-has_failed.false) in
    let p = err_from_is_err_and c.from_residual.result c.from_residual.ensures.1 in
    rw (p.1, p.2) (λ is. let b = c.in_err-apply_running.ensures.no_block is in (b.0, b.1, too_few_data old.geometry (disk m old) c.args.pools.now (length b.0) ready.ranges ready.free c.free-free.ensures.ordered b.2))

pub returns-in_err-apply_running-clause-never : goal.returns-in_err-apply_running-clause-never
returns-in_err-apply_running-clause-never g c few =
    let m = g.M.Media in
    let old = c.args.journal.now in
    let ready = c.requires.ready (sym c.has_failed.ensures ∙ c.if-has_failed.false) in
    let p = err_from_is_err_and c.from_residual.result c.from_residual.ensures.1 in
    rw (p.1, p.2) (λ is. let b = c.in_err-apply_running.ensures.no_block is in c.small_changes_find_blocks.ensures.spare old.geometry (disk m old) c.args.pools.now 0 (length b.0) ready.opens.spelled ready.opens.units ready.free (omega arith) (few b.0 b.1) (inr b.2))

pub returns-in_err-apply_running-clause-applies : goal.returns-in_err-apply_running-clause-applies
returns-in_err-apply_running-clause-applies g c =
    let m = g.M.Media in
    let p = err_from_is_err_and c.from_residual.result c.from_residual.ensures.1 in
    rw (p.1, p.2) (applies_or_stays m g.met.M.Media.sized (changes_of c.args.marked.now.change.now) c.args.marked.now.marks c.args.journal.now c.apply_running.new.journal c.apply_running.new.pools (Err c.in_err-apply_running.field-0.0) (sym c.has_failed.ensures ∙ c.if-has_failed.false) c.in_err-apply_running.ensures.ends)

pub returns-in_err-apply_running-clause-only : goal.returns-in_err-apply_running-clause-only
returns-in_err-apply_running-clause-only g c =
    let p = err_from_is_err_and c.from_residual.result c.from_residual.ensures.1 in
    rw (p.1, p.2) (c.in_err-apply_running.ensures.ends.only)

pub returns-clause-at_most : goal.returns-clause-at_most
returns-clause-at_most g c = c.in_ok-apply_running.ensures.ends.at_most

pub returns-in_err-apply_running-clause-at_most : goal.returns-in_err-apply_running-clause-at_most
returns-in_err-apply_running-clause-at_most g c = c.in_err-apply_running.ensures.ends.at_most
