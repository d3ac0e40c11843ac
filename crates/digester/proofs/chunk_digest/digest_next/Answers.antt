use Rattle.std.proofs.Common.{◌≡◌, ◌∙◌, inl, List, take, sym, ap, subst, arith}
use Rattle.std.specs.List.{AllByRecursion}
use Rattle.std.specs.List.Sorted.{IsNonDecreasing}
use Rattle.coalescer.specs.graph_change.Change.{Changes}
use Rattle.coalescer.specs.graph_change.View.{changes_of}
use Rattle.coalescer.specs.declared.run_change.RunChange.{RunChange}
use Rattle.update_log.specs.log_record.Grammar.{IsRecord}
use Rattle.update_log.specs.log_record.declared.format.Record.{Record}
use Rattle.shared_area.specs.area_reader.Store.{Store, disk, graph}
use Rattle.shared_area.proofs.area_reader_lemmas.Looked.{carried}
use Rattle.shared_area.specs.ChangeApply.{MakesFewCalls}
use Rattle.digester.specs.DigestStep.{IsGoodRun}
use Rattle.digester.specs.MarkMoves.{mark_after}
use Rattle.digester.specs.SealedLog.{undone, mark_then}
use Rattle.digester.proofs.Composed.{not_falling, lent, lent_tells, its_spelled, its_good_run, told_bad, bad_within, stays_open, digested_at, digests_at, stands_at, change_refused, few_looked}
use Rattle.digester.proofs.chunk_digest.digest_next.Goals as goal

pub complete_run-requires-clause-spelled : goal.complete_run-requires-clause-spelled
complete_run-requires-clause-spelled g c =
    let x = c.args.sealed.now in
    let chunk = c.args.chunk.now in
    subst (AllByRecursion IsRecord) (sym (lent x chunk c.invariant.ensures c.requires.some c.requires.chunk c.requires.next c.records.result.now c.digested_count-done.result c.end_of-end.result c.records.ensures c.digested_count-done.ensures c.end_of-end.ensures.end))
    (its_spelled x chunk c.invariant.ensures c.requires.some c.requires.chunk c.requires.next)

pub complete_run-requires-clause-rising : goal.complete_run-requires-clause-rising
complete_run-requires-clause-rising g c = subst IsNonDecreasing (sym c.held_inodes.ensures) (not_falling c.args.sealed.now.held c.invariant.ensures.rising)

pub apply_run-requires-clause-run : goal.apply_run-requires-clause-run
apply_run-requires-clause-run g c =
    let m = g.M.Media in
    let old = c.args.area.now in
    let x = c.args.sealed.now in
    let chunk = c.args.chunk.now in
    let s : Store = disk m old in
    let told = lent_tells x chunk c.invariant.ensures c.requires.some c.requires.chunk c.requires.next old.geometry s c.held_inodes.result.now c.records.result.now c.digested_count-done.result c.end_of-end.result c.in-Ok-AllGood.field-0 _ c.held_inodes.ensures c.records.ensures c.digested_count-done.ensures c.end_of-end.ensures.end c.in-Ok-AllGood.field-0-is c.in-Ok-AllGood.ensures.answer in
    let rs : List Record = take chunk.count (undone x) in (
      x.held,
      rs,
      carried m (λ h t. IsGoodRun x.held h.units (graph h t) rs (changes_of c.complete_run.new.run.change)) old c.complete_run.new.area _ c.in-Ok-AllGood.ensures.looks
          (its_good_run x chunk c.invariant.ensures c.requires.some c.requires.chunk c.requires.next old.geometry s (changes_of c.complete_run.new.run.change) (c.in-Ok-AllGood.ensures.change _ c.in-Ok-AllGood.field-0-is) told.0),
    )

pub returns-in-Ok-clause-any_moment : goal.returns-in-Ok-clause-any_moment
returns-in-Ok-clause-any_moment g c going =
    let m = g.M.Media in
    let old = c.args.area.now in
    let x = c.args.sealed.now in
    let chunk = c.args.chunk.now in
    let s : Store = disk m old in
    let told = lent_tells x chunk c.invariant.ensures c.requires.some c.requires.chunk c.requires.next old.geometry s c.held_inodes.result.now c.records.result.now c.digested_count-done.result c.end_of-end.result c.in-Ok-AllGood.field-0 _ c.held_inodes.ensures c.records.ensures c.digested_count-done.ensures c.end_of-end.ensures.end c.in-Ok-AllGood.field-0-is c.in-Ok-AllGood.ensures.answer in
    let moved : c.mark_after-mark.result ≡ mark_then x chunk.count =
    c.mark_after-mark.ensures ∙ (λ k. mark_after (c.generation.ensures k) (c.end_of-end.ensures.end k) (c.count.ensures k)) in
    digests_at m x chunk c.invariant.ensures c.requires.some c.requires.chunk c.requires.next old c.complete_run.new.area c.in-Ok-AllGood.field-0 (changes_of c.complete_run.new.run.change) (c.in-Ok-AllGood.ensures.change _ c.in-Ok-AllGood.field-0-is) c.mark_after-mark.result c.in-Ok-AllGood.ensures.looks (c.requires.at_mark going) told.0 moved
    c.client.result (m.moment c.apply_run.new.area.media) (m.left c.apply_run.new.area.media) c.client.ensures c.apply_run.ensures.any_moment

pub returns-in-Err-apply_run-clause-any_moment : goal.returns-in-Err-apply_run-clause-any_moment
returns-in-Err-apply_run-clause-any_moment g c going =
    let m = g.M.Media in
    let old = c.args.area.now in
    let x = c.args.sealed.now in
    let chunk = c.args.chunk.now in
    let s : Store = disk m old in
    let told = lent_tells x chunk c.invariant.ensures c.requires.some c.requires.chunk c.requires.next old.geometry s c.held_inodes.result.now c.records.result.now c.digested_count-done.result c.end_of-end.result c.in-Ok-AllGood.field-0 _ c.held_inodes.ensures c.records.ensures c.digested_count-done.ensures c.end_of-end.ensures.end c.in-Ok-AllGood.field-0-is c.in-Ok-AllGood.ensures.answer in
    let moved : c.mark_after-mark.result ≡ mark_then x chunk.count =
    c.mark_after-mark.ensures ∙ (λ k. mark_after (c.generation.ensures k) (c.end_of-end.ensures.end k) (c.count.ensures k)) in
    digests_at m x chunk c.invariant.ensures c.requires.some c.requires.chunk c.requires.next old c.complete_run.new.area c.in-Ok-AllGood.field-0 (changes_of c.complete_run.new.run.change) (c.in-Ok-AllGood.ensures.change _ c.in-Ok-AllGood.field-0-is) c.mark_after-mark.result c.in-Ok-AllGood.ensures.looks (c.requires.at_mark going) told.0 moved
    c.client.result (m.moment c.apply_run.new.area.media) (m.left c.apply_run.new.area.media) c.client.ensures c.apply_run.ensures.any_moment

pub returns-in-Ok-clause-digested : goal.returns-in-Ok-clause-digested
returns-in-Ok-clause-digested g c =
    let m = g.M.Media in
    let old = c.args.area.now in
    let x = c.args.sealed.now in
    let chunk = c.args.chunk.now in
    let s : Store = disk m old in
    let told = lent_tells x chunk c.invariant.ensures c.requires.some c.requires.chunk c.requires.next old.geometry s c.held_inodes.result.now c.records.result.now c.digested_count-done.result c.end_of-end.result c.in-Ok-AllGood.field-0 _ c.held_inodes.ensures c.records.ensures c.digested_count-done.ensures c.end_of-end.ensures.end c.in-Ok-AllGood.field-0-is c.in-Ok-AllGood.ensures.answer in
    let moved : c.mark_after-mark.result ≡ mark_then x chunk.count =
    c.mark_after-mark.ensures ∙ (λ k. mark_after (c.generation.ensures k) (c.end_of-end.ensures.end k) (c.count.ensures k)) in
    let going = c.in-Ok-AllGood.ensures.looks.going.0 in
    digested_at m x chunk c.invariant.ensures c.requires.some c.requires.chunk c.requires.next old c.complete_run.new.area c.in-Ok-AllGood.field-0 (changes_of c.complete_run.new.run.change) (c.in-Ok-AllGood.ensures.change _ c.in-Ok-AllGood.field-0-is) c.mark_after-mark.result c.in-Ok-AllGood.ensures.looks (c.requires.at_mark going) told.0 moved
    c.client.result (disk m c.apply_run.new.area) c.client.ensures c.in-Ok.ensures.applied

pub returns-in-Ok-clause-at_mark : goal.returns-in-Ok-clause-at_mark
returns-in-Ok-clause-at_mark g c =
    let m = g.M.Media in
    let old = c.args.area.now in
    let x = c.args.sealed.now in
    let chunk = c.args.chunk.now in
    let s : Store = disk m old in
    let told = lent_tells x chunk c.invariant.ensures c.requires.some c.requires.chunk c.requires.next old.geometry s c.held_inodes.result.now c.records.result.now c.digested_count-done.result c.end_of-end.result c.in-Ok-AllGood.field-0 _ c.held_inodes.ensures c.records.ensures c.digested_count-done.ensures c.end_of-end.ensures.end c.in-Ok-AllGood.field-0-is c.in-Ok-AllGood.ensures.answer in
    let moved : c.mark_after-mark.result ≡ mark_then x chunk.count =
    c.mark_after-mark.ensures ∙ (λ k. mark_after (c.generation.ensures k) (c.end_of-end.ensures.end k) (c.count.ensures k)) in
    let going = c.in-Ok-AllGood.ensures.looks.going.0 in
    stands_at m x chunk c.invariant.ensures c.requires.some c.requires.chunk c.requires.next old c.complete_run.new.area c.in-Ok-AllGood.field-0 (changes_of c.complete_run.new.run.change) (c.in-Ok-AllGood.ensures.change _ c.in-Ok-AllGood.field-0-is) c.mark_after-mark.result c.in-Ok-AllGood.ensures.looks (c.requires.at_mark going) told.0 moved
    c.client.result c.end_of-end.result (disk m c.apply_run.new.area) c.client.ensures c.end_of-end.ensures.end c.apply_run.ensures.fits c.in-Ok.ensures.applied

pub returns-in-Err-apply_run-clause-digests : goal.returns-in-Err-apply_run-clause-digests
returns-in-Err-apply_run-clause-digests g c =
    let m = g.M.Media in
    change_refused m c.args.area.now c.complete_run.new.area c.apply_run.new.area c.in-Ok-AllGood.field-0 c.in-Err-apply_run.error c.digest_error.result c.in-Ok-AllGood.ensures.looks c.in-Err-apply_run.ensures.applies c.digest_error.ensures

pub overflow_add-result : goal.overflow_add-result
overflow_add-result g c =
    let m = g.M.Media in
    let old = c.args.area.now in
    let x = c.args.sealed.now in
    let chunk = c.args.chunk.now in
    let s : Store = disk m old in
    let told = lent_tells x chunk c.invariant.ensures c.requires.some c.requires.chunk c.requires.next old.geometry s c.held_inodes.result.now c.records.result.now c.digested_count-done.result c.end_of-end.result c.in-Ok-FirstBad.field-0 _ c.held_inodes.ensures c.records.ensures c.digested_count-done.ensures c.end_of-end.ensures.end c.in-Ok-FirstBad.field-0-is c.in-Ok-FirstBad.ensures.answer in
    let within = bad_within x chunk c.invariant.ensures c.requires.some c.requires.chunk c.requires.next old.geometry s c.in-Ok-FirstBad.place told in
    let few = c.invariant.ensures.few in
    let from : c.digested_count-done.result ≡ x.done = c.digested_count-done.ensures in
    omega (arith, within, few, from)

pub returns-in-Ok-FirstBad-clause-any_moment : goal.returns-in-Ok-FirstBad-clause-any_moment
returns-in-Ok-FirstBad-clause-any_moment g c going =
    let m = g.M.Media in
    let old = c.args.area.now in
    let x = c.args.sealed.now in
    let chunk = c.args.chunk.now in
    let s : Store = disk m old in
    let new = c.complete_run.new.area in
    stays_open x old.geometry s chunk.count (m.moment old.media) (m.left old.media) (m.moment new.media) (m.seen old.media) (m.seen new.media) (m.left new.media) c.in-Ok-FirstBad.ensures.looks.unmoved (c.left_now.ensures.same going) (c.left_now.ensures.loose going)

pub returns-in-Ok-FirstBad-clause-bad : goal.returns-in-Ok-FirstBad-clause-bad
returns-in-Ok-FirstBad-clause-bad g c =
    let m = g.M.Media in
    let old = c.args.area.now in
    let x = c.args.sealed.now in
    let chunk = c.args.chunk.now in
    let s : Store = disk m old in
    let told = lent_tells x chunk c.invariant.ensures c.requires.some c.requires.chunk c.requires.next old.geometry s c.held_inodes.result.now c.records.result.now c.digested_count-done.result c.end_of-end.result c.in-Ok-FirstBad.field-0 _ c.held_inodes.ensures c.records.ensures c.digested_count-done.ensures c.end_of-end.ensures.end c.in-Ok-FirstBad.field-0-is c.in-Ok-FirstBad.ensures.answer in
    told_bad x chunk c.invariant.ensures c.requires.some c.requires.chunk c.requires.next old.geometry s c.digested_count-done.result c.in-Ok-FirstBad.place c.digested_count-done.ensures told

pub returns-in-Err-clause-any_moment : goal.returns-in-Err-clause-any_moment
returns-in-Err-clause-any_moment g c going =
    let m = g.M.Media in
    let old = c.args.area.now in
    let x = c.args.sealed.now in
    let chunk = c.args.chunk.now in
    let s : Store = disk m old in
    let new = c.complete_run.new.area in
    stays_open x old.geometry s chunk.count (m.moment old.media) (m.left old.media) (m.moment new.media) (m.seen old.media) (m.seen new.media) (m.left new.media) c.in-Err.ensures.looks.unmoved (c.left_now.ensures.same going) (c.left_now.ensures.loose going)

pub returns-in-Ok-clause-at_most : goal.returns-in-Ok-clause-at_most
returns-in-Ok-clause-at_most g c =
    let m = g.M.Media in
    let old = c.args.area.now in
    let new = c.apply_run.new.area in
    subst (λ (cs : Changes). MakesFewCalls old.geometry (disk m old) cs (m.moment old.media) (m.moment new.media) (m.left old.media) (m.left new.media)) (c.in-Ok-AllGood.ensures.change _ c.in-Ok-AllGood.field-0-is)
    (few_looked m old c.complete_run.new.area new c.in-Ok-AllGood.field-0 (changes_of c.complete_run.new.run.change) c.in-Ok-AllGood.ensures.looks c.apply_run.ensures.at_most)

pub returns-in-Err-apply_run-clause-at_most : goal.returns-in-Err-apply_run-clause-at_most
returns-in-Err-apply_run-clause-at_most g c =
    let m = g.M.Media in
    let old = c.args.area.now in
    let new = c.apply_run.new.area in
    subst (λ (cs : Changes). MakesFewCalls old.geometry (disk m old) cs (m.moment old.media) (m.moment new.media) (m.left old.media) (m.left new.media)) (c.in-Ok-AllGood.ensures.change _ c.in-Ok-AllGood.field-0-is)
    (few_looked m old c.complete_run.new.area new c.in-Ok-AllGood.field-0 (changes_of c.complete_run.new.run.change) c.in-Ok-AllGood.ensures.looks c.apply_run.ensures.at_most)

pub returns-in-Ok-FirstBad-clause-at_most : goal.returns-in-Ok-FirstBad-clause-at_most
returns-in-Ok-FirstBad-clause-at_most g c = inl (let clock = c.in-Ok-FirstBad.ensures.looks.unmoved.clock in omega (arith, clock))

pub returns-in-Err-clause-at_most : goal.returns-in-Err-clause-at_most
returns-in-Err-clause-at_most g c = inl (let clock = c.in-Err.ensures.looks.unmoved.clock in omega (arith, clock))

pub returns-in-Ok-FirstBad-clause-no_swap : goal.returns-in-Ok-FirstBad-clause-no_swap
returns-in-Ok-FirstBad-clause-no_swap g c none =
    let chunk = c.args.chunk.now in
    ap (λ (run : RunChange). record { client = chunk.client; generation = chunk.generation; first = chunk.first; count = chunk.count; change = run }) (c.in-Ok-FirstBad.ensures.no_swap none)
