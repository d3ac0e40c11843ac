use Rattle.std.proofs.Common.{◌≡◌, ◌<◌, ◌+◌, ◌++◌, length, take, true, false, sym, ap, subst, ◌∙◌, arith}
use Rattle.log_record.specs.declared.format.Record.{Record}
use Rattle.coalescer.specs.Records.{effects_in}
use Rattle.coalescer.specs.Weight.{fits_chunk}
use Rattle.coalescer.proofs.Folds.{next_record, some_among, of_error}
use Rattle.coalescer.specs.EffectCounts.{Weighs}
use Rattle.coalescer.proofs.Runs.{all_of_them, stopped}
use Rattle.coalescer.proofs.run.counted_run.Goals as goal
use Rattle.coalescer.proofs.run.counted_run.Goals.{else-count-gt0-via-then-count-gt0+else-not-fits, else-count-gt0-via-else-count-gt0}

pub returns-then-not-fits-clause-exact : goal.returns-then-not-fits-clause-exact
returns-then-not-fits-clause-exact c =
    let n = c.loop-count.count in
    let rs = c.args.records.now in
    let item = c.index-records-count.result in
    let next = next_record rs n item c.loop-count-test.true in
    let is : effects_in (take (n + 1) rs) ≡ effects_in (take n rs) ++ item.effects = cc (next, c.index-records-count.is) in
    let over : fits_chunk (effects_in (take (n + 1) rs)) ≡ false =
    ap fits_chunk is ∙ sym (c.fits.ensures (effects_in (take n rs) ++ item.effects) (c.in_ok-add.ensures.exact (effects_in (take n rs)) c.loop-count.invariant.0)) ∙ c.if-not-fits.true in
    stopped rs n c.if-count-gt0.true c.loop-count-test.true c.loop-count.invariant.1 over

pub returns-in_err-add-clause-memory : goal.returns-in_err-add-clause-memory
returns-in_err-add-clause-memory c =
    of_error c.from_residual.result (some_among c.args.records.now c.loop-count.count c.index-records-count.result c.loop-count-test.true (subst (λ (r : Record). 0 < length r.effects) c.index-records-count.is c.in_err-add.ensures.memory))

pub loop-count-init : goal.loop-count-init
loop-count-init c = (c.new-weight.ensures, λ many. absurd (omega (arith, many)))

pub loop-count-preserved : goal.loop-count-preserved
loop-count-preserved c =
    let n = c.loop-count.count in
    let rs = c.args.records.now in
    let item = c.index-records-count.result in
    let next = next_record rs n item c.loop-count-test.true in
    let is : effects_in (take (n + 1) rs) ≡ effects_in (take n rs) ++ item.effects = cc (next, c.index-records-count.is) in
    let weighs : Weighs (effects_in (take (n + 1) rs)) c.add.new.self = subst (λ es. Weighs es c.add.new.self) (sym is) (c.in_ok-add.ensures.exact (effects_in (take n rs)) c.loop-count.invariant.0) in (
      weighs,
      λ many. elim c.else-count-gt0.branch [
        | else-count-gt0-via-then-count-gt0+else-not-fits w ↦ sym (w.fits.ensures (effects_in (take (n + 1) rs)) weighs) ∙ w.if-not-fits.false
        | else-count-gt0-via-else-count-gt0 w ↦ absurd (omega (arith, many, w.if-count-gt0.false))
      ],
    )

pub returns-clause-exact : goal.returns-clause-exact
returns-clause-exact c =
    let n = c.loop-count.count in
    let rs = c.args.records.now in
    let all : n ≡ length rs = omega (arith, c.loop-count-test.false, c.loop-count.auto.count-end) in
    all_of_them rs (subst (λ k. 1 < k → fits_chunk (effects_in (take k rs)) ≡ true) all c.loop-count.invariant.1)
