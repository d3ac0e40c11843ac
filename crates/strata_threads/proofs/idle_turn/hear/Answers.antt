use Rattle.std.proofs.Common.{◌≡◌, ◌+◌, refl, suc, subst, arith}
use Rattle.std.specs.Prelude.{bit_or, slice_index, slice_set}
use Rattle.strata_threads.specs.HeardQuestions.{HasHeardRows}
use Rattle.strata_threads.proofs.LeaseReturn.{keeps_both, takes_no_more, takes_nothing}
use Rattle.strata_threads.proofs.idle_turn.hear.Goals as goal

pub loop-row-init : goal.loop-row-init
loop-row-init g c = record { heard = (refl, refl); leases = takes_nothing c.args.client.now; kept = (refl, refl, refl) }

pub loop-row-preserved : goal.loop-row-preserved
loop-row-preserved g c =
    let i = c.loop-row.invariant in
    let one : suc c.loop-row.row ≡ c.loop-row.row + 1 = omega arith in
    record {
      heard = subst (λ n. HasHeardRows n c.args.client.now c.args.asked.now c.hear_row-bits.new.client (slice_set c.loop-row.asked c.loop-row.row (bit_or (slice_index c.loop-row.asked c.loop-row.row) c.hear_row-bits.result))) one (c.loop-row.client, c.loop-row.asked, c.hear_row-bits.result, i.heard, c.hear_row-bits.ensures.heard, refl);
      leases = takes_no_more c.args.client.now c.loop-row.client c.hear_row-bits.new.client i.leases c.hear_row-bits.ensures.leases;
      kept = keeps_both c.args.client.now c.loop-row.client c.hear_row-bits.new.client i.kept c.hear_row-bits.ensures.kept;
    }
