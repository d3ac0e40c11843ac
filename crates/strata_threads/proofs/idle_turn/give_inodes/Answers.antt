use Rattle.std.proofs.Common.{refl, arith}
use Rattle.strata_threads.proofs.LeaseReturn.{gives_both, gives_nothing, keeps_both, none_left, none_yet, one_more}
use Rattle.strata_threads.proofs.idle_turn.give_inodes.Goals as goal

pub loop-before-init : goal.loop-before-init
loop-before-init g c = record { given = gives_nothing c.args.client.now; none = none_yet c.args.client.now; kept = (refl, refl, refl) }

pub loop-before-preserved : goal.loop-before-preserved
loop-before-preserved g c =
    let i = c.loop-before.invariant in
    record {
      given = gives_both c.args.client.now c.loop-before.client c.give.new.client i.given c.give.ensures.given;
      none = one_more c.loop-before.client c.give.new.client c.loop-before.before c.give.ensures.given i.none c.give.ensures.none;
      kept = keeps_both c.args.client.now c.loop-before.client c.give.new.client i.kept c.give.ensures.kept;
    }

pub returns-clause-none : goal.returns-clause-none
returns-clause-none g c = none_left c.loop-before.client c.loop-before.before (omega (arith, c.loop-before-test.false)) c.loop-before.invariant.none
