use Rattle.std.proofs.Common.{inl, refl}
use Rattle.std.specs.Prelude.{min}
use Rattle.strata_threads.proofs.LeaseReturn.{takes_no_more}
use Rattle.strata_threads.proofs.Questions.{answers_rows}
use Rattle.strata_threads.proofs.thread_client.ThreadClient.listen_to.Goals as goal

pub returns-then-give_asked-clause-listened : goal.returns-then-give_asked-clause-listened
returns-then-give_asked-clause-listened g c =
    let back = c.take_back.new.self in
    let asks = c.give_asked.ensures in (
      back.client,
      c.give_asked.new.client,
      c.take_back.ensures.back,
      takes_no_more back.client c.hear.new.client c.give_asked.new.client c.hear.ensures.leases asks.given.none,
      answers_rows (min c.args.rows 16) back.client c.hear.new.client c.give_asked.new.client c.args.self.now.asked back.asked c.hear.new.asked c.give_asked.new.asked c.hand_over.new.self.asked c.take_back.ensures.asked c.hand_over.ensures.asked c.hear.ensures.heard asks.answered asks.only asks.given asks.unasked asks.later,
      c.hand_over.ensures.sealed,
    )

pub returns-else-give_asked-clause-listened : goal.returns-else-give_asked-clause-listened
returns-else-give_asked-clause-listened g c =
    let back = c.take_back.new.self in
    let asks = c.give_asked.ensures in (
      back.client,
      c.give_asked.new.client,
      c.take_back.ensures.back,
      takes_no_more back.client c.hear.new.client c.give_asked.new.client c.hear.ensures.leases asks.given.none,
      answers_rows (min c.args.rows 16) back.client c.hear.new.client c.give_asked.new.client c.args.self.now.asked back.asked c.hear.new.asked c.give_asked.new.asked c.give_asked.new.asked c.take_back.ensures.asked refl c.hear.ensures.heard asks.answered asks.only asks.given asks.unasked asks.later,
      inl refl,
    )
