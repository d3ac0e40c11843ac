use Rattle.std.proofs.Common.{◌≡◌}
use Rattle.strata_threads.specs.ClientCalls.{owner_of}
use Rattle.strata_threads.proofs.thread_client.ThreadClient.answer_call.Given as goal

abbrev pub invariant-loop-turn : goal.invariant-loop-turn
invariant-loop-turn g l = (owner_of l.self.client ≡ owner_of l.fn.self.client) × (l.self.waited.turns ≡ l.turns)
