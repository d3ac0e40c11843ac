use Rattle.libfs.specs.lease_manager.Passes.{client_of}
use Rattle.libfs.specs.lease_manager.Words.{asked_word}
use Rattle.libfs.specs.lease_manager.declared.view.Event.TheVariants.{Looked}
use Rattle.strata_threads.proofs.LeaseReturn.{hears}
use Rattle.strata_threads.proofs.idle_turn.has_questions.Goals as goal

pub returns-clause-leases : goal.returns-clause-leases
returns-clause-leases g c = hears c.args.client.now c.unheard_questions.new.self (Looked (asked_word (client_of c.args.client.now.pass) c.args.row) c.unheard_questions.result) c.unheard_questions.ensures.found
