use Rattle.libfs.specs.lease_manager.Passes.{client_of}
use Rattle.libfs.specs.lease_manager.Words.{asked_word}
use Rattle.libfs.specs.lease_manager.declared.view.Event.TheVariants.{Heard}
use Rattle.strata_threads.proofs.LeaseReturn.{hears}
use Rattle.strata_threads.proofs.idle_turn.empty_row.Goals as goal

pub returns-clause-leases : goal.returns-clause-leases
returns-clause-leases g c = hears c.args.client.now c.asked_back.new.self (Heard (asked_word (client_of c.args.client.now.pass) c.args.row) c.asked_back.result) c.asked_back.ensures.heard
