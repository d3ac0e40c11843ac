use Rattle.strata_threads.proofs.thread_client.ThreadClient.take_lease.Goals as goal

pub returns-in-Err-clause-asked : goal.returns-in-Err-clause-asked
returns-in-Err-clause-asked g c = λ waited. (c.request_lease.new.client, c.in-Err.word, c.in-Err.ensures.barred, c.ask_holders.ensures.listened)
