use Rattle.client_plan.proofs.plain_writes.plain_write.Goals as goal

pub returns-in_default-clause-none : goal.returns-in_default-clause-none
returns-in_default-clause-none g c = λ w plain. c.in_default.ensures.none w.inode plain.writable
