use Rattle.mount_nodes.proofs.TimeLemmas.{runs_from, runs_to, written_from, written_to}
use Rattle.mount_nodes.proofs.tables.Tables.write.Goals as goal

pub returns-clause-times : goal.returns-clause-times
returns-clause-times g c = runs_to _ _ _ (runs_from _ _ _ c.in_ok-number.ensures.times c.write.ensures.runs) c.grow_to.ensures

pub returns-clause-written : goal.returns-clause-written
returns-clause-written g c = written_to c.args.self.now.times c.write.new.self c.grow_to.new.self.times c.args.id (written_from c.args.self.now.times c.take_descriptor.new.self.times c.write.new.self c.args.id c.in_ok-number.ensures.times c.write.ensures.written) c.grow_to.ensures
