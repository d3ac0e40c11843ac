use Rattle.mount_nodes.proofs.TimeLemmas.{goes_then, met_goes, written_met, written_since, written_then}
use Rattle.mount_nodes.proofs.tables.Tables.tell_made.Goals as goal

pub returns-in_err-made-clause-times : goal.returns-in_err-made-clause-times
returns-in_err-made-clause-times g c = goes_then _ _ _ c.write.ensures.runs.goes (met_goes _ _ c.in_err-made.ensures.times)

pub returns-clause-times : goal.returns-clause-times
returns-clause-times g c = goes_then _ _ _ (goes_then _ _ _ c.write.ensures.runs.goes (met_goes _ _ c.in_ok-made.ensures.times)) c.write-2.ensures.runs.goes

pub returns-clause-made : goal.returns-clause-made
returns-clause-made g c = written_then _ _ _ _ (goes_then _ _ _ c.write.ensures.runs.goes (met_goes _ _ c.in_ok-made.ensures.times)) (written_met _ _ _ _ c.write.ensures.runs.goes c.write.ensures.written c.in_ok-made.ensures.times) c.write-2.ensures.runs

pub returns-clause-fresh : goal.returns-clause-fresh
returns-clause-fresh g c = written_since _ _ _ _ (goes_then _ _ _ c.write.ensures.runs.goes (met_goes _ _ c.in_ok-made.ensures.times)) c.write-2.ensures.runs.goes c.write-2.ensures.written
