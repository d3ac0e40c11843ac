use Rattle.mount_nodes.proofs.TimeLemmas.{goes_then, touched_then, written_is_touched}
use Rattle.std.proofs.Common.{◌∙◌}
use Rattle.mount_nodes.proofs.tables.Tables.set_attributes.Goals as goal

pub returns-in_err-attributes-clause-times : goal.returns-in_err-attributes-clause-times
returns-in_err-attributes-clause-times g c = c.in_err-attributes.ensures.times.goes

pub returns-clause-times : goal.returns-clause-times
returns-clause-times g c = goes_then _ _ _ c.in_ok-attributes.ensures.times.goes c.set.ensures.goes_on

pub returns-clause-written : goal.returns-clause-written
returns-clause-written g c = λ some. touched_then c.args.self.now.times c.set_size_of.new.self.times c.set.new.self c.args.id c.in_ok-attributes.ensures.times.goes (written_is_touched c.args.self.now.times c.set_size_of.new.self.times c.args.id (c.in_ok-attributes.ensures.written some)) c.set.ensures.goes_on

pub returns-clause-set : goal.returns-clause-set
returns-clause-set g c = c.set.ensures.set

pub returns-clause-kept : goal.returns-clause-kept
returns-clause-kept g c = λ size accessed modified. c.set.ensures.kept accessed modified ∙ c.in_ok-attributes.ensures.kept size
