use Rattle.std.proofs.Common.{Some, None, sym, ◌∙◌}
use Rattle.digester.proofs.Asks.{learned_here, learned_others, one_known, one_more}
use Rattle.digester.proofs.node_fetch.learn.Goals as goal

pub returns-in-Err-clause-refused : goal.returns-in-Err-clause-refused
returns-in-Err-clause-refused g c = λ first among needed before.
    one_more g.N.Nodes.asked g.met.N.Nodes.more_asked c.args.check.now.known among first c.args.nodes.now c.node.new.self c.args.inode (Some c.in-Err.error) (sym c.is_unknown.ensures ∙ c.if-not-is_unknown.false) needed c.in-Err.ensures.refused before

pub returns-in-Ok-learn-clause-answered : goal.returns-in-Ok-learn-clause-answered
returns-in-Ok-learn-clause-answered g c = λ first among needed before.
    one_known g.N.Nodes.asked g.met.N.Nodes.more_asked c.args.check.now.known c.learn.new.self.known among first c.args.nodes.now c.node.new.self c.args.inode (sym c.is_unknown.ensures ∙ c.if-not-is_unknown.false) (learned_here c.args.check.now.known c.learn.new.self.known c.args.inode c.in-Ok.node c.in-Ok-learn.ensures.known) (learned_others c.args.check.now.known c.learn.new.self.known c.args.inode c.in-Ok.node c.in-Ok-learn.ensures.known) needed c.in-Ok.ensures.answered before

pub returns-in-Err-learn-clause-refused : goal.returns-in-Err-learn-clause-refused
returns-in-Err-learn-clause-refused g c = λ first among needed before.
    one_more g.N.Nodes.asked g.met.N.Nodes.more_asked c.args.check.now.known among first c.args.nodes.now c.node.new.self c.args.inode None (sym c.is_unknown.ensures ∙ c.if-not-is_unknown.false) needed c.in-Ok.ensures.answered before
