use Rattle.std.proofs.Common.{◌∙◌, ap, sym}
use Rattle.libfs.specs.lease_manager.Passes.{lease_of}
use Rattle.strata_threads.proofs.LeaseReturn.{gives_if_it_can, gives_no_other}
use Rattle.strata_threads.proofs.idle_turn.give_held.Goals as goal

pub returns-clause-given : goal.returns-clause-given
returns-clause-given g c = (gives_if_it_can c.args.client.now c.give.new.self c.args.inode c.give.result c.give.ensures.exact c.give.ensures.given c.give.ensures.kept).0

pub returns-clause-none : goal.returns-clause-none
returns-clause-none g c = (gives_if_it_can c.args.client.now c.give.new.self c.args.inode c.give.result c.give.ensures.exact c.give.ensures.given c.give.ensures.kept).1

pub returns-clause-held : goal.returns-clause-held
returns-clause-held g c = λ none free. c.requires.held (ap (λ v. lease_of v.pass c.args.inode) (sym (c.give.ensures.kept none)) ∙ free)

pub returns-clause-others : goal.returns-clause-others
returns-clause-others g c = gives_no_other c.args.client.now c.give.new.self c.args.inode c.give.result c.give.ensures.exact c.give.ensures.given c.give.ensures.kept
