use Rattle.std.proofs.Common.{sym, subst}
use Rattle.inode_plan.specs.RunPlaces.{EndsFit}
use Rattle.change_plan.proofs.Sparing.{normal_ends, same_data}
use Rattle.change_plan.proofs.spares.take_spares.Goals as goal

pub last_blocks-requires-clause-fit : goal.last_blocks-requires-clause-fit
last_blocks-requires-clause-fit c =
    let b = c.requires.before in
    subst EndsFit (sym c.deref.ensures.value) (normal_ends b.0.nodes.first b.0.nodes.end c.take_nodes.new.taken.nodes.items (c.in-Ok.ensures.took.took b.0 b.1 b.2).nodes.apart b.3)

pub returns-in_err-spares-in-Ok-clause-took : goal.returns-in_err-spares-in-Ok-clause-took
returns-in_err-spares-in-Ok-clause-took c = record { same = same_data c.args.taken.now c.take_nodes.new.taken c.in-Ok.ensures.data; took = c.in-Ok.ensures.took.took; undo = c.in-Ok.ensures.took.undo }

pub returns-in_ok-spares-in-Ok-clause-took : goal.returns-in_ok-spares-in-Ok-clause-took
returns-in_ok-spares-in-Ok-clause-took c = record { same = same_data c.args.taken.now c.take_nodes.new.taken c.in-Ok.ensures.data; took = c.in-Ok.ensures.took.took; undo = c.in-Ok.ensures.took.undo }
