use Rattle.client_log.specs.call_effects.Knowledge.{part_of}
use Rattle.client_view.specs.client_plan.declared.need.Need.TheVariants as needs
use Rattle.libfs.specs.ClientHoldings.{holdings_of, known_to}
use Rattle.libfs.proofs.Served.{is_held}
use Rattle.libfs.proofs.laws.inode_need_is_servable.Goals as goal

pub returns-clause-view : goal.returns-clause-view
returns-clause-view g c = λ v call i none is.
    let held = is_held v i (c.served_need_is_lacking_no_longer.ensures.lacks (part_of (known_to v)) (holdings_of g.M.Media v) call (needs.View i) is).0 in
    (held.0, held.1, none)

pub returns-clause-unpin : goal.returns-clause-unpin
returns-clause-unpin g c = λ v call i is. (c.served_need_is_lacking_no_longer.ensures.lacks (part_of (known_to v)) (holdings_of g.M.Media v) call (needs.Unpin i) is).1
