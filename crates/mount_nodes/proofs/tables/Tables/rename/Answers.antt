use Rattle.std.proofs.Common.{inl, inr}
use Rattle.mount_nodes.proofs.tables.Tables.rename.Goals as goal

pub returns-in-0-clause-renames : goal.returns-in-0-clause-renames
returns-in-0-clause-renames g c = inr (c.in_ok-from.from.items, c.in_ok-from.ensures.path, inr (c.in_ok-to.to.items, c.in_ok-to.ensures.path, inl (c.in-0.is, c.move_path.ensures.asked)))

pub returns-in-1-clause-renames : goal.returns-in-1-clause-renames
returns-in-1-clause-renames g c = inr (c.in_ok-from.from.items, c.in_ok-from.ensures.path, inr (c.in_ok-to.to.items, c.in_ok-to.ensures.path, inr (inl (c.in-1.is, c.move_beside.ensures.asked))))

pub returns-in-2-clause-renames : goal.returns-in-2-clause-renames
returns-in-2-clause-renames g c = inr (c.in_ok-from.from.items, c.in_ok-from.ensures.path, inr (c.in_ok-to.to.items, c.in_ok-to.ensures.path, inr (inr (inl (c.in-2.is, c.exchange.ensures.exchanges)))))
