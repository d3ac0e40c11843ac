use Rattle.graph_check.proofs.check.check_graph.Goals as goal

pub check_in-requires-clause-fresh : goal.check_in-requires-clause-fresh
check_in-requires-clause-fresh g c = c.in-Ok.ensures.read c.place_count.ensures
