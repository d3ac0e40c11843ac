use Rattle.shared_area.proofs.FirstRuns.{none_of_other}
use Rattle.shared_area.proofs.run_search.lies_in.Goals as goal

pub returns-in-Some-clause-none : goal.returns-in-Some-clause-none
returns-in-Some-clause-none c not = none_of_other c.args.parts.now.extents c.args.block c.in-Some.field-0-1 c.args.tier c.in-Some.found c.requires c.in-Some.ensures.some (c.is_same.ensures.differ not)
