use Rattle.graph_check.proofs.TablesGrow.{tables_fresh}
use Rattle.graph_check.proofs.tables.Tables.new.Goals as goal

pub returns-clause-read : goal.returns-clause-read
returns-clause-read c = λ long g. tables_fresh g _ c.args.places long c.in_ok-new_heads.ensures c.in_ok-new_name_counts.ensures c.in_ok-new_name_counts-2.ensures
