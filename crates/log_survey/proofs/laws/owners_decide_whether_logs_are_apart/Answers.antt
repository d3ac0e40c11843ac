use Rattle.log_survey.proofs.OwnerLemmas.{apart_where_clear, none_own, more_own, clear_by_table, added_in_parts, clear_in_parts}
use Rattle.log_survey.proofs.laws.owners_decide_whether_logs_are_apart.Goals as goal

pub returns-clause-apart : goal.returns-clause-apart
returns-clause-apart c = apart_where_clear

pub returns-clause-none : goal.returns-clause-none
returns-clause-none c = none_own

pub returns-clause-next : goal.returns-clause-next
returns-clause-next c = more_own

pub returns-clause-clear : goal.returns-clause-clear
returns-clause-clear c = clear_by_table

pub returns-clause-added_in_parts : goal.returns-clause-added_in_parts
returns-clause-added_in_parts c = added_in_parts

pub returns-clause-clear_in_parts : goal.returns-clause-clear_in_parts
returns-clause-clear_in_parts c = clear_in_parts
