use Rattle.world_history.proofs.MayBeSaid.{one_more_part}
use Rattle.world_history.proofs.Together.{one_leaves, said}
use Rattle.world_history.proofs.together_laws.said_move_keeps_parts_together.Goals as goal

pub returns-clause-said : goal.returns-clause-said
returns-clause-said r s parts m together may = said s parts m together may

pub returns-clause-fewer : goal.returns-clause-fewer
returns-clause-fewer r s p parts together = one_leaves s p parts together

pub returns-clause-more : goal.returns-clause-more
returns-clause-more r s p parts m may = one_more_part s p parts m may
