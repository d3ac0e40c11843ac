use Rattle.std.proofs.Common.{refl, inl}
use Rattle.std.proofs.lemmas.Result.{err_from_is_err_and}
use Rattle.mount_nodes.proofs.UpkeepLemmas.{refusal_behind, upkeep_once, upkeep_then}
use Rattle.mount_nodes.proofs.tables.Tables.hold_at.Goals as goal

pub returns-in_err-number-clause-asked : goal.returns-in_err-number-clause-asked
returns-in_err-number-clause-asked g c =
    let p = err_from_is_err_and c.from_residual-in_err-number.result c.from_residual-in_err-number.ensures.1 in
    rw (p.1, p.2) (refusal_behind g.T.Tree ⊥ _ _ _ _ c.in_ok-note_size.ensures.asked c.in_err-number.ensures.asked)

pub returns-clause-asked : goal.returns-clause-asked
returns-clause-asked g c =
    let opened = c.in_ok-number.ensures.asked in
    upkeep_then g.T.Tree _ _ _ c.in_ok-note_size.ensures.asked (upkeep_then g.T.Tree _ _ _ opened.1 (upkeep_once g.T.Tree _ _ _ _ (inl (refl, refl)) opened.2))
