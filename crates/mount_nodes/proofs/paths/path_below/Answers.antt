use Rattle.std.proofs.Common.{inl, inr}
use Rattle.std.proofs.lemmas.Result.{err_from_is_err_and}
use Rattle.mount_nodes.proofs.PathLemmas.{below_folder, below_nothing}
use Rattle.mount_nodes.proofs.paths.path_below.Goals as goal

pub returns-in_err-push_folder-clause-unknown : goal.returns-in_err-push_folder-clause-unknown
returns-in_err-push_folder-clause-unknown c =
    let p = err_from_is_err_and c.from_residual.result c.from_residual.ensures.1 in
    rw (p.1, p.2) (elim c.in_err-push_folder.ensures.unknown [ inl memory ↦ inl memory | inr none ↦ inr (below_nothing _ _ _ none) ])

pub returns-clause-path : goal.returns-clause-path
returns-clause-path c =
    below_folder _ _ _ _ _ _ c.new-path.ensures.items c.in_ok-push_folder.ensures.path c.in_ok-push_name.ensures
