use Rattle.mount_nodes.proofs.TimeLemmas.{runs_from}
use Rattle.std.proofs.Common.{◌≡◌, ◌⊎◌, inl, inr, false, IfSome}
use Rattle.std.proofs.lemmas.Result.{err_from_is_err_and}
use Rattle.posix_calls.specs.Name.{is_name}
use Rattle.posix_calls.specs.declared.call.Call.TheVariants as call
use Rattle.mount_nodes.specs.Calls.{done_of}
use Rattle.mount_nodes.specs.Upkeep.{IsLost}
use Rattle.mount_nodes.proofs.RenameLemmas.{asked_behind, refusal_since}
use Rattle.mount_nodes.proofs.UpkeepLemmas.{upkeep_none}
use Rattle.mount_nodes.proofs.tables.Tables.move_child.Goals as goal

pub returns-in_err-hold_open-clause-asked : goal.returns-in_err-hold_open-clause-asked
returns-in_err-hold_open-clause-asked g c =
    let lost : Type 0 = IfSome c.args.replaced (λ id. IsLost c.args.self.now.nodes id) in
    let p = err_from_is_err_and c.from_residual.result c.from_residual.ensures.1 in
    rw (p.1, p.2) (inr (refusal_since g.T.Tree lost ((is_name c.args.places.1.name.now ≡ false) ⊎ lost) _ _ _ (λ h. inr h) c.in_err-hold_open.ensures.asked))

pub returns-clause-asked : goal.returns-clause-asked
returns-clause-asked g c =
    let lost : Type 0 = IfSome c.args.replaced (λ id. IsLost c.args.self.now.nodes id) in
    let bad : Type 0 = is_name c.args.places.1.name.now ≡ false in
    asked_behind g.T.Tree (call.Rename c.args.paths.0 c.args.paths.1) done_of bad (bad ⊎ lost) _ _ _ _ (λ h. inl h) c.in_ok-hold_open.ensures.asked c.move_known.ensures.asked

pub returns-then-eq-clause-asked : goal.returns-then-eq-clause-asked
returns-then-eq-clause-asked g c =
    inl (c.args.tree.now, upkeep_none g.T.Tree c.args.tree.now, inr c.rename_paths.ensures)

pub returns-clause-times : goal.returns-clause-times
returns-clause-times g c = runs_from _ _ _ c.in_ok-hold_open.ensures.times c.move_known.ensures.times
