use Rattle.std.proofs.Common.{◌≡◌, ◌⊎◌, ◌∙◌, inl, inr, sym, false, IfSome}
use Rattle.posix_calls.specs.Name.{is_name}
use Rattle.posix_calls.specs.declared.call.Call.TheVariants as call
use Rattle.mount_nodes.specs.Calls.{Answers, MayAsk, done_of}
use Rattle.mount_nodes.specs.Renames.{IsUnmoved}
use Rattle.mount_nodes.specs.Upkeep.{IsLost, child_at}
use Rattle.mount_nodes.proofs.RenameLemmas.{behind_since}
use Rattle.mount_nodes.proofs.UpkeepLemmas.{upkeep_none}
use Rattle.mount_nodes.proofs.tables.Tables.move_name.Goals as goal

pub returns-in-Some-clause-asked : goal.returns-in-Some-clause-asked
returns-in-Some-clause-asked g c =
    let nodes = c.args.self.now.nodes in
    let lost : Type 0 = IfSome (child_at nodes c.args.new.folder c.args.new.name.now) (λ id. IsLost nodes id) in
    let why : Type 0 = (is_name c.args.new.name.now ≡ false) ⊎ lost in
    let then : Type 0 = IsUnmoved nodes (c.args.old.folder, c.args.old.name.now) (c.args.new.folder, c.args.new.name.now) in
    let moved = rw c.child-replaced.ensures at c.move_child.ensures.asked in
    behind_since g.T.Tree why then (MayAsk g.T.Tree (call.Rename c.args.paths.0 c.args.paths.1) done_of Answers) _ _ _ (λ h. inr h) moved

pub returns-in-None-clause-asked : goal.returns-in-None-clause-asked
returns-in-None-clause-asked g c = inr (inl (inr (inl (sym c.child.ensures ∙ c.in-None.is)), upkeep_none g.T.Tree _))
