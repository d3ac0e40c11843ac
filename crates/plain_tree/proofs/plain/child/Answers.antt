use Rattle.std.proofs.Common.{◌≡◌, Option, None, refl, ap, sym, ◌∙◌}
use Rattle.std.specs.Prelude.{option_map}
use Rattle.std.specs.FinMap as fin
use Rattle.posix_calls.specs.Tree.{Node, entries_of}
use Rattle.plain_tree.specs.Plain.{stored_tree}
use Rattle.plain_tree.proofs.Answering.{nothing_past, get_nothing}
use Rattle.plain_tree.proofs.plain.child.Goals as goal

pub returns-in_err-get-clause-inode : goal.returns-in_err-get-clause-inode
returns-in_err-get-clause-inode c =
    let past : stored_tree c.args.nodes.now c.args.dir ≡ None = nothing_past c.args.nodes.now c.args.nodes.now c.args.dir refl c.in_err-get.ensures.lookup.0 in
    ap (option_map (λ e. e.inode)) c.from_residual.ensures
    ∙ sym (ap (λ (o : Option Node). fin.get (entries_of o) c.args.name.now) past ∙ get_nothing c.args.name.now)
