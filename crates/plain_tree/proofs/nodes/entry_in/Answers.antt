use Rattle.std.proofs.Common.{◌≡◌, Option, None, ap, sym, ◌∙◌, refl}
use Rattle.std.specs.FinMap as fin
use Rattle.posix_calls.specs.Tree.{Node, entries_of}
use Rattle.plain_tree.specs.Plain.{stored_tree}
use Rattle.plain_tree.proofs.Answering.{nothing_past, get_nothing}
use Rattle.plain_tree.proofs.nodes.entry_in.Goals as goal

pub returns-in-None : goal.returns-in-None
returns-in-None c =
    let past : stored_tree c.args.nodes.now c.args.at.now.parent ≡ None = nothing_past c.args.nodes.now c.args.nodes.now c.args.at.now.parent refl c.in-None.ensures.lookup.0 in
    sym (get_nothing c.args.at.now.name) ∙ sym (ap (λ (o : Option Node). fin.get (entries_of o) c.args.at.now.name) past)
