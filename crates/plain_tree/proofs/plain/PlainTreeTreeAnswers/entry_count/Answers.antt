use Rattle.std.proofs.Common.{◌≡◌, Option, Some, None, ap, sym, ◌∙◌}
use Rattle.std.specs.Prelude.{option_map}
use Rattle.posix_calls.specs.Tree.{Node, names_of}
use Rattle.posix_calls.specs.Query.{seen_node}
use Rattle.posix_calls.specs.Answers.{count_in}
use Rattle.plain_tree.specs.Plain.{Stored, stored_tree}
use Rattle.plain_tree.proofs.Answering.{nothing_past, count_nothing}
use Rattle.plain_tree.proofs.plain.PlainTreeTreeAnswers.entry_count.Goals as goal

pub returns-in-None : goal.returns-in-None
returns-in-None c =
    let past : stored_tree c.args.self.now.nodes c.args.dir ≡ None = nothing_past c.as_slice.result.now c.args.self.now.nodes c.args.dir (c.as_slice.ensures ∙ ap (λ (s : Stored). s.nodes) c.self.view_is) c.in-None.ensures.lookup.0 in
    ap Some (sym (count_nothing))
    ∙ sym (ap (λ (o : Option Node). Some (count_in (option_map (seen_node (names_of (stored_tree c.args.self.now.nodes) c.args.dir)) o))) past)
