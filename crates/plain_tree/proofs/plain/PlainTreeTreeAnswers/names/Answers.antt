use Rattle.std.proofs.Common.{◌≡◌, ℕ, Option, Some, None, ap, sym, ◌∙◌, map}
use Rattle.std.specs.Prelude.{option_map, List}
use Rattle.posix_calls.specs.Tree.{Node, names_of}
use Rattle.posix_calls.specs.Query.{seen_node}
use Rattle.posix_calls.specs.Answers.{listed_in}
use Rattle.plain_tree.specs.Plain.{Stored, stored_tree}
use Rattle.plain_tree.proofs.Answering.{nothing_past, list_nothing}
use Rattle.plain_tree.proofs.plain.PlainTreeTreeAnswers.names.Goals as goal

pub returns-in-None-clause-names : goal.returns-in-None-clause-names
returns-in-None-clause-names c =
    let past : stored_tree c.args.self.now.nodes c.args.dir ≡ None = nothing_past c.as_slice.result.now c.args.self.now.nodes c.args.dir (c.as_slice.ensures ∙ ap (λ (s : Stored). s.nodes) c.self.view_is) c.in-None.ensures.lookup.0 in
    ap Some (c.from_vec.ensures ∙ c.new.ensures.items) ∙ ap Some (sym (ap (λ (es : List (List ℕ × ℕ)). map (λ e. e.0) es) list_nothing))
    ∙ sym (ap (λ (o : Option Node). Some (listed_in (option_map (seen_node (names_of (stored_tree c.args.self.now.nodes) c.args.dir)) o))) past)
