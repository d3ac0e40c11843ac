use Rattle.std.proofs.Common.{ap, ◌∙◌}
use Rattle.client_plan.specs.file_graph.Graph.{is_among}
use Rattle.client_view.proofs.Numbers.{among_less, used_is_known}
use Rattle.client_view.proofs.copies.ClientCopies.use_number.Goals as goal

pub returns-clause-known : goal.returns-clause-known
returns-clause-known c =
    rw (← c.self.view_is)
    (used_is_known (record { client = c.self.inside.client; own = c.self.inside.own; copies = c.self.inside.copies.items; blocks = c.self.inside.blocks; numbers = c.self.inside.numbers.items }) c.args.number c.without_number.new.numbers.items (λ i. ap (is_among i) c.without_number.ensures ∙ among_less i c.args.number c.self.inside.numbers.items))
