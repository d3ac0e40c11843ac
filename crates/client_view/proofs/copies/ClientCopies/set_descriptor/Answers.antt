use Rattle.client_view.proofs.Known.{opened_is_known}
use Rattle.client_view.proofs.copies.ClientCopies.set_descriptor.Goals as goal

pub returns-clause-known : goal.returns-clause-known
returns-clause-known c =
    rw (← c.self.view_is)
    (opened_is_known (record { client = c.self.inside.client; own = c.self.inside.own; copies = c.self.inside.copies.items; blocks = c.self.inside.blocks; numbers = c.self.inside.numbers.items }) c.args.number c.args.what c.put_descriptor.new.own c.put_descriptor.ensures)
