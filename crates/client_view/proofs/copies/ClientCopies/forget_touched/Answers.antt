use Rattle.client_view.proofs.Known.{touched_forgotten_is_known}
use Rattle.client_view.proofs.copies.ClientCopies.forget_touched.Goals as goal

pub returns-clause-known : goal.returns-clause-known
returns-clause-known c =
    rw (c.drop_touched.ensures, ← c.self.view_is)
    (touched_forgotten_is_known (record { client = c.self.inside.client; own = c.self.inside.own; copies = c.self.inside.copies.items; blocks = c.self.inside.blocks; numbers = c.self.inside.numbers.items }) c.args.effects.now)
