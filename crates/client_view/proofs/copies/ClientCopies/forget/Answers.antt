use Rattle.client_view.proofs.Known.{forgotten_is_known}
use Rattle.client_view.proofs.copies.ClientCopies.forget.Goals as goal

pub returns-clause-known : goal.returns-clause-known
returns-clause-known c =
    rw (c.drop_file.ensures, ← c.self.view_is)
    (forgotten_is_known (record { client = c.self.inside.client; own = c.self.inside.own; copies = c.self.inside.copies.items; blocks = c.self.inside.blocks; numbers = c.self.inside.numbers.items }) c.args.inode c.forget_slot.new.slots.items c.forget_slot.ensures.forgotten)
