use Rattle.std.proofs.Common.{◌<◌, length, ap, ◌∙◌, arith}
use Rattle.std.proofs.lemmas.Bool.Decides.{nat_tests}
use Rattle.client_plan.specs.call_effects.Knowledge.{Knowledge, with_copy}
use Rattle.client_view.proofs.Known.{put_is_known, nothing_to_lose}
use Rattle.client_view.proofs.copies.ClientCopies.put_view.Goals as goal

pub returns-clause-known : goal.returns-clause-known
returns-clause-known c =
    let inside : c.args.inode < length c.self.inside.copies.items = grind (arith, nat_tests, c.requires, c.self.invariant) in
    rw (c.drop_file.ensures, ← c.self.view_is)
    (put_is_known (record { client = c.self.inside.client; own = c.self.inside.own; copies = c.self.inside.copies.items; blocks = c.self.inside.blocks; numbers = c.self.inside.numbers.items }) c.args.inode c.args.view inside)

pub returns-clause-more : goal.returns-clause-more
returns-clause-more c = λ none.
    returns-clause-known c ∙ ap (λ (k : Knowledge). with_copy k c.args.inode c.args.view) (nothing_to_lose c.args.self.now c.args.inode none)
