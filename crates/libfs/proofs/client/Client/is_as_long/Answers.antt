use Rattle.std.proofs.Common.{◌↔◌, sym, ◌∙◌, subst}
use Rattle.std.specs.Prelude.{IsTrue, ◌==◌}
use Rattle.client_view.specs.BlockPut.{IsBlockLong}
use Rattle.libfs.specs.View.{ClientView}
use Rattle.libfs.specs.ClientHoldings.{known_to}
use Rattle.libfs.proofs.Lengths.{as_long}
use Rattle.libfs.proofs.client.Client.is_as_long.Goals as goal

pub returns-in-Some : goal.returns-in-Some
returns-in-Some g c = λ bytes long.
    let s = c.self.inside in
    let sized = sym c.in-Some.is ∙ c.size_of.ensures in
    subst (λ (v : ClientView _). IsTrue (c.args.len == c.length_at.result) ↔ IsBlockLong (known_to v) c.args.inode c.args.block bytes) c.self.view_is
    (as_long s.copies c.args.inode c.args.block c.in-Some.size c.args.len c.length_at.result sized c.length_at.ensures bytes long)
