use Rattle.std.proofs.Common.{◌∙◌, sym}
use Rattle.kernel_fs.specs.Inodes.{has}
use Rattle.kernel_fs.proofs.Runs.{unmoved_inside}
use Rattle.kernel_fs.proofs.kernel.Kernel.tier_of.Goals as goal

pub invariant_of-self : goal.invariant_of-self
invariant_of-self g c = λ still.
    let going : _ = sym c.has_failed.ensures ∙ c.if-has_failed.false in
    let inside = c.self.invariant going in
    let looks = c.tier_of.ensures.looks in
    unmoved_inside g.M.Media c.self.inside.began (has c.self.inside.nodes) c.self.inside.book c.self.inside.area c.tier_of.new.self looks.geometry looks.unmoved.reads inside
