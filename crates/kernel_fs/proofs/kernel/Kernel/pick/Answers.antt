use Rattle.std.proofs.Common.{◌∙◌, sym}
use Rattle.kernel_fs.specs.Inodes.{has}
use Rattle.kernel_fs.proofs.Runs.{unmoved_inside}
use Rattle.kernel_fs.proofs.kernel.Kernel.pick.Goals as goal

pub invariant_of-self : goal.invariant_of-self
invariant_of-self g c = λ still.
    let going : _ = sym c.has_failed.ensures ∙ c.if-has_failed.false in
    let inside = c.self.invariant going in
    let looks = c.pick.ensures.looks in
    unmoved_inside g.M.Media c.self.inside.began (has c.self.inside.nodes) c.self.inside.book c.self.inside.area c.pick.new.area looks.geometry looks.unmoved.reads inside

pub invariant_of-self-2 : goal.invariant_of-self-2
invariant_of-self-2 g c = λ still.
    let going : _ = sym c.has_failed.ensures ∙ c.if-has_failed.false in
    let inside = c.self.invariant going in
    let looks = c.pick.ensures.looks in
    unmoved_inside g.M.Media c.self.inside.began (has c.self.inside.nodes) c.self.inside.book c.self.inside.area c.pick.new.area looks.geometry looks.unmoved.reads inside
