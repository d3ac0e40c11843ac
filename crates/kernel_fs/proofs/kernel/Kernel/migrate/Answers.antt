use Rattle.std.proofs.Common.{◌∙◌, sym, subst}
use Rattle.migrator.specs.area_reader.Store.{disk}
use Rattle.migrator.specs.relocation.TierMove.{CanMove}
use Rattle.migrator.specs.shared_area.TierMoves.{HasTooFew}
use Rattle.kernel_fs.specs.KernelView.{KernelView}
use Rattle.kernel_fs.specs.MachineState.{IsKernelOf}
use Rattle.kernel_fs.specs.Inodes.{has}
use Rattle.kernel_fs.proofs.MediaSteps.{moved_kernel, moved_nodes}
use Rattle.kernel_fs.proofs.Runs.{move_refused, stays_there}
use Rattle.kernel_fs.proofs.kernel.Kernel.migrate.Goals as goal

pub returns-clause-step : goal.returns-clause-step
returns-clause-step g c = λ m is.
    let own = subst (λ (v : KernelView _). IsKernelOf g.M.Media v m) (sym c.self.view_is) is in
    moved_kernel g.M.Media c.self.inside.area c.migrate.new.area c.self.inside.book m c.in-Ok.ensures.moves.geometry c.in-Ok.ensures.same_graph c.in-Ok.ensures.same_marks own

pub returns-in-Err-clause-no_block : goal.returns-in-Err-clause-no_block
returns-in-Err-clause-no_block g c = λ is.
    let device = g.M.Media in
    subst (λ (v : KernelView _). CanMove v.area.geometry (disk device v.area) c.args.inode c.args.first c.args.count c.args.to × HasTooFew v.area.geometry (disk device v.area) c.args.to c.args.count) c.self.view_is
    (c.in-Err.ensures.no_block (cc is))

pub invariant_of-self : goal.invariant_of-self
invariant_of-self g c = λ still.
    let going : _ = sym c.has_failed.ensures ∙ c.if-has_failed.false in
    let inside = c.self.invariant going in
    let m = g.M.Media in
    move_refused m c.self.inside.began (has c.self.inside.nodes) c.self.inside.book c.self.inside.area c.migrate.new.area c.in-Err.error c.in-Err.ensures.moves still inside

pub invariant_of-self-2 : goal.invariant_of-self-2
invariant_of-self-2 g c = λ still.
    let going : _ = sym c.has_failed.ensures ∙ c.if-has_failed.false in
    let inside = c.self.invariant going in
    let device = g.M.Media in
    let old = c.self.inside.area in
    let new = c.migrate.new.area in
    let moves = c.in-Ok.ensures.moves in (
      moved_nodes device old new (has c.self.inside.nodes) moves.geometry c.in-Ok.ensures.same_graph inside.0,
      stays_there device c.self.inside.began old new c.self.inside.book c.self.inside.book c.in-Ok.ensures.same_marks (λ m is. moved_kernel device old new c.self.inside.book m moves.geometry c.in-Ok.ensures.same_graph c.in-Ok.ensures.same_marks is) inside.1,
    )
