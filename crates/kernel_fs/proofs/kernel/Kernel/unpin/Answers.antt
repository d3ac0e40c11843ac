use Rattle.std.proofs.Common.{refl, ◌∙◌, sym, subst}
use Rattle.kernel_fs.specs.Book.{IsBookOf}
use Rattle.kernel_fs.specs.KernelView.{KernelView}
use Rattle.world_invariant.specs.LeaseSteps.{without}
use Rattle.kernel_fs.proofs.BookSteps.{stepped}
use Rattle.kernel_fs.proofs.Runs.{goes_on}
use Rattle.kernel_fs.specs.Run as entry
use Rattle.kernel_fs.proofs.kernel.Kernel.unpin.Goals as goal

pub returns-clause-step : goal.returns-clause-step
returns-clause-step g c = λ m.
    stepped g.M.Media c.self.inside.area c.self.inside.book c.unpin.new.self c.args.self.now c.self.view_is c.args.client m (record (m.kernel.accounts c.args.client) { pins = without (m.kernel.accounts c.args.client).pins c.args.inode }) refl (c.unpin.ensures.step m)

pub returns-clause-booked : goal.returns-clause-booked
returns-clause-booked g c = λ m is. c.unpin.ensures.step m (subst (λ (v : KernelView _). IsBookOf v.book m) (sym c.self.view_is) is)

pub invariant_of-self : goal.invariant_of-self
invariant_of-self g c = λ still.
    let going : _ = sym c.has_failed.ensures ∙ c.if-has_failed.false in
    let inside = c.self.invariant going in
    let device = g.M.Media in
    let area = c.self.inside.area in (
      inside.0,
      goes_on device c.self.inside.began area area c.self.inside.book c.unpin.new.self (λ r. entry.Unpin c.args.client c.args.inode) (λ r is named. let m = r.machine in (
        c.requires.client,
        stepped device area c.self.inside.book c.unpin.new.self (record { area = c.self.inside.area; book = c.self.inside.book; opening = c.self.inside.began }) refl c.args.client m
            (record (m.kernel.accounts c.args.client) { pins = without (m.kernel.accounts c.args.client).pins c.args.inode }) refl (c.unpin.ensures.step m) is,
        named,
      )) inside.1,
    )
