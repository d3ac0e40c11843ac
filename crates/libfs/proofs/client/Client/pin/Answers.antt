use Rattle.std.proofs.Common.{◌≡◌, ℕ, ap, ◌∙◌, subst}
use Rattle.lease_manager.specs.Passes.{client_of}
use Rattle.client_log.specs.world_invariant.Machine.{book_pin}
use Rattle.kernel_fs.specs.MachineState.{IsKernelOf}
use Rattle.libfs.specs.View.{ClientView}
use Rattle.libfs.proofs.client.Client.pin.Goals as goal

pub returns-in-Ok-pin-clause-step : goal.returns-in-Ok-pin-clause-step
returns-in-Ok-pin-clause-step g c = λ m is.
    let own : c.client.result ≡ client_of c.args.self.now.pass = c.client.ensures.number ∙ ap (λ (v : ClientView _). client_of v.pass) c.self.view_is in
    subst (λ (n : ℕ). IsKernelOf g.S.Media c.pin.new.self (book_pin m n c.args.inode)) own (c.in-Ok-pin.ensures.step m is)
