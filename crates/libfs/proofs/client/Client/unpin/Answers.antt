use Rattle.std.proofs.Common.{◌≡◌, ℕ, ap, ◌∙◌, subst}
use Rattle.lease_manager.specs.Passes.{client_of}
use Rattle.client_log.specs.world_invariant.Machine.{unbook_pin}
use Rattle.kernel_fs.specs.MachineState.{IsKernelOf}
use Rattle.libfs.specs.View.{ClientView}
use Rattle.libfs.proofs.client.Client.unpin.Goals as goal

pub returns-in-Ok-clause-step : goal.returns-in-Ok-clause-step
returns-in-Ok-clause-step g c = λ m is.
    let own : c.client.result ≡ client_of c.args.self.now.pass = c.client.ensures.number ∙ ap (λ (v : ClientView _). client_of v.pass) c.self.view_is in
    subst (λ (n : ℕ). IsKernelOf g.S.Media c.unpin.new.self (unbook_pin m n c.args.inode)) own (c.in-Ok.ensures.step m is)
