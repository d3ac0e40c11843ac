use Rattle.std.proofs.Common.{◌≡◌, ◌+◌, ℕ, Bool, ap, ◌∙◌, subst}
use Rattle.std.specs.Prelude.{◌&&◌, min}
use Rattle.kernel_fs.specs.Book.{out_of, units_of}
use Rattle.lease_manager.specs.file_graph.Numbers.{is_inode}
use Rattle.kernel_fs.specs.Inodes.{has}
use Rattle.kernel_fs.specs.Steps.{take_back}
use Rattle.kernel_fs.specs.MachineState.{IsKernelOf}
use Rattle.lease_manager.specs.Passes.{client_of}
use Rattle.client_view.specs.KnowledgeTables.{knows}
use Rattle.libfs.specs.NeedService.{HasGivenBack, inodes_granted}
use Rattle.libfs.specs.View.{ClientView}
use Rattle.libfs.proofs.Granted.{given_back}
use Rattle.libfs.proofs.Kept.{sound_numbers}
use Rattle.libfs.proofs.client.Client.give_back.Goals as goal

pub invariant_of-self : goal.invariant_of-self
invariant_of-self g c =
    let s = c.self.inside in
    sound_numbers g.M.Media s.leases s.pass s.log s.copies s.begun s.answered s.records c.self.invariant c.put_numbers.new.self c.new.result.items c.put_numbers.ensures

pub returns-in-Ok-clause-given : goal.returns-in-Ok-clause-given
returns-in-Ok-clause-given g c =
    let shared = g.S.Media in
    let s = c.self.inside in
    let k = c.args.kernel.now in
    let v : ClientView _ = record { pass = s.pass; log = s.log; copies = s.copies; pins = s.pins.items; spare = s.spare; begun = s.begun; answered = s.answered; sealed = s.records.away } in
    let these : has c.set_of-numbers.result ≡ inodes_granted (knows s.copies) = λ t i. (c.set_of-numbers.ensures i ∙ ap (λ (b : Bool). is_inode i && b) (c.numbers.ensures.granted i)) t in
    subst (λ (w : ClientView _). HasGivenBack shared k w (record v { spare = 0; copies = c.put_numbers.new.self }) c.give_back.new.self) c.self.view_is
    (given_back shared k c.give_back.new.self v c.put_numbers.new.self c.new.result.items c.put_numbers.ensures c.new.ensures.items
    (λ m is.
    subst (λ (f : ℕ → Bool). IsKernelOf shared c.give_back.new.self (take_back m (client_of s.pass) s.spare f)) these
    (subst (λ (n : ℕ). IsKernelOf shared c.give_back.new.self (take_back m n s.spare (has c.set_of-numbers.result))) c.client.ensures.number (c.in-Ok.ensures.step m is)))
    (subst (λ (n : ℕ). out_of c.give_back.new.self.book + min s.spare (units_of k.book n) ≡ out_of k.book) c.client.ensures.number c.in-Ok.ensures.out))
