use Rattle.std.proofs.Common.{◌≡◌, ◌≤◌, ℕ, List, ap, sym, ◌∙◌, subst, arith}
use Rattle.std.specs.Prelude.{◌+◌, ◌||◌}
use Rattle.lease_manager.specs.file_graph.Graph.{is_among}
use Rattle.kernel_fs.specs.Free.{count_of}
use Rattle.kernel_fs.specs.Inodes.{has}
use Rattle.kernel_fs.specs.Steps.{grant}
use Rattle.kernel_fs.specs.MachineState.{IsKernelOf}
use Rattle.libfs.specs.NeedService.{HasRefilled}
use Rattle.libfs.specs.View.{ClientView}
use Rattle.libfs.proofs.Granted.{few_inodes, refilled}
use Rattle.libfs.proofs.Kept.{sound_numbers}
use Rattle.libfs.proofs.client.Client.refill.Goals as goal

pub invariant_of-self : goal.invariant_of-self
invariant_of-self g c =
    let s = c.self.inside in
    sound_numbers g.M.Media s.leases s.pass s.log s.copies s.begun s.answered s.records c.self.invariant c.put_numbers.new.self c.add_all.new.numbers.items c.put_numbers.ensures

pub add_all-requires-clause-count : goal.add_all-requires-clause-count
add_all-requires-clause-count g c = c.in-Ok-refill.ensures.granted.count

pub add_all-requires-clause-room : goal.add_all-requires-clause-room
add_all-requires-clause-room g c =
    let count : count_of (has c.in-Ok-refill.more) ≡ c.args.inodes = c.in-Ok-refill.ensures.granted.count in
    let few : count_of (has c.in-Ok-refill.more) ≤ 1024 = few_inodes (has c.in-Ok-refill.more) in
    c.in-Ok.ensures.room (omega (arith, count, few))

pub returns-in-Ok-refill-clause-refilled : goal.returns-in-Ok-refill-clause-refilled
returns-in-Ok-refill-clause-refilled g c =
    let shared = g.S.Media in
    let s = c.self.inside in
    let k = c.args.kernel.now in
    let more = has c.in-Ok-refill.more in
    let v : ClientView _ = record { pass = s.pass; log = s.log; copies = s.copies; pins = s.pins.items; spare = s.spare; begun = s.begun; answered = s.answered; sealed = s.records.away } in
    subst (λ (w : ClientView _). HasRefilled shared k w c.args.units c.args.inodes (record v { spare = s.spare + c.args.units; copies = c.put_numbers.new.self }) c.refill.new.self) c.self.view_is
    (refilled shared k c.refill.new.self v c.put_numbers.new.self c.add_all.new.numbers.items c.put_numbers.ensures c.args.units c.args.inodes more
    (λ i. c.add_all.ensures i ∙ ap (λ (xs : List ℕ). is_among i xs || more i) (c.in-Ok.ensures.same ∙ sym (ap (λ (w : ClientView _). w.copies.numbers) c.self.view_is)))
    c.in-Ok-refill.ensures.granted
    (λ m is. subst (λ (n : ℕ). IsKernelOf shared c.refill.new.self (grant m n c.args.units more)) c.client.ensures.number (c.in-Ok-refill.ensures.step m is)))
