-- A client is granted units and numbers, and gives back what it has not used.
use Rattle.std.proofs.Common.{◌≡◌, ℕ, ◌+◌, ◌-◌, ◌≤◌, ◌&&◌, ◌||◌, Bool, true, false, not, List, [], Some, None, Ok, Err, refl, ap, sym, ◌∙◌, subst, arith}
use Rattle.std.specs.Prelude.{Result, OnOk}
use Rattle.tier_device.specs.declared.media.Media.{Ghosts}
use Rattle.posix_calls.specs.Operations.{is_client}
use Rattle.event_steps.specs.call_effects.Knowledge.{Knowledge}
use Rattle.event_steps.specs.kernel_fs.Book.{out_of}
use Rattle.event_steps.specs.kernel_fs.MachineState.{IsKernelOf}
use Rattle.event_steps.specs.kernel_fs.Nodes.{is_node, nodes_in}
use Rattle.event_steps.specs.kernel_fs.Steps.{grant, take_back}
use Rattle.event_steps.specs.layout.declared.marks.Marks.{Marks}
use Rattle.event_steps.specs.libfs.ClientHoldings.{known_to}
use Rattle.event_steps.specs.libfs.NeedService.{HasGivenBack, HasRefilled, inodes_granted, shared_by, with_numbers}
use Rattle.event_steps.specs.libfs.View.{ClientView, is_pending}
use Rattle.event_steps.specs.libfs.declared.denial.Denied.{Denied}
use Rattle.event_steps.specs.file_graph.Graph.{is_among}
use Rattle.event_steps.specs.file_graph.Numbers.{is_inode}
use Rattle.event_steps.specs.file_graph.Units.{charge}
use Rattle.event_steps.specs.world_invariant.BookSteps.{HasRoom, IsUnbooked}
use Rattle.event_steps.specs.world_invariant.World.{Client, World}
use Rattle.event_steps.specs.Effects.{MakesAt}
use Rattle.event_steps.specs.KernelRequests.{IsBooked}
use Rattle.event_steps.specs.Turns.{CanPlay}
use Rattle.event_steps.specs.View.{HasSeat, SeatView, SystemView, seat_of}
use Rattle.event_steps.specs.declared.event.Event.TheVariants.{GiveBack, Refill}
use Rattle.event_steps.specs.declared.outcome.Outcome.{Outcome}
use Rattle.event_steps.proofs.kernel_fs_lemmas.Machines.{free_is_unbooked, room_is}
use Rattle.system_laws.specs.Leaves.{HoldsRecords}
use Rattle.system_laws.specs.Relation.{Cut, IsWorldOf, machine_of}
use Rattle.system_laws.specs.Steps.{IsBegunIn, IsStep}
use Rattle.system_laws.specs.WorldView.{WorldView, calls_of}
use Rattle.system_laws.proofs.Booked.{booked_step, unbooked_step}
use Rattle.system_laws.proofs.Given.{Given}
use Rattle.system_laws.proofs.GrantSets.{all_returned_holds, all_returned_tree, set_granted_holds, set_granted_tree, sums}
use Rattle.system_laws.proofs.OwnSeat.{number_at, of_seat, turn_at, idle_client as begun_none}
use Rattle.system_laws.proofs.StartReplies.{idle_world}
use Rattle.system_laws.proofs.Seated.{own_part}
use Rattle.system_laws.proofs.Seats.{client_is}
use Rattle.system_laws.proofs.Supplies.{client_with, supplied}

-- the part of a client that knows this and has so many spare units
pub known_part : {M : Type 0} (p : Client) (x : ClientView M) (k : Knowledge) (spare : ℕ) → known_to x ≡ k → x.spare ≡ spare → ((j : ℕ) → p.pins j ≡ is_among j x.pins) → client_with p x ≡ record p { knows = k; spare = spare }
known_part p x k spare knows units pins = λ t. record p { knows = knows t; spare = units t; pins = λ j. sym (pins j) t }

of_second : (a b : Bool) → (a && b) ≡ true → b ≡ true
of_second true b e = e
of_second false b e = absurd cc

module _ {M : Type 0} (device : Ghosts M) (v : WorldView M) (w : World) (accepted : ℕ → ℕ) (shared_marks : Marks) (cut : Cut) (c : ℕ) (s : SeatView M) (is : IsWorldOf device v w accepted shared_marks cut) (is_c : is_client c ≡ true) (there : seat_of v.system c ≡ Some s) where
  -- a client that waits for nothing and whose region's device has not failed has no call begun
  pub idle_client : HasSeat v.system c (λ t. HoldsRecords device t.client) → is_pending s.client ≡ false → s.client.log.failed ≡ false → (w.clients c).begun ≡ None
  idle_client holds idle alive =
      let held = of_seat device v c s is_c there (λ y. HoldsRecords device y.client) holds in
      idle_world device s (calls_of v c) (w.clients c) (own_part device v w accepted shared_marks cut c s is is_c there) (begun_none device s.client held idle alive)

module _ {M : Type 0} (device : Ghosts M) where
  pub refilled : Given device → (v : WorldView M) (c units inodes : ℕ) (o : Outcome) (new : SystemView M)
      → IsBegunIn device v new → CanPlay device v.system (Refill c units inodes) → MakesAt device v.system c (Refill c units inodes) o new → IsStep device v (Refill c units inodes) o (record { system = new; calls = v.calls })
  refilled given v c units inodes o new begun turn makes = by makes.makes.answer makes.makes.booked makes.makes.granted makes.makes.law
    where
      by : (answer : Result (Unit {0}) Denied) → IsBooked v.system.kernel makes.seat answer o makes.seat_then new.kernel → OnOk answer (HasRefilled device v.system.kernel makes.seat.client units inodes makes.seat_then.client new.kernel)
          → OnOk answer (charge (shared_by device v.system.kernel) + out_of new.kernel.book ≤ v.system.kernel.area.geometry.units) → IsStep device v (Refill c units inodes) o (record { system = new; calls = v.calls })
      by (Err why) b got law = unbooked_step device given v new c makes.seat makes.seat_then (Refill c units inodes) o begun (client_is c turn.0) makes.was makes.seats (λ stand. stand) refl why b
      by (Ok x) b got law =
          let is = begun.stands.is in
          let w = begun.stands.world in
          let s = makes.seat in
          let is_c = client_is c turn.0 in
          let own = own_part device v w begun.stands.accepted begun.stands.shared_marks begun.stands.cut c s is is_c makes.was in
          let number = number_at device v c s is_c makes.was begun.leaves in
          let a = w.kernel.accounts c in
          let m = machine_of w begun.stands.accepted in
          let now = (is.going b.going).0 in
          let after : IsKernelOf device new.kernel (grant m c units got.numbers) = subst (λ (k : ℕ). IsKernelOf device new.kernel (grant m k units got.numbers)) number (got.step m now) in
          let free : (i : ℕ) → got.numbers i ≡ true → IsUnbooked w.kernel i = λ i e. free_is_unbooked v.system.kernel.book m now.book (nodes_in (shared_by device v.system.kernel)) (λ j. ap (λ g. is_node (g j)) (sym now.shared)) i (got.lowest.among i e) in
          let total = sums w c is.coherent is_c (a.units + units) (λ i. a.numbers i || got.numbers i) a.pins in
          let fits : charge w.kernel.shared + out_of new.kernel.book ≤ w.kernel.capacity = subst (λ g. charge g + out_of new.kernel.book ≤ w.kernel.capacity) (sym now.shared) (subst (λ n. charge (shared_by device v.system.kernel) + out_of new.kernel.book ≤ n) (sym now.capacity) law) in
          let then : HasRoom (grant m c units got.numbers).kernel 0 = room_is new.kernel.book (grant m c units got.numbers) after.book 0 (omega (arith, fits)) in
          let room : HasRoom w.kernel units = omega (arith, then, total) in
          booked_step device given v new c s makes.seat_then (Refill c units inodes) o begun is_c makes.was makes.seats (λ stand. stand) refl
          (a.units + units) (λ i. a.numbers i || got.numbers i) a.pins (record (w.clients c) { spare = (w.clients c).spare + units; knows = with_numbers (w.clients c).knows got.numbers }) b
          (got.rest ∙ ap (λ (x : ClientView M). supplied s.client x) (sym got.rest))
          (λ stands. after)
          (known_part (w.clients c) makes.seat_then.client (with_numbers (w.clients c).knows got.numbers) ((w.clients c).spare + units)
          (got.knows_then ∙ ap (λ k. with_numbers k got.numbers) (sym own.knows))
          (got.spare ∙ ap (λ n. n + units) (sym own.spare))
          (λ j. own.pins j ∙ ap (λ (x : ClientView M). is_among j x.pins) (sym got.rest)))
          (set_granted_holds w c is.coherent is_c units got.numbers room free)
          (set_granted_tree w c is.coherent is_c units got.numbers room free)

  pub given_back : Given device → (v : WorldView M) (c : ℕ) (o : Outcome) (new : SystemView M)
      → IsBegunIn device v new → CanPlay device v.system (GiveBack c) → MakesAt device v.system c (GiveBack c) o new → IsStep device v (GiveBack c) o (record { system = new; calls = v.calls })
  given_back given v c o new begun turn makes = by makes.makes.answer makes.makes.booked makes.makes.given
    where
      by : (answer : Result (Unit {0}) Denied) → IsBooked v.system.kernel makes.seat answer o makes.seat_then new.kernel → OnOk answer (HasGivenBack device v.system.kernel makes.seat.client makes.seat_then.client new.kernel)
          → IsStep device v (GiveBack c) o (record { system = new; calls = v.calls })
      by (Err why) b got = unbooked_step device given v new c makes.seat makes.seat_then (GiveBack c) o begun (client_is c turn.0) makes.was makes.seats (λ stand. stand) refl why b
      by (Ok x) b got =
          let is = begun.stands.is in
          let w = begun.stands.world in
          let s = makes.seat in
          let is_c = client_is c turn.0 in
          let own = own_part device v w begun.stands.accepted begun.stands.shared_marks begun.stands.cut c s is is_c makes.was in
          let number = number_at device v c s is_c makes.was begun.leaves in
          let a = w.kernel.accounts c in
          let m = machine_of w begun.stands.accepted in
          let at = (turn_at device v c makes.seat is_c makes.was (GiveBack c) turn.1).1 in
          let idle = idle_client device v w begun.stands.accepted begun.stands.shared_marks begun.stands.cut c s is is_c makes.was (begun.holds c is_c) at.0 at.1 in
          let back = inodes_granted (known_to s.client) in
          let bare : (ns : List ℕ) → ns ≡ [] → record (known_to s.client) { granted = λ i. is_among i ns } ≡ record (known_to s.client) { granted = λ i. false } = λ ns none t. record (known_to s.client) { granted = λ i. is_among i (none t) } in
          let granted : (i : ℕ) → back i ≡ true → (w.clients c).knows.granted i ≡ true = λ i e. ap (λ k. k.granted i) own.knows ∙ of_second (is_inode i) ((known_to s.client).granted i) e in
          booked_step device given v new c s makes.seat_then (GiveBack c) o begun is_c makes.was makes.seats (λ stand. stand) refl
          (a.units - (w.clients c).spare) (λ i. a.numbers i && not (back i)) a.pins (record (w.clients c) { spare = 0; knows = record (w.clients c).knows { granted = λ i. false } }) b
          (got.rest ∙ ap (λ (x : ClientView M). supplied s.client x) (sym got.rest))
          (λ stands. subst (λ (n : ℕ). IsKernelOf device new.kernel (take_back m c n back)) (sym own.spare) (subst (λ (k : ℕ). IsKernelOf device new.kernel (take_back m k s.client.spare back)) number (got.step m stands)))
          (known_part (w.clients c) makes.seat_then.client (record (w.clients c).knows { granted = λ i. false }) 0
          (ap known_to got.rest ∙ bare makes.seat_then.client.copies.numbers got.numbers ∙ ap (λ (k : Knowledge). record k { granted = λ i. false }) (sym own.knows))
          got.spare
          (λ j. own.pins j ∙ ap (λ (x : ClientView M). is_among j x.pins) (sym got.rest)))
          (all_returned_holds w c is.coherent is_c back idle granted)
          (all_returned_tree w c is.coherent is_c back idle granted)
