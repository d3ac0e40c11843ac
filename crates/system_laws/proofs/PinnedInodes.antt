-- A client pins an inode, and drops a pin.
use Rattle.std.proofs.Common.{◌≡◌, ◌≢◌, ◌⊎◌, inl, inr, arith, ℕ, ◌+◌, ◌-◌, ◌<◌, ◌==◌, ◌||◌, ◌&&◌, cond, Bool, true, false, not, List, [], ◌∷◌, ◌++◌, Option, Some, None, Ok, Err, refl, ap, sym, ◌∙◌, subst}
use Rattle.std.specs.Prelude.{Result, OnOk, is_some}
use Rattle.std.proofs.lemmas.Bool.{false≢true}
use Rattle.std.proofs.lemmas.Bool.Decides.{eqb_tells}
use Rattle.std.proofs.lemmas.List.Folds.{list_any-append}
use Rattle.tier_device.specs.declared.media.Media.{Ghosts}
use Rattle.event_steps.specs.call_effects.Knowledge.{Knowledge}
use Rattle.posix_calls.specs.Operations.{is_client}
use Rattle.posix_calls.specs.Tree.{Own, has_open, refers_to}
use Rattle.posix_calls.specs.declared.call.Call.{Call}
use Rattle.posix_calls.specs.declared.descriptor.Descriptor.{Descriptor}
use Rattle.event_steps.specs.layout.declared.marks.Marks.{Marks}
use Rattle.event_steps.specs.kernel_fs.MachineState.{IsKernelOf}
use Rattle.event_steps.specs.lease_manager.Passes.{client_of}
use Rattle.event_steps.specs.libfs.ClientHoldings.{known_to}
use Rattle.event_steps.specs.libfs.NeedService.{with_pin, without_pin}
use Rattle.event_steps.specs.libfs.View.{ClientView}
use Rattle.event_steps.specs.libfs.declared.begun_record.Begun.{Begun}
use Rattle.event_steps.specs.libfs.declared.denial.Denied.{Denied}
use Rattle.event_steps.specs.libfs.declared.life.Life.TheVariants as lives
use Rattle.event_steps.specs.file_graph.Graph.{is_among}
use Rattle.event_steps.specs.world_invariant.BookSteps.{CanUnpin}
use Rattle.event_steps.specs.world_invariant.LeaseSteps.{also, without}
use Rattle.event_steps.specs.world_invariant.Machine.{Machine, book_pin, unbook_pin}
use Rattle.event_steps.specs.world_invariant.World.{Client, World}
use Rattle.event_steps.specs.world_invariant.World as world
use Rattle.event_steps.specs.Effects.{MakesAt}
use Rattle.event_steps.specs.KernelRequests.{IsBooked}
use Rattle.event_steps.specs.Turns.{CanBeUnpinned, CanPlay}
use Rattle.event_steps.specs.View.{SeatView, SystemView, seat_of}
use Rattle.event_steps.specs.declared.event.Event.TheVariants.{Pin, Unpin}
use Rattle.event_steps.specs.declared.outcome.Outcome.{Outcome}
use Rattle.event_steps.proofs.world_invariant_lemmas.Books.{pinned_holds, pinned_tree, unpinned_holds, unpinned_tree}
use Rattle.posix_calls.proofs.Sums.{any_there}
use Rattle.system_laws.specs.Leaves.{HoldsRecords}
use Rattle.system_laws.specs.Relation.{Cut, IsBegunAs, IsWorldOf, machine_of}
use Rattle.system_laws.specs.Steps.{IsBegunIn, IsStep}
use Rattle.system_laws.specs.WorldView.{WorldView, calls_of}
use Rattle.system_laws.proofs.Booked.{booked_step, unbooked_step}
use Rattle.system_laws.proofs.Given.{Given}
use Rattle.system_laws.proofs.OwnSeat.{holds_at, number_at, turn_at}
use Rattle.system_laws.proofs.Seated.{own_part}
use Rattle.system_laws.proofs.Seats.{client_is}
use Rattle.system_laws.proofs.Statuses.{failed_status}
use Rattle.system_laws.proofs.Supplies.{client_with, supplied}

-- ---- lists of pins

is_it : (j i : ℕ) → j ≡ i → (j == i) ≡ true
is_it j i same = elim (eqb_tells j i) [ inl is ↦ is.0 | inr off ↦ absurd (off.1 same) ]

is_other : (j i : ℕ) → j ≢ i → (j == i) ≡ false
is_other j i off = elim (eqb_tells j i) [ inl is ↦ absurd (off is.1) | inr other ↦ other.0 ]

or_true : (b : Bool) → (b || (true || false)) ≡ true
or_true true = refl
or_true false = refl

or_false : (b : Bool) → (b || (false || false)) ≡ b
or_false true = refl
or_false false = refl

-- a pin more, or the one that is there
among_more : (pins : List ℕ) (i j : ℕ) (b : Bool) → is_among i pins ≡ b → is_among j (cond b pins (pins ++ i ∷ [])) ≡ (j == i || is_among j pins)
among_more pins i j true there = elim (eqb_tells j i) [
  | inl same ↦ ap (λ k. is_among k pins) same.1 ∙ there ∙ sym (ap (λ t. t || is_among j pins) same.0)
  | inr off ↦ sym (ap (λ t. t || is_among j pins) off.0)
]
among_more pins i j false gone = list_any-append (λ k. k == j) pins (i ∷ []) ∙ elim (eqb_tells i j) [
  | inl same ↦ ap (λ t. is_among j pins || (t || false)) same.0 ∙ or_true (is_among j pins) ∙ sym (ap (λ t. t || is_among j pins) (is_it j i (sym same.1)))
  | inr off ↦ ap (λ t. is_among j pins || (t || false)) off.0 ∙ or_false (is_among j pins) ∙ sym (ap (λ t. t || is_among j pins) (is_other j i (λ same. off.1 (sym same))))
]

among_pinned : (pins : List ℕ) (i j : ℕ) → is_among j (with_pin pins i) ≡ also (λ k. is_among k pins) i j
among_pinned pins i j = among_more pins i j (is_among i pins) refl

among_unpinned : (pins : List ℕ) (i j : ℕ) → is_among j (without_pin pins i) ≡ without (λ k. is_among k pins) i j
among_unpinned [] i j = elim (eqb_tells j i) [ inl same ↦ sym (ap (λ t. cond t false false) same.0) | inr off ↦ sym (ap (λ t. cond t false false) off.0) ]
among_unpinned (k ∷ pins) i j = elim (eqb_tells k i) [
  | inl same ↦ ap (λ t. is_among j (cond (not t) (k ∷ without_pin pins i) (without_pin pins i))) same.0 ∙ among_unpinned pins i j ∙ elim (eqb_tells j i) [
    | inl here ↦ ap (λ t. cond t false (is_among j pins)) here.0 ∙ sym (ap (λ t. cond t false (k == j || is_among j pins)) here.0)
    | inr off ↦ sym (ap (λ t. cond (j == i) false (t || is_among j pins)) (is_other k j (λ is. off.1 (sym is ∙ same.1))))
  ]
  | inr apart ↦ ap (λ t. is_among j (cond (not t) (k ∷ without_pin pins i) (without_pin pins i))) apart.0 ∙ ap (λ t. k == j || t) (among_unpinned pins i j) ∙ elim (eqb_tells j i) [
    | inl here ↦
        ap (λ t. k == j || cond t false (is_among j pins)) here.0 ∙ ap (λ t. t || false) (is_other k j (λ is. apart.1 (is ∙ here.1))) ∙ sym (ap (λ t. cond t false (k == j || is_among j pins)) here.0)
    | inr off ↦ ap (λ t. k == j || cond t false (is_among j pins)) off.0 ∙ sym (ap (λ t. cond t false (k == j || is_among j pins)) off.0)
  ]
]

-- the part of a client whose pins are these
pins_part : {M : Type 0} (p : Client) (x : ClientView M) (pins : List ℕ) (then : ℕ → Bool) → p.knows ≡ known_to x → p.spare ≡ x.spare → ((j : ℕ) → is_among j pins ≡ then j) → client_with p (record x { pins = pins }) ≡ record p { pins = then }
pins_part p x pins then knows spare same = λ t. record p { knows = sym knows t; spare = sym spare t; pins = λ j. same j t }

-- ---- when a pin may go

pub idle_or_failed : (call : Option Call) (b : Option Begun) (answered failed : Bool) (p : Option world.Begun) → (is_some b && not answered) ≡ false → IsBegunAs call b p → (answered ≡ true → (failed ≡ true) × (is_some b ≡ true)) → (p ≡ None) ⊎ (failed ≡ true)
idle_or_failed call None answered failed p idle begun stays = inl begun.0
idle_or_failed call (Some b) true failed p idle begun stays = inr (stays refl).0
idle_or_failed call (Some b) false failed p idle begun stays = absurd (false≢true (sym idle))

not_opened : (own : Own) (i n : ℕ) (o : Descriptor) → has_open own i ≡ false → n < 32 → own n ≡ Some o → o.inode ≢ i
not_opened own i n o closed low there same = absurd (false≢true (sym closed ∙ any_there 32 (n + 1) (λ k. refers_to i (own (k - 1))) (omega arith) (omega (arith, low)) (ap (λ k. refers_to i (own k)) back ∙ ap (refers_to i) there ∙ is_it o.inode i same)))
  where
    back : n + 1 - 1 ≡ n
    back = omega arith

module _ {M : Type 0} (device : Ghosts M) (v : WorldView M) (w : World) (accepted : ℕ → ℕ) (shared_marks : Marks) (cut : Cut) (c i : ℕ) (s : SeatView M) (is : IsWorldOf device v w accepted shared_marks cut) (is_c : is_client c ≡ true) (there : seat_of v.system c ≡ Some s) where
  can_unpin : HoldsRecords device s.client → s.life ≡ lives.Alive → CanBeUnpinned s.client i → CanUnpin w c i
  can_unpin held alive can =
      let own = own_part device v w accepted shared_marks cut c s is is_c there in
      record {
        client = is_c;
        idle = elim (idle_or_failed (calls_of v c) s.client.begun s.client.answered s.client.log.failed (w.clients c).begun can.idle own.begun held.failed) [
          | inl idle ↦ inl idle
          | inr failed ↦ inr (own.status ∙ failed_status s.life s.client.log.failed alive failed)
        ];
        closed = λ n o open_at. not_opened (w.clients c).knows.own i n o (ap (λ (k : Knowledge). has_open k.own i) own.knows ∙ can.closed)
            (is.coherent.sound.typed.in_range c n o (ap (λ b. cond b ((w.clients c).knows.own n) None) is_c ∙ open_at)).2 open_at;
      }

module _ {M : Type 0} (device : Ghosts M) where
  pub pinned : Given device → (v : WorldView M) (c i : ℕ) (o : Outcome) (new : SystemView M)
      → IsBegunIn device v new → CanPlay device v.system (Pin c i) → MakesAt device v.system c (Pin c i) o new → IsStep device v (Pin c i) o (record { system = new; calls = v.calls })
  pinned given v c i o new begun turn makes = by makes.makes.answer makes.makes.booked makes.makes.pins makes.makes.step
    where
      by : (answer : Result (Unit {0}) Denied) → IsBooked v.system.kernel makes.seat answer o makes.seat_then new.kernel → OnOk answer (makes.seat_then.client ≡ record makes.seat.client { pins = with_pin makes.seat.client.pins i })
          → OnOk answer ((m : Machine) → IsKernelOf device v.system.kernel m → IsKernelOf device new.kernel (book_pin m (client_of makes.seat.client.pass) i)) → IsStep device v (Pin c i) o (record { system = new; calls = v.calls })
      by (Err why) b pins step = unbooked_step device given v new c makes.seat makes.seat_then (Pin c i) o begun (client_is c turn.0) makes.was makes.seats (λ stand. stand) refl why b
      by (Ok x) b pins step =
          let is = begun.stands.is in
          let w = begun.stands.world in
          let s = makes.seat in
          let is_c = client_is c turn.0 in
          let own = own_part device v w begun.stands.accepted begun.stands.shared_marks begun.stands.cut c s is is_c makes.was in
          let number = number_at device v c s is_c makes.was begun.leaves in
          let a = w.kernel.accounts c in
          booked_step device given v new c s makes.seat_then (Pin c i) o begun is_c makes.was makes.seats (λ stand. stand) refl
          a.units a.numbers (also a.pins i) (record (w.clients c) { pins = also (w.clients c).pins i }) b
          (pins ∙ ap (λ (x : ClientView M). supplied s.client x) (sym pins))
          (λ stands. subst (λ (k : ℕ). IsKernelOf device new.kernel (book_pin (machine_of w begun.stands.accepted) k i)) number (step (machine_of w begun.stands.accepted) stands))
          (ap (client_with (w.clients c)) pins ∙ pins_part (w.clients c) s.client (with_pin s.client.pins i) (also (w.clients c).pins i) own.knows own.spare (λ j. among_pinned s.client.pins i j ∙ sym (ap (λ t. j == i || t) (own.pins j))))
          (pinned_holds w c i is.coherent is_c)
          (pinned_tree w c i is.coherent is_c)

  pub unpinned : Given device → (v : WorldView M) (c i : ℕ) (o : Outcome) (new : SystemView M)
      → IsBegunIn device v new → CanPlay device v.system (Unpin c i) → MakesAt device v.system c (Unpin c i) o new → IsStep device v (Unpin c i) o (record { system = new; calls = v.calls })
  unpinned given v c i o new begun turn makes = by makes.makes.answer makes.makes.booked makes.makes.pins makes.makes.step
    where
      by : (answer : Result (Unit {0}) Denied) → IsBooked v.system.kernel makes.seat answer o makes.seat_then new.kernel → OnOk answer (makes.seat_then.client ≡ record makes.seat.client { pins = without_pin makes.seat.client.pins i })
          → OnOk answer ((m : Machine) → IsKernelOf device v.system.kernel m → IsKernelOf device new.kernel (unbook_pin m (client_of makes.seat.client.pass) i)) → IsStep device v (Unpin c i) o (record { system = new; calls = v.calls })
      by (Err why) b pins step = unbooked_step device given v new c makes.seat makes.seat_then (Unpin c i) o begun (client_is c turn.0) makes.was makes.seats (λ stand. stand) refl why b
      by (Ok x) b pins step =
          let is = begun.stands.is in
          let w = begun.stands.world in
          let s = makes.seat in
          let is_c = client_is c turn.0 in
          let own = own_part device v w begun.stands.accepted begun.stands.shared_marks begun.stands.cut c s is is_c makes.was in
          let number = number_at device v c s is_c makes.was begun.leaves in
          let a = w.kernel.accounts c in
          let its = turn_at device v c s is_c makes.was (Unpin c i) turn.1 in
          let can = can_unpin device v w begun.stands.accepted begun.stands.shared_marks begun.stands.cut c i s is is_c makes.was (holds_at device v c s is_c makes.was begun.holds) its.0 its.1 in
          booked_step device given v new c s makes.seat_then (Unpin c i) o begun is_c makes.was makes.seats (λ stand. stand) refl
          a.units a.numbers (without a.pins i) (record (w.clients c) { pins = without (w.clients c).pins i }) b
          (pins ∙ ap (λ (x : ClientView M). supplied s.client x) (sym pins))
          (λ stands. subst (λ (k : ℕ). IsKernelOf device new.kernel (unbook_pin (machine_of w begun.stands.accepted) k i)) number (step (machine_of w begun.stands.accepted) stands))
          (ap (client_with (w.clients c)) pins ∙ pins_part (w.clients c) s.client (without_pin s.client.pins i) (without (w.clients c).pins i) own.knows own.spare (λ j. among_unpinned s.client.pins i j ∙ sym (ap (λ t. cond (j == i) false t) (own.pins j))))
          (unpinned_holds w c i is.coherent can)
          (unpinned_tree w c i is.coherent can)
