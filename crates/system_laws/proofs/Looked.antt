-- An event in which the kernel's shared medium was looked at for a client, whose copies have changed.
use Rattle.std.proofs.Common.{◌≡◌, inl, ℕ, ◌-◌, ◌≤◌, true, false, Some, ap, sym, ◌∙◌, subst, arith}
use Rattle.std.specs.Prelude.{Result, slice_set}
use Rattle.tier_device.specs.declared.media.Media.{Ghosts}
use Rattle.tier_device.specs.declared.media.Tier.{Tier}
use Rattle.tier_device.specs.AfterStop.{Left}
use Rattle.posix_calls.specs.Operations.{is_client}
use Rattle.event_steps.specs.area_reader.Store.{disk, marks, store_of}
use Rattle.event_steps.specs.kernel_fs.KernelView.{KernelView}
use Rattle.event_steps.specs.kernel_fs.MachineState.{IsKernelOf}
use Rattle.event_steps.specs.layout.Places.{Sizes}
use Rattle.event_steps.specs.layout.declared.marks.Marks.{Marks}
use Rattle.event_steps.specs.libfs.NeedService.{HasLooked}
use Rattle.event_steps.specs.libfs.View.{ClientView}
use Rattle.event_steps.specs.libfs.declared.denial.Denied.{Denied}
use Rattle.event_steps.specs.world_invariant.ClientSteps.{with_client}
use Rattle.event_steps.specs.world_invariant.Invariant.{IsCoherent}
use Rattle.event_steps.specs.world_invariant.World.{Client, Kernel, World, world_state}
use Rattle.event_steps.specs.View.{SeatView, SystemView, seat_of}
use Rattle.event_steps.specs.declared.event.Event.{Event}
use Rattle.event_steps.specs.declared.outcome.Outcome.{Outcome}
use Rattle.event_steps.specs.declared.refusals.Refusals.{Refusals}
use Rattle.event_lists.specs.Courses.{no_news}
use Rattle.event_steps.proofs.kernel_fs_lemmas.MediaSteps.{unmoved_kernel}
use Rattle.system_laws.specs.Leaves.{KernelLeaves}
use Rattle.system_laws.specs.Moves.{EventMoves, Stand}
use Rattle.system_laws.specs.News.{news}
use Rattle.system_laws.specs.Clocks.{clocks_of}
use Rattle.system_laws.specs.Relation.{Cut, IsWorldOf, SpellsShared, machine_of}
use Rattle.system_laws.specs.Relation as cuts
use Rattle.system_laws.specs.Steps.{IsBegunIn, IsStep}
use Rattle.system_laws.specs.WorldView.{WorldView, calls_of}
use Rattle.system_laws.proofs.Asked.{IsKernelThen}
use Rattle.system_laws.proofs.Frame.{same_kernel}
use Rattle.system_laws.proofs.Given.{Given}
use Rattle.system_laws.proofs.Supplies.{client_with, seat_with, supplied_step}

module _ {M : Type 0} (device : Ghosts M) (v : WorldView M) (w : World) (accepted : ℕ → ℕ) (shared_marks : Marks) (cut : Cut) (is : IsWorldOf device v w accepted shared_marks cut) (leaves : KernelLeaves device v.system.kernel) where
  -- the kernel, whose medium was only read, stands for the same world, with another part of a client; if a device has failed now, it was doing nothing
  looked_kernel : (c : ℕ) (p : Client) (after : KernelView M) (answer : Result (Unit {0}) Denied) → v.system.kernel.area.failed ≡ false → HasLooked device v.system.kernel after answer → IsKernelThen device after (with_client w c p) accepted shared_marks cuts.Nothing
  looked_kernel c p after answer going looked =
      let looks = looked.looks going in
      let same : w.kernel ≡ (with_client w c p).kernel = sym (same_kernel w c p) in
      let was = is.going going in
      let m = machine_of w accepted in
      let unmoved : IsKernelOf device after m = unmoved_kernel device v.system.kernel after m looked.book looks.geometry looks.unmoved.reads was.0 in
      let now : IsKernelOf device after (machine_of (with_client w c p) accepted) = subst (λ (k : Kernel). IsKernelOf device after (record { kernel = k; accepted = accepted })) same unmoved in
      record {
        book = now.book;
        capacity = now.capacity;
        going = λ _. (now, ap marks (reads_same device v.system.kernel after looks.unmoved.reads) ∙ was.1);
        stopped = λ failed content left.
            let before : Left (device.left v.system.kernel.area.media) (device.moment v.system.kernel.area.media) content = λ t. looks.unmoved.past (device.moment v.system.kernel.area.media) t (content t) (itself (device.moment v.system.kernel.area.media)) (subst (λ (n : ℕ). device.left after.area.media n t (content t)) looks.unmoved.clock (left t)) in
            let opens = leaves going content before in
            let spells : SpellsShared v.system.kernel.area.geometry w.kernel.shared shared_marks content = record {
              volume = opens.volume;
              opens = opens.opens;
              graph_is = opens.same_graph ∙ sym was.0.shared;
              marks_are = opens.same_marks ∙ was.1;
            } in
            inl (subst (λ (g : Sizes). SpellsShared g (with_client w c p).kernel.shared shared_marks content) (sym looks.geometry) (subst (λ (k : Kernel). SpellsShared v.system.kernel.area.geometry k.shared shared_marks content) same spells));
      }
    where
      itself : (n : ℕ) → n ≤ n
      itself n = omega arith

      reads_same : (device : Ghosts M) (old new : KernelView M) → ((t : Tier) → device.seen new.area.media t ≡ device.seen old.area.media t) → disk device new.area ≡ disk device old.area
      reads_same device old new reads = ap store_of (λ x t. reads t x)

module _ {M : Type 0} (device : Ghosts M) (given : Given device) (v : WorldView M) (new : SystemView M) (c : ℕ) (s t : SeatView M) (e : Event) (o : Outcome) (begun : IsBegunIn device v new) (is_c : is_client c ≡ true) (there : seat_of v.system c ≡ Some s) (seats : new.seats ≡ slice_set v.system.seats (c - 1) t)
    (moves : Stand (clocks_of device v.system) (clocks_of device new) → EventMoves e (clocks_of device v.system) (clocks_of device new)) (quiet : news (calls_of v) e o ≡ no_news (calls_of v)) where
  -- The client has these copies now.
  pub looked_step : (x : ClientView M) (r : Refusals) (p : Client) (answer : Result (Unit {0}) Denied) → t ≡ seat_with s x r → v.system.kernel.area.failed ≡ false → HasLooked device v.system.kernel new.kernel answer
      → client_with (begun.stands.world.clients c) x ≡ p → IsCoherent (with_client begun.stands.world c p) → world_state (with_client begun.stands.world c p) ≡ world_state begun.stands.world → IsStep device v e o (record { system = new; calls = v.calls })
  looked_step x r p answer seat going looked part coherent tree =
      let is = begun.stands.is in
      let w = begun.stands.world in
      let a = w.kernel.accounts c in
      let looks = looked.looks going in
      supplied_step device given v new c s e o begun is_c there moves quiet x r a.units a.numbers a.pins cuts.Nothing
      (seats ∙ ap (λ (y : SeatView M). slice_set v.system.seats (c - 1) y) seat)
      looks.geometry
      looks.unmoved
      (looked_kernel device v w begun.stands.accepted begun.stands.shared_marks begun.stands.cut is begun.leaves.kernel c (client_with (w.clients c) x) new.kernel answer going looked)
      (subst (λ (q : Client). IsCoherent (with_client w c q)) (sym part) coherent)
      (subst (λ (q : Client). world_state (with_client w c q) ≡ world_state w) (sym part) tree)
