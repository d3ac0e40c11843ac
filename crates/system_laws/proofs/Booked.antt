-- An event in which a client asks the kernel for what only its book has to do with.
use Rattle.std.proofs.Common.{◌≡◌, ℕ, ◌-◌, Bool, true, false, Some, Ok, Err, ap, sym, ◌∙◌, subst}
use Rattle.std.specs.Prelude.{slice_set}
use Rattle.std.proofs.lemmas.Bool.{false≢true}
use Rattle.tier_device.specs.declared.media.Media.{Ghosts}
use Rattle.posix_calls.specs.Operations.{is_client}
use Rattle.event_steps.specs.area_reader.Store.{disk, marks}
use Rattle.event_steps.specs.kernel_fs.MachineState.{IsKernelOf}
use Rattle.event_steps.specs.libfs.View.{ClientView}
use Rattle.event_steps.specs.libfs.declared.denial.Denied.{Denied}
use Rattle.event_steps.specs.world_invariant.Invariant.{IsCoherent}
use Rattle.event_steps.specs.world_invariant.World.{Client, moved_world, world_state}
use Rattle.event_steps.specs.KernelRequests.{IsBooked}
use Rattle.event_steps.specs.Outcomes.{noted_refusals}
use Rattle.event_steps.specs.View.{SeatView, SystemView, seat_of}
use Rattle.event_steps.specs.declared.event.Event.{Event}
use Rattle.event_steps.specs.declared.outcome.Outcome.{Outcome}
use Rattle.event_lists.specs.Courses.{no_news}
use Rattle.system_laws.specs.Moves.{EventMoves, Stand}
use Rattle.system_laws.specs.News.{news}
use Rattle.system_laws.specs.Clocks.{clocks_of}
use Rattle.system_laws.specs.Relation.{machine_of}
use Rattle.system_laws.specs.Relation as cuts
use Rattle.system_laws.specs.Steps.{IsBegunIn, IsStep}
use Rattle.system_laws.specs.WorldView.{WorldView, calls_of}
use Rattle.system_laws.proofs.Asked.{not_read}
use Rattle.system_laws.proofs.FailedKernel.{refused_step}
use Rattle.system_laws.proofs.Given.{Given}
use Rattle.system_laws.proofs.Supplies.{account_with, client_with, seat_with, supplied, supplied_step}

module _ {M : Type 0} (device : Ghosts M) (given : Given device) (v : WorldView M) (new : SystemView M) (c : ℕ) (s t : SeatView M) (e : Event) (o : Outcome) (begun : IsBegunIn device v new) (is_c : is_client c ≡ true) (there : seat_of v.system c ≡ Some s) (seats : new.seats ≡ slice_set v.system.seats (c - 1) t)
    (moves : Stand (clocks_of device v.system) (clocks_of device new) → EventMoves e (clocks_of device v.system) (clocks_of device new)) (quiet : news (calls_of v) e o ≡ no_news (calls_of v)) where
  -- what is refused changes nothing
  pub unbooked_step : (why : Denied) → IsBooked v.system.kernel s (Err why) o t new.kernel → IsStep device v e o (record { system = new; calls = v.calls })
  unbooked_step why b =
      let same : t ≡ record s { refused = noted_refusals (Err why) s.refused } = b.asks.rest ∙ ap (λ (x : ClientView M). record s { client = x; refused = noted_refusals (Err why) s.refused }) b.refused.0 in
      refused_step device given v new c s (noted_refusals (Err why) s.refused) e o begun is_c there b.refused.1 (seats ∙ ap (λ (y : SeatView M). slice_set v.system.seats (c - 1) y) same) quiet moves

  -- The book has this account now, and the client its copies, spare units and pins.
  pub booked_step : (units : ℕ) (numbers pins : ℕ → Bool) (p : Client) → IsBooked v.system.kernel s (Ok tt) o t new.kernel → t.client ≡ supplied s.client t.client
      → (IsKernelOf device v.system.kernel (machine_of begun.stands.world begun.stands.accepted) → IsKernelOf device new.kernel (machine_of (moved_world begun.stands.world c begun.stands.world.kernel.shared (account_with (begun.stands.world.kernel.accounts c) units numbers pins) p) begun.stands.accepted))
      → client_with (begun.stands.world.clients c) t.client ≡ p
      → IsCoherent (moved_world begun.stands.world c begun.stands.world.kernel.shared (account_with (begun.stands.world.kernel.accounts c) units numbers pins) p)
      → world_state (moved_world begun.stands.world c begun.stands.world.kernel.shared (account_with (begun.stands.world.kernel.accounts c) units numbers pins) p) ≡ world_state begun.stands.world
      → IsStep device v e o (record { system = new; calls = v.calls })
  booked_step units numbers pins p b rest step part coherent tree =
      let is = begun.stands.is in
      let w = begun.stands.world in
      let going : v.system.kernel.area.failed ≡ false = b.going in
      let after = step (is.going going).0 in
      let seat : t ≡ seat_with s t.client s.refused = b.asks.rest ∙ ap (λ (x : ClientView M). record s { client = x; refused = s.refused }) rest in
      let account = account_with (w.kernel.accounts c) units numbers pins in
      supplied_step device given v new c s e o begun is_c there moves quiet t.client s.refused units numbers pins cuts.Nothing
      (seats ∙ ap (λ (y : SeatView M). slice_set v.system.seats (c - 1) y) seat)
      (ap (λ a. a.geometry) b.area)
      (not_read device v.system.kernel.area.media new.kernel.area.media (ap (λ a. a.media) b.area))
      (record {
        book = after.book;
        capacity = after.capacity;
        going = λ _. (after, ap (λ a. marks (disk device a)) b.area ∙ (is.going going).1);
        stopped = λ failed. absurd (false≢true (sym (ap (λ a. a.failed) b.area ∙ going) ∙ failed));
      })
      (subst (λ (q : Client). IsCoherent (moved_world w c w.kernel.shared account q)) (sym part) coherent)
      (subst (λ (q : Client). world_state (moved_world w c w.kernel.shared account q) ≡ world_state w) (sym part) tree)
