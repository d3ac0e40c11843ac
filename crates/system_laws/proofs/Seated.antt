-- An event of a client that leaves the kernel as it was, and moves no part.
use Rattle.std.proofs.Common.{◌≡◌, ◌≢◌, ℕ, ◌-◌, ◌<◌, true, List, length, Option, Some, refl, ap, sym, ◌∙◌, subst}
use Rattle.std.specs.Prelude.{slice_set}
use Rattle.tier_device.specs.declared.media.Media.{Ghosts}
use Rattle.posix_calls.specs.Operations.{is_client}
use Rattle.posix_calls.specs.Run.{Run}
use Rattle.posix_calls.specs.declared.call.Call.{Call}
use Rattle.posix_calls.specs.declared.limits.TheConstants.{MAX_CLIENTS}
use Rattle.event_steps.specs.update_log.View.{HasSize}
use Rattle.event_steps.specs.world_invariant.ClientSteps.{with_client}
use Rattle.event_steps.specs.world_invariant.Invariant.{IsCoherent}
use Rattle.event_steps.specs.world_invariant.World.{Account, Client, World, world_state}
use Rattle.event_steps.specs.layout.declared.marks.Mark.{Mark}
use Rattle.event_steps.specs.layout.declared.marks.Marks.{Marks}
use Rattle.event_steps.specs.declared.refusals.Refusals.{Refusals}
use Rattle.event_steps.specs.View.{SeatView, SystemView, seat_of}
use Rattle.event_steps.specs.declared.event.Event.{Event}
use Rattle.event_steps.specs.declared.outcome.Outcome.{Outcome}
use Rattle.event_lists.specs.Courses.{Ledger, no_news}
use Rattle.event_steps.proofs.world_invariant_lemmas.Moved.{at_same}
use Rattle.system_laws.specs.Moves.{EventMoves, Stand}
use Rattle.system_laws.specs.News.{news}
use Rattle.system_laws.specs.Parts.{region_of}
use Rattle.system_laws.specs.Clocks.{clocks_of}
use Rattle.system_laws.specs.Relation.{Cut, IsClientOf, IsWorldOf, StandsMarked}
use Rattle.system_laws.specs.Steps.{IsBegunIn, IsStep}
use Rattle.recovery_laws.specs.Contents.{mark_by}
use Rattle.system_laws.specs.WorldTree.{world_tree}
use Rattle.system_laws.specs.WorldView.{WorldView, calls_of}
use Rattle.system_laws.proofs.Frame.{KeepsSealed, one_seat, same_kernel}
use Rattle.system_laws.proofs.Given.{Given}
use Rattle.system_laws.proofs.Seats.{same_seat}
use Rattle.system_laws.proofs.Still.{media_same, still_media, still_step}

-- the world in which a client has the part that it had
pub same_world : (w : World) (c : ℕ) → with_client w c (w.clients c) ≡ w
same_world w c = λ t. record { kernel = same_kernel w c (w.clients c) t; clients = at_same w.clients c t }

module _ {M : Type 0} (device : Ghosts M) where
  -- what a client was refused is no part of what it is in the world
  pub client_on : (s : SeatView M) (refused : Refusals) (call : Option Call) (p : Client) → IsClientOf device s call p → IsClientOf device (record s { refused = refused }) call p
  client_on s refused call p is = record { knows = is.knows; turn = is.turn; sealed = is.sealed; begun = is.begun; reads_are = is.reads_are; writes_are = is.writes_are; spare = is.spare; pins = is.pins; status = is.status }

  pub marked_on : (s : SeatView M) (refused : Refusals) (m : Mark) (a : Account) (accepted : ℕ) (p : Client) → StandsMarked m s a accepted p → StandsMarked m (record s { refused = refused }) a accepted p
  marked_on s refused m a accepted p is = record { mark = is.mark; digested = is.digested; accepts = is.accepts; held = is.held }

  -- The client's seat and its part of the world are these now, on the media that they were on; and what is acknowledged leads from the old world's tree to the new one's.
  pub seat_step : Given device → (v : WorldView M) (new : SystemView M) (c : ℕ) (s x : SeatView M) (p : Client) (calls : List (Option Call)) (e : Event) (o : Outcome) (w : World) (accepted : ℕ → ℕ) (marks : Marks) (cut : Cut)
      → IsBegunIn device v new → IsWorldOf device v w accepted marks cut
      → is_client c ≡ true → seat_of v.system c ≡ Some s → new.kernel ≡ v.system.kernel → new.seats ≡ slice_set v.system.seats (c - 1) x
      → (Stand (clocks_of device v.system) (clocks_of device new) → EventMoves e (clocks_of device v.system) (clocks_of device new))
      → IsCoherent (with_client w c p)
      → length calls ≡ MAX_CLIENTS
      → ((d : ℕ) → d ≢ c → calls_of (record { system = v.system; calls = calls }) d ≡ calls_of v d)
      → calls_of (record { system = v.system; calls = calls }) ≡ (news (calls_of v) e o).calls
      → KeepsSealed (w.clients c) p
      → ((r : ℕ) → r < 2 → (region_of x r).media ≡ (region_of s r).media)
      → IsClientOf device x (calls_of (record { system = v.system; calls = calls }) c) p
      → StandsMarked (mark_by (Some marks) c) x (w.kernel.accounts c) (accepted c) p
      → Run (world_state w) (news (calls_of v) e o).turns (world_state (with_client w c p))
      → IsStep device v e o (record { system = new; calls = calls })
  seat_step given v new c s x p calls e o w accepted marks cut begun is is_c there kernel seats moves coherent eight others same keeps media own mark run =
      let there_new : SystemView M = record { kernel = v.system.kernel; seats = slice_set v.system.seats (c - 1) x } in
      let is_new : there_new ≡ new = λ t. record { kernel = sym kernel t; seats = sym seats t } in
      let sizes : (r : ℕ) → r < 2 → HasSize (device.seen (region_of s r).media) → HasSize (device.seen (region_of x r).media) = λ r low. subst (λ (m : M). HasSize (device.seen m)) (sym (media r low)) in
      let then = subst (λ (n : SystemView M). IsWorldOf device (record { system = n; calls = calls }) (with_client w c p) accepted marks cut) is_new
      (one_seat device v w accepted marks cut c s x p calls is is_c there coherent eight others keeps sizes own mark) in
      let still = still_media device v.system new (media_same v.system new c s x is_c there (ap (λ k. k.area.media) kernel) seats media) in
      still_step device v new calls e o (given.stops v begun.stands begun.leaves) (ap (λ k. k.area.geometry) kernel) still (moves still.clocks)
      (record { world = with_client w c p; accepted = accepted; shared_marks = marks; cut = cut; is = then })
      (subst (λ t. Run t (news (calls_of v) e o).turns (world_tree device (record { system = new; calls = calls }))) (sym (given.tree_is v w accepted marks cut is begun.leaves))
      (subst (λ t. Run (world_state w) (news (calls_of v) e o).turns t) (sym (given.tree_is (record { system = new; calls = calls }) (with_client w c p) accepted marks cut then begun.leaves_then)) run))
      same

  -- what the relation says of the client whose seat this is
  pub own_part : (v : WorldView M) (w : World) (accepted : ℕ → ℕ) (marks : Marks) (cut : Cut) (c : ℕ) (s : SeatView M) → IsWorldOf device v w accepted marks cut → is_client c ≡ true → seat_of v.system c ≡ Some s
      → IsClientOf device s (calls_of v c) (w.clients c)
  own_part v w accepted marks cut c s is is_c there =
      let had = is.clients c is_c in
      subst (λ (y : SeatView M). IsClientOf device y (calls_of v c) (w.clients c)) (same_seat had.0 s (sym had.1 ∙ there)) had.2

  pub own_mark : (v : WorldView M) (w : World) (accepted : ℕ → ℕ) (marks : Marks) (cut : Cut) (c : ℕ) (s : SeatView M) → IsWorldOf device v w accepted marks cut → is_client c ≡ true → seat_of v.system c ≡ Some s
      → StandsMarked (mark_by (Some marks) c) s (w.kernel.accounts c) (accepted c) (w.clients c)
  own_mark v w accepted marks cut c s is is_c there =
      let had = is.marked c is_c in
      subst (λ (y : SeatView M). StandsMarked (mark_by (Some marks) c) y (w.kernel.accounts c) (accepted c) (w.clients c)) (same_seat had.0 s (sym had.1 ∙ there)) had.2

  -- An event that acknowledges nothing, of a client whose call is as it was.
  pub quiet_step : Given device → (v : WorldView M) (new : SystemView M) (c : ℕ) (s x : SeatView M) (p : Client) (e : Event) (o : Outcome)
      → (begun : IsBegunIn device v new)
      → is_client c ≡ true → seat_of v.system c ≡ Some s → new.kernel ≡ v.system.kernel → new.seats ≡ slice_set v.system.seats (c - 1) x
      → (Stand (clocks_of device v.system) (clocks_of device new) → EventMoves e (clocks_of device v.system) (clocks_of device new))
      → news (calls_of v) e o ≡ no_news (calls_of v)
      → IsCoherent (with_client begun.stands.world c p)
      → world_state (with_client begun.stands.world c p) ≡ world_state begun.stands.world
      → KeepsSealed (begun.stands.world.clients c) p
      → ((r : ℕ) → r < 2 → (region_of x r).media ≡ (region_of s r).media)
      → IsClientOf device x (calls_of v c) p
      → StandsMarked (mark_by (Some begun.stands.shared_marks) c) x (begun.stands.world.kernel.accounts c) (begun.stands.accepted c) p
      → IsStep device v e o (record { system = new; calls = v.calls })
  quiet_step given v new c s x p e o begun is_c there kernel seats moves quiet coherent tree keeps media own mark =
      let st = begun.stands in
      seat_step given v new c s x p v.calls e o st.world st.accepted st.shared_marks st.cut begun st.is is_c there kernel seats moves coherent st.is.eight (λ d off. refl)
      (ap (λ (l : Ledger). l.calls) (sym quiet)) keeps media own mark
      (subst (λ (l : Ledger). Run (world_state st.world) l.turns (world_state (with_client st.world c p))) (sym quiet) tree)
