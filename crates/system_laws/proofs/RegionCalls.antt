-- An event that makes one device call at most on the region that its client writes: a step, by the client's part behind it.
use Rattle.std.proofs.Common.{◌≡◌, ◌≢◌, inl, ℕ, ◌+◌, ◌-◌, ◌%◌, ◌<◌, Bool, true, List, length, Option, Some, refl, ap, sym, ◌∙◌, subst, arith}
use Rattle.std.specs.Prelude.{slice_set}
use Rattle.tier_device.specs.declared.media.Media.{Ghosts}
use Rattle.tier_device.specs.declared.media.Tier.{Tier}
use Rattle.tier_device.specs.Media.{Keeps}
use Rattle.posix_calls.specs.Operations.{is_client}
use Rattle.posix_calls.specs.Run.{Run}
use Rattle.posix_calls.specs.declared.call.Call.{Call}
use Rattle.posix_calls.specs.declared.limits.TheConstants.{MAX_CLIENTS}
use Rattle.event_steps.specs.file_graph.Graph.{is_among}
use Rattle.event_steps.specs.update_log.View.{RegionView}
use Rattle.event_steps.specs.client_log.HasTurn.{HasTurn}
use Rattle.event_steps.specs.client_log.Turns.{Turn, turn_of}
use Rattle.event_steps.specs.client_log.View.{LogView}
use Rattle.event_steps.specs.layout.declared.marks.Mark.{Mark}
use Rattle.event_steps.specs.lease_manager.PassLeases.{reads, writes}
use Rattle.event_steps.specs.libfs.ClientHoldings.{known_to}
use Rattle.event_steps.specs.libfs.SealedRegion.{SealedRegionView}
use Rattle.event_steps.specs.libfs.View.{ClientView}
use Rattle.event_steps.specs.libfs.declared.begun_record.Begun.{Begun}
use Rattle.event_steps.specs.world_invariant.ClientSteps.{with_client}
use Rattle.event_steps.specs.world_invariant.Invariant.{IsCoherent}
use Rattle.event_steps.specs.world_invariant.Logs.{is_written}
use Rattle.event_steps.specs.world_invariant.World.{Account, Client, Status, World, world_state}
use Rattle.event_steps.specs.Calls.{CountsOn}
use Rattle.event_steps.specs.Stops.{SeatLeaves}
use Rattle.event_steps.specs.View.{SeatView, SystemView, done_of, seat_of}
use Rattle.event_steps.specs.declared.event.Event.{Event}
use Rattle.event_steps.specs.declared.outcome.Outcome.{Outcome}
use Rattle.event_lists.specs.Courses.{Ledger, no_news}
use Rattle.system_laws.specs.Moves.{EventMoves, MovesRegion}
use Rattle.system_laws.specs.News.{news}
use Rattle.system_laws.specs.Parts.{region_of}
use Rattle.system_laws.specs.Clocks.{clocks_of}
use Rattle.system_laws.specs.Relation.{IsBegunAs, IsClientOf, StandsMarked, accepted_of, first_generation, held_of, status_of}
use Rattle.system_laws.specs.Steps.{IsBegunIn, IsStep}
use Rattle.recovery_laws.specs.Contents.{mark_by}
use Rattle.system_laws.specs.WorldView.{WorldView, calls_of}
use Rattle.system_laws.proofs.ClientMoves.{StandsFor, client_moves, kernel_stands, with_part}
use Rattle.system_laws.proofs.Frame.{KeepsSealed}
use Rattle.system_laws.proofs.Given.{Given}
use Rattle.system_laws.proofs.OwnSeat.{client_at, leaves_at, marked_at}
use Rattle.system_laws.proofs.RegionStops.{at_remainder, beside_stays, current_at, low_remainder, none_beside, region_world, seat_during, sizes_stay}
use Rattle.system_laws.proofs.Statuses.{Stays}
use Rattle.system_laws.proofs.StopsNow.{IsSized}
use Rattle.system_laws.proofs.WorldMoves.{Stood}

module _ {M : Type 0} (device : Ghosts M) where
  -- a medium that is as it was
  pub stays_so : (m n : M) → n ≡ m → Keeps (device.moment m) (device.moment n) (device.left m) (device.left n)
  stays_so m n is = subst (λ (k : M). Keeps (device.moment m) (device.moment k) (device.left m) (device.left k)) (sym is)
      (record { later = omega arith; at_most_one = omega arith; nothing_else = λ k t c before left. left; keeps = λ k t c before left. left })

  -- Of a seat's two regions the current one has moved, by one device call or none. At each moment of that what counted before counts, with the begun record or without.
  pub record MovesCurrent (s x : SeatView M) : Type 0 where
    pub any_moment : CountsOn device s.client x.client
    pub log : x.client.log ≡ record s.client.log { current = x.client.log.current; failed = x.client.log.failed }
    pub away : x.away ≡ s.away
    pub past : Keeps (device.moment s.client.log.current.media) (device.moment x.client.log.current.media) (device.left s.client.log.current.media) (device.left x.client.log.current.media)

  -- An event moves a client's seat so, and leaves the kernel and all other seats.
  pub record IsCallOf (v : WorldView M) (e : Event) (new : SystemView M) (c : ℕ) (s x : SeatView M) : Type 0 where
    pub client : is_client c ≡ true
    pub was : seat_of v.system c ≡ Some s
    pub kernel : new.kernel ≡ v.system.kernel
    pub seats : new.seats ≡ slice_set v.system.seats (c - 1) x
    pub moved : MovesCurrent s x
    pub may : MovesRegion c (clocks_of device v.system) (clocks_of device new) → EventMoves e (clocks_of device v.system) (clocks_of device new)

module _ {M : Type 0} (device : Ghosts M) (seen_now : (m : M) (t : Tier) → device.left m (device.moment m) t (device.seen m t)) (sized : IsSized device) (given : Given device)
    (v : WorldView M) (e : Event) (o : Outcome) (new : SystemView M) (c : ℕ) (s x : SeatView M) (begun : IsBegunIn device v new) (call : IsCallOf device v e new c s x) where
  abbrev w : World
  w = begun.stands.world

  abbrev z : Stood
  z = record { world = w; accepted = begun.stands.accepted; marks = begun.stands.shared_marks; cut = begun.stands.cut }

  pub own : IsClientOf device s (calls_of v c) (w.clients c)
  own = client_at device v c s call.client call.was z begun.stands.is

  mark : StandsMarked (mark_by (Some z.marks) c) s (w.kernel.accounts c) (z.accepted c) (w.clients c)
  mark = marked_at device v c s call.client call.was z begun.stands.is

  leaves : SeatLeaves device s
  leaves = leaves_at device v c s call.client call.was begun.leaves

  abbrev r : ℕ
  r = s.client.log.generation % 2

  -- ---- what stays of the seat

  same_generation : x.client.log.generation ≡ s.client.log.generation
  same_generation = ap (λ (l : LogView M). l.generation) call.moved.log

  same_other : x.client.log.other ≡ s.client.log.other
  same_other = ap (λ (l : LogView M). l.other) call.moved.log

  beside : (q : ℕ) → q < 2 → q ≢ r → (region_of x q).media ≡ (region_of s q).media
  beside q small off = ap (λ (y : RegionView M). y.media) (beside_stays device s x leaves.seated same_generation same_other call.moved.away q (λ is. off (sym is)))

  current_then : region_of x r ≡ x.client.log.current
  current_then = at_remainder x r (ap (λ (n : ℕ). n % 2) same_generation)

  past : Keeps (device.moment (region_of s r).media) (device.moment (region_of x r).media) (device.left (region_of s r).media) (device.left (region_of x r).media)
  past =
      subst (λ (y : RegionView M). Keeps (device.moment y.media) (device.moment (region_of x r).media) (device.left y.media) (device.left (region_of x r).media)) (sym (current_at s))
      (subst (λ (y : RegionView M). Keeps (device.moment s.client.log.current.media) (device.moment y.media) (device.left s.client.log.current.media) (device.left y.media)) (sym current_then) call.moved.past)

  marked_then : (m : Mark) (a : Account) (accepted : ℕ) (p : Client) → KeepsSealed (w.clients c) p → StandsMarked m s a accepted (w.clients c) → StandsMarked m x a accepted p
  marked_then m a accepted p keeps is = record {
    mark = is.mark ∙ sym (ap (λ (l : LogView M). record { generation = first_generation l.generation s.away; done = done_of s.away }) call.moved.log) ∙ sym (ap (λ (y : Option (SealedRegionView M)). record { generation = first_generation x.client.log.generation y; done = done_of y }) call.moved.away);
    digested = is.digested ∙ sym (ap (λ (n : ℕ). n + done_of s.away) keeps.0) ∙ sym (ap (λ (y : Option (SealedRegionView M)). p.past + done_of y) call.moved.away);
    accepts = is.accepts ∙ sym (ap (λ (n : ℕ). n + accepted_of s.away (w.clients c).sealed) keeps.0) ∙ sym (ap (λ rs. p.past + accepted_of s.away rs) keeps.1) ∙ sym (ap (λ (y : Option (SealedRegionView M)). p.past + accepted_of y p.sealed) call.moved.away);
    held = λ i written. ap (λ (y : Option (SealedRegionView M)). is_among i (held_of y)) call.moved.away ∙ is.held i (sym (ap (is_written i) keeps.1) ∙ written);
  }

  -- Where the log alone has moved, and has the records that it had, the client is in the world what it was, but for its status.
  pub log_client : (answered : Bool) (status : Status) → x.client ≡ record s.client { log = x.client.log; answered = answered } → turn_of device x.client.log ≡ turn_of device s.client.log → status ≡ status_of x.life x.client.log.failed
      → IsClientOf device x (calls_of v c) (record (w.clients c) { status = status })
  log_client answered status rest turn same = record {
    knows = own.knows ∙ sym (ap known_to rest);
    turn = subst (λ (t : Turn). HasTurn t (record (w.clients c) { status = status })) (sym turn) (record { current = own.turn.current; other = own.turn.other; is_ready = own.turn.is_ready; begun = own.turn.begun });
    sealed = own.sealed ∙ sym (ap (λ (y : ClientView M). y.sealed) rest);
    begun = subst (λ (b : Option Begun). IsBegunAs (calls_of v c) b (w.clients c).begun) (sym (ap (λ (y : ClientView M). y.begun) rest)) own.begun;
    reads_are = λ i. own.reads_are i ∙ sym (ap (λ (y : ClientView M). reads y.pass i) rest);
    writes_are = λ i. own.writes_are i ∙ sym (ap (λ (y : ClientView M). writes y.pass i) rest);
    spare = own.spare ∙ sym (ap (λ (y : ClientView M). y.spare) rest);
    pins = λ i. own.pins i ∙ sym (ap (λ (y : ClientView M). is_among i y.pins) rest);
    status = same;
  }

  -- ---- the step

  -- by the client's part behind it
  pub step_of : (p : Client) (calls : List (Option Call)) → IsCoherent (with_client w c p) → KeepsSealed (w.clients c) p
      → length calls ≡ MAX_CLIENTS
      → ((d : ℕ) → d ≢ c → calls_of (record { system = v.system; calls = calls }) d ≡ calls_of v d)
      → IsClientOf device x (calls_of (record { system = v.system; calls = calls }) c) p
      → Run (world_state w) (news (calls_of v) e o).turns (world_state (with_client w c p))
      → calls_of (record { system = new; calls = calls }) ≡ (news (calls_of v) e o).calls
      → IsStep device v e o (record { system = new; calls = calls })
  step_of p calls coherent keeps eight others client run acknowledged =
      let is = begun.stands.is in
      let stands = subst (λ k. StandsFor device k (with_client w c p) z.accepted z.marks z.cut) (sym call.kernel) (with_part device v.system.kernel w z.accepted z.marks z.cut c p (inl keeps) (kernel_stands device v w z.accepted z.marks z.cut is)) in
      let then = client_moves device v w z.accepted z.marks z.cut new calls c s x w.kernel.shared (w.kernel.accounts c) p z.accepted z.marks z.cut
      is call.client call.was call.seats coherent eight others stands
      (sizes_stay device seen_now sized s x r beside past)
      client (marked_then (mark_by (Some z.marks) c) (w.kernel.accounts c) (z.accepted c) p keeps mark) (λ d is_d off. (refl, refl)) in
      region_world device seen_now sized given v new c r s x calls e o z (record z { world = with_client w c p }) begun is then call.client (low_remainder s.client.log.generation) call.was call.kernel call.seats beside past
      (seat_during device s x leaves call.moved.any_moment same_generation call.moved.away (λ gone. same_other ∙ gone) (none_beside device s x leaves same_generation same_other))
      call.may run acknowledged

  -- of an event that acknowledges nothing
  pub quiet : (p : Client) → Stays w c p → news (calls_of v) e o ≡ no_news (calls_of v) → IsClientOf device x (calls_of v c) p → IsStep device v e o (record { system = new; calls = v.calls })
  quiet p stays none client =
      step_of p v.calls stays.holds stays.keeps begun.stands.is.eight (λ d off. refl) client
      (subst (λ (l : Ledger). Run (world_state w) l.turns (world_state (with_client w c p))) (sym none) stays.tree)
      (ap (λ (l : Ledger). l.calls) (sym none))
