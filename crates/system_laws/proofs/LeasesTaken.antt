-- A lease is asked for, taken, raised and given.
use Rattle.std.proofs.Common.{◌≡◌, ◌≢◌, ◌⊎◌, inl, inr, ℕ, ◌-◌, ◌<◌, ◌==◌, ◌&&◌, ◌||◌, Bool, true, false, cond, Option, Some, refl, subst, sym, ap, ◌∙◌, arith}
use Rattle.std.specs.Prelude.{slice_set}
use Rattle.std.proofs.lemmas.Bool.{cases_lt}
use Rattle.std.proofs.lemmas.Bool.Decides.{eqb_tells}
use Rattle.tier_device.specs.declared.media.Media.{Ghosts}
use Rattle.posix_calls.specs.Operations.{is_client}
use Rattle.posix_calls.specs.declared.call.Call.{Call}
use Rattle.event_steps.specs.file_graph.Numbers.{is_inode}
use Rattle.event_steps.specs.lease_manager.Marks.{is_lease}
use Rattle.event_steps.specs.lease_manager.Parts.{AreCompatible}
use Rattle.event_steps.specs.lease_manager.Passes.{PassView, lease_of, with_lease}
use Rattle.event_steps.specs.lease_manager.PassLeases.{is_reading, is_writing, reads, writes}
use Rattle.event_steps.specs.lease_manager.Words.{HasWord}
use Rattle.event_steps.specs.lease_manager.declared.view.LeaseMode.{LeaseMode}
use Rattle.event_steps.specs.lease_manager.declared.view.Part.{Part}
use Rattle.event_steps.specs.lease_manager.declared.view.LeaseMode.TheVariants.{Free, Reading, Writing}
use Rattle.event_steps.specs.world_invariant.Invariant.{IsCoherent}
use Rattle.event_steps.specs.world_invariant.LeaseSteps.{IsUnheld, IsUnwritten, also, without}
use Rattle.event_steps.specs.world_invariant.World.{Account, Client, world_state}
use Rattle.event_steps.specs.layout.declared.marks.Mark.{Mark}
use Rattle.event_steps.specs.View.{SeatView, SystemView, seat_of}
use Rattle.event_steps.specs.Effects.{MakesAt}
use Rattle.event_steps.specs.Leases.{HasPass}
use Rattle.event_steps.specs.Turns.{CanPlay}
use Rattle.event_steps.specs.client_plan.declared.need.Mode.{Mode}
use Rattle.event_steps.specs.client_plan.declared.need.Mode.TheVariants.{Read, Write}
use Rattle.event_steps.specs.declared.outcome.Outcome.TheVariants as outcomes
use Rattle.event_steps.specs.libfs.LeaseCalls.{mode_of, refused_pass}
use Rattle.event_steps.proofs.world_invariant_lemmas.Leases.{read_taken_holds, read_taken_tree, write_taken_holds, write_taken_tree}
use Rattle.event_steps.specs.declared.event.Event.{Event}
use Rattle.event_steps.specs.declared.event.Event.TheVariants as events
use Rattle.event_steps.specs.declared.outcome.Outcome.{Outcome}
use Rattle.event_lists.specs.Courses.{no_news}
use Rattle.system_laws.specs.Leaves.{HasMetAll}
use Rattle.system_laws.specs.Moves.{EventMoves, Stand}
use Rattle.system_laws.specs.News.{news}
use Rattle.system_laws.specs.Clocks.{clocks_of}
use Rattle.system_laws.specs.Steps.{IsBegunIn, IsStep}
use Rattle.system_laws.specs.WorldView.{WorldView, calls_of}
use Rattle.system_laws.proofs.Given.{Given}
use Rattle.system_laws.proofs.Seated.{own_mark, own_part, quiet_step, same_world}
use Rattle.system_laws.specs.Relation.{IsClientOf, StandsMarked}
use Rattle.system_laws.proofs.LeaseEvents.{said_with, unheld_beside, unwritten_beside}
use Rattle.system_laws.proofs.OwnSeat.{turn_at}
use Rattle.system_laws.proofs.Seats.{client_is, seat_beside, seat_there, same_seat}

module _ {M : Type 0} (device : Ghosts M) where
  -- a seat whose client has another pass
  abbrev pub with_pass : SeatView M → PassView → SeatView M
  with_pass s pass = record s { client = record s.client { pass = pass } }

  -- a client with another pass, which holds what the part of the world does
  pub pass_client : (s : SeatView M) (pass : PassView) (call : Option Call) (p : Client) (reading writing : ℕ → Bool) → IsClientOf device s call p
      → ((j : ℕ) → reading j ≡ reads pass j) → ((j : ℕ) → writing j ≡ writes pass j) → IsClientOf device (with_pass s pass) call (record p { reads = reading; writes = writing })
  pass_client s pass call p reading writing is reads_are writes_are = record { knows = is.knows; turn = record { current = is.turn.current; other = is.turn.other; is_ready = is.turn.is_ready; begun = is.turn.begun }; sealed = is.sealed; begun = is.begun; reads_are = reads_are; writes_are = writes_are; spare = is.spare; pins = is.pins; status = is.status }

  pub pass_marked : (s : SeatView M) (pass : PassView) (m : Mark) (a : Account) (accepted : ℕ) (p : Client) (reading writing : ℕ → Bool) → StandsMarked m s a accepted p → StandsMarked m (with_pass s pass) a accepted (record p { reads = reading; writes = writing })
  pass_marked s pass m a accepted p reading writing is = record { mark = is.mark; digested = is.digested; accepts = is.accepts; held = is.held }

-- ---- what a pass holds, as the world's steps have it

also_at : (has : ℕ → Bool) (i j : ℕ) → also has i j ≡ cond (j == i) true (has j)
also_at has i j = elim (j == i) as (λ b. (b || has j) ≡ cond b true (has j)) [ true ↦ refl | false ↦ refl ]

-- a read lease that is taken of a free inode
pub reading_reads : (p : PassView) (has : ℕ → Bool) (i j : ℕ) → HasWord i → lease_of (with_lease p i Reading) i ≡ Reading → has j ≡ reads p j → also has i j ≡ reads (with_lease p i Reading) j
reading_reads p has i j word there same = also_at has i j ∙ ap (λ b. cond (j == i) true b) same ∙ sym (said_with is_reading p i j Reading word there)

pub reading_writes : (p : PassView) (has : ℕ → Bool) (i j : ℕ) → HasWord i → lease_of (with_lease p i Reading) i ≡ Reading → lease_of p i ≡ Free → has j ≡ writes p j → has j ≡ writes (with_lease p i Reading) j
reading_writes p has i j word there free same = elim (eqb_tells j i) [
  | inl here ↦ same ∙ ap (λ (k : ℕ). is_inode j && is_writing (lease_of p k)) here.1 ∙ ap (λ (m : LeaseMode). is_inode j && is_writing m) free ∙ nothing (is_inode j) ∙ sym (said_with is_writing p i j Reading word there ∙ ap (λ b. cond b false (writes p j)) here.0)
  | inr other ↦ same ∙ sym (said_with is_writing p i j Reading word there ∙ ap (λ b. cond b false (writes p j)) other.0)
]
  where
    nothing : (b : Bool) → (b && false) ≡ false
    nothing true = refl
    nothing false = refl

-- a write lease that is taken, of a free inode or of one that is held for reading
pub writing_reads : (p : PassView) (has : ℕ → Bool) (i j : ℕ) → HasWord i → lease_of (with_lease p i Writing) i ≡ Writing → has j ≡ reads p j → without has i j ≡ reads (with_lease p i Writing) j
writing_reads p has i j word there same = ap (λ b. cond (j == i) false b) same ∙ sym (said_with is_reading p i j Writing word there)

pub writing_writes : (p : PassView) (has : ℕ → Bool) (i j : ℕ) → HasWord i → lease_of (with_lease p i Writing) i ≡ Writing → has j ≡ writes p j → also has i j ≡ writes (with_lease p i Writing) j
writing_writes p has i j word there same = also_at has i j ∙ ap (λ b. cond (j == i) true b) same ∙ sym (said_with is_writing p i j Writing word there)

-- ---- nobody else holds it

module _ {M : Type 0} (device : Ghosts M) where
  -- the pass of a client that has met all others is compatible with that of each
  pub met_with : (new : SystemView M) (c d : ℕ) (x t : SeatView M) → HasMetAll new c → is_client c ≡ true → is_client d ≡ true → d ≢ c → seat_of new c ≡ Some x → seat_of new d ≡ Some t
      → AreCompatible x.client.pass.part t.client.pass.part
  met_with new c d x t met is_c is_d off here there = elim (three c d) [
    | inl low ↦ let had = met c d is_c is_d low (inl refl) in subst (λ (y : SeatView M). AreCompatible y.client.pass.part t.client.pass.part) (same_seat had.0 x (sym had.1 ∙ here)) (subst (λ (y : SeatView M). AreCompatible had.0.client.pass.part y.client.pass.part) (same_seat had.2.0 t (sym had.2.1 ∙ there)) had.2.2)
    | inr rest ↦ elim rest [
      | inl high ↦ let had = met d c is_d is_c high (inr refl) in turned t.client.pass.part x.client.pass.part (subst (λ (y : SeatView M). AreCompatible y.client.pass.part x.client.pass.part) (same_seat had.0 t (sym had.1 ∙ there)) (subst (λ (y : SeatView M). AreCompatible had.0.client.pass.part y.client.pass.part) (same_seat had.2.0 x (sym had.2.1 ∙ here)) had.2.2))
      | inr same ↦ absurd (off same)
    ]
  ]
    where
      turned : (p q : Part) → AreCompatible p q → AreCompatible q p
      turned p q met = (λ same. met.0 (sym same), λ i low. ((met.1 i low).1, (met.1 i low).0))

      three : (c d : ℕ) → (c < d) ⊎ ((d < c) ⊎ (d ≡ c))
      three c d = elim (cases_lt c d) [
        | inl low ↦ inl low
        | inr high ↦ elim (cases_lt d c) [
          | inl less ↦ inr (inl less)
          | inr more ↦ inr (inr (omega (arith, high, more)))
        ]
      ]

  -- ---- the events

  -- another pass that holds what the old one held
  pub same_pass : Given device → (v : WorldView M) (new : SystemView M) (c : ℕ) (s : SeatView M) (pass : PassView) (e : Event) (o : Outcome) → IsBegunIn device v new
      → is_client c ≡ true → seat_of v.system c ≡ Some s → new.kernel ≡ v.system.kernel → new.seats ≡ slice_set v.system.seats (c - 1) (with_pass device s pass)
      → (Stand (clocks_of device v.system) (clocks_of device new) → EventMoves e (clocks_of device v.system) (clocks_of device new))
      → news (calls_of v) e o ≡ no_news (calls_of v)
      → ((j : ℕ) → reads pass j ≡ reads s.client.pass j) → ((j : ℕ) → writes pass j ≡ writes s.client.pass j)
      → IsStep device v e o (record { system = new; calls = v.calls })
  same_pass given v new c s pass e o begun is_c there kernel seats moves quiet reads_same writes_same =
      let st = begun.stands in
      let w = st.world in
      let own = own_part device v w st.accepted st.shared_marks st.cut c s st.is is_c there in
      let mark = own_mark device v w st.accepted st.shared_marks st.cut c s st.is is_c there in
      let same = sym (same_world w c) in
      quiet_step device given v new c s (with_pass device s pass) (w.clients c) e o begun is_c there kernel seats moves quiet
      (subst IsCoherent same st.is.coherent) (ap world_state (sym same)) (refl, refl) (λ r low. refl)
      (pass_client device s pass (calls_of v c) (w.clients c) (w.clients c).reads (w.clients c).writes own (λ j. own.reads_are j ∙ sym (reads_same j)) (λ j. own.writes_are j ∙ sym (writes_same j)))
      (pass_marked device s pass _ _ _ (w.clients c) (w.clients c).reads (w.clients c).writes mark)

  pub asked_back : Given device → (v : WorldView M) (c i of : ℕ) (o : Outcome) (new : SystemView M)
      → IsBegunIn device v new → CanPlay device v.system (events.AskBack c i of) → MakesAt device v.system c (events.AskBack c i of) o new → IsStep device v (events.AskBack c i of) o (record { system = new; calls = v.calls })
  asked_back given v c i of o new begun turn makes =
      same_pass given v new c makes.seat _ (events.AskBack c i of) o begun (client_is c turn.0) makes.was makes.makes.1
      (makes.seats ∙ ap (λ (y : SeatView M). slice_set v.system.seats (c - 1) y) makes.makes.0.1) (λ stand. stand)
      (ap (λ (r : Outcome). news (calls_of v) (events.AskBack c i of) r) makes.makes.0.0) (λ j. refl) (λ j. refl)

  -- what is said of a tried lease: it stands at its inode then
  abbrev pub HasTaken : SeatView M → ℕ → LeaseMode → Type 0
  HasTaken s i lease = lease_of (with_lease s.client.pass i lease) i ≡ lease

  taken_of : (s x : SeatView M) (i : ℕ) (lease : LeaseMode) → lease_of x.client.pass i ≡ lease → HasPass s (with_lease s.client.pass i lease) x → HasTaken s i lease
  taken_of s x i lease stands is = subst (λ (y : SeatView M). lease_of y.client.pass i ≡ lease) is stands

  refused_same : (s : SeatView M) (i found : ℕ) (mode : Mode) → ((j : ℕ) → reads (refused_pass s.client.pass i mode found) j ≡ reads s.client.pass j) × ((j : ℕ) → writes (refused_pass s.client.pass i mode found) j ≡ writes s.client.pass j)
  refused_same s i found Read = (λ j. refl, λ j. refl)
  refused_same s i found Write = (λ j. refl, λ j. refl)

  -- a lease for reading
  read_taken_step : Given device → (v : WorldView M) (new : SystemView M) (c i : ℕ) (s : SeatView M) (e : Event) (o : Outcome) → IsBegunIn device v new
      → is_client c ≡ true → seat_of v.system c ≡ Some s → new.kernel ≡ v.system.kernel → new.seats ≡ slice_set v.system.seats (c - 1) (with_pass device s (with_lease s.client.pass i Reading))
      → (Stand (clocks_of device v.system) (clocks_of device new) → EventMoves e (clocks_of device v.system) (clocks_of device new))
      → news (calls_of v) e o ≡ no_news (calls_of v)
      → HasWord i → lease_of s.client.pass i ≡ Free → HasTaken s i Reading → HasMetAll new c
      → IsStep device v e o (record { system = new; calls = v.calls })
  read_taken_step given v new c i s e o begun is_c there kernel seats moves quiet word free took met =
      let st = begun.stands in
      let w = st.world in
      let x = with_pass device s (with_lease s.client.pass i Reading) in
      let own = own_part device v w st.accepted st.shared_marks st.cut c s st.is is_c there in
      let mark = own_mark device v w st.accepted st.shared_marks st.cut c s st.is is_c there in
      let unwritten : IsUnwritten w c i = λ d is_d off.
      let had = st.is.clients d is_d in
      let at = seat_beside v.system new c d x is_c is_d off seats ∙ had.1 in
      had.2.writes_are i ∙ unwritten_beside (with_lease s.client.pass i Reading) had.0.client.pass i word (met_with new c d x had.0 met is_c is_d off (seat_there v.system new c s x there seats) at) (ap is_lease took) in
      quiet_step device given v new c s x (record (w.clients c) { reads = also (w.clients c).reads i }) e o begun is_c there kernel seats moves quiet
      (read_taken_holds w c i st.is.coherent is_c unwritten) (read_taken_tree w c i st.is.coherent is_c) (refl, refl) (λ r low. refl)
      (pass_client device s _ (calls_of v c) (w.clients c) (also (w.clients c).reads i) (w.clients c).writes own
      (λ j. reading_reads s.client.pass (w.clients c).reads i j word took (own.reads_are j)) (λ j. reading_writes s.client.pass (w.clients c).writes i j word took free (own.writes_are j)))
      (pass_marked device s _ _ _ _ (w.clients c) (also (w.clients c).reads i) (w.clients c).writes mark)

  -- one for writing, of a free inode or of one that is held for reading
  write_taken_step : Given device → (v : WorldView M) (new : SystemView M) (c i : ℕ) (s : SeatView M) (e : Event) (o : Outcome) → IsBegunIn device v new
      → is_client c ≡ true → seat_of v.system c ≡ Some s → new.kernel ≡ v.system.kernel → new.seats ≡ slice_set v.system.seats (c - 1) (with_pass device s (with_lease s.client.pass i Writing))
      → (Stand (clocks_of device v.system) (clocks_of device new) → EventMoves e (clocks_of device v.system) (clocks_of device new))
      → news (calls_of v) e o ≡ no_news (calls_of v)
      → HasWord i → HasTaken s i Writing → HasMetAll new c
      → IsStep device v e o (record { system = new; calls = v.calls })
  write_taken_step given v new c i s e o begun is_c there kernel seats moves quiet word took met =
      let st = begun.stands in
      let w = st.world in
      let x = with_pass device s (with_lease s.client.pass i Writing) in
      let own = own_part device v w st.accepted st.shared_marks st.cut c s st.is is_c there in
      let mark = own_mark device v w st.accepted st.shared_marks st.cut c s st.is is_c there in
      let unheld : IsUnheld w c i = λ d is_d off.
      let had = st.is.clients d is_d in
      let at = seat_beside v.system new c d x is_c is_d off seats ∙ had.1 in
      ap (λ b. b || (w.clients d).writes i) (had.2.reads_are i) ∙ ap (λ b. reads had.0.client.pass i || b) (had.2.writes_are i)
      ∙ unheld_beside (with_lease s.client.pass i Writing) had.0.client.pass i word (met_with new c d x had.0 met is_c is_d off (seat_there v.system new c s x there seats) at) took in
      quiet_step device given v new c s x (record (w.clients c) { reads = without (w.clients c).reads i; writes = also (w.clients c).writes i }) e o begun is_c there kernel seats moves quiet
      (write_taken_holds w c i st.is.coherent is_c unheld) (write_taken_tree w c i st.is.coherent is_c) (refl, refl) (λ r low. refl)
      (pass_client device s _ (calls_of v c) (w.clients c) (without (w.clients c).reads i) (also (w.clients c).writes i) own
      (λ j. writing_reads s.client.pass (w.clients c).reads i j word took (own.reads_are j)) (λ j. writing_writes s.client.pass (w.clients c).writes i j word took (own.writes_are j)))
      (pass_marked device s _ _ _ _ (w.clients c) (without (w.clients c).reads i) (also (w.clients c).writes i) mark)

  -- A lease is taken by a client that has met all others then, or refused.
  pub leased : Given device → (v : WorldView M) (c i : ℕ) (mode : Mode) (o : Outcome) (new : SystemView M)
      → IsBegunIn device v new → CanPlay device v.system (events.Lease c i mode) → (makes : MakesAt device v.system c (events.Lease c i mode) o new) → HasMetAll new c → IsStep device v (events.Lease c i mode) o (record { system = new; calls = v.calls })
  leased given v c i mode o new begun turn makes met = elim makes.makes.0 [
    | inl is ↦ by_mode mode (is.0, is.2) (taken_of makes.seat makes.seat_then i (mode_of mode) is.1 is.2) (free_of turn)
    | inr refused ↦
        let same = refused_same makes.seat i refused.0 mode in
        same_pass given v new c makes.seat _ (events.Lease c i mode) o begun (client_is c turn.0) makes.was makes.makes.1
        (makes.seats ∙ ap (λ (y : SeatView M). slice_set v.system.seats (c - 1) y) refused.3) (λ stand. stand)
        (ap (λ (r : Outcome). news (calls_of v) (events.Lease c i mode) r) refused.1) same.0 same.1
  ]
    where
      free_of : CanPlay device v.system (events.Lease c i mode) → HasWord i × (lease_of makes.seat.client.pass i ≡ Free)
      free_of turn = (turn_at device v c makes.seat (client_is c turn.0) makes.was (events.Lease c i mode) turn.1).1

      by_mode : (mode : Mode) → (o ≡ outcomes.Stepped) × HasPass makes.seat (with_lease makes.seat.client.pass i (mode_of mode)) makes.seat_then → HasTaken makes.seat i (mode_of mode) → HasWord i × (lease_of makes.seat.client.pass i ≡ Free) → IsStep device v (events.Lease c i mode) o (record { system = new; calls = v.calls })
      by_mode Read is took at = read_taken_step given v new c i makes.seat (events.Lease c i Read) o begun (client_is c turn.0) makes.was makes.makes.1
          (makes.seats ∙ ap (λ (y : SeatView M). slice_set v.system.seats (c - 1) y) is.1) (λ stand. stand) (ap (λ (r : Outcome). news (calls_of v) (events.Lease c i Read) r) is.0) at.0 at.1 took met
      by_mode Write is took at = write_taken_step given v new c i makes.seat (events.Lease c i Write) o begun (client_is c turn.0) makes.was makes.makes.1
          (makes.seats ∙ ap (λ (y : SeatView M). slice_set v.system.seats (c - 1) y) is.1) (λ stand. stand) (ap (λ (r : Outcome). news (calls_of v) (events.Lease c i Write) r) is.0) at.0 took met

  pub raised : Given device → (v : WorldView M) (c i : ℕ) (o : Outcome) (new : SystemView M)
      → IsBegunIn device v new → CanPlay device v.system (events.Raise c i) → (makes : MakesAt device v.system c (events.Raise c i) o new) → HasMetAll new c → IsStep device v (events.Raise c i) o (record { system = new; calls = v.calls })
  raised given v c i o new begun turn makes met = elim makes.makes.0 [
    | inl is ↦ write_taken_step given v new c i makes.seat (events.Raise c i) o begun (client_is c turn.0) makes.was makes.makes.1
        (makes.seats ∙ ap (λ (y : SeatView M). slice_set v.system.seats (c - 1) y) is.2) (λ stand. stand) (ap (λ (r : Outcome). news (calls_of v) (events.Raise c i) r) is.0) (word_of turn) (taken_of makes.seat makes.seat_then i Writing is.1 is.2) met
    | inr refused ↦
        let same = refused_same makes.seat i refused.0 Write in
        same_pass given v new c makes.seat _ (events.Raise c i) o begun (client_is c turn.0) makes.was makes.makes.1
        (makes.seats ∙ ap (λ (y : SeatView M). slice_set v.system.seats (c - 1) y) refused.3) (λ stand. stand)
        (ap (λ (r : Outcome). news (calls_of v) (events.Raise c i) r) refused.1) same.0 same.1
  ]
    where
      word_of : CanPlay device v.system (events.Raise c i) → HasWord i
      word_of turn = (turn_at device v c makes.seat (client_is c turn.0) makes.was (events.Raise c i) turn.1).1.0
