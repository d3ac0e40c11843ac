-- A dead client's call is settled: its record is there, or it is not, or none was begun; or the device fails.
use Rattle.std.proofs.Common.{◌≡◌, ◌≢◌, inl, inr, ℕ, true, false, List, [], ◌∷◌, Option, Some, None, refl, ap, sym, ◌∙◌, subst}
use Rattle.std.specs.Prelude.{Result, Ok, Err, IfSome, IsSome}
use Rattle.std.proofs.lemmas.Bool.Decides.{eqb_tells}
use Rattle.tier_device.specs.declared.media.Media.{Ghosts}
use Rattle.tier_device.specs.declared.media.Tier.{Tier}
use Rattle.tier_device.specs.Media.{Keeps}
use Rattle.posix_calls.specs.Operations.{is_client, reply_of}
use Rattle.posix_calls.specs.Outcome.{without_call}
use Rattle.posix_calls.specs.Run.{Asked, Departs, Run, Turn}
use Rattle.posix_calls.specs.declared.call.Call.{Call}
use Rattle.posix_calls.specs.declared.call.Reply.{Reply}
use Rattle.event_steps.specs.file_graph.Graph.{is_among}
use Rattle.event_steps.specs.log_record.declared.format.Record.{Record}
use Rattle.event_steps.specs.update_log.declared.format.TheConstants.{OPEN}
use Rattle.event_steps.specs.call_effects.Knowledge.{Knowledge}
use Rattle.event_steps.specs.client_log.HasTurn.{HasTurn}
use Rattle.event_steps.specs.client_log.Turns.{turn_of}
use Rattle.event_steps.specs.client_log.View.{LogView}
use Rattle.event_steps.specs.client_log.declared.error.LogError.{LogError}
use Rattle.event_steps.specs.client_view.KnowledgeChanges.{all_closed}
use Rattle.event_steps.specs.lease_manager.PassLeases.{reads, writes}
use Rattle.event_steps.specs.lease_manager.Passes.{PassView}
use Rattle.event_steps.specs.world_invariant.Burial.{CanDepart, IsDying}
use Rattle.event_steps.specs.world_invariant.ClientSteps.{IsBegun, with_client}
use Rattle.event_steps.specs.world_invariant.Invariant.{IsCoherent}
use Rattle.event_steps.specs.world_invariant.World.{Client, World, world_state}
use Rattle.event_steps.specs.world_invariant.World as world
use Rattle.event_steps.specs.libfs.ClientEnd.{HadNoCall, IsFoundGone, IsFoundWhole, IsUnsettled, Settles, gate_read}
use Rattle.event_steps.specs.libfs.ClientHoldings.{known_to}
use Rattle.event_steps.specs.libfs.Lives.{life_settled}
use Rattle.event_steps.specs.libfs.View.{ClientView}
use Rattle.event_steps.specs.libfs.declared.begun_record.Begun.{Begun}
use Rattle.event_steps.specs.libfs.declared.fate.Fate.{Fate}
use Rattle.event_steps.specs.libfs.declared.fate.Fate.TheVariants as fates
use Rattle.event_steps.specs.libfs.declared.life.Life.{Life}
use Rattle.event_steps.specs.libfs.declared.life.Life.TheVariants as lives
use Rattle.event_steps.specs.Deaths.{IsSettledOn, settle_outcome}
use Rattle.event_steps.specs.Effects.{MakesAt}
use Rattle.event_steps.specs.Turns.{CanPlay}
use Rattle.event_steps.specs.View.{SeatView, SystemView}
use Rattle.event_steps.specs.declared.event.Event.TheVariants.{Settle}
use Rattle.event_steps.specs.declared.outcome.Outcome.{Outcome}
use Rattle.event_steps.specs.declared.outcome.Outcome.TheVariants as outcomes
use Rattle.event_steps.proofs.world_invariant_lemmas.Burials.{departed_holds}
use Rattle.event_steps.proofs.world_invariant_lemmas.Settling.{none_run}
use Rattle.event_lists.specs.Courses.{Ledger}
use Rattle.system_laws.specs.KeptCalls.{calls_then, set_call}
use Rattle.system_laws.specs.News.{fate_turns, news}
use Rattle.system_laws.specs.Relation.{IsBegunAs, IsBegunBy, IsClientOf, status_of}
use Rattle.system_laws.specs.Steps.{IsBegunIn, IsStep}
use Rattle.system_laws.specs.WorldView.{WorldView, calls_of}
use Rattle.system_laws.proofs.Given.{Given}
use Rattle.system_laws.proofs.KeptRecords.{is_begun, its, knows_then, turn_then}
use Rattle.system_laws.proofs.OwnSeat.{turn_at}
use Rattle.system_laws.proofs.RegionCalls.{IsCallOf, log_client, own as own_of, quiet, stays_so, step_of}
use Rattle.system_laws.proofs.RepliedWorlds.{replied_part}
use Rattle.system_laws.proofs.Seats.{client_is}
use Rattle.system_laws.proofs.SettledParts.{gone_coherent, gone_turns, leaver, whole_coherent, whole_turns}
use Rattle.system_laws.proofs.Statuses.{dead_status, fails_then}
use Rattle.system_laws.proofs.StopsNow.{IsSized}
use Rattle.system_laws.proofs.UnfinishedCalls.{call_taken, set_beside, set_long, set_there}

module _ {M : Type 0} (device : Ghosts M) (seen_now : (m : M) (t : Tier) → device.left m (device.moment m) t (device.seen m t)) (sized : IsSized device) (given : Given device)
    (v : WorldView M) (c : ℕ) (o : Outcome) (new : SystemView M) (begun : IsBegunIn device v new) (turn : CanPlay device v.system (Settle c)) (makes : MakesAt device v.system c (Settle c) o new) where
  abbrev s : SeatView M
  s = makes.seat

  abbrev x : SeatView M
  x = makes.seat_then

  abbrev w : World
  w = begun.stands.world

  abbrev p : Client
  p = w.clients c

  abbrev made : IsSettledOn device s o x
  made = makes.makes.0

  is_c : is_client c ≡ true
  is_c = client_is c turn.0

  its_turn : (s.life ≡ lives.Dead) × (s.client.log.failed ≡ false)
  its_turn = turn_at device v c s is_c makes.was (Settle c) turn.1

  -- one device call is made of the current region where a call waits, and else none
  past : (b : Option Begun) → s.client.begun ≡ b → Keeps (device.moment s.client.log.current.media) (device.moment x.client.log.current.media) (device.left s.client.log.current.media) (device.left x.client.log.current.media)
  past None is = stays_so device s.client.log.current.media x.client.log.current.media (ap (λ (l : LogView M). l.current.media) (made.quiet is))
  past (Some b) is = (made.moved (subst (λ (y : Option Begun). IsSome y) (sym is) refl)).past

  call : IsCallOf device v (Settle c) new c s x
  call = record {
    client = is_c;
    was = makes.was;
    kernel = makes.makes.1;
    seats = makes.seats;
    moved = record { any_moment = made.any_moment; log = made.log; away = ap (λ (y : SeatView M). y.away) made.rest; past = past s.client.begun refl };
    may = λ m. m;
  }

  own : IsClientOf device s (calls_of v c) p
  own = own_of device seen_now sized given v (Settle c) o new c s x begun call

  dead : p.status ≡ world.Dead
  dead = own.status ∙ dead_status s.life s.client.log.failed its_turn.0 its_turn.1

  life_then : (answer : Result Fate LogError) → made.answer ≡ answer → x.life ≡ life_settled answer
  life_then answer is = ap (λ (y : SeatView M). y.life) made.rest ∙ ap life_settled is

  abbrev Settled : Type 0
  Settled = IsStep device v (Settle c) o (record { system = new; calls = calls_then v.calls (Settle c) o })

  -- with the calls that an outcome leaves
  told_so : (r : Outcome) → o ≡ r → IsStep device v (Settle c) o (record { system = new; calls = calls_then v.calls (Settle c) r }) → Settled
  told_so r is step = subst (λ (r : Outcome). IsStep device v (Settle c) o (record { system = new; calls = calls_then v.calls (Settle c) r })) (sym is) step

  -- ---- the device failed

  refused : (e : LogError) → made.answer ≡ Err e → IsUnsettled device s.client x.client → Settled
  refused e is has =
      let told : o ≡ settle_outcome (Err e) = made.told ∙ ap settle_outcome is in
      let fails : status_of s.life true ≡ status_of x.life x.client.log.failed = ap (λ (l : Life). status_of l true) (its_turn.0 ∙ sym (life_then (Err e) is)) ∙ ap (status_of x.life) (sym has.failed) in
      told_so (settle_outcome (Err e)) told
      (quiet device seen_now sized given v (Settle c) o new c s x begun call (record p { status = status_of s.life true }) (fails_then w c begun.stands.is.coherent is_c s.life s.client.log.failed own.status)
      (ap (news (calls_of v) (Settle c)) told)
      (log_client device seen_now sized given v (Settle c) o new c s x begun call s.client.answered (status_of s.life true) has.rest has.turn fails))

  -- ---- the call is settled

  -- what the settled client has in the world, by what it knows and has logged
  abbrev part : Knowledge → List Record → Option world.Begun → Client
  part k rs none = record p { knows = k; current = rs; begun = none; status = world.Settled }

  abbrev calls_left : List (Option Call)
  calls_left = set_call v.calls c None

  module _ (fate : Fate) (is : made.answer ≡ Ok fate) (k : Knowledge) (rs : List Record) (none : Option world.Begun) where
    told : o ≡ outcomes.Settled fate
    told = made.told ∙ ap settle_outcome is

    news_is : news (calls_of v) (Settle c) o ≡ record { turns = fate_turns c (calls_of v c) fate; calls = without_call (calls_of v) c }
    news_is = ap (news (calls_of v) (Settle c)) told

    settled_client : k ≡ known_to x.client → HasTurn (turn_of device x.client.log) (part k rs none) → none ≡ None → x.client.begun ≡ None → x.client.spare ≡ s.client.spare → x.client.pins ≡ s.client.pins
        → IsClientOf device x (calls_of (record { system = v.system; calls = calls_left }) c) (part k rs none)
    settled_client knows turn unbegun unbegun_then spare pins = record {
      knows = knows;
      turn = turn;
      sealed = own.sealed ∙ sym made.sealed;
      begun = subst (λ (b : Option Begun). IsBegunAs (calls_of (record { system = v.system; calls = calls_left }) c) b none) (sym unbegun_then) (unbegun, set_there v.system v.calls begun.stands.is.eight c is_c None);
      reads_are = λ i. own.reads_are i ∙ sym (ap (λ (q : PassView). reads q i) made.leases);
      writes_are = λ i. own.writes_are i ∙ sym (ap (λ (q : PassView). writes q i) made.leases);
      spare = own.spare ∙ sym spare;
      pins = λ i. own.pins i ∙ sym (ap (is_among i) pins);
      status = sym (ap (λ (l : Life). status_of l x.client.log.failed) (life_then (Ok fate) is));
    }

    settled_step : (turns : List Turn) → fate_turns c (calls_of v c) fate ≡ turns → IsCoherent (with_client w c (part k rs none)) → Run (world_state w) turns (world_state (with_client w c (part k rs none)))
        → IsClientOf device x (calls_of (record { system = v.system; calls = calls_left }) c) (part k rs none) → Settled
    settled_step turns same coherent run client =
        told_so (outcomes.Settled fate) told
        (step_of device seen_now sized given v (Settle c) o new c s x begun call (part k rs none) calls_left coherent (refl, refl)
        (set_long v.system v.calls begun.stands.is.eight c is_c None)
        (set_beside v.system v.calls begun.stands.is.eight c is_c None)
        client
        (subst (λ (l : Ledger). Run (world_state w) l.turns (world_state (with_client w c (part k rs none)))) (sym news_is)
        (subst (λ (ts : List Turn). Run (world_state w) ts (world_state (with_client w c (part k rs none)))) (sym same) run))
        (call_taken new v.calls begun.stands.is.eight c is_c ∙ sym (ap (λ (l : Ledger). l.calls) news_is)))

  -- what a settled client knows that knew this
  closed : known_to x.client ≡ all_closed (known_to s.client) → (leaver p).knows ≡ known_to x.client
  closed then = ap all_closed own.knows ∙ sym then

  -- no call was begun
  idle : (fate : Fate) → made.answer ≡ Ok fate → s.client.begun ≡ None → HadNoCall s.client fate x.client → Settled
  idle fate is unbegun has =
      let had : (p.begun ≡ None) × (calls_of v c ≡ None) = subst (λ (b : Option Begun). IsBegunAs (calls_of v c) b p.begun) unbegun own.begun in
      let can : CanDepart w c = record { client = is_c; dead = dead; idle = had.0 } in
      let k : Knowledge = (leaver p).knows in
      settled_step fate is k p.current p.begun (Departs c ∷ [])
      (ap (λ (call : Option Call). fate_turns c call fate) had.1)
      (departed_holds w c begun.stands.is.coherent can)
      (none_run w c begun.stands.is.coherent can)
      (settled_client fate is k p.current p.begun (closed has.knows_then)
      (subst (λ (l : LogView M). HasTurn (turn_of device l) (part k p.current p.begun)) (sym (ap (λ (y : ClientView M). y.log) has.rest))
      (record { current = own.turn.current; other = own.turn.other; is_ready = own.turn.is_ready; begun = own.turn.begun }))
      had.0
      (ap (λ (y : ClientView M). y.begun) has.rest ∙ unbegun)
      (ap (λ (y : ClientView M). y.spare) has.rest)
      (ap (λ (y : ClientView M). y.pins) has.rest))

  -- one was: its record is not there, or it is
  module _ (fate : Fate) (is : made.answer ≡ Ok fate) (b : Begun) (there : s.client.begun ≡ Some b) where
    abbrev its_call : (y : world.Begun) × (p.begun ≡ Some y) × IsBegunBy (calls_of v c) b y
    its_call = its device w c s (calls_of v c) is_c own b there

    abbrev y : world.Begun
    y = its_call.0

    gone : IsFoundGone device s.client b fate x.client → Settled
    gone has =
        let dying : IsDying w c y = record { client = is_c; dead = dead; there = its_call.1 } in
        let k : Knowledge = (leaver p).knows in
        settled_step fate is k p.current None (Departs c ∷ [])
        (ap (λ (call : Option Call). fate_turns c call fate) its_call.2.call_is ∙ ap (fate_turns c (Some y.call)) has.told)
        (gone_coherent w c y begun.stands.is.coherent dying)
        (gone_turns w c y begun.stands.is.coherent dying)
        (settled_client fate is k p.current None (closed has.knows_then)
        (subst (λ t. HasTurn t (part k p.current None)) (sym has.turn) (record { current = own.turn.current; other = own.turn.other; is_ready = own.turn.is_ready; begun = refl }))
        refl
        (ap (λ (z : ClientView M). z.begun) has.rest)
        (ap (λ (z : ClientView M). z.spare) has.rest)
        (ap (λ (z : ClientView M). z.pins) has.rest))

    whole : IsFoundWhole device s.client b fate x.client → Settled
    whole has =
        let begun_there : IsBegun w c y = is_begun device w c s (calls_of v c) is_c own b there its_turn.1 in
        let q : Client = replied_part p y in
        let k : Knowledge = (leaver q).knows in
        let appended = turn_then device w c s (calls_of v c) is_c own b there in
        settled_step fate is k q.current None (Asked c y.call (reply_of y.operation) ∷ Departs c ∷ [])
        (ap (λ (call : Option Call). fate_turns c call fate) its_call.2.call_is ∙ ap (fate_turns c (Some y.call)) (has.told ∙ ap (λ (r : Reply). fates.Whole r) its_call.2.reply))
        (whole_coherent w c y begun.stands.is.coherent begun_there dead)
        (whole_turns w c y begun.stands.is.coherent begun_there dead)
        (settled_client fate is k q.current None (ap all_closed (knows_then device w c s (calls_of v c) is_c own b there) ∙ sym has.knows_then)
        (subst (λ t. HasTurn t (part k q.current None)) (sym has.turn) (record { current = appended.current; other = appended.other; is_ready = appended.is_ready; begun = appended.begun }))
        refl
        (ap (λ (z : ClientView M). z.begun) has.rest)
        (ap (λ (z : ClientView M). z.spare) has.rest)
        (ap (λ (z : ClientView M). z.pins) has.rest))

  -- ---- by what became of it

  by_call : (fate : Fate) → made.answer ≡ Ok fate → Settles device s.client (Ok fate) x.client → (b : Option Begun) → s.client.begun ≡ b → Settled
  by_call fate is settles None there = idle fate is there (settles.none its_turn.1 there).1
  by_call fate is settles (Some b) there = elim (eqb_tells (gate_read device s.client x.client) OPEN) [
    | inl opened ↦ whole fate is b there (found (IsFoundWhole device s.client) (gate_read device s.client x.client ≡ OPEN) settles.whole opened.1)
    | inr shut ↦ gone fate is b there (found (IsFoundGone device s.client) (gate_read device s.client x.client ≢ OPEN) settles.gone shut.1)
  ]
    where
      found : (Found : Begun → Fate → ClientView M → Type 0) (Reads : Type 0) → IfSome s.client.begun (λ y. Reads → Found y fate x.client) → Reads → Found b fate x.client
      found Found Reads says reads = subst (λ (z : Option Begun). IfSome z (λ y. Reads → Found y fate x.client)) there says reads

  by_answer : (answer : Result Fate LogError) → made.answer ≡ answer → Settles device s.client answer x.client → Settled
  by_answer (Ok fate) is settles = by_call fate is settles s.client.begun refl
  by_answer (Err e) is settles = refused e is settles.unsettled

  pub settled : Settled
  settled = by_answer made.answer refl made.settles
