-- A call that is started and whose record is begun: no answer is given, and the tree stays.
use Rattle.std.proofs.Common.{◌≡◌, ◌≢◌, inl, inr, ℕ, ◌+◌, ◌-◌, ◌<◌, ◌≤◌, ◌%◌, ◌==◌, Bool, true, false, cond, List, [], length, Option, Some, None, refl, subst, sym, ap, ◌∙◌, arith}
use Rattle.std.specs.Prelude.{slice_set, ◌&&◌, nat_le, Ok}
use Rattle.std.proofs.lemmas.Bool.Decides.{eqb_tells}
use Rattle.tier_device.specs.declared.media.Media.{Ghosts}
use Rattle.posix_calls.specs.Operations.{is_client}
use Rattle.posix_calls.specs.Part.{Known, run_part}
use Rattle.posix_calls.specs.Run.{Run}
use Rattle.posix_calls.specs.declared.call.Call.{Call}
use Rattle.posix_calls.specs.declared.call.Reply.{Reply}
use Rattle.posix_calls.specs.declared.limits.TheConstants.{MAX_CLIENTS}
use Rattle.event_steps.specs.call_effects.Knowledge.{IsPlanned, Knowledge, part_of}
use Rattle.event_steps.specs.call_effects.Records.{units_asked}
use Rattle.event_steps.specs.client_plan.Steps.{IsReady}
use Rattle.event_steps.specs.client_plan.declared.outcome.DescriptorChange.{DescriptorChange}
use Rattle.event_steps.specs.lease_manager.PassLeases.{reads, writes}
use Rattle.event_steps.specs.lease_manager.Passes.{PassView}
use Rattle.event_steps.specs.libfs.ClientHoldings.{holdings_of, known_to}
use Rattle.event_steps.specs.libfs.View.{ClientView}
use Rattle.event_steps.specs.client_log.HasTurn.{HasTurn}
use Rattle.event_steps.specs.client_log.Turns.{Turn, record_begun, turn_of}
use Rattle.event_steps.specs.libfs.declared.begun_record.Begun.{Begun}
use Rattle.event_steps.specs.libfs.declared.life.Life.TheVariants as lives
use Rattle.event_steps.specs.log_record.declared.format.Record.{Record}
use Rattle.event_steps.specs.update_log.Frames.{end_behind}
use Rattle.event_steps.specs.update_log.View.{RegionView, records_of}
use Rattle.event_steps.specs.update_log.declared.format.TheConstants.{REGION_SIZE}
use Rattle.event_steps.specs.libfs.SealedRegion.{SealedRegionView}
use Rattle.event_steps.specs.world_invariant.ClientSteps.{CanBegin, call_begun}
use Rattle.event_steps.specs.world_invariant.World.{Account, Client, World, world_state}
use Rattle.event_steps.specs.world_invariant.World as world
use Rattle.event_steps.specs.layout.declared.marks.Mark.{Mark}
use Rattle.event_steps.specs.declared.refusals.Refusals.{Refusals}
use Rattle.event_steps.specs.View.{SeatView, SystemView, seat_of}
use Rattle.event_steps.specs.declared.event.Event.TheVariants.{Start}
use Rattle.event_steps.specs.declared.outcome.Outcome.{Outcome}
use Rattle.event_steps.specs.declared.outcome.Outcome.TheVariants as outcomes
use Rattle.event_steps.proofs.world_invariant_lemmas.Begins.{begun_holds, begun_tree}
use Rattle.system_laws.specs.News.{news, with_call}
use Rattle.system_laws.specs.KeptCalls.{set_call}
use Rattle.system_laws.specs.Parts.{region_beside, region_of}
use Rattle.system_laws.specs.Relation.{IsClientOf, StandsMarked}
use Rattle.system_laws.specs.Steps.{IsBegunIn, IsStep}
use Rattle.recovery_laws.specs.Contents.{mark_by}
use Rattle.system_laws.specs.WorldView.{WorldView, calls_of}
use Rattle.system_laws.proofs.Given.{Given}
use Rattle.system_laws.proofs.Seated.{own_mark, own_part, seat_step}
use Rattle.system_laws.proofs.StartReplies.{idle_world}
use Rattle.system_laws.proofs.Statuses.{alive_status}
use Rattle.system_laws.proofs.UnfinishedCalls.{set_beside, set_long, set_there}

-- a started call is unfinished from then on
pub call_put : {M : Type 0} (w : SystemView M) (calls : List (Option Call)) → length calls ≡ MAX_CLIENTS → (c : ℕ) → is_client c ≡ true → (call : Call)
    → calls_of (record { system = w; calls = set_call calls c (Some call) }) ≡ with_call (calls_of (record { system = w; calls = calls })) c call
call_put {M = M} w calls eight c is_c call = λ t d. at d t
  where
    at : (d : ℕ) → calls_of (record { system = w; calls = set_call calls c (Some call) }) d ≡ with_call (calls_of (record { system = w; calls = calls })) c call d
    at d = elim (eqb_tells d c) [
      | inl same ↦ ap (calls_of (record { system = w; calls = set_call calls c (Some call) })) same.1 ∙ set_there w calls eight c is_c (Some call) ∙ sym (ap (λ b. cond b (Some call) (calls_of (record { system = w; calls = calls }) d)) same.0)
      | inr off ↦ set_beside w calls eight c is_c (Some call) d off.1 ∙ sym (ap (λ b. cond b (Some call) (calls_of (record { system = w; calls = calls }) d)) off.0)
    ]

module _ {M : Type 0} (device : Ghosts M) where
  -- what the client's log, pass and spare units are once the record is begun
  pub record HasPut (k : ClientView M) (entry : Record) (pass : PassView) (region : RegionView M) (spare : ℕ) : Type 0 where
    pub turn : turn_of device (record k.log { current = region }) ≡ record_begun (turn_of device k.log) entry
    pub media : region.media ≡ k.log.current.media
    pub noted : pass ≡ record k.pass { records = pass.records }
    pub paid : spare + entry.units ≡ k.spare

  -- the record and the answer that wait
  pub record IsPut (b : Begun) (entry : Record) (reply : Reply) (made : Option ℕ) (change : Option DescriptorChange) : Type 0 where
    pub entry_is : b.change.logged ≡ entry
    pub made_is : b.change.made ≡ made
    pub change_is : b.change.descriptor ≡ change
    pub reply_is : b.reply ≡ reply

  -- a seat whose client has begun a record
  abbrev pub with_begun : SeatView M → PassView → RegionView M → ℕ → Begun → Refusals → SeatView M
  with_begun s pass region spare b refused = record s { client = record s.client { pass = pass; log = record s.client.log { current = region }; spare = spare; begun = Some b }; refused = refused }

  module _ (s : SeatView M) (pass : PassView) (region : RegionView M) (spare : ℕ) (b : Begun) (refused : Refusals) (call : Call) (entry : Record) (reply : Reply) (made : Option ℕ) (change : Option DescriptorChange)
      (put : HasPut s.client entry pass region spare) (is : IsPut b entry reply made change) (ready : IsReady (known_to s.client) (holdings_of device s.client) call entry reply made change) where
    abbrev pub x : SeatView M
    x = with_begun s pass region spare b refused

    abbrev pub begun_as : world.Begun
    begun_as = record { call = call; new = ready.new; operation = ready.operation; change = entry }

    abbrev pub begun_client : Client → Client
    begun_client p = record p { begun = Some begun_as; spare = p.spare - entry.units }

    -- its regions are on the media that they were on
    beside_media : (other : Option (RegionView M)) (away : Option (SealedRegionView M)) → (region_beside region other away).media ≡ (region_beside s.client.log.current other away).media
    beside_media (Some r) away = refl
    beside_media None (Some a) = refl
    beside_media None None = put.media

    either_media : (here : Bool) → (cond here region (region_beside region s.client.log.other s.away)).media ≡ (cond here s.client.log.current (region_beside s.client.log.current s.client.log.other s.away)).media
    either_media true = put.media
    either_media false = beside_media s.client.log.other s.away

    pub begun_media : (r : ℕ) → r < 2 → (region_of x r).media ≡ (region_of s r).media
    begun_media r low = either_media (s.client.log.generation % 2 == r)

    begun_turn : (p : Client) → HasTurn (turn_of device s.client.log) p → HasTurn (turn_of device x.client.log) (begun_client p)
    begun_turn p turn = subst (λ (t : Turn). HasTurn t (begun_client p)) (sym put.turn) (record { current = turn.current; other = turn.other; is_ready = turn.is_ready; begun = refl })

    pub begun_is_client : (old : Option Call) (p : Client) → IsClientOf device s old p → IsClientOf device x (Some call) (begun_client p)
    begun_is_client old p own = record {
      knows = own.knows;
      turn = begun_turn p own.turn;
      sealed = own.sealed;
      begun = (begun_as, refl, record { call_is = refl; change = is.entry_is; reply = is.reply_is ∙ ready.told; makes = is.made_is ∙ ready.makes; opens = is.change_is ∙ ready.opens });
      reads_are = λ i. own.reads_are i ∙ sym (ap (λ (q : PassView). reads q i) put.noted);
      writes_are = λ i. own.writes_are i ∙ sym (ap (λ (q : PassView). writes q i) put.noted);
      spare = paid p own.spare;
      pins = own.pins;
      status = own.status;
    }
      where
        paid : (p : Client) → p.spare ≡ s.client.spare → p.spare - entry.units ≡ spare
        paid p was = let all = put.paid in omega (arith, was, all)

    pub begun_marked : (m : Mark) (a : Account) (accepted : ℕ) (p : Client) → StandsMarked m s a accepted p → StandsMarked m x a accepted (begun_client p)
    begun_marked m a accepted p mark = record { mark = mark.mark; digested = mark.digested; accepts = mark.accepts; held = mark.held }

    some_effects : entry.effects ≢ []
    some_effects none = let some : 1 ≤ length entry.effects = ready.spelled.some in let short : length entry.effects ≡ 0 = ap length none in omega (arith, some, short)

    ready_of : (wiped fits : Bool) (n : ℕ) → cond (wiped && fits) (Some n) None ≡ Some ready.most → wiped ≡ true
    ready_of true fits n e = refl
    ready_of false fits n e = absurd (cc)

    -- a record has room only in a region that is wiped
    log_ready : s.client.log.ready ≡ true
    log_ready = ready_of s.client.log.ready (nat_le (end_behind (records_of device s.client.log.current) + 6) REGION_SIZE) (REGION_SIZE - (end_behind (records_of device s.client.log.current) + 6)) ready.room

    pub may_begin : (w : World) (c : ℕ) (old : Option Call) → is_client c ≡ true → s.life ≡ lives.Alive → s.client.log.failed ≡ false → s.client.begun ≡ None → IsClientOf device s old (w.clients c) → CanBegin w c begun_as
    may_begin w c old is_c alive sound idle own = record {
      client = is_c;
      alive = own.status ∙ alive_status s.life s.client.log.failed alive sound;
      idle = idle_world device s old (w.clients c) own idle;
      ready = own.turn.is_ready ∙ log_ready;
      planned = subst (λ (k : Knowledge). IsPlanned k call ready.new ready.operation entry.effects) (sym own.knows) ready.planned;
      some = some_effects;
      counted = subst (λ (k : Knowledge). run_part (part_of k) (units_asked ready.operation) ≡ Known (Ok entry.units)) (sym own.knows) ready.counted;
      leased = λ i e. own.writes_are i ∙ ready.leased i e;
      enough = subst (λ (n : ℕ). entry.units ≤ n) (sym own.spare) ready.enough;
      pinned = λ what e. own.pins what.1.inode ∙ ready.pinned what e;
    }

    -- A call begins its record.
    pub begun_as_step : Given device → (v : WorldView M) (new : SystemView M) (c : ℕ) (o : Outcome)
        → IsBegunIn device v new
        → is_client c ≡ true → seat_of v.system c ≡ Some s → new.kernel ≡ v.system.kernel → new.seats ≡ slice_set v.system.seats (c - 1) x
        → o ≡ outcomes.Pending
        → s.life ≡ lives.Alive → s.client.log.failed ≡ false → s.client.begun ≡ None
        → IsStep device v (Start c call) o (record { system = new; calls = set_call v.calls c (Some call) })
    begun_as_step given v new c o begun is_c there kernel seats told alive sound idle =
        let st = begun.stands in
        let w = st.world in
        let own = own_part device v w st.accepted st.shared_marks st.cut c s st.is is_c there in
        let mark = own_mark device v w st.accepted st.shared_marks st.cut c s st.is is_c there in
        let can = may_begin w c (calls_of v c) is_c alive sound idle own in
        seat_step device given v new c s x (begun_client (w.clients c)) (set_call v.calls c (Some call)) (Start c call) o w st.accepted st.shared_marks st.cut begun st.is is_c there kernel seats (λ stand. stand)
        (begun_holds w c begun_as st.is.coherent can)
        (set_long v.system v.calls st.is.eight c is_c (Some call))
        (set_beside v.system v.calls st.is.eight c is_c (Some call))
        (call_put v.system v.calls st.is.eight c is_c call ∙ ap (λ (r : Outcome). (news (calls_of v) (Start c call) r).calls) (sym told))
        (refl, refl) begun_media
        (subst (λ (y : Option Call). IsClientOf device x y (begun_client (w.clients c))) (sym (set_there v.system v.calls st.is.eight c is_c (Some call))) (begun_is_client (calls_of v c) (w.clients c) own))
        (begun_marked (mark_by (Some st.shared_marks) c) (w.kernel.accounts c) (st.accepted c) (w.clients c) mark)
        (subst (λ (r : Outcome). Run (world_state w) (news (calls_of v) (Start c call) r).turns (world_state (call_begun w c begun_as))) (sym told) (begun_tree w c begun_as st.is.coherent can))
