-- A call is started: whatever comes of it is a step.
use Rattle.std.proofs.Common.{◌≡◌, ◌⊎◌, inl, inr, ℕ, ◌-◌, Bool, true, false, Option, Some, refl, subst, sym, ap, ◌∙◌}
use Rattle.std.specs.Prelude.{slice_set}
use Rattle.tier_device.specs.declared.media.Media.{Ghosts}
use Rattle.posix_calls.specs.Operations.{is_client}
use Rattle.posix_calls.specs.declared.call.Call.{Call}
use Rattle.posix_calls.specs.declared.call.Reply.{Reply}
use Rattle.posix_calls.specs.declared.call.Reply.TheVariants as replies
use Rattle.posix_calls.specs.declared.errno.Errno.TheVariants.{IoError, NoMemory}
use Rattle.event_steps.specs.client_plan.Steps.{IsAnswered, IsReady, IsRefused}
use Rattle.event_steps.specs.client_plan.declared.outcome.DescriptorChange.{DescriptorChange}
use Rattle.event_steps.specs.client_plan.declared.outcome.Outcome.{Outcome as CallOutcome}
use Rattle.event_steps.specs.client_plan.declared.outcome.Outcome.TheVariants as plans
use Rattle.event_steps.specs.libfs.CallStart.{HasStarted, IsOutOfMemory}
use Rattle.event_steps.specs.libfs.ClientHoldings.{holdings_of, known_to, outcome_for}
use Rattle.event_steps.specs.libfs.View.{ClientView}
use Rattle.event_steps.specs.client_log.Turns.{turn_of}
use Rattle.event_steps.specs.libfs.declared.life.Life.TheVariants as lives
use Rattle.event_steps.specs.libfs.declared.now.Now.{Now}
use Rattle.event_steps.specs.libfs.declared.now.Now.TheVariants as now
use Rattle.event_steps.specs.log_record.declared.format.Record.{Record}
use Rattle.event_steps.specs.Calls.{IsStarted}
use Rattle.event_steps.specs.Effects.{MakesAt}
use Rattle.event_steps.specs.Outcomes.{refused_then, start_outcome}
use Rattle.event_steps.specs.Turns.{CanPlay}
use Rattle.event_steps.specs.View.{SeatView, SystemView}
use Rattle.event_steps.specs.declared.event.Event.TheVariants.{Start}
use Rattle.event_steps.specs.declared.outcome.Outcome.{Outcome}
use Rattle.event_steps.specs.declared.outcome.Outcome.TheVariants as outcomes
use Rattle.system_laws.specs.KeptCalls.{calls_then}
use Rattle.system_laws.specs.Steps.{IsBegunIn, IsStep}
use Rattle.system_laws.specs.WorldView.{WorldView}
use Rattle.system_laws.proofs.Given.{Given}
use Rattle.system_laws.proofs.OwnSeat.{turn_at}
use Rattle.system_laws.proofs.Seats.{client_is}
use Rattle.system_laws.proofs.StartAnswers.{answered_start}
use Rattle.system_laws.proofs.StartRecords.{begun_as_step}
use Rattle.system_laws.proofs.StartReplies.{given_up_start, needy_start, start_idle}

module _ {M : Type 0} (device : Ghosts M) where
  -- by what a client knows, a call that it answers at once is refused or comes to an operation without effects
  abbrev pub AnswersByKnowledge : Type 0
  AnswersByKnowledge = (k : ClientView M) (call : Call) (reply : Reply) (change : Option DescriptorChange) → outcome_for device k call ≡ plans.Reply reply change
      → IsRefused (known_to k) call reply change ⊎ IsAnswered (known_to k) (holdings_of device k) call reply change

  -- and one that comes to a record has all that it needs
  abbrev pub LogsByKnowledge : Type 0
  LogsByKnowledge = (k : ClientView M) (call : Call) (entry : Record) (reply : Reply) (made : Option ℕ) (change : Option DescriptorChange) → outcome_for device k call ≡ plans.Log entry reply made change
      → IsReady (known_to k) (holdings_of device k) call entry reply made change

  module _ (given : Given device) (answers : AnswersByKnowledge) (logs : LogsByKnowledge) (v : WorldView M) (c : ℕ) (call : Call) (o : Outcome) (new : SystemView M)
      (begun : IsBegunIn device v new) (turn : CanPlay device v.system (Start c call)) (makes : MakesAt device v.system c (Start c call) o new) where
    abbrev s : SeatView M
    s = makes.seat

    abbrev k : ClientView M
    k = makes.seat_then.client

    is_c : is_client c ≡ true
    is_c = client_is c turn.0

    is : IsStarted device s call o makes.seat_then
    is = makes.makes.0

    alive : s.life ≡ lives.Alive
    alive = (turn_at device v c s is_c makes.was (Start c call) turn.1).0

    -- the client's seat, once its client is this one
    seats_with : (l : ClientView M) → k ≡ l → new.seats ≡ slice_set v.system.seats (c - 1) (record s { client = l; refused = refused_then o s.refused })
    seats_with l same = makes.seats ∙ ap (λ (y : SeatView M). slice_set v.system.seats (c - 1) y) (is.rest ∙ ap (λ (l : ClientView M). record s { client = l; refused = refused_then o s.refused }) same)

    abbrev IsDone : Type 0
    IsDone = IsStep device v (Start c call) o (record { system = new; calls = calls_then v.calls (Start c call) o })

    -- the calls are those that the outcome leaves
    done : (r : Outcome) → o ≡ r → IsStep device v (Start c call) o (record { system = new; calls = calls_then v.calls (Start c call) r }) → IsDone
    done r told step = subst (λ (r : Outcome). IsStep device v (Start c call) o (record { system = new; calls = calls_then v.calls (Start c call) r })) (sym told) step

    told_as : (a : Now) → is.answer ≡ a → o ≡ start_outcome a
    told_as a same = is.told ∙ ap start_outcome same

    by_failure : s.client.log.failed ≡ true → IsDone
    by_failure failed =
        let then = is.failed failed in
        let told : o ≡ outcomes.Reply (replies.Failed IoError) = told_as (now.Done (replies.Failed IoError)) then.0 in
        done (outcomes.Reply (replies.Failed IoError)) told
        (given_up_start device given v new c s (refused_then o s.refused) call IoError o begun is_c makes.was makes.makes.1 (seats_with s.client then.1) told refl)

    by_memory : IsOutOfMemory device s.client call is.answer k → IsDone
    by_memory short =
        let told : o ≡ outcomes.Reply (replies.Failed NoMemory) = told_as (now.Done (replies.Failed NoMemory)) short.told in
        done (outcomes.Reply (replies.Failed NoMemory)) told
        (given_up_start device given v new c s (refused_then o s.refused) call NoMemory o begun is_c makes.was makes.makes.1 (seats_with s.client short.same) told refl)

    by_plan : (plan : CallOutcome) → outcome_for device s.client call ≡ plan → s.client.log.failed ≡ false → HasStarted device s.client plan is.answer k → IsDone
    by_plan (plans.Reply reply change) comes sound then =
        let told : o ≡ outcomes.Reply reply = told_as (now.Done reply) then.0 in
        done (outcomes.Reply reply) told
        (answered_start device given v new c s k.copies (refused_then o s.refused) call reply change o begun is_c makes.was makes.makes.1 (seats_with (record s.client { copies = k.copies }) then.1.rest) told
        alive sound (start_idle device v new c call s begun is_c makes.was turn sound) then.1.knows_then (answers s.client call reply change comes))
    by_plan (plans.Need need) comes sound then =
        let told : o ≡ outcomes.Need need = told_as (now.Need need) then.0 in
        done (outcomes.Need need) told
        (needy_start device given v new c s (refused_then o s.refused) call need o begun is_c makes.was makes.makes.1 (seats_with s.client then.1) told)
    by_plan (plans.Log entry reply made change) comes sound then =
        let told : o ≡ outcomes.Pending = told_as now.Pending then.0 in
        let h = then.1 in
        let last : ClientView M = record s.client { pass = k.pass; log = record s.client.log { current = k.log.current }; spare = k.spare; begun = Some h.begun } in
        let same : k ≡ last = h.rest ∙ (λ t. record s.client { pass = k.pass; log = h.log t; spare = k.spare; begun = h.is_begun t }) in
        done outcomes.Pending told
        (begun_as_step device s k.pass k.log.current k.spare h.begun (refused_then o s.refused) call entry reply made change
        (record { turn = ap (turn_of device) (sym h.log) ∙ h.turn; media = h.media; noted = h.noted.rest; paid = h.paid })
        (record { entry_is = h.entry_is; made_is = h.made_is; change_is = h.change_is; reply_is = h.reply_is })
        (logs s.client call entry reply made change comes)
        given v new c o begun is_c makes.was makes.makes.1 (seats_with last same) told alive sound (start_idle device v new c call s begun is_c makes.was turn sound))

    pub started : IsDone
    started = by_state s.client.log.failed refl
      where
        by_state : (failed : Bool) → s.client.log.failed ≡ failed → IsDone
        by_state true failed = by_failure failed
        by_state false sound = elim (is.started sound) [
          | inl then ↦ by_plan (outcome_for device s.client call) refl sound then
          | inr short ↦ by_memory short
        ]
