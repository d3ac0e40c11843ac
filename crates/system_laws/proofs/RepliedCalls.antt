-- The last device call of a begun call: its record is kept, and it is answered.
use Rattle.std.proofs.Common.{◌≡◌, ℕ, false, List, [], Option, Some, None, refl, ap, sym, ◌∙◌, subst}
use Rattle.std.specs.Prelude.{Ok}
use Rattle.tier_device.specs.declared.media.Media.{Ghosts}
use Rattle.tier_device.specs.declared.media.Tier.{Tier}
use Rattle.posix_calls.specs.Operations.{reply_of}
use Rattle.posix_calls.specs.Outcome.{Unfinished, without_call}
use Rattle.posix_calls.specs.Part.{Known, run_part}
use Rattle.posix_calls.specs.Query.{◌>>=◌}
use Rattle.posix_calls.specs.Run.{Run}
use Rattle.posix_calls.specs.declared.call.Call.{Call}
use Rattle.posix_calls.specs.declared.call.Reply.{Reply}
use Rattle.posix_calls.specs.declared.operation.Operation.{Operation}
use Rattle.posix_calls.specs.declared.operation.Operation.TheVariants.{Tell, NewDir, NewFile, OpenFile, CloseFile, Write, Resize, RemoveDir, AddName, DropName, Move, Exchange}
use Rattle.event_steps.specs.file_graph.Graph.{is_among}
use Rattle.event_steps.specs.client_log.HasTurn.{HasTurn}
use Rattle.event_steps.specs.call_effects.Knowledge.{part_of}
use Rattle.event_steps.specs.call_effects.Records.{effects_asked}
use Rattle.event_steps.specs.lease_manager.PassLeases.{reads, writes}
use Rattle.event_steps.specs.world_invariant.ClientSteps.{IsBegun, after_reply, with_client}
use Rattle.event_steps.specs.world_invariant.Invariant.{IsCoherent}
use Rattle.event_steps.specs.world_invariant.World.{World, world_state}
use Rattle.event_steps.specs.world_invariant.World as world
use Rattle.event_steps.specs.libfs.CallStep.{HasReplied}
use Rattle.event_steps.specs.libfs.View.{ClientView}
use Rattle.event_steps.specs.libfs.declared.begun_record.Begun.{Begun}
use Rattle.event_steps.specs.Calls.{IsStepped}
use Rattle.event_steps.specs.Effects.{MakesAt}
use Rattle.event_steps.specs.Outcomes.{step_outcome}
use Rattle.event_steps.specs.Turns.{CanPlay}
use Rattle.event_steps.specs.View.{SeatView, SystemView}
use Rattle.event_steps.specs.declared.event.Event.TheVariants.{Step}
use Rattle.event_steps.specs.declared.outcome.Outcome.{Outcome}
use Rattle.event_steps.specs.declared.outcome.Outcome.TheVariants as outcomes
use Rattle.event_steps.proofs.world_invariant_lemmas.Replies.{replied_step}
use Rattle.event_lists.specs.Courses.{Ledger}
use Rattle.system_laws.specs.News.{after_step, answered, news}
use Rattle.system_laws.specs.KeptCalls.{calls_then, set_call}
use Rattle.system_laws.specs.Relation.{IsBegunAs, IsBegunBy, IsClientOf, status_of}
use Rattle.system_laws.specs.Steps.{IsBegunIn, IsStep}
use Rattle.system_laws.specs.WorldView.{WorldView, calls_of}
use Rattle.system_laws.proofs.CallSteps.{is_call, own, status_then}
use Rattle.system_laws.proofs.Given.{Given}
use Rattle.system_laws.proofs.KeptRecords.{is_begun, its, knows_then, turn_then}
use Rattle.system_laws.proofs.RegionCalls.{IsCallOf, step_of}
use Rattle.system_laws.proofs.RepliedWorlds.{answered_holds, answered_tree, replied_part}
use Rattle.system_laws.proofs.StopsNow.{IsSized}
use Rattle.system_laws.proofs.UnfinishedCalls.{call_taken, set_beside, set_long, set_there}

-- ---- what an operation with effects is answered is no fault

abbrev pub IsNoAnswer : Operation → Type 0
IsNoAnswer operation = (answer : Reply) → operation ≡ Tell answer → ⊥

after_kept : (calls : Unfinished) (c : ℕ) (call : Call) (operation : Operation) → IsNoAnswer operation → after_step calls c (Some call) (reply_of operation) ≡ answered (without_call calls c) c call (reply_of operation)
after_kept calls c call (Tell answer) none = absurd (none answer refl)
after_kept calls c call (NewDir at) none = refl
after_kept calls c call (NewFile at number can_read can_write) none = refl
after_kept calls c call (OpenFile i empties number can_read can_write) none = refl
after_kept calls c call (CloseFile i number) none = refl
after_kept calls c call (Write i at bytes) none = refl
after_kept calls c call (Resize i len) none = refl
after_kept calls c call (RemoveDir at i) none = refl
after_kept calls c call (AddName at i) none = refl
after_kept calls c call (DropName at i) none = refl
after_kept calls c call (Move from to i is_dir replaced) none = refl
after_kept calls c call (Exchange first second i j) none = refl

pub calls_kept : (calls : List (Option Call)) (c : ℕ) (operation : Operation) → IsNoAnswer operation → calls_then calls (Step c) (outcomes.Reply (reply_of operation)) ≡ set_call calls c None
calls_kept calls c (Tell answer) none = absurd (none answer refl)
calls_kept calls c (NewDir at) none = refl
calls_kept calls c (NewFile at number can_read can_write) none = refl
calls_kept calls c (OpenFile i empties number can_read can_write) none = refl
calls_kept calls c (CloseFile i number) none = refl
calls_kept calls c (Write i at bytes) none = refl
calls_kept calls c (Resize i len) none = refl
calls_kept calls c (RemoveDir at i) none = refl
calls_kept calls c (AddName at i) none = refl
calls_kept calls c (DropName at i) none = refl
calls_kept calls c (Move from to i is_dir replaced) none = refl
calls_kept calls c (Exchange first second i j) none = refl

-- a begun call comes to effects
with_effects : (w : World) (c : ℕ) (b : world.Begun) → IsCoherent w → IsBegun w c b → IsNoAnswer b.operation
unfolding run_part ◌>>=◌
with_effects w c b h is answer tells =
    let pending = (h.stands c is.client).pending b is.there in
    let asked : Known (Ok []) ≡ Known (Ok b.change.effects) = subst (λ (operation : Operation). run_part (part_of (w.clients c).knows) (effects_asked b.new operation) ≡ Known (Ok b.change.effects)) tells pending.planned.effects in
    absurd (pending.some (cc))

module _ {M : Type 0} (device : Ghosts M) (seen_now : (m : M) (t : Tier) → device.left m (device.moment m) t (device.seen m t)) (sized : IsSized device) (given : Given device)
    (v : WorldView M) (c : ℕ) (o : Outcome) (new : SystemView M) (begun : IsBegunIn device v new) (turn : CanPlay device v.system (Step c)) (makes : MakesAt device v.system c (Step c) o new) where
  abbrev s : SeatView M
  s = makes.seat

  abbrev x : SeatView M
  x = makes.seat_then

  abbrev w : World
  w = begun.stands.world

  abbrev made : IsStepped device s o x
  made = makes.makes.0

  abbrev call_made : IsCallOf device v (Step c) new c s x
  call_made = is_call device seen_now sized given v c o new begun turn makes

  was : IsClientOf device s (calls_of v c) (w.clients c)
  was = own device seen_now sized given v c o new begun turn makes

  module _ (sound : s.client.log.failed ≡ false) (still : x.client.log.failed ≡ false) (b : Begun) (there : s.client.begun ≡ Some b) (is : HasReplied device s.client b made.answer x.client) where
    abbrev its_call : (y : world.Begun) × ((w.clients c).begun ≡ Some y) × IsBegunBy (calls_of v c) b y
    its_call = its device w c s (calls_of v c) call_made.client was b there

    abbrev y : world.Begun
    y = its_call.0

    begun_there : IsBegun w c y
    begun_there = is_begun device w c s (calls_of v c) call_made.client was b there sound

    no_answer : IsNoAnswer y.operation
    no_answer = with_effects w c y begun.stands.is.coherent begun_there

    outcome_is : o ≡ outcomes.Reply (reply_of y.operation)
    outcome_is = made.told ∙ ap step_outcome is.told ∙ ap (λ (r : Reply). outcomes.Reply r) its_call.2.reply

    news_is : news (calls_of v) (Step c) o ≡ answered (without_call (calls_of v) c) c y.call (reply_of y.operation)
    news_is = ap (news (calls_of v) (Step c)) outcome_is
        ∙ ap (λ (call : Option Call). after_step (calls_of v) c call (reply_of y.operation)) its_call.2.call_is
        ∙ after_kept (calls_of v) c y.call y.operation no_answer

    client_then : IsClientOf device x (calls_of (record { system = v.system; calls = set_call v.calls c None }) c) (replied_part (w.clients c) y)
    client_then = record {
      knows = knows_then device w c s (calls_of v c) call_made.client was b there ∙ sym is.knows_then;
      turn = subst (λ t. HasTurn t (replied_part (w.clients c) y)) (sym is.turn) (turn_then device w c s (calls_of v c) call_made.client was b there);
      sealed = was.sealed ∙ sym (ap (λ (z : ClientView M). z.sealed) is.rest);
      begun = subst (λ z. IsBegunAs (calls_of (record { system = v.system; calls = set_call v.calls c None }) c) z None) (sym (ap (λ (z : ClientView M). z.begun) is.rest)) (refl, set_there v.system v.calls begun.stands.is.eight c call_made.client None);
      reads_are = λ i. was.reads_are i ∙ sym (ap (λ (z : ClientView M). reads z.pass i) is.rest);
      writes_are = λ i. was.writes_are i ∙ sym (ap (λ (z : ClientView M). writes z.pass i) is.rest);
      spare = was.spare ∙ sym (ap (λ (z : ClientView M). z.spare) is.rest);
      pins = λ i. was.pins i ∙ sym (ap (λ (z : ClientView M). is_among i z.pins) is.rest);
      status = was.status ∙ ap (status_of s.life) sound ∙ status_then device seen_now sized given v c o new begun turn makes false still;
    }

    run : Run (world_state w) (news (calls_of v) (Step c) o).turns (world_state (with_client w c (replied_part (w.clients c) y)))
    run = subst (λ (l : Ledger). Run (world_state w) l.turns (world_state (with_client w c (replied_part (w.clients c) y)))) (sym news_is)
        (world_state (after_reply w c y), replied_step w c y begun.stands.is.coherent begun_there, answered_tree w c y begun.stands.is.coherent begun_there)

    pub replied : IsStep device v (Step c) o (record { system = new; calls = calls_then v.calls (Step c) o })
    replied = subst (λ calls. IsStep device v (Step c) o (record { system = new; calls = calls })) (sym (ap (calls_then v.calls (Step c)) outcome_is ∙ calls_kept v.calls c y.operation no_answer))
        (step_of device seen_now sized given v (Step c) o new c s x begun call_made (replied_part (w.clients c) y) (set_call v.calls c None)
        (answered_holds w c y begun.stands.is.coherent begun_there) (refl, refl)
        (set_long v.system v.calls begun.stands.is.eight c call_made.client None)
        (set_beside v.system v.calls begun.stands.is.eight c call_made.client None)
        client_then run
        (call_taken new v.calls begun.stands.is.eight c call_made.client ∙ sym (ap (λ (l : Ledger). l.calls) news_is)))
