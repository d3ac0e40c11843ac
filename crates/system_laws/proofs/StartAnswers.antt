-- A call that is started and answered by what its client knows.
use Rattle.std.proofs.Common.{◌≡◌, ◌⊎◌, inl, inr, ℕ, ◌-◌, Bool, true, false, [], Option, Some, None, refl, subst, sym, ap, ◌∙◌}
use Rattle.std.specs.Prelude.{slice_set, ◌&&◌, ◌==◌, not, Ok, Err}
use Rattle.tier_device.specs.declared.media.Media.{Ghosts}
use Rattle.posix_calls.specs.Tree.{Own}
use Rattle.posix_calls.specs.Query.{◌>>=◌}
use Rattle.posix_calls.specs.Part.{Part, Known, run_part}
use Rattle.posix_calls.specs.Decide.{decide}
use Rattle.posix_calls.specs.Operations.{is_client, makes, own_after, Step}
use Rattle.posix_calls.specs.declared.call.Call.{Call}
use Rattle.posix_calls.specs.declared.call.Reply.{Reply}
use Rattle.posix_calls.specs.declared.operation.Operation.{Operation}
use Rattle.posix_calls.specs.declared.operation.Operation.TheVariants.{Tell, NewDir, NewFile, OpenFile, CloseFile, Write, Resize, RemoveDir, AddName, DropName, Move, Exchange}
use Rattle.event_steps.specs.file_graph.declared.effect.Kind.TheVariants as kinds
use Rattle.event_steps.specs.call_effects.Knowledge.{IsPlanned, Knowledge, knows_after, part_of}
use Rattle.event_steps.specs.call_effects.Effects.{make_effects}
use Rattle.event_steps.specs.call_effects.Records.{effects_asked}
use Rattle.event_steps.specs.client_plan.CallPlan.{change_of, own_changed}
use Rattle.event_steps.specs.client_plan.Steps.{IsAnswered, IsRefused}
use Rattle.event_steps.specs.client_plan.declared.outcome.DescriptorChange.{DescriptorChange}
use Rattle.event_steps.specs.client_view.AfterRecord.{with_change}
use Rattle.event_steps.specs.client_view.KnowledgeTables.{Held}
use Rattle.event_steps.specs.libfs.ClientHoldings.{holdings_of, known_to}
use Rattle.event_steps.specs.libfs.declared.life.Life.TheVariants as lives
use Rattle.event_steps.specs.world_invariant.ClientSteps.{CanAnswer, with_client}
use Rattle.event_steps.specs.world_invariant.Invariant.{IsCoherent}
use Rattle.event_steps.specs.world_invariant.World.{Account, Client, World, world_state}
use Rattle.event_steps.specs.layout.declared.marks.Mark.{Mark}
use Rattle.event_steps.specs.declared.refusals.Refusals.{Refusals}
use Rattle.event_steps.specs.View.{SeatView, SystemView, seat_of}
use Rattle.event_steps.specs.declared.event.Event.TheVariants.{Start}
use Rattle.event_steps.specs.declared.outcome.Outcome.{Outcome}
use Rattle.event_steps.specs.declared.outcome.Outcome.TheVariants as outcomes
use Rattle.event_steps.proofs.world_invariant_lemmas.Replies.{answered_holds, answered_step, refused}
use Rattle.system_laws.specs.Relation.{IsClientOf, StandsMarked}
use Rattle.system_laws.specs.Steps.{IsBegunIn, IsStep}
use Rattle.recovery_laws.specs.Contents.{mark_by}
use Rattle.system_laws.specs.WorldView.{WorldView, calls_of}
use Rattle.system_laws.proofs.Given.{Given}
use Rattle.system_laws.proofs.Seated.{own_mark, own_part, same_world}
use Rattle.system_laws.proofs.StartReplies.{idle_world, reply_step}
use Rattle.system_laws.proofs.Statuses.{alive_status}

-- ---- an operation without effects

-- the descriptors after it are those that the client is told of
own_is : (new : ℕ) (own : Own) (operation : Operation) → own_after new own operation ≡ own_changed own (change_of new operation)
own_is new own (Tell answer) = refl
own_is new own (NewDir at) = refl
own_is new own (NewFile at number reads writes) = refl
own_is new own (OpenFile i empties number reads writes) = refl
own_is new own (CloseFile i number) = refl
own_is new own (Write i at bytes) = refl
own_is new own (Resize i len) = refl
own_is new own (RemoveDir at i) = refl
own_is new own (AddName at i) = refl
own_is new own (DropName at i) = refl
own_is new own (Move from to i is_dir replaced) = refl
own_is new own (Exchange first second i j) = refl

-- it makes no node
makes_none : (p : Part) (new : ℕ) (operation : Operation) → run_part p (effects_asked new operation) ≡ Known (Ok []) → makes operation ≡ false
unfolding run_part ◌>>=◌
makes_none p new (Tell answer) e = refl
makes_none p new (NewDir at) e = absurd (let made : Known (Ok (make_effects new kinds.Directory at)) ≡ Known (Ok []) = e in cc)
makes_none p new (NewFile at number reads writes) e = absurd (let made : Known (Ok (make_effects new kinds.File at)) ≡ Known (Ok []) = e in cc)
makes_none p new (OpenFile i empties number reads writes) e = refl
makes_none p new (CloseFile i number) e = refl
makes_none p new (Write i at bytes) e = refl
makes_none p new (Resize i len) e = refl
makes_none p new (RemoveDir at i) e = refl
makes_none p new (AddName at i) e = refl
makes_none p new (DropName at i) e = refl
makes_none p new (Move from to i is_dir replaced) e = refl
makes_none p new (Exchange first second i j) e = refl

-- what a client knows after it is what it knew, with that change of a descriptor
knows_told : (k : Knowledge) (new : ℕ) (operation : Operation) → makes operation ≡ false → knows_after k new operation [] ≡ with_change k (change_of new operation)
knows_told k new operation none = λ t. record {
  client = k.client;
  own = own_is new k.own operation t;
  copies = k.copies;
  blocks = k.blocks;
  granted = λ i. same_numbers (k.granted i) (i == new) t;
}
  where
    all_stay : (b : Bool) → (b && true) ≡ b
    all_stay true = refl
    all_stay false = refl

    same_numbers : (b other : Bool) → (b && not (makes operation && other)) ≡ b
    same_numbers b other = ap (λ m. b && not (m && other)) none ∙ all_stay b

module _ {M : Type 0} (device : Ghosts M) where
  -- a seat whose client has other copies, and was refused these things
  abbrev pub with_copies : SeatView M → Held → Refusals → SeatView M
  with_copies s copies refused = record s { client = record s.client { copies = copies }; refused = refused }

  copied_client : (s : SeatView M) (copies : Held) (refused : Refusals) (call : Option Call) (p : Client) (k : Knowledge) → IsClientOf device s call p → k ≡ known_to (record s.client { copies = copies }) → IsClientOf device (with_copies s copies refused) call (record p { knows = k })
  copied_client s copies refused call p k is knows = record { knows = knows; turn = record { current = is.turn.current; other = is.turn.other; is_ready = is.turn.is_ready; begun = is.turn.begun }; sealed = is.sealed; begun = is.begun; reads_are = is.reads_are; writes_are = is.writes_are; spare = is.spare; pins = is.pins; status = is.status }

  copied_marked : (s : SeatView M) (copies : Held) (refused : Refusals) (m : Mark) (a : Account) (accepted : ℕ) (p : Client) (k : Knowledge) → StandsMarked m s a accepted p → StandsMarked m (with_copies s copies refused) a accepted (record p { knows = k })
  copied_marked s copies refused m a accepted p k is = record { mark = is.mark; digested = is.digested; accepts = is.accepts; held = is.held }

  -- A call is answered that comes to an operation without effects.
  answered_as : Given device → (v : WorldView M) (new : SystemView M) (c : ℕ) (s : SeatView M) (copies : Held) (refused_then : Refusals) (call : Call) (reply : Reply) (change : Option DescriptorChange) (o : Outcome)
      → (begun : IsBegunIn device v new)
      → is_client c ≡ true → seat_of v.system c ≡ Some s → new.kernel ≡ v.system.kernel → new.seats ≡ slice_set v.system.seats (c - 1) (with_copies s copies refused_then)
      → o ≡ outcomes.Reply reply
      → s.life ≡ lives.Alive → s.client.log.failed ≡ false → s.client.begun ≡ None
      → known_to (record s.client { copies = copies }) ≡ with_change (known_to s.client) change
      → IsAnswered (known_to s.client) (holdings_of device s.client) call reply change
      → IsStep device v (Start c call) o (record { system = new; calls = v.calls })
  answered_as given v new c s copies refused_then call reply change o begun is_c there kernel seats told alive sound idle knows a =
      let st = begun.stands in
      let w = st.world in
      let p = w.clients c in
      let own = own_part device v w st.accepted st.shared_marks st.cut c s st.is is_c there in
      let mark = own_mark device v w st.accepted st.shared_marks st.cut c s st.is is_c there in
      let planned : IsPlanned p.knows call a.new a.operation [] = subst (λ (k : Knowledge). IsPlanned k call a.new a.operation []) (sym own.knows) a.planned in
      let can : CanAnswer w c call a.new a.operation = record {
        client = is_c;
        alive = own.status ∙ alive_status s.life s.client.log.failed alive sound;
        idle = idle_world device s (calls_of v c) p own idle;
        planned = planned;
        pinned = λ what e. own.pins what.1.inode ∙ a.pinned what e;
      } in
      let then : knows_after p.knows a.new a.operation [] ≡ known_to (record s.client { copies = copies }) =
      knows_told p.knows a.new a.operation (makes_none (part_of p.knows) a.new a.operation planned.effects)
      ∙ ap (λ (k : Knowledge). with_change k (change_of a.new a.operation)) own.knows
      ∙ ap (λ (d : Option DescriptorChange). with_change (known_to s.client) d) (sym a.opens)
      ∙ sym knows in
      reply_step device given v new c s (with_copies s copies refused_then) (record p { knows = knows_after p.knows a.new a.operation [] }) call reply o begun is_c there kernel seats told
      (answered_holds w c call a.new a.operation st.is.coherent can) (refl, refl) (λ r low. refl)
      (copied_client s copies refused_then (calls_of v c) p (knows_after p.knows a.new a.operation []) own then)
      (copied_marked s copies refused_then (mark_by (Some st.shared_marks) c) (w.kernel.accounts c) (st.accepted c) p (knows_after p.knows a.new a.operation []) mark)
      (subst (λ (r : Reply). Step (world_state w) c call r (world_state (with_client w c (record p { knows = knows_after p.knows a.new a.operation [] })))) (sym a.told) (answered_step w c call a.new a.operation st.is.coherent can))

  -- A call is refused by what the client knows, and nothing has changed.
  refused_as : Given device → (v : WorldView M) (new : SystemView M) (c : ℕ) (s : SeatView M) (copies : Held) (refused_then : Refusals) (call : Call) (reply : Reply) (change : Option DescriptorChange) (o : Outcome)
      → (begun : IsBegunIn device v new)
      → is_client c ≡ true → seat_of v.system c ≡ Some s → new.kernel ≡ v.system.kernel → new.seats ≡ slice_set v.system.seats (c - 1) (with_copies s copies refused_then)
      → o ≡ outcomes.Reply reply
      → known_to (record s.client { copies = copies }) ≡ with_change (known_to s.client) change
      → IsRefused (known_to s.client) call reply change
      → IsStep device v (Start c call) o (record { system = new; calls = v.calls })
  refused_as given v new c s copies refused_then call reply change o begun is_c there kernel seats told knows r =
      let st = begun.stands in
      let w = st.world in
      let p = w.clients c in
      let own = own_part device v w st.accepted st.shared_marks st.cut c s st.is is_c there in
      let mark = own_mark device v w st.accepted st.shared_marks st.cut c s st.is is_c there in
      let same = sym (same_world w c) in
      let then : p.knows ≡ known_to (record s.client { copies = copies }) = own.knows ∙ ap (λ (d : Option DescriptorChange). with_change (known_to s.client) d) (sym r.none) ∙ sym knows in
      let comes : run_part (part_of p.knows) (decide p.knows.own call) ≡ Known (Err r.errno) = subst (λ (k : Knowledge). run_part (part_of k) (decide k.own call) ≡ Known (Err r.errno)) (sym own.knows) r.comes in
      reply_step device given v new c s (with_copies s copies refused_then) p call reply o begun is_c there kernel seats told
      (subst IsCoherent same st.is.coherent) (refl, refl) (λ r low. refl)
      (copied_client s copies refused_then (calls_of v c) p p.knows own then)
      (copied_marked s copies refused_then (mark_by (Some st.shared_marks) c) (w.kernel.accounts c) (st.accepted c) p p.knows mark)
      (subst (λ (z : World). Step (world_state w) c call reply (world_state z)) same (subst (λ (a : Reply). Step (world_state w) c call a (world_state w)) (sym r.told) (refused w c st.is.coherent is_c call r.errno comes)))

  -- A call is answered by what the client knows.
  pub answered_start : Given device → (v : WorldView M) (new : SystemView M) (c : ℕ) (s : SeatView M) (copies : Held) (refused_then : Refusals) (call : Call) (reply : Reply) (change : Option DescriptorChange) (o : Outcome)
      → (begun : IsBegunIn device v new)
      → is_client c ≡ true → seat_of v.system c ≡ Some s → new.kernel ≡ v.system.kernel → new.seats ≡ slice_set v.system.seats (c - 1) (with_copies s copies refused_then)
      → o ≡ outcomes.Reply reply
      → s.life ≡ lives.Alive → s.client.log.failed ≡ false → s.client.begun ≡ None
      → known_to (record s.client { copies = copies }) ≡ with_change (known_to s.client) change
      → IsRefused (known_to s.client) call reply change ⊎ IsAnswered (known_to s.client) (holdings_of device s.client) call reply change
      → IsStep device v (Start c call) o (record { system = new; calls = v.calls })
  answered_start given v new c s copies refused_then call reply change o begun is_c there kernel seats told alive sound idle knows ready = elim ready [
    | inl r ↦ refused_as given v new c s copies refused_then call reply change o begun is_c there kernel seats told knows r
    | inr a ↦ answered_as given v new c s copies refused_then call reply change o begun is_c there kernel seats told alive sound idle knows a
  ]
