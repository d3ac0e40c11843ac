-- A call is answered: the tree moves by its step.
use Rattle.std.proofs.Common.{◌≡◌, ◌≢◌, inl, inr, ℕ, ◌+◌, ◌-◌, ◌≤◌, ◌==◌, ◌||◌, true, false, List, [], ◌∷◌, ◌++◌, drop, refl, None, Err, ap, sym, ◌∙◌, subst, append_assoc}
use Rattle.std.proofs.lemmas.Bool.{false≢true, eqb-true, eq-eqb}
use Rattle.posix_calls.specs.Tree.{with_own}
use Rattle.posix_calls.specs.Part.{Known, run_part}
use Rattle.posix_calls.specs.Decide.{decide}
use Rattle.posix_calls.specs.Operations.{is_client, makes, own_after, reply_of, Step}
use Rattle.posix_calls.specs.declared.call.Call.{Call}
use Rattle.posix_calls.specs.declared.call.Reply.TheVariants as reply
use Rattle.posix_calls.specs.declared.errno.Errno.{Errno}
use Rattle.posix_calls.specs.declared.operation.Operation.{Operation}
use Rattle.call_effects.specs.file_graph.Graph.{after_effects, is_among, touches}
use Rattle.call_effects.specs.file_graph.declared.effect.Effect.{Effect}
use Rattle.call_effects.specs.Wholes.{IsSound, state_of}
use Rattle.call_effects.specs.Knowledge.{Agrees, IsPlanned, part_of, knows_after}
use Rattle.call_effects.proofs.KnownSteps.{planned_step, refused_step}
use Rattle.world_invariant.specs.Logs.{is_written, is_touched, is_made, is_made_in, units_in, ArePaid, NameNone, KeepLimits, LogsAreApart}
use Rattle.world_invariant.specs.World.{Begun, Client, Account, World, undigested_records, records_of, change_of, log_of, all_of, whole_graph, held_descriptors, world_state}
use Rattle.world_invariant.specs.ClientParts.{is_settled, IsNumbered, IsSoundPart}
use Rattle.world_invariant.specs.Invariant.{IsCoherent}
use Rattle.world_invariant.specs.ClientSteps.{CanAnswer, after_answer, IsBegun, after_reply}
use Rattle.world_invariant.proofs.Records.{either, both, append_nil, front_written, rest_written, in_first}
use Rattle.world_invariant.proofs.Owners.{appended_whole}
use Rattle.world_invariant.proofs.Idle.{none_some}
use Rattle.world_invariant.proofs.Made.{unmade_append, once_more}
use Rattle.world_invariant.proofs.Facts.{apart_all, apart_less, makes_granted}
use Rattle.world_invariant.proofs.Knowing.{pinned_after, granted_before, granted_apart, planned_sound_after, own_agrees_after, others_agree_after, leased_after}
use Rattle.world_invariant.proofs.Moved.{both_same, holds_moved, booked_same, before_less, after_less, whole_same, held_moved, log_there, log_else}

-- a step of what a client knows is one of the tree
module _ (w : World) (c : ℕ) (h : IsCoherent w) (is_c : is_client c ≡ true) where
  pub known_step : (call : Call) (new : ℕ) (operation : Operation) (es : List Effect) → IsPlanned (w.clients c).knows call new operation es
      → Step (world_state w) c call (reply_of operation) (state_of (after_effects (whole_graph w) es) (with_own (held_descriptors w) c (own_after new (w.clients c).knows.own operation)))
  known_step call new operation es planned =
      subst (λ d. Step (world_state w) d call (reply_of operation) (state_of (after_effects (whole_graph w) es) (with_own (held_descriptors w) d (own_after new (w.clients c).knows.own operation)))) (h.stands c is_c).number
      (planned_step (w.clients c).knows (whole_graph w) (held_descriptors w) h.sound (h.agrees c is_c) call new operation es planned)

  -- a call that is refused by what the client knows
  pub refused : (call : Call) (e : Errno) → run_part (part_of (w.clients c).knows) (decide (w.clients c).knows.own call) ≡ Known (Err e) → Step (world_state w) c call (reply.Failed e) (world_state w)
  refused call e known = subst (λ d. Step (world_state w) d call (reply.Failed e) (world_state w)) (h.stands c is_c).number (refused_step (w.clients c).knows (whole_graph w) (held_descriptors w) h.sound (h.agrees c is_c) call e known)

-- ---- without a record

module _ (w : World) (c : ℕ) (call : Call) (new : ℕ) (operation : Operation) (h : IsCoherent w) (can : CanAnswer w c call new operation) where
  abbrev told : Client
  told = record (w.clients c) { knows = knows_after (w.clients c).knows new operation [] }

  told_whole : whole_graph (after_answer w c new operation) ≡ whole_graph w
  told_whole = whole_same w c w.kernel.shared (w.kernel.accounts c) told refl refl

  told_held : held_descriptors (after_answer w c new operation) ≡ with_own (held_descriptors w) c (own_after new (w.clients c).knows.own operation)
  told_held = held_moved w c w.kernel.shared (w.kernel.accounts c) told can.client

  touches_none : (i : ℕ) → is_among i (touches []) ≡ true → (w.clients c).writes i ≡ true
  touches_none i e = absurd (false≢true e)

  pub answered_holds : IsCoherent (after_answer w c new operation)
  answered_holds =
      let s = h.stands c can.client in
      holds_moved w c w.kernel.shared (w.kernel.accounts c) told h can.client
      (booked_same w c told h can.client)
      (record {
        number = s.number;
        rests = record { closed = λ e. both (is_settled (w.clients c).status) e (ap is_settled can.alive); idle = λ e. can.idle };
        marked = s.marked;
        starts = s.starts;
        logged = s.logged;
        units = s.units;
        numbered = record { made = s.numbered.made; once = s.numbered.once; granted = λ i e. s.numbered.granted i (granted_before (w.clients c).knows new i operation [] e); unused = λ i e. s.numbered.unused i (granted_before (w.clients c).knows new i operation [] e) };
        leased = leased_after w c h can.client call new operation [] can.planned touches_none;
        pinned = pinned_after (w.kernel.accounts c).pins (w.clients c).pins (w.clients c).knows.own new operation s.pinned can.pinned;
        pending = λ b e. none_some b (sym can.idle ∙ e);
      })
      (λ d is_d other. h.stands d is_d)
      (before_less w c told h can.client (λ i e. e)) (after_less w c told h can.client (λ i e. e))
      (both_same (λ g o. IsSound g o) told_whole told_held (planned_sound_after w c h can.client call new operation [] can.planned touches_none))
      (both_same (λ g o. Agrees (knows_after (w.clients c).knows new operation []) g o) told_whole told_held (own_agrees_after w c h can.client call new operation [] can.planned touches_none))
      (λ d is_d other. both_same (λ g o. Agrees (w.clients d).knows g o) told_whole told_held (others_agree_after w c h can.client call new operation [] can.planned touches_none d is_d other))

  pub answered_step : Step (world_state w) c call (reply_of operation) (world_state (after_answer w c new operation))
  answered_step = both_same (λ g o. Step (world_state w) c call (reply_of operation) (state_of g o)) told_whole told_held (known_step w c h can.client call new operation [] can.planned)

-- ---- with its record

module _ (w : World) (c : ℕ) (b : Begun) (h : IsCoherent w) (is : IsBegun w c b) where
  abbrev was : Client
  was = w.clients c

  abbrev account : Account
  account = w.kernel.accounts c

  abbrev logged : Client
  logged = record was { begun = None; current = was.current ++ (b.change ∷ []); knows = knows_after was.knows b.new b.operation b.change.effects }

  s : IsSoundPart w.kernel.shared account c was
  s = h.stands c is.client

  planned : IsPlanned was.knows b.call b.new b.operation b.change.effects
  planned = (s.pending b is.there).planned

  all_were : records_of account was ≡ log_of w c ++ (b.change ∷ [])
  all_were = ap (λ o. log_of w c ++ change_of o) is.there

  log_is : undigested_records account logged ≡ log_of w c ++ (b.change ∷ [])
  log_is = sym (append_assoc (drop (account.mark - was.past) was.sealed) was.current (b.change ∷ []))

  -- the records, the begun one among them, are the same
  all_same : records_of account logged ≡ records_of account was
  all_same = append_nil (undigested_records account logged) ∙ log_is ∙ sym all_were

  leased : (i : ℕ) → is_among i (touches b.change.effects) ≡ true → was.writes i ≡ true
  leased i e = s.logged.leased i (ap (is_written i) all_were ∙ rest_written i (log_of w c) (b.change ∷ []) (in_first (is_touched i b.change) false e))

  new_log : log_of (after_reply w c b) c ≡ log_of w c ++ (b.change ∷ [])
  new_log = log_there w c w.kernel.shared account logged ∙ log_is

  logs_apart : LogsAreApart (log_of (after_reply w c b))
  logs_apart = apart_less (all_of w) (log_of (after_reply w c b)) (λ d i is_d e. elim (◌==◌ d c) as (λ t. (d == c) ≡ t → is_written i (all_of w d) ≡ true) [
    | true ↦ λ same. here d i (eqb-true d c same) e
    | false ↦ λ off. there d i (λ same. both (d == c) (eq-eqb d c same) off) e
  ] refl) (apart_all w h)
    where
      here : (d i : ℕ) → d ≡ c → is_written i (log_of (after_reply w c b) d) ≡ true → is_written i (all_of w d) ≡ true
      here d i same e = ap (λ x. is_written i (all_of w x)) same ∙ ap (is_written i) (all_were ∙ sym new_log) ∙ ap (λ x. is_written i (log_of (after_reply w c b) x)) (sym same) ∙ e

      there : (d i : ℕ) → d ≢ c → is_written i (log_of (after_reply w c b) d) ≡ true → is_written i (all_of w d) ≡ true
      there d i other e = front_written i (log_of w d) (change_of (w.clients d).begun) (ap (is_written i) (sym (log_else w c w.kernel.shared account logged d other)) ∙ e)

  pub replied_whole : whole_graph (after_reply w c b) ≡ after_effects (whole_graph w) b.change.effects
  replied_whole = λ t i. appended_whole (log_of w) (log_of (after_reply w c b)) w.kernel.shared c (b.change ∷ []) is.client logs_apart new_log (log_else w c w.kernel.shared account logged) i t

  held_is : held_descriptors (after_reply w c b) ≡ with_own (held_descriptors w) c (own_after b.new was.knows.own b.operation)
  held_is = held_moved w c w.kernel.shared account logged is.client

  -- the number of the new node is used up
  numbered : IsNumbered account.numbers logged.knows.granted (undigested_records account logged)
  numbered = subst (λ log. IsNumbered account.numbers logged.knows.granted log) (sym log_is) (record {
    made = λ i e. elim (either (is_made_in i (log_of w c))) [
      | inl there ↦ s.numbered.made i there
      | inr clean ↦ let m = makes_now i (later i e clean) in s.numbered.granted i (subst (λ x. was.knows.granted x ≡ true) (sym m.1) (planned.number m.0))
    ];
    once = λ i. once_more i (log_of w c) b.change (s.numbered.once i) (λ e. let m = makes_now i e in s.numbered.unused i (subst (λ x. was.knows.granted x ≡ true) (sym m.1) (planned.number m.0)));
    granted = λ i e. s.numbered.granted i (granted_before was.knows b.new i b.operation b.change.effects e);
    unused = λ i e. unmade_append i (log_of w c) (b.change ∷ []) (s.numbered.unused i (granted_before was.knows b.new i b.operation b.change.effects e)) (elim (either (is_made i b.change.effects)) [
      | inl there ↦ let m = makes_now i there in absurd (granted_apart was.knows b.new i b.operation b.change.effects e m.0 m.1)
      | inr clean ↦ ap (λ x. x || false) clean
    ]);
  })
    where
      makes_now : (i : ℕ) → is_made i b.change.effects ≡ true → (makes b.operation ≡ true) × (i ≡ b.new)
      makes_now i e = makes_granted w h c is.client b.call b.new b.operation b.change.effects planned i e

      later : (i : ℕ) → is_made_in i (log_of w c ++ (b.change ∷ [])) ≡ true → is_made_in i (log_of w c) ≡ false → is_made i b.change.effects ≡ true
      later i e clean = elim (either (is_made i b.change.effects)) [
        | inl there ↦ there
        | inr off ↦ both (is_made_in i (log_of w c ++ (b.change ∷ []))) e (unmade_append i (log_of w c) (b.change ∷ []) clean (ap (λ x. x || false) off))
      ]

  pub replied_holds : IsCoherent (after_reply w c b)
  replied_holds =
      holds_moved w c w.kernel.shared account logged h is.client
      (booked_same w c logged h is.client)
      (record {
        number = s.number;
        rests = record { closed = λ e. none_some b (sym (s.rests.idle e) ∙ is.there); idle = λ e. refl };
        marked = s.marked;
        starts = record { records = λ e. none_some b (sym (s.starts.idle e) ∙ is.there); idle = λ e. refl };
        logged = record { leased = λ i e. s.logged.leased i (ap (is_written i) (sym all_same) ∙ e); paid = subst (λ rs. ArePaid w.kernel.shared rs) (sym all_same) s.logged.paid; unnamed = subst (λ rs. NameNone w.kernel.shared rs) (sym all_same) s.logged.unnamed; limits = subst (λ rs. KeepLimits w.kernel.shared rs) (sym all_same) s.logged.limits };
        units = subst (λ rs. was.spare + units_in rs ≤ account.units) (sym all_same) s.units;
        numbered = numbered;
        leased = leased_after w c h is.client b.call b.new b.operation b.change.effects planned leased;
        pinned = pinned_after account.pins was.pins was.knows.own b.new b.operation s.pinned ((s.pending b is.there).pinned is.known);
        pending = λ d e. none_some d e;
      })
      (λ d is_d other. h.stands d is_d)
      (before_less w c logged h is.client (λ i e. e)) (after_less w c logged h is.client (λ i e. e))
      (both_same (λ g o. IsSound g o) replied_whole held_is (planned_sound_after w c h is.client b.call b.new b.operation b.change.effects planned leased))
      (both_same (λ g o. Agrees logged.knows g o) replied_whole held_is (own_agrees_after w c h is.client b.call b.new b.operation b.change.effects planned leased))
      (λ d is_d other. both_same (λ g o. Agrees (w.clients d).knows g o) replied_whole held_is (others_agree_after w c h is.client b.call b.new b.operation b.change.effects planned leased d is_d other))

  pub replied_step : Step (world_state w) c b.call (reply_of b.operation) (world_state (after_reply w c b))
  replied_step = both_same (λ g o. Step (world_state w) c b.call (reply_of b.operation) (state_of g o)) replied_whole held_is (known_step w c h is.client b.call b.new b.operation b.change.effects planned)
