-- What the definitions refuse of a draft and its gate.
use Rattle.std.proofs.Common.{◌≡◌, ℕ, zero, suc, ◌+◌, ◌≤◌, ◌<◌, min, inl, inr, refl, ap, ◌∙◌, sym, subst, List, [], ◌∷◌, take, arith}
use Rattle.std.specs.Prelude.{Some, None}
use Rattle.std.specs.FinMap as fin
use Rattle.std.proofs.lemmas.Option.{none-some}
use Rattle.std.specs.Cmp.Lexicographic.{nat_list_cmp_total, slice_cmp}
use Rattle.std.specs.Ordering.{nat_cmp}
use Rattle.tier_device.specs.declared.media.Tier.TheVariants.{Fast}
use Rattle.posix_calls.specs.Tree.{State, Dir, entries_of, set_node}
use Rattle.posix_calls.specs.EmptyTree.{empty_tree, empty_state}
use Rattle.posix_calls.specs.Run.{Run, Turn, Asked, Departs, settled}
use Rattle.posix_calls.specs.Operations.{Follows, Step, state_after}
use Rattle.posix_calls.specs.declared.call.Reply.TheVariants.{Done}
use Rattle.posix_calls.specs.declared.operation.Operation.TheVariants.{NewDir}
use Rattle.event_lists.specs.Outcome.{AreSomeOf}
use Rattle.event_lists.specs.Courses.{PARTS, LeftAt, LeftBetween, Reading, WorldContent, ledger, pace_of}
use Rattle.event_lists.specs.EachStop.{EachStop}
use Rattle.event_lists.specs.Plays.{Recovers, StopsNow}
use Rattle.event_lists.proofs.Joins.{no_clock_goes_back, within_course}
use Rattle.event_lists.specs.declared.gated_draft.GatedDraft.TheVariants as draft
use Rattle.event_lists.specs.declared.gated_draft.DraftEvent.TheVariants as event
use Rattle.event_lists.specs.GatedDraft.{GATE, can_take, clock_of, gate_left, left_of, moves_of, news_of, nobody, one_call, one_turn, root_a}
use Rattle.event_lists.specs.contracts.draft_lists.GatedDraftRecoverableDraftEventDraftOutcome.TheImpl.{ghosts}
use Rattle.event_lists.proofs.DraftStops.{answer_is, is_part, now_stops, stored_shut}
use Rattle.event_lists.proofs.DraftCourses.{Runs, three_outcomes, three_events, with_gate}

-- ---- a content that no place of any course leaves

never_left : (course : ℕ → Reading) → Runs course → (k : ℕ) → k ≤ 3 → (c : WorldContent) → c GATE Fast ≡ 7 ∷ [] → LeftAt (left_of draft.Open) 3 course k c → ⊥
never_left course is k le c spoiled held =
    let at = held GATE is_part in
    not_left at.0 (up at.0 (course (min (k + 1) 3) GATE) at.2 (subst (λ r. course (min (k + 1) 3) GATE ≤ r GATE) is.1 (within_course (pace_of moves_of three_events) 3 course is.2 (min (k + 1) 3) GATE (omega arith) is_part)))
    (subst (gate_left at.0) spoiled at.3)
  where
    up : (a b : ℕ) → a ≤ b → b ≤ 2 → a ≤ 2
    up a b x y = omega (arith, x, y)

    not_left : (m : ℕ) → m ≤ 2 → gate_left m (7 ∷ []) → ⊥
    not_left zero le held = absurd (grind (arith, held))
    not_left (suc zero) le (inl held) = absurd (grind (arith, held))
    not_left (suc zero) le (inr held) = absurd (grind (arith, held))
    not_left (suc (suc zero)) le held = absurd (grind (arith, held))
    not_left (suc (suc (suc m))) le held = absurd (omega (arith, le))

-- ---- a promise for the ends of events alone

-- a gate that was spoiled and mended within the commit is fine at its end ..
mended_at_its_end : (c : WorldContent) → LeftBetween (left_of draft.Mended) (clock_of draft.Mended) (clock_of draft.Mended) c → StopsNow ghosts draft.Mended c
mended_at_its_end = now_stops draft.Mended

-- .. but a stop during the commit may have left what no recovery takes
spoiled_on_its_way : LeftBetween (left_of draft.Mended) (clock_of draft.Drafted) (clock_of draft.Mended) (with_gate 7)
spoiled_on_its_way zero part = (1, omega arith, omega arith, tt)
spoiled_on_its_way (suc zero) part = (3, omega arith, omega arith, inr refl)
spoiled_on_its_way (suc (suc p)) part = (0, omega arith, omega arith, tt)

spoiled_is_not_taken : can_take draft.Drafted (with_gate 7) → ⊥
spoiled_is_not_taken (inl e) = absurd (grind (arith, e))
spoiled_is_not_taken (inr e) = absurd (grind (arith, e))

-- ---- a reply that counts before its event's end

-- the state after the call has a directory of that name in the root
tree_has : (new : ℕ) → fin.get (entries_of ((settled (state_after 1 new empty_state (NewDir root_a))).tree 1)) (97 ∷ []) ≡ Some new
tree_has new = fin.get-insert nat_list_cmp_total (entries_of (set_node empty_tree new (Some (Dir fin.empty)) 1)) (97 ∷ []) new (97 ∷ [])

nothing_has : fin.get (entries_of ((settled empty_state).tree 1)) (97 ∷ []) ≡ None
nothing_has = fin.get-empty (slice_cmp nat_cmp) (97 ∷ [])

-- where the call was done, a directory was made
mkdir_makes : (after : State) → Step empty_state 1 one_call Done after → (new : ℕ) × (after ≡ state_after 1 new empty_state (NewDir root_a))
mkdir_makes after (inl step) = (step.0, (subst (λ a. Follows empty_state 1 step.0 a Done after) answer_is step.1).2)
mkdir_makes after (inr given_up) = absurd (grind (arith, given_up.2))

-- so the state is another
done_is_seen : (last : State) → Run empty_state (one_turn ∷ []) last → settled empty_state ≡ settled last → ⊥
done_is_seen last run e =
    let new = mkdir_makes run.0 run.1 in
    none-some new.0 (sym nothing_has ∙ ap (λ s. fin.get (entries_of (s.tree 1)) (97 ∷ [])) (e ∙ ap settled (run.2 ∙ new.1)) ∙ tree_has new.0)

-- no other call is there to be done
none_more : (more : List Turn) → AreSomeOf nobody more → more ≡ []
none_more [] some = refl
none_more (Asked client call reply ∷ more) some = absurd (grind (arith, some.0))
none_more (Departs client ∷ more) some = absurd some

early_reply : (c : WorldContent) → c GATE Fast ≡ 0 ∷ [] → Recovers ghosts draft.Fresh (ledger news_of nobody (take 2 three_events) (take 2 three_outcomes)) c → ⊥
unfolding ledger
early_reply c is_shut is =
    done_is_seen is.outcome.last (subst (λ more. Run empty_state (one_turn ∷ more) is.outcome.last) (none_more is.outcome.more is.outcome.some_of) is.outcome.run)
    (sym (stored_shut draft.Fresh c is_shut) ∙ is.outcome.settled)

-- so no course of the three has each stop recovered by the replies up to the end of its event
early_replies_are_refused : EachStop (pace_of moves_of three_events) (left_of draft.Open) 3 (clock_of draft.Fresh) (clock_of draft.Open) (λ k c. Recovers ghosts draft.Fresh (ledger news_of nobody (take (k + 1) three_events) (take (k + 1) three_outcomes)) c) → ⊥
early_replies_are_refused e = early_reply (with_gate 0) refl (e.each 1 (with_gate 0) (omega arith) left)
  where
    same : (a : ℕ) → a ≤ a
    same a = omega arith

    drafted : e.course 1 GATE ≡ 0
    drafted = (e.is_course.in_pace 0 (omega arith) event.Draft refl).others GATE is_part (λ is. absurd (grind (arith, is))) ∙ ap (λ r. r GATE) e.from

    next : (p : ℕ) → p < PARTS → e.course 1 p ≤ e.course 2 p
    next p part = no_clock_goes_back (e.course 1) (e.course 2) (e.is_course.one_part 1 (omega arith)) p part

    left : LeftAt (left_of draft.Open) 3 e.course 1 (with_gate 0)
    left zero part = (e.course 1 0, same (e.course 1 0), next 0 part, tt)
    left (suc zero) part = (e.course 1 GATE, same (e.course 1 GATE), next GATE part, subst (λ m. gate_left m (0 ∷ [])) (sym drafted) refl)
    left (suc (suc p)) part = (e.course 1 (suc (suc p)), same (e.course 1 (suc (suc p))), next (suc (suc p)) part, tt)

-- ---- moments that are put into another event

-- the readings of a course on which the commit stands still, and the idle event behind it moves the gate
abbrev late_readings : ℕ → Reading
late_readings zero = clock_of draft.Fresh
late_readings (suc zero) = clock_of draft.Drafted
late_readings (suc (suc zero)) = clock_of draft.Drafted
late_readings (suc (suc (suc k))) = clock_of draft.Open

-- by then the reply counts, and a stop may have left a shut gate
late_readings_are_refused : ((k : ℕ) (c : WorldContent) → k ≤ 3 → LeftAt (left_of draft.Open) 3 late_readings k c → Recovers ghosts draft.Fresh (ledger news_of nobody (take k three_events) (take k three_outcomes)) c) → ⊥
late_readings_are_refused each = early_reply (with_gate 0) refl (each 2 (with_gate 0) (omega arith) left)
  where
    left : LeftAt (left_of draft.Open) 3 late_readings 2 (with_gate 0)
    left zero part = (1, omega arith, omega arith, tt)
    left (suc zero) part = (0, omega arith, omega arith, refl)
    left (suc (suc p)) part = (0, omega arith, omega arith, tt)
