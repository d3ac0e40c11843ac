-- A list of three events.
use Rattle.std.proofs.Common.{◌≡◌, ◌≢◌, ℕ, zero, suc, ◌+◌, ◌≤◌, ◌<◌, inl, inr, refl, subst, List, [], ◌∷◌, take, arith}
use Rattle.std.specs.Prelude.{Some}
use Rattle.tier_device.specs.declared.media.Tier.TheVariants.{Fast}
use Rattle.event_lists.specs.Courses.{PARTS, IsCourse, LeftAt, MovesOne, MovesOnly, Reading, WorldContent, ledger, pace_of, no_news}
use Rattle.event_lists.specs.declared.gated_draft.GatedDraft.TheVariants as draft
use Rattle.event_lists.specs.declared.gated_draft.DraftEvent.{DraftEvent}
use Rattle.event_lists.specs.declared.gated_draft.DraftEvent.TheVariants as event
use Rattle.event_lists.specs.declared.gated_draft.DraftOutcome.{DraftOutcome}
use Rattle.event_lists.specs.declared.gated_draft.DraftOutcome.TheVariants as outcomes
use Rattle.event_lists.specs.GatedDraft.{GATE, clock_of, gate_left, left_of, moves_of, news_of, nobody, one_turn, pending}

-- a draft, its commit, and a commit that has nothing to do
abbrev pub three_events : List DraftEvent
three_events = event.Draft ∷ event.Commit ∷ event.Commit ∷ []

-- their outcomes
abbrev pub three_outcomes : List DraftOutcome
three_outcomes = outcomes.Pending ∷ outcomes.Done ∷ outcomes.Idle ∷ []

-- ---- their ledger

-- the one call is answered once, and none is left
whole_ledger : ledger news_of nobody three_events three_outcomes ≡ record { turns = one_turn ∷ []; calls = nobody }
unfolding ledger
whole_ledger = refl

-- after the draft the call is started and not answered
early_ledger : ledger news_of nobody (take 1 three_events) (take 1 three_outcomes) ≡ no_news pending
unfolding ledger
early_ledger = refl

-- an idle event adds nothing
idle_ledger : ledger news_of nobody (take 2 three_events) (take 2 three_outcomes) ≡ ledger news_of nobody three_events three_outcomes
unfolding ledger
idle_ledger = refl

-- no event adds nothing
no_ledger : ledger news_of pending [] [] ≡ no_news pending
unfolding ledger
no_ledger = refl

-- a call that was started before the list is answered in it
later_ledger : ledger news_of pending (event.Commit ∷ []) (outcomes.Done ∷ []) ≡ record { turns = one_turn ∷ []; calls = nobody }
unfolding ledger
later_ledger = refl

-- ---- their courses

-- a course of the three, from a fresh start to an open gate
abbrev pub Runs : (ℕ → Reading) → Type 0
Runs course = (course 0 ≡ clock_of draft.Fresh) × (course 3 ≡ clock_of draft.Open) × IsCourse (pace_of moves_of three_events) 3 course

-- the readings of theirs: the draft's clock moves by one, then the gate's by two, then none
abbrev readings : ℕ → Reading
readings zero = clock_of draft.Fresh
readings (suc zero) = clock_of draft.Drafted
readings (suc (suc k)) = clock_of draft.Open

-- a draft moves the shared medium alone
draft_moves : MovesOnly 0 (clock_of draft.Fresh) (clock_of draft.Drafted)
draft_moves = record { later = omega arith; others = others }
  where
    others : (p : ℕ) → p < PARTS → p ≢ 0 → clock_of draft.Drafted p ≡ clock_of draft.Fresh p
    others zero part not = absurd (not refl)
    others (suc zero) part not = refl
    others (suc (suc p)) part not = refl

-- a commit moves the region with the gate alone
commit_moves : MovesOnly GATE (clock_of draft.Drafted) (clock_of draft.Open)
commit_moves = record { later = omega arith; others = others }
  where
    others : (p : ℕ) → p < PARTS → p ≢ GATE → clock_of draft.Open p ≡ clock_of draft.Drafted p
    others zero part not = refl
    others (suc zero) part not = absurd (not refl)
    others (suc (suc p)) part not = refl

none_moves : MovesOnly GATE (clock_of draft.Open) (clock_of draft.Open)
none_moves = record { later = omega arith; others = λ p part not. refl }

-- they are a course
readings_run : Runs readings
readings_run = (refl, refl, record { one_part = one; in_pace = paced })
  where
    one : (k : ℕ) → k < 3 → MovesOne (readings k) (readings (k + 1))
    one zero lt = record { part = 0; only = draft_moves }
    one (suc zero) lt = record { part = GATE; only = commit_moves }
    one (suc (suc zero)) lt = record { part = GATE; only = none_moves }
    one (suc (suc (suc k))) lt = absurd (omega (arith, lt))

    got : {A : Type 0} (x y : A) → Some x ≡ Some y → x ≡ y
    got x y e = grind (arith, e)

    paced : (k : ℕ) → k < 3 → pace_of moves_of three_events k (readings k) (readings (k + 1))
    paced zero lt e is = subst (λ x. moves_of x (readings 0) (readings 1)) (got event.Draft e is) draft_moves
    paced (suc zero) lt e is = subst (λ x. moves_of x (readings 1) (readings 2)) (got event.Commit e is) commit_moves
    paced (suc (suc zero)) lt e is = subst (λ x. moves_of x (readings 2) (readings 3)) (got event.Commit e is) none_moves
    paced (suc (suc (suc k))) lt e is = absurd (omega (arith, lt))

-- ---- what is left on them

-- a content with these bytes at the gate, and none elsewhere
abbrev pub with_gate : ℕ → WorldContent
with_gate b zero t = []
with_gate b (suc zero) Fast = b ∷ []
with_gate b (suc zero) t = []
with_gate b (suc (suc p)) t = []

-- during the commit, before its reply counts, a stop may leave an open gate, and also a shut one
open_during : LeftAt (left_of draft.Open) 3 readings 1 (with_gate 1)
open_during zero part = (1, omega arith, omega arith, tt)
open_during (suc zero) part = (1, omega arith, omega arith, inr refl)
open_during (suc (suc p)) part = (0, omega arith, omega arith, tt)

shut_during : LeftAt (left_of draft.Open) 3 readings 1 (with_gate 0)
shut_during zero part = (1, omega arith, omega arith, tt)
shut_during (suc zero) part = (1, omega arith, omega arith, inl refl)
shut_during (suc (suc p)) part = (0, omega arith, omega arith, tt)

-- during the draft the gate's clock stands: it leaves no open one
not_open_before : LeftAt (left_of draft.Open) 3 readings 0 (with_gate 1) → ⊥
not_open_before held = let is = held GATE (omega arith) in shut is.0 is.2 is.3
  where
    shut : (m : ℕ) → m ≤ 0 → gate_left m (1 ∷ []) → ⊥
    shut zero low left = absurd (grind (arith, left))
    shut (suc m) low left = absurd (omega (arith, low))

-- at the end of the commit, and behind all three, it leaves no shut one
not_shut_behind : LeftAt (left_of draft.Open) 3 readings 3 (with_gate 0) → ⊥
not_shut_behind held = let is = held GATE (omega arith) in fixed is.0 is.1 is.2 is.3
  where
    fixed : (m : ℕ) → 2 ≤ m → m ≤ 2 → gate_left m (0 ∷ []) → ⊥
    fixed zero low high left = absurd (omega (arith, low))
    fixed (suc zero) low high left = absurd (omega (arith, low))
    fixed (suc (suc zero)) low high left = absurd (grind (arith, left))
    fixed (suc (suc (suc m))) low high left = absurd (omega (arith, high))
