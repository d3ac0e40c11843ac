-- What a stop leaves of a draft and its gate is recovered.
use Rattle.std.proofs.Common.{◌≡◌, ℕ, zero, suc, ◌≤◌, ◌<◌, inl, inr, refl, ap, ◌∙◌, sym, subst, cond, [], ◌∷◌, get_or, arith}
use Rattle.std.specs.Prelude.{nat_le, ◌==◌, Ok}
use Rattle.std.specs.FinMap as fin
use Rattle.std.specs.Cmp.Lexicographic.{slice_cmp}
use Rattle.std.specs.Ordering.{nat_cmp}
use Rattle.tier_device.specs.declared.media.Tier.TheVariants.{Fast}
use Rattle.posix_calls.specs.Content.{Entries}
use Rattle.posix_calls.specs.Tree.{State}
use Rattle.posix_calls.specs.EmptyTree.{empty_state}
use Rattle.posix_calls.specs.Run.{settled}
use Rattle.posix_calls.specs.Query.{Gives, ◌>>=◌, run, view_of}
use Rattle.posix_calls.specs.Walk.{refuse, walk, is_there}
use Rattle.posix_calls.specs.Decide.{mkdir}
use Rattle.posix_calls.specs.Operations.{Follows, Step, answer}
use Rattle.posix_calls.specs.declared.errno.Errno.TheVariants as errno
use Rattle.posix_calls.specs.declared.call.Reply.TheVariants.{Done}
use Rattle.posix_calls.specs.declared.operation.Operation.TheVariants.{NewDir}
use Rattle.event_lists.specs.Outcome.{Unfinished, IsOutcome}
use Rattle.event_lists.specs.Courses.{PARTS, LeftBetween, MovesOne, Reading, WorldContent, no_news}
use Rattle.event_lists.specs.Plays.{Recovers, StopsNow}
use Rattle.event_lists.specs.declared.gated_draft.GatedDraft.{GatedDraft}
use Rattle.event_lists.specs.declared.gated_draft.GatedDraft.TheVariants as draft
use Rattle.event_lists.specs.declared.gated_draft.DraftEvent.{DraftEvent}
use Rattle.event_lists.specs.declared.gated_draft.DraftEvent.TheVariants as event
use Rattle.event_lists.specs.GatedDraft.{GATE, calls_of, clock_of, gate_clock, gate_left, left_of, after_mkdir, moves_of, one_call, one_turn, pending, root_a, stored_by, tree_of}
use Rattle.event_lists.specs.contracts.draft_lists.GatedDraftRecoverableDraftEventDraftOutcome.TheImpl.{ghosts}

-- ---- the one call

-- the entries of an empty directory
abbrev no_entries : Entries ℕ
no_entries = fin.empty

-- a client's `mkdir /a` in the empty tree
pub answer_is : answer empty_state 1 one_call ≡ Ok (NewDir root_a)
unfolding mkdir walk run ◌>>=◌
answer_is =
    let v = view_of empty_state.tree in
    ap (λ o. run v (refuse errno.Exists (is_there o) >>= (λ x. refuse errno.NoSpace (nat_le 3584 (fin.len no_entries)) >>= (λ y. Gives (NewDir root_a))))) (fin.get-empty (slice_cmp nat_cmp) (97 ∷ []))
    ∙ ap (λ n. run v (refuse errno.NoSpace (nat_le 3584 n) >>= (λ y. Gives (NewDir root_a)))) (fin.len-empty (slice_cmp nat_cmp) ℕ)

pub mkdir_step : Step empty_state 1 one_call Done after_mkdir
mkdir_step = inl (2, subst (λ a. Follows empty_state 1 2 a Done after_mkdir) (sym answer_is) ((λ is. record { low = omega arith; high = omega arith; none = refl }), refl, refl))

-- ---- what is stored

pub stored_shut : (it : GatedDraft) (c : WorldContent) → c GATE Fast ≡ 0 ∷ [] → stored_by it c ≡ settled empty_state
stored_shut it c e = ap (λ b. cond (get_or b 0 0 == 1) (settled after_mkdir) (settled empty_state)) e

stored_open : (it : GatedDraft) (c : WorldContent) → c GATE Fast ≡ 1 ∷ [] → stored_by it c ≡ settled after_mkdir
stored_open it c e = ap (λ b. cond (get_or b 0 0 == 1) (settled after_mkdir) (settled empty_state)) e

-- none of the calls was done
without : (old t : State) (calls : Unfinished) → t ≡ settled old → IsOutcome old [] calls t
without old t calls e = record { more = []; last = old; some_of = tt; run = refl; settled = e }

-- the call was done, and not answered
with_call : (t : State) → t ≡ settled after_mkdir → IsOutcome empty_state [] pending t
with_call t e = record { more = one_turn ∷ []; last = after_mkdir; some_of = (refl, tt); run = (after_mkdir, mkdir_step, refl); settled = e }

shut : (it : GatedDraft) (c : WorldContent) → tree_of it ≡ empty_state → c GATE Fast ≡ 0 ∷ [] → Recovers ghosts it (no_news (calls_of it)) c
shut it c tree e = record { can = inl e; outcome = subst (λ old. IsOutcome old [] (calls_of it) (stored_by it c)) (sym tree) (without empty_state (stored_by it c) (calls_of it) (stored_shut it c e)) }

open_early : (it : GatedDraft) (c : WorldContent) → tree_of it ≡ empty_state → calls_of it ≡ pending → c GATE Fast ≡ 1 ∷ [] → Recovers ghosts it (no_news (calls_of it)) c
open_early it c tree calls e = record { can = inr e; outcome = subst (λ old. IsOutcome old [] (calls_of it) (stored_by it c)) (sym tree) (subst (λ calls'. IsOutcome empty_state [] calls' (stored_by it c)) (sym calls) (with_call (stored_by it c) (stored_open it c e))) }

open_late : (it : GatedDraft) (c : WorldContent) → tree_of it ≡ after_mkdir → c GATE Fast ≡ 1 ∷ [] → Recovers ghosts it (no_news (calls_of it)) c
open_late it c tree e = record { can = inr e; outcome = subst (λ old. IsOutcome old [] (calls_of it) (stored_by it c)) (sym tree) (without after_mkdir (stored_by it c) (calls_of it) (stored_open it c e)) }

-- ---- what a stop leaves

-- by a gate that was not past its first fence, and a tree without the directory
early_gate : (it : GatedDraft) (c : WorldContent) (m : ℕ) → m ≤ 2 → tree_of it ≡ empty_state → calls_of it ≡ pending → gate_left m (c GATE Fast) → Recovers ghosts it (no_news (calls_of it)) c
early_gate it c zero le tree calls held = shut it c tree held
early_gate it c (suc zero) le tree calls (inl held) = shut it c tree held
early_gate it c (suc zero) le tree calls (inr held) = open_early it c tree calls held
early_gate it c (suc (suc zero)) le tree calls held = open_early it c tree calls held
early_gate it c (suc (suc (suc m))) le tree calls held = absurd (omega (arith, le))

pub is_part : GATE < PARTS
is_part = omega arith

between : (a b m : ℕ) → a ≤ m → m ≤ b → b ≡ a → m ≡ a
between a b m low high same = omega (arith, low, high, same)

-- the gate's moment, where its clock stands
gate_now : (it : GatedDraft) (c : WorldContent) → LeftBetween (left_of it) (clock_of it) (clock_of it) c → gate_left (gate_clock it) (c GATE Fast)
gate_now it c held = let is = held GATE is_part in subst (λ m. gate_left m (c GATE Fast)) (between (gate_clock it) (gate_clock it) is.0 is.1 is.2 refl) is.3

pub now_stops : (it : GatedDraft) (c : WorldContent) → LeftBetween (left_of it) (clock_of it) (clock_of it) c → StopsNow ghosts it c
now_stops draft.Fresh c held = shut draft.Fresh c refl (gate_now draft.Fresh c held)
now_stops draft.Drafted c held = shut draft.Drafted c refl (gate_now draft.Drafted c held)
now_stops draft.Torn c held = early_gate draft.Torn c 1 (omega arith) refl refl (gate_now draft.Torn c held)
now_stops draft.Open c held = open_late draft.Open c refl (gate_now draft.Open c held)
now_stops draft.Mended c held = open_late draft.Mended c refl (gate_now draft.Mended c held)

-- while the draft is written the gate is shut
pub draft_stops : (c : WorldContent) → LeftBetween (left_of draft.Drafted) (clock_of draft.Fresh) (clock_of draft.Drafted) c → StopsNow ghosts draft.Fresh c
draft_stops c held = let is = held GATE is_part in shut draft.Fresh c refl (subst (λ m. gate_left m (c GATE Fast)) (between 0 0 is.0 is.1 is.2 refl) is.3)

-- while the gate is written and fenced it is shut or open
pub commit_stops : (c : WorldContent) → LeftBetween (left_of draft.Open) (clock_of draft.Drafted) (clock_of draft.Open) c → StopsNow ghosts draft.Drafted c
commit_stops c held = let is = held GATE is_part in early_gate draft.Drafted c is.0 is.2 refl refl is.3

-- ---- where nothing moves

pub none_moves : (e : DraftEvent) (now : Reading) → moves_of e now now
none_moves event.Draft now = record { later = omega arith; others = λ p part not. refl }
none_moves event.Commit now = record { later = omega arith; others = λ p part not. refl }

pub moves_none : (now : Reading) → MovesOne now now
moves_none now = record { part = 0; only = record { later = omega arith; others = λ p part not. refl } }
