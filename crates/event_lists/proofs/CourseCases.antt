-- Small cases of parts, readings, unfinished calls and settled states, put to the definitions of courses and outcomes.
use Rattle.std.proofs.Common.{◌≡◌, ◌≢◌, ℕ, zero, suc, ◌+◌, ◌≤◌, ◌<◌, refl, ap, ◌∙◌, cond, List, [], ◌∷◌, arith}
use Rattle.std.specs.Prelude.{◌==◌, ◌||◌, nat_lt, Bool, true, false, Some, None}
use Rattle.std.proofs.lemmas.Option.{none-some}
use Rattle.posix_calls.specs.Tree.{Tree, Descriptors, State, names_of, is_open, any_up_to}
use Rattle.posix_calls.specs.Run.{Turn, Asked, Departs, Run}
use Rattle.posix_calls.specs.declared.call.Call.{Call}
use Rattle.posix_calls.specs.declared.call.Call.TheVariants as calls
use Rattle.posix_calls.specs.declared.call.Reply.{Reply}
use Rattle.posix_calls.specs.declared.call.Reply.TheVariants.{Done, Failed}
use Rattle.posix_calls.specs.declared.errno.Errno.TheVariants.{NoMemory}
use Rattle.event_lists.specs.Outcome.{AreSomeOf, IsOutcome, Unfinished}
use Rattle.event_lists.specs.Courses.{PARTS, MovesOne, MovesOnly, Reading, part_of}
use Rattle.event_lists.specs.GatedDraft.{one_call}

-- ---- parts

seventeen_parts : PARTS ≡ 17
seventeen_parts = refl

first_client_has_the_next_two : (part_of 1 0 ≡ 1) × (part_of 1 1 ≡ 2)
first_client_has_the_next_two = (refl, refl)

second_client_has_the_two_behind : (part_of 2 0 ≡ 3) × (part_of 2 1 ≡ 4)
second_client_has_the_two_behind = (refl, refl)

last_client_has_the_last_two : (part_of 8 0 ≡ 15) × (part_of 8 1 + 1 ≡ PARTS)
last_client_has_the_last_two = (refl, refl)

-- ---- readings

-- all clocks are at their beginning
abbrev at_first : Reading
at_first p = 0

-- the shared medium's clock went on by five
abbrev shared_at_five : Reading
shared_at_five zero = 5
shared_at_five (suc p) = 0

-- and so did that of a region
abbrev both_at_five : Reading
both_at_five zero = 5
both_at_five (suc zero) = 5
both_at_five (suc (suc p)) = 0

none_may_move : MovesOne shared_at_five shared_at_five
none_may_move = record { part = 4; only = record { later = omega arith; others = λ p part not. refl } }

one_may_move : MovesOne at_first shared_at_five
one_may_move = record { part = 0; only = record { later = omega arith; others = others } }
  where
    others : (p : ℕ) → p < PARTS → p ≢ 0 → shared_at_five p ≡ at_first p
    others zero part not = absurd (not refl)
    others (suc p) part not = refl

two_may_not_move : MovesOne at_first both_at_five → ⊥
two_may_not_move is = by_part is.part is.only
  where
    by_part : (part : ℕ) → MovesOnly part at_first both_at_five → ⊥
    by_part zero is = let same : 5 ≡ 0 = is.others 1 (omega arith) (λ e. absurd (omega (arith, e))) in absurd (omega (arith, same))
    by_part (suc part) is = let same : 5 ≡ 0 = is.others 0 (omega arith) (λ e. absurd (omega (arith, e))) in absurd (omega (arith, same))

no_clock_may_go_back : MovesOne shared_at_five at_first → ⊥
no_clock_may_go_back is = by_part is.part is.only
  where
    by_part : (part : ℕ) → MovesOnly part shared_at_five at_first → ⊥
    by_part zero is = let low : 5 ≤ 0 = is.later in absurd (omega (arith, low))
    by_part (suc part) is = let same : 0 ≡ 5 = is.others 0 (omega arith) (λ e. absurd (omega (arith, e))) in absurd (omega (arith, same))

-- ---- unfinished calls of two clients

abbrev other_call : Call
other_call = calls.Mkdir (47 ∷ 98 ∷ [])

-- client 1 makes /a, and client 2 makes /b
abbrev two_calls : Unfinished
two_calls zero = None
two_calls (suc zero) = Some one_call
two_calls (suc (suc zero)) = Some other_call
two_calls (suc (suc (suc c))) = None

abbrev turn_of : ℕ → Call → Reply → Turn
turn_of client call reply = Asked client call reply

neither_may_be_done : AreSomeOf two_calls []
neither_may_be_done = tt

first_may_be_done : AreSomeOf two_calls (turn_of 1 one_call Done ∷ [])
first_may_be_done = (refl, tt)

second_may_be_done : AreSomeOf two_calls (turn_of 2 other_call Done ∷ [])
second_may_be_done = (refl, tt)

both_may_be_done : AreSomeOf two_calls (turn_of 1 one_call Done ∷ turn_of 2 other_call Done ∷ [])
both_may_be_done = (refl, (refl, tt))

second_may_be_done_first : AreSomeOf two_calls (turn_of 2 other_call Done ∷ turn_of 1 one_call Done ∷ [])
second_may_be_done_first = (refl, (refl, tt))

any_reply_may_be_had : AreSomeOf two_calls (turn_of 1 one_call (Failed NoMemory) ∷ [])
any_reply_may_be_had = (refl, tt)

none_is_done_twice : AreSomeOf two_calls (turn_of 1 one_call Done ∷ turn_of 1 one_call Done ∷ []) → ⊥
none_is_done_twice some = none-some one_call some.1.0

no_other_client_has_done_any : AreSomeOf two_calls (turn_of 3 one_call Done ∷ []) → ⊥
no_other_client_has_done_any some = none-some one_call some.0

no_other_call_is_done : AreSomeOf two_calls (turn_of 1 other_call Done ∷ []) → ⊥
no_other_call_is_done some = absurd (grind (arith, some.0))

no_departure_is_added : AreSomeOf two_calls (Departs 1 ∷ []) → ⊥
no_departure_is_added some = some

no_departure_is_added_behind_a_call : AreSomeOf two_calls (turn_of 1 one_call Done ∷ Departs 1 ∷ []) → ⊥
no_departure_is_added_behind_a_call some = some.1

-- ---- a client departs

-- client 1 has file 5 open, and nobody else has anything open
abbrev one_has_it : Descriptors
one_has_it (suc zero) zero = Some (record { inode = 5; reads = true; writes = true })
one_has_it _ _ = None

-- client 2 has it open beside
abbrev two_have_it : Descriptors
two_have_it (suc (suc zero)) zero = Some (record { inode = 5; reads = true; writes = false })
two_have_it c n = one_has_it c n

-- a tree and what is open of it
abbrev with_open : Tree → Descriptors → State
with_open t held = record { tree = t; descriptors = held }

or_true : (b : Bool) → (b || true) ≡ true
or_true true = refl
or_true false = refl

nameless_file_goes_with_its_last_client : (t : Tree) (last : State) → names_of t 5 ≡ 0 → Run (with_open t one_has_it) (Departs 1 ∷ []) last → last.tree 5 ≡ None
unfolding is_open any_up_to
nameless_file_goes_with_its_last_client t last none run = ap (λ s. s.tree 5) (run.2 ∙ run.1) ∙ ap (λ n. cond (nat_lt 0 n || false) (t 5) None) none

nameless_file_of_another_stays : (t : Tree) (last : State) → Run (with_open t two_have_it) (Departs 1 ∷ []) last → last.tree 5 ≡ t 5
unfolding is_open any_up_to
nameless_file_of_another_stays t last run = ap (λ s. s.tree 5) (run.2 ∙ run.1) ∙ ap (λ b. cond b (t 5) None) (or_true (nat_lt 0 (names_of t 5)))

file_with_a_name_stays : (t : Tree) (last : State) → names_of t 5 ≡ 1 → Run (with_open t one_has_it) (Departs 1 ∷ []) last → last.tree 5 ≡ t 5
unfolding is_open any_up_to
file_with_a_name_stays t last one run = ap (λ s. s.tree 5) (run.2 ∙ run.1) ∙ ap (λ n. cond (nat_lt 0 n || false) (t 5) None) one

all_of_one_client_is_closed : (old last : State) → Run old (Departs 1 ∷ []) last → (number : ℕ) → last.descriptors 1 number ≡ None
all_of_one_client_is_closed old last run number = ap (λ s. s.descriptors 1 number) (run.2 ∙ run.1)

nothing_of_another_is_closed : (old last : State) → Run old (Departs 1 ∷ []) last → (number : ℕ) → last.descriptors 2 number ≡ old.descriptors 2 number
nothing_of_another_is_closed old last run number = ap (λ s. s.descriptors 2 number) (run.2 ∙ run.1)

-- ---- settled states

no_descriptor_is_left : (old left : State) (turns : List Turn) (unfinished : Unfinished) → IsOutcome old turns unfinished left → (client number : ℕ) → left.descriptors client number ≡ None
no_descriptor_is_left old left turns unfinished is client number = ap (λ s. s.descriptors client number) is.settled

-- a node but the root is left where it has a name, and only there
abbrev is_left : ℕ → ℕ → Bool
is_left i names = i == 1 || nat_lt 0 names

node_is_left_by_its_names : (old left : State) (turns : List Turn) (unfinished : Unfinished) (is : IsOutcome old turns unfinished left) (i : ℕ)
    → left.tree i ≡ cond (is_left i (names_of is.last.tree i)) (is.last.tree i) None
node_is_left_by_its_names old left turns unfinished is i = ap (λ s. s.tree i) is.settled

nameless_file_is_not_left : (old left : State) (turns : List Turn) (unfinished : Unfinished) (is : IsOutcome old turns unfinished left) → names_of is.last.tree 5 ≡ 0 → left.tree 5 ≡ None
nameless_file_is_not_left old left turns unfinished is none =
    node_is_left_by_its_names old left turns unfinished is 5 ∙ ap (λ n. cond (is_left 5 n) (is.last.tree 5) None) none

file_with_a_name_is_left : (old left : State) (turns : List Turn) (unfinished : Unfinished) (is : IsOutcome old turns unfinished left) → names_of is.last.tree 5 ≡ 1 → left.tree 5 ≡ is.last.tree 5
file_with_a_name_is_left old left turns unfinished is one =
    node_is_left_by_its_names old left turns unfinished is 5 ∙ ap (λ n. cond (is_left 5 n) (is.last.tree 5) None) one

root_is_left : (old left : State) (turns : List Turn) (unfinished : Unfinished) → (is : IsOutcome old turns unfinished left) → left.tree 1 ≡ is.last.tree 1
root_is_left old left turns unfinished is = node_is_left_by_its_names old left turns unfinished is 1
