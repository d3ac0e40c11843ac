-- A draft and its gate: a small instance of what plays events.
use Rattle.std.specs.Prelude.{◌≡◌, ◌⊎◌, ℕ, zero, suc, ◌==◌, List, [], ◌∷◌, get_or, Some, None, if◌then◌else◌}
use Rattle.tier_device.specs.declared.media.Tier.TheVariants.{Fast}
use Rattle.posix_calls.specs.Tree.{State}
use Rattle.posix_calls.specs.EmptyTree.{empty_state}
use Rattle.posix_calls.specs.Run.{Turn, Asked, settled}
use Rattle.posix_calls.specs.Operations.{state_after}
use Rattle.posix_calls.specs.declared.call.Call.{Call}
use Rattle.posix_calls.specs.declared.call.Call.TheVariants as calls
use Rattle.posix_calls.specs.declared.call.Reply.TheVariants.{Done}
use Rattle.posix_calls.specs.declared.operation.Location.{Location}
use Rattle.posix_calls.specs.declared.operation.Operation.TheVariants.{NewDir}
use Rattle.event_lists.specs.Outcome.{Unfinished}
use Rattle.event_lists.specs.Courses.{LeftOf, MovesOnly, News, Reading, WorldContent, part_of, no_news}
use Rattle.event_lists.specs.declared.gated_draft.GatedDraft.{GatedDraft}
use Rattle.event_lists.specs.declared.gated_draft.GatedDraft.TheVariants as draft
use Rattle.event_lists.specs.declared.gated_draft.DraftEvent.{DraftEvent}
use Rattle.event_lists.specs.declared.gated_draft.DraftEvent.TheVariants as event
use Rattle.event_lists.specs.declared.gated_draft.DraftOutcome.{DraftOutcome}
use Rattle.event_lists.specs.declared.gated_draft.DraftOutcome.TheVariants as outcomes

-- the part with the gate
abbrev pub GATE : ℕ
GATE = part_of 1 0

-- the one call
abbrev pub one_call : Call
one_call = calls.Mkdir (47 ∷ 97 ∷ [])

-- the name `a` in the root
abbrev pub root_a : Location
root_a = record { parent = 1; name = 97 ∷ [] }

-- its turn
abbrev pub one_turn : Turn
one_turn = Asked 1 one_call Done

-- the state that it leads to
abbrev pub after_mkdir : State
after_mkdir = state_after 1 2 empty_state (NewDir root_a)

-- no call is started
abbrev pub nobody : Unfinished
nobody c = None

-- the call of client 1 is started
abbrev pub pending : Unfinished
pending c = if c == 1 then Some one_call else None

-- the tree has the directory from the opened gate on
abbrev pub tree_of : GatedDraft → State
tree_of draft.Fresh = empty_state
tree_of draft.Drafted = empty_state
tree_of draft.Torn = empty_state
tree_of draft.Open = after_mkdir
tree_of draft.Mended = after_mkdir

-- the call is started by the draft, and answered by the gate
abbrev pub calls_of : GatedDraft → Unfinished
calls_of draft.Fresh = nobody
calls_of draft.Drafted = pending
calls_of draft.Torn = pending
calls_of draft.Open = nobody
calls_of draft.Mended = nobody

-- how often the draft was written
abbrev pub draft_clock : GatedDraft → ℕ
draft_clock draft.Fresh = 0
draft_clock draft.Drafted = 1
draft_clock draft.Torn = 1
draft_clock draft.Open = 1
draft_clock draft.Mended = 1

-- the gate is written, fenced, spoiled, and mended
abbrev pub gate_clock : GatedDraft → ℕ
gate_clock draft.Fresh = 0
gate_clock draft.Drafted = 0
gate_clock draft.Torn = 1
gate_clock draft.Open = 2
gate_clock draft.Mended = 4

-- the clock of each part
abbrev pub clock_of : GatedDraft → Reading
clock_of it zero = draft_clock it
clock_of it (suc zero) = gate_clock it
clock_of it (suc (suc p)) = 0

-- what a stop may leave of the gate: it is 0, then torn, then 1, then torn again, then 1
abbrev pub gate_left : ℕ → List ℕ → Type 0
gate_left zero b = b ≡ 0 ∷ []
gate_left (suc zero) b = (b ≡ 0 ∷ []) ⊎ (b ≡ 1 ∷ [])
gate_left (suc (suc zero)) b = b ≡ 1 ∷ []
gate_left (suc (suc (suc zero))) b = (b ≡ 1 ∷ []) ⊎ (b ≡ 7 ∷ [])
gate_left (suc (suc (suc (suc m)))) b = b ≡ 1 ∷ []

-- of the other parts it may leave anything
abbrev pub left_of : GatedDraft → LeftOf
left_of it zero m c = Unit {0}
left_of it (suc zero) m c = gate_left m (c Fast)
left_of it (suc (suc p)) m c = Unit {0}

-- a recovery takes a gate that is shut or open
abbrev pub can_take : GatedDraft → WorldContent → Type 0
can_take it c = (c GATE Fast ≡ 0 ∷ []) ⊎ (c GATE Fast ≡ 1 ∷ [])

-- by an open gate the directory is stored
abbrev pub stored_by : GatedDraft → WorldContent → State
stored_by it c = if get_or (c GATE Fast) 0 0 == 1 then settled after_mkdir else settled empty_state

-- a draft starts the call, and a commit answers it
abbrev pub news_of : News DraftEvent DraftOutcome
news_of calls e outcomes.Idle = no_news calls
news_of calls event.Draft outcomes.Pending = no_news pending
news_of calls event.Draft outcomes.Done = no_news calls
news_of calls event.Commit outcomes.Pending = no_news calls
news_of calls event.Commit outcomes.Done = record { turns = one_turn ∷ []; calls = nobody }

-- a draft moves the shared medium, and a commit the region
abbrev pub moves_of : DraftEvent → Reading → Reading → Type 0
moves_of event.Draft old new = MovesOnly 0 old new
moves_of event.Commit old new = MovesOnly GATE old new

-- What is idle stays, a draft is put there once, and a commit comes once there is a draft. Which state an event leads to is left to the other clauses, so that a wrong one is refused by these.
abbrev pub makes_of : GatedDraft → DraftEvent → DraftOutcome → GatedDraft → Type 0
makes_of old e outcomes.Idle new = new ≡ old
makes_of old e outcomes.Pending new = (e ≡ event.Draft) × (old ≡ draft.Fresh)
makes_of old e outcomes.Done new = (e ≡ event.Commit) × (old ≡ draft.Drafted)
