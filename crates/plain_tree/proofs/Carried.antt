-- What operations make of the nodes and the rows of a plain tree.
use Rattle.std.proofs.Common.{◌≡◌, ℕ, List, Option, None, Some, true, false, if◌then◌else◌, refl, sym, ap, ◌∙◌}
use Rattle.posix_calls.specs.Tree.{Node, Tree, Descriptors, with_own, State}
use Rattle.posix_calls.specs.Operations.{tree_after, own_after, held_after, state_after, reply_of}
use Rattle.posix_calls.specs.Kinds.{opens, is_query}
use Rattle.posix_calls.specs.Exact.{IsInRange}
use Rattle.posix_calls.proofs.Steps.{with_same}
use Rattle.plain_tree.specs.Plain.{stored_tree, held_of, state_in, with_opened, HasNumber, IsDone}
use Rattle.posix_calls.specs.declared.operation.Operation.{Operation}
use Rattle.posix_calls.specs.declared.operation.Operation.TheVariants.{Tell, NewDir, NewFile, OpenFile, CloseFile, Write, Resize, RemoveDir, AddName, DropName, Move, Exchange}
use Rattle.posix_calls.specs.declared.descriptor.Descriptor.{Descriptor}
use Rattle.posix_calls.specs.declared.call.Reply.{Reply}

pub same_state : (t u : Tree) (h k : Descriptors) → t ≡ u → h ≡ k → ◌≡◌ {A = State} (record { tree = t; descriptors = h }) (record { tree = u; descriptors = k })
same_state t u h k p q = λ i. record { tree = p i; descriptors = q i }

-- an operation by what it makes of the tree and the descriptors
pub carried : (nodes nodes' : List (Option Node)) (rows rows' : List (List (Option Descriptor))) (client new : ℕ) (operation : Operation) → held_of rows' ≡ held_after client new (held_of rows) operation
    → stored_tree nodes' ≡ tree_after (held_of rows') new (stored_tree nodes) operation → state_in nodes' rows' ≡ state_after client new (state_in nodes rows) operation
carried nodes nodes' rows rows' client new operation held tree =
    same_state _ _ _ _ (tree ∙ ap (λ (h : Descriptors). tree_after h new (stored_tree nodes) operation) held) held

-- an operation that leaves the descriptors
pub quiet : (nodes nodes' : List (Option Node)) (rows : List (List (Option Descriptor))) (client new : ℕ) (operation : Operation) → own_after new (held_of rows client) operation ≡ held_of rows client
    → stored_tree nodes' ≡ tree_after (held_of rows) new (stored_tree nodes) operation → state_in nodes' rows ≡ state_after client new (state_in nodes rows) operation
quiet nodes nodes' rows client new operation own tree =
    carried nodes nodes' rows rows client new operation (sym (ap (with_own (held_of rows) client) own ∙ with_same (held_of rows) client)) tree

pub unchanged : (nodes nodes' : List (Option Node)) (rows : List (List (Option Descriptor))) → stored_tree nodes' ≡ stored_tree nodes → state_in nodes' rows ≡ state_in nodes rows
unchanged nodes nodes' rows tree = same_state _ _ _ _ tree refl

-- the same, of what an operation is known to be
pub quiet_as : (nodes nodes' : List (Option Node)) (rows : List (List (Option Descriptor))) (client new : ℕ) (operation known : Operation) → operation ≡ known → own_after new (held_of rows client) known ≡ held_of rows client
    → stored_tree nodes' ≡ tree_after (held_of rows) new (stored_tree nodes) known → state_in nodes' rows ≡ state_after client new (state_in nodes rows) operation
quiet_as nodes nodes' rows client new operation known is own tree = quiet nodes nodes' rows client new known own tree ∙ ap (state_after client new (state_in nodes rows)) (sym is)

pub carried_as : (nodes nodes' : List (Option Node)) (rows rows' : List (List (Option Descriptor))) (client new : ℕ) (operation known : Operation) → operation ≡ known → held_of rows' ≡ held_after client new (held_of rows) known
    → stored_tree nodes' ≡ tree_after (held_of rows') new (stored_tree nodes) known → state_in nodes' rows' ≡ state_after client new (state_in nodes rows) operation
carried_as nodes nodes' rows rows' client new operation known is held tree = carried nodes nodes' rows rows' client new known held tree ∙ ap (state_after client new (state_in nodes rows)) (sym is)

-- an operation that only tells is done at once
pub told : (nodes : List (Option Node)) (rows : List (List (Option Descriptor))) (client : ℕ) (operation : Operation) (r : Reply) → is_query operation ≡ true → r ≡ reply_of operation → IsDone (state_in nodes rows) client operation r (state_in nodes rows)
told nodes rows client (Tell answer) r tells is = (0, λ e. absurd (cc), is, quiet nodes nodes rows client 0 (Tell answer) refl refl)
told nodes rows client (NewDir at) r tells is = absurd (cc)
told nodes rows client (NewFile at number reads writes) r tells is = absurd (cc)
told nodes rows client (OpenFile i empties number reads writes) r tells is = absurd (cc)
told nodes rows client (CloseFile i number) r tells is = absurd (cc)
told nodes rows client (Write i at bytes) r tells is = absurd (cc)
told nodes rows client (Resize i len) r tells is = absurd (cc)
told nodes rows client (RemoveDir at i) r tells is = absurd (cc)
told nodes rows client (AddName at i) r tells is = absurd (cc)
told nodes rows client (DropName at i) r tells is = absurd (cc)
told nodes rows client (Move from to i is_dir replaced) r tells is = absurd (cc)
told nodes rows client (Exchange first second i j) r tells is = absurd (cc)

-- what the reply of an operation says of it
pub tells_none : (operation : Operation) → (if is_query operation then None else Some (reply_of operation)) ≡ None → is_query operation ≡ true
tells_none operation e = elim (is_query operation) as (λ b. ◌≡◌ {A = Option Reply} (if b then None else Some (reply_of operation)) None → b ≡ true) [ true ↦ λ h. refl | false ↦ λ h. absurd (cc) ] e

pub tells_not : (operation : Operation) (r : Reply) → (if is_query operation then None else Some (reply_of operation)) ≡ Some r → is_query operation ≡ false
tells_not operation r e = elim (is_query operation) as (λ b. ◌≡◌ {A = Option Reply} (if b then None else Some (reply_of operation)) (Some r) → b ≡ false) [ true ↦ λ h. absurd (cc) | false ↦ λ h. refl ] e

pub tells_some : (operation : Operation) (r : Reply) → (if is_query operation then None else Some (reply_of operation)) ≡ Some r → r ≡ reply_of operation
tells_some operation r e = elim (is_query operation) as (λ b. ◌≡◌ {A = Option Reply} (if b then None else Some (reply_of operation)) (Some r) → r ≡ reply_of operation) [ true ↦ λ h. absurd (cc) | false ↦ λ h. let same : reply_of operation ≡ r = cc in sym same ] e

-- what an operation that closes nothing makes of the descriptors
pub opened_held : (held : Descriptors) (client new : ℕ) (operation : Operation) → ((i number : ℕ) → operation ≡ CloseFile i number → ⊥) → with_opened held client (opens new operation) ≡ held_after client new held operation
opened_held held client new (Tell answer) closes = sym (with_same held client)
opened_held held client new (NewDir at) closes = sym (with_same held client)
opened_held held client new (NewFile at number reads writes) closes = refl
opened_held held client new (OpenFile i empties number reads writes) closes = refl
opened_held held client new (CloseFile i number) closes = absurd (closes i number refl)
opened_held held client new (Write i at bytes) closes = sym (with_same held client)
opened_held held client new (Resize i len) closes = sym (with_same held client)
opened_held held client new (RemoveDir at i) closes = sym (with_same held client)
opened_held held client new (AddName at i) closes = sym (with_same held client)
opened_held held client new (DropName at i) closes = sym (with_same held client)
opened_held held client new (Move from to i is_dir replaced) closes = sym (with_same held client)
opened_held held client new (Exchange first second i j) closes = sym (with_same held client)

-- what is opened matters to no tree
pub opened_tree : (held : Descriptors) (client new : ℕ) (t : Tree) (operation : Operation) → tree_after held new t operation ≡ tree_after (with_opened held client (opens new operation)) new t operation
opened_tree held client new t (Tell answer) = refl
opened_tree held client new t (NewDir at) = refl
opened_tree held client new t (NewFile at number reads writes) = refl
opened_tree held client new t (OpenFile i empties number reads writes) = refl
opened_tree held client new t (CloseFile i number) = refl
opened_tree held client new t (Write i at bytes) = refl
opened_tree held client new t (Resize i len) = refl
opened_tree held client new t (RemoveDir at i) = refl
opened_tree held client new t (AddName at i) = refl
opened_tree held client new t (DropName at i) = refl
opened_tree held client new t (Move from to i is_dir replaced) = refl
opened_tree held client new t (Exchange first second i j) = refl

-- what an operation opens has a number
pub opened_low : (new : ℕ) (operation : Operation) → IsInRange operation → HasNumber (opens new operation)
opened_low new (Tell answer) range = tt
opened_low new (NewDir at) range = tt
opened_low new (NewFile at number reads writes) range = range
opened_low new (OpenFile i empties number reads writes) range = range
opened_low new (CloseFile i number) range = tt
opened_low new (Write i at bytes) range = tt
opened_low new (Resize i len) range = tt
opened_low new (RemoveDir at i) range = tt
opened_low new (AddName at i) range = tt
opened_low new (DropName at i) range = tt
opened_low new (Move from to i is_dir replaced) range = tt
opened_low new (Exchange first second i j) range = tt

-- an operation that closes nothing, by what it makes of the tree, and what it opens
pub carried_open : (nodes nodes' : List (Option Node)) (rows rows' : List (List (Option Descriptor))) (client new : ℕ) (operation : Operation) (opened : Option (ℕ × Descriptor)) → ((i number : ℕ) → operation ≡ CloseFile i number → ⊥) → opened ≡ opens new operation
    → stored_tree nodes' ≡ tree_after (held_of rows) new (stored_tree nodes) operation → held_of rows' ≡ with_opened (held_of rows) client opened → state_in nodes' rows' ≡ state_after client new (state_in nodes rows) operation
carried_open nodes nodes' rows rows' client new operation opened closes is tree held =
    let now : held_of rows' ≡ with_opened (held_of rows) client (opens new operation) = held ∙ ap (with_opened (held_of rows) client) is in
    carried nodes nodes' rows rows' client new operation (now ∙ opened_held (held_of rows) client new operation closes)
    (tree ∙ opened_tree (held_of rows) client new (stored_tree nodes) operation ∙ ap (λ (h : Descriptors). tree_after h new (stored_tree nodes) operation) (sym now))
