-- When an operation keeps the limits, and that the tree after it then does.
use Rattle.std.proofs.Common.{◌≡◌, ◌≢◌, ◌⊎◌, inl, inr, ℕ, ◌+◌, ◌<◌, ◌≤◌, length, refl, Some, None, Option, cond, ap, sym, ◌∙◌, subst, Bool, true, false, arith, ◌==◌, if◌then◌else◌}
use Rattle.std.specs.Prelude.{◌&&◌, not, option_map}
use Rattle.std.proofs.lemmas.Bool.Decides.{eqb_tells}
use Rattle.std.specs.FinMap as fin
use Rattle.posix_calls.specs.Name.{is_name}
use Rattle.posix_calls.specs.Tree.{Tree, Node, Descriptors, State, set_node, names_of, is_open, entries_of}
use Rattle.posix_calls.specs.Query.{dir_test}
use Rattle.posix_calls.specs.declared.operation.Location.{Location}
use Rattle.posix_calls.specs.declared.operation.Operation.{Operation}
use Rattle.posix_calls.specs.declared.operation.Replaced.{Replaced}
use Rattle.posix_calls.specs.declared.operation.Operation.TheVariants.{NewDir, NewFile, Write, Resize, AddName, Move}
use Rattle.posix_calls.specs.declared.operation.Replaced.TheVariants.{Nothing, OldFile, OldDir}
use Rattle.posix_calls.specs.Operations.{with_entry, without_entry, less_unused, less_replaced}
use Rattle.posix_calls.specs.WellFormed.{IsWellFormed, IsWithinLimits}
use Rattle.posix_calls.specs.declared.limits.TheConstants.{MAX_FILE}
use Rattle.posix_calls.proofs.Changes.{IsBare, IsRoom, entry, bare_file, bare_names, set_there, set_other, entered_names, left_names, off_one, bare_same}
use Rattle.posix_calls.proofs.Trees.{tree_of, range_of, parent_range}
use Rattle.posix_calls.proofs.Moved.{moved_names, dropped_fine, removed_fine}
use Rattle.posix_calls.proofs.Exchanged.{exchanged_tree, exchanged_names, mid_q}
use Rattle.posix_calls.proofs.Fits.{FitsReplaced, IsLess, less_none, less_if, bare_left, from_after, room_after}
use Rattle.posix_calls.proofs.Within.{AreNodesWithin, IsNodeWithin, none_within, set_within, left_within, entered_within, over_within, remove_length, removed_length}

-- a directory with room for one more name
pub record IsFew (t : Tree) (at : Location) : Type 0 where
  pub few : fin.len (entries_of (t at.parent)) < 3584
  pub valid : is_name at.name ≡ true

-- where a rename replaces nothing, the name stays in its directory, or there is room
abbrev pub HasRoom : Tree → Location → Location → Replaced → Type 0
HasRoom t from to Nothing = (from.parent ≡ to.parent) ⊎ (fin.len (entries_of (t to.parent)) < 3584)
HasRoom t from to (OldFile j) = Unit {0}
HasRoom t from to (OldDir j) = Unit {0}

-- an operation passes no limit
abbrev pub Able : Tree → Operation → Type 0
Able t (NewDir at) = IsFew t at
Able t (NewFile at number reads writes) = IsFew t at
Able t (Write i at bytes) = at + length bytes ≤ MAX_FILE
Able t (Resize i len) = len ≤ MAX_FILE
Able t (AddName at i) = IsFew t at × (names_of t i < 1000)
Able t (Move from to i is_dir replaced) = (is_name to.name ≡ true) × HasRoom t from to replaced
Able t _ = Unit {0}

-- a tree whose nodes keep the limits, and in which nothing has more names
pub record IsLesser (t u : Tree) : Type 0 where
  pub nodes : AreNodesWithin u
  pub names : (k : ℕ) → names_of u k ≤ names_of t k

pub nodes_of : (t : Tree) → IsWithinLimits t → AreNodesWithin t
nodes_of t within i = record { size = within.sizes i; entries = within.entries i; valid = within.valid i }

pub lesser_within : (t u : Tree) → IsWithinLimits t → IsLesser t u → IsWithinLimits u
lesser_within t u within less = record {
  sizes = λ i. (less.nodes i).size;
  entries = λ i. (less.nodes i).entries;
  names = λ i. let a = within.names i in let b = less.names i in omega (arith, a, b);
  valid = λ i. (less.nodes i).valid;
}

same_le : (a b : ℕ) → a ≡ b → a ≤ b
same_le a b e = omega (arith, e)

-- a node without entries is changed for another
pub lesser_set : (t : Tree) (i : ℕ) (x : Option Node) → AreNodesWithin t → IsBare (t i) → IsBare x → 1 ≤ i → i ≤ 1024 → IsNodeWithin x → IsLesser t (set_node t i x)
lesser_set t i x nodes bare new low high within = record { nodes = set_within t i x nodes within; names = λ k. same_le (names_of (set_node t i x) k) (names_of t k) (bare_names t i x bare new k) }

pub lesser_unused : (t : Tree) (held : Descriptors) (i : ℕ) → AreNodesWithin t → IsBare (t i) → 1 ≤ i → i ≤ 1024 → IsLesser t (less_unused held t i)
lesser_unused t held i nodes bare low high = if_unused (names_of t i == 0 && not (is_open held i)) where
  if_unused : (b : Bool) → IsLesser t (if b then set_node t i None else t)
  if_unused true = lesser_set t i None nodes bare refl low high none_within
  if_unused false = record { nodes = nodes; names = λ k. same_le (names_of t k) (names_of t k) refl }

-- a name goes
pub lesser_left : (s : State) (at : Location) (i : ℕ) → IsWellFormed s → AreNodesWithin s.tree → entry s.tree at ≡ Some i → IsLesser s.tree (without_entry s.tree at)
lesser_left s at i fine nodes is = record {
  nodes = left_within s.tree at nodes;
  names = λ k. let range = parent_range s.tree at i (tree_of s fine) is in let change = left_names s.tree at i is range.0 range.1 k in omega (arith, change);
}

pub lesser_both : (t u w : Tree) → IsLesser t u → IsLesser u w → IsLesser t w
lesser_both t u w first rest = record { nodes = rest.nodes; names = λ k. let a = first.names k in let b = rest.names k in omega (arith, a, b) }

-- ---- a node is made, or a file has one more name

at_most : (b : Bool) → cond b 1 0 ≤ 1
at_most true = omega arith
at_most false = omega arith

pub within_made : (s : State) (at : Location) (i : ℕ) (x : Node) → IsWellFormed s → IsWithinLimits s.tree → IsRoom s.tree at → IsFew s.tree at → s.tree i ≡ None → 1 < i → i ≤ 1024 → IsBare (Some x) → IsNodeWithin (Some x) → IsWithinLimits (with_entry (set_node s.tree i (Some x)) at i)
within_made s at i x fine within room few free low high new small =
    let t = s.tree in
    let made = set_node t i (Some x) in
    let bare : IsBare (t i) = ap entries_of free in
    let apart : at.parent ≢ i = λ same. let clash : None ≡ Some true = sym (ap (option_map dir_test) free) ∙ ap (λ k. option_map dir_test (t k)) (sym same) ∙ room.directory in cc in
    let range = range_of t at.parent true (tree_of s fine) room.directory in
    let nodes = entered_within made at i (set_within t i (Some x) (nodes_of t within) small) (subst (λ o. fin.len (entries_of o) < 3584) (sym (set_other t i at.parent (Some x) apart)) few.few) few.valid in
    record {
      sizes = λ j. (nodes j).size;
      entries = λ j. (nodes j).entries;
      names = λ k.
          let change = entered_names made at i (bare_same t i (Some x) bare new at ∙ room.none) range.0 range.1 k in
          let same = bare_names t i (Some x) bare new k in
          let had = within.names k in
          elim (eqb_tells k i) [
            | inl it ↦
                let none : names_of t k ≡ 0 = ap (names_of t) it.1 ∙ fine.entries i free in
                let one : cond (i == k) 1 0 ≤ 1 = at_most (i == k) in
                omega (arith, change, same, none, one)
            | inr off ↦ let zero_more = off_one i k off.1 in omega (arith, change, same, had, zero_more)
          ];
      valid = λ j. (nodes j).valid;
    }

pub within_added : (s : State) (at : Location) (i : ℕ) → IsWellFormed s → IsWithinLimits s.tree → IsRoom s.tree at → IsFew s.tree at → names_of s.tree i < 1000 → IsWithinLimits (with_entry s.tree at i)
within_added s at i fine within room few names =
    let t = s.tree in
    let range = range_of t at.parent true (tree_of s fine) room.directory in
    let nodes = entered_within t at i (nodes_of t within) few.few few.valid in
    record {
      sizes = λ j. (nodes j).size;
      entries = λ j. (nodes j).entries;
      names = λ k.
          let change = entered_names t at i room.none range.0 range.1 k in
          let had = within.names k in
          elim (eqb_tells k i) [
            | inl it ↦
                let now : names_of t k < 1000 = subst (λ j. names_of t j < 1000) (sym it.1) names in
                let one : cond (i == k) 1 0 ≤ 1 = at_most (i == k) in
                omega (arith, change, now, one)
            | inr off ↦ let zero_more = off_one i k off.1 in omega (arith, change, had, zero_more)
          ];
      valid = λ j. (nodes j).valid;
    }

-- ---- a name moves

left_len : (t : Tree) (at : Location) (d : ℕ) → fin.len (entries_of (without_entry t at d)) ≤ fin.len (entries_of (t d))
left_len t at d = elim (eqb_tells d at.parent) [
  | inl same ↦
      let less = remove_length (entries_of (t at.parent)) at.name in
      let now : fin.len (entries_of (without_entry t at d)) ≡ fin.len (fin.remove (entries_of (t at.parent)) at.name) = ap (λ o. fin.len (entries_of o)) (ap (without_entry t at) same.1 ∙ set_there t at.parent _) in
      let was : fin.len (entries_of (t d)) ≡ fin.len (entries_of (t at.parent)) = ap (λ k. fin.len (entries_of (t k))) same.1 in
      omega (arith, less, now, was)
  | inr off ↦ same_le (fin.len (entries_of (without_entry t at d))) (fin.len (entries_of (t d))) (ap (λ o. fin.len (entries_of o)) (set_other t at.parent d _ off.1))
]

-- a directory that has lost a name has room
left_few : (t : Tree) (at : Location) (i : ℕ) → AreNodesWithin t → entry t at ≡ Some i → fin.len (entries_of (without_entry t at at.parent)) < 3584
left_few t at i nodes is =
    let less = removed_length (entries_of (t at.parent)) at.name i 3584 is (nodes at.parent).entries in
    let now : fin.len (entries_of (without_entry t at at.parent)) ≡ fin.len (fin.remove (entries_of (t at.parent)) at.name) = ap (λ o. fin.len (entries_of o)) (set_there t at.parent _) in
    omega (arith, less, now)

within_moved : (s : State) (from to : Location) (i : ℕ) → IsWellFormed s → IsWithinLimits s.tree → entry s.tree from ≡ Some i → IsRoom s.tree to → fin.len (entries_of (without_entry s.tree from to.parent)) < 3584 → is_name to.name ≡ true → IsWithinLimits (with_entry (without_entry s.tree from) to i)
within_moved s from to i fine within is room few valid =
    lesser_within s.tree (with_entry (without_entry s.tree from) to i) within (record {
      nodes = entered_within (without_entry s.tree from) to i (left_within s.tree from (nodes_of s.tree within)) few valid;
      names = λ k. same_le (names_of (with_entry (without_entry s.tree from) to i) k) (names_of s.tree k) (moved_names s from to i fine is room k);
    })

room_for : (s : State) (from to : Location) (i : ℕ) → IsWithinLimits s.tree → entry s.tree from ≡ Some i → (from.parent ≡ to.parent) ⊎ (fin.len (entries_of (s.tree to.parent)) < 3584) → fin.len (entries_of (without_entry s.tree from to.parent)) < 3584
room_for s from to i within is (inl same) = subst (λ d. fin.len (entries_of (without_entry s.tree from d)) < 3584) same (left_few s.tree from i (nodes_of s.tree within) is)
room_for s from to i within is (inr few) = let less = left_len s.tree from to.parent in omega (arith, less, few)

-- where something was replaced, its name has made room
room_replaced : (t u : Tree) (from to : Location) (j k : ℕ) → AreNodesWithin t → entry t to ≡ Some j → IsLess (without_entry t to) u k → fin.len (entries_of (without_entry u from to.parent)) < 3584
room_replaced t u from to j k nodes is less =
    let few = left_few t to j nodes is in
    let same : fin.len (entries_of (u to.parent)) ≡ fin.len (entries_of (without_entry t to to.parent)) = ap fin.len (less.entries to.parent) in
    let fewer = left_len u from to.parent in
    omega (arith, few, same, fewer)

pub within_replaced : (s : State) (from to : Location) (i : ℕ) (replaced : Replaced) → IsWellFormed s → IsWithinLimits s.tree → entry s.tree from ≡ Some i → FitsReplaced s.tree to i replaced → is_name to.name ≡ true → HasRoom s.tree from to replaced
    → IsWithinLimits (with_entry (without_entry (less_replaced s.descriptors s.tree to replaced) from) to i)
within_replaced s from to i Nothing fine within is fits valid room = within_moved s from to i fine within is fits (room_for s from to i within is room) valid
within_replaced s from to i (OldFile j) fine within is fits valid room =
    let t = s.tree in
    let bare = bare_file (t j) fits.2 in
    let gone = bare_left t to j fits.1 bare in
    let range = range_of t j false (tree_of s fine) fits.2 in
    let u = less_unused s.descriptors (without_entry t to) j in
    let less = less_if (names_of (without_entry t to) j == 0 && not (is_open s.descriptors j)) (without_entry t to) j gone in
    let first = lesser_left s to j fine (nodes_of t within) fits.1 in
    let kept = lesser_within t u within (lesser_both t (without_entry t to) u first (lesser_unused (without_entry t to) s.descriptors j first.nodes gone range.0 range.1)) in
    within_moved (record { tree = u; descriptors = s.descriptors }) from to i (dropped_fine s to j fine fits.1 fits.2) kept
    (from_after s u from to i j is fits.0 fits.1 bare less) (room_after s u from to i j is fits.0 fits.1 bare less) (room_replaced t u from to j j (nodes_of t within) fits.1 less) valid
within_replaced s from to i (OldDir j) fine within is fits valid room =
    let t = s.tree in
    let bare = fits.3 in
    let gone = bare_left t to j fits.1 bare in
    let range = range_of t j true (tree_of s fine) fits.2 in
    let u = set_node (without_entry t to) j None in
    let less = less_none (without_entry t to) j gone in
    let first = lesser_left s to j fine (nodes_of t within) fits.1 in
    let kept = lesser_within t u within (lesser_both t (without_entry t to) u first (lesser_set (without_entry t to) j None first.nodes gone refl range.0 range.1 none_within)) in
    within_moved (record { tree = u; descriptors = s.descriptors }) from to i (removed_fine s to j fine fits.1 fits.2 fits.3) kept
    (from_after s u from to i j is fits.0 fits.1 bare less) (room_after s u from to i j is fits.0 fits.1 bare less) (room_replaced t u from to j j (nodes_of t within) fits.1 less) valid

-- ---- two names change what they lead to

pub within_exchanged : (s : State) (p q : Location) (i j : ℕ) → IsWellFormed s → IsWithinLimits s.tree → entry s.tree p ≡ Some i → entry s.tree q ≡ Some j → i ≢ j → IsWithinLimits (exchanged_tree s.tree p q i j)
within_exchanged s p q i j fine within is_p is_q apart =
    lesser_within s.tree (exchanged_tree s.tree p q i j) within (record {
      nodes = over_within (with_entry s.tree p j) q j i (over_within s.tree p i j (nodes_of s.tree within) is_p) (mid_q s p q i j fine is_p is_q apart);
      names = λ k. same_le (names_of (exchanged_tree s.tree p q i j) k) (names_of s.tree k) (exchanged_names s p q i j fine is_p is_q apart k);
    })
