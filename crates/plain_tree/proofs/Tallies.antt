-- How many names there are after a change, and that what is stored of them stays right.
use Rattle.std.proofs.Common.{◌≡◌, ◌≢◌, ℕ, ◌+◌, ◌<◌, ◌≤◌, List, [], ◌∷◌, ◌++◌, length, Option, Some, None, Result, Ok, Err, refl, sym, ap, subst, ◌∙◌, arith, inl, inr}
use Rattle.std.specs.Prelude.{OnOk, OnErr}
use Rattle.std.specs.declared.alloc.AllocError.{AllocError}
use Rattle.std.proofs.lemmas.Bool.{cases_lt}
use Rattle.std.proofs.lemmas.List.{get_or_past}
use Rattle.std.specs.FinMap as fin
use Rattle.posix_calls.specs.Tree.{Node, Tree, Dir, set_node, entries_of, names_in, names_of}
use Rattle.posix_calls.specs.WellFormed.{IsBare}
use Rattle.posix_calls.specs.Operations.{with_entry, without_entry}
use Rattle.plain_tree.specs.Plain.{stored_tree, count_at, one_for, at_location, IsBareReplaced, HasPlace, AreNameCounts, Replaces, AreExchangeable}
use Rattle.posix_calls.specs.declared.operation.Replaced.{Replaced}
use Rattle.posix_calls.specs.declared.operation.Replaced.TheVariants.{Nothing, OldFile, OldDir}
use Rattle.posix_calls.specs.Content.{Entries}
use Rattle.posix_calls.specs.declared.operation.Location.{Location}
use Rattle.posix_calls.specs.declared.limits.TheConstants.{MAX_INODE}
use Rattle.posix_calls.proofs.Sums.{names_of-set_node, all_zero}
use Rattle.posix_calls.proofs.Counts.{counted, counted_is, absent}
use Rattle.posix_calls.proofs.Changes.{in_node, bare_names, entered_names, left_names, left_here, on_one, set_other, set_there}
use Rattle.posix_calls.proofs.Exchanged.{over_keeps, over_names}
use Rattle.posix_calls.proofs.Within.{insert_length}
use Rattle.plain_tree.proofs.Slots.{pushed_at}
use Rattle.plain_tree.proofs.Moves.{renewed, off_parent}
use Rattle.plain_tree.proofs.Answering.{get_nothing}
use Rattle.std.proofs.lemmas.Bool.Decides.{eqb_tells}

-- ---- how many there are

less_none : (t : Tree) (at : Location) → HasPlace at.parent → at_location t at ≡ None → (k : ℕ) → names_of (without_entry t at) k + 0 ≡ names_of t k
less_none t at place none k =
    let change : names_of (without_entry t at) k + names_in k (t at.parent) ≡ names_of t k + counted k (fin.remove (entries_of (t at.parent)) at.name)
    = names_of-set_node t at.parent k (Some (Dir (fin.remove (entries_of (t at.parent)) at.name))) place.0 place.1 ∙ ap (λ n. names_of t k + n) (counted_is k (fin.remove (entries_of (t at.parent)) at.name)) in
    let before = in_node k (t at.parent) in
    let same : counted k (fin.remove (entries_of (t at.parent)) at.name) ≡ counted k (entries_of (t at.parent)) = ap (counted k) (absent (entries_of (t at.parent)) at.name none) in
    omega (arith, change, before, same)

-- the inode under a name that goes has one fewer
pub names_left : (t : Tree) (at : Location) → HasPlace at.parent → (k : ℕ) → names_of (without_entry t at) k + one_for (at_location t at) k ≡ names_of t k
names_left t at place k =
    elim (at_location t at) as (λ (o : Option ℕ). at_location t at ≡ o → names_of (without_entry t at) k + one_for o k ≡ names_of t k) [
      | None ↦ λ none. less_none t at place none k
      | Some i ↦ λ is. left_names t at i is place.0 place.1 k
    ] refl

pub named_most : (t : Tree) (at : Location) → HasPlace at.parent → (k : ℕ) → one_for (at_location t at) k ≤ names_of t k
named_most t at place k = let e = names_left t at place k in omega (arith, e)

-- a name that comes is one more, once what is there went
pub names_entered : (t : Tree) (at : Location) (i : ℕ) → HasPlace at.parent → (k : ℕ) → names_of (with_entry t at i) k ≡ names_of (without_entry t at) k + one_for (Some i) k
names_entered t at i place k = ap (λ (u : Tree). names_of u k) (sym (renewed t at i)) ∙ entered_names (without_entry t at) at i (left_here t at) place.0 place.1 k

-- two names that exchange what they lead to leave each inode its names
pub names_exchanged : (t : Tree) (p q : Location) (i j : ℕ) → HasPlace p.parent → HasPlace q.parent → i ≢ j → at_location t p ≡ Some i → at_location t q ≡ Some j → (k : ℕ) → names_of (with_entry (with_entry t p j) q i) k ≡ names_of t k
names_exchanged t p q i j at_p at_q apart is_p is_q k =
    let still = over_keeps t p i j is_p q j (λ same. apart (sym same)) is_q in
    let first = over_names t p i j is_p at_p.0 at_p.1 k in
    let second = over_names (with_entry t p j) q j i still at_q.0 at_q.1 k in
    omega (arith, first, second)

-- a name that comes makes a directory longer by one at most
pub entered_few : (t : Tree) (at : Location) (i d most : ℕ) → fin.len (entries_of (t d)) < most → fin.len (entries_of (with_entry t at i d)) ≤ most
entered_few t at i d most few =
    let new : Option Node = Some (Dir (fin.insert (entries_of (t at.parent)) at.name i)) in
    elim (eqb_tells d at.parent) [
      | inl same ↦
          let here : fin.len (entries_of (t at.parent)) < most = subst (λ (k : ℕ). fin.len (entries_of (t k)) < most) same.1 few in
          subst (λ (o : Option Node). fin.len (entries_of o) ≤ most) (sym (ap (with_entry t at i) same.1 ∙ set_there t at.parent new)) (insert_length (entries_of (t at.parent)) at.name i most here)
      | inr off ↦ subst (λ (o : Option Node). fin.len (entries_of o) ≤ most) (sym (set_other t at.parent d new off.1)) (omega (arith, few))
    ]

-- ---- what has no entries still has none

pub bare_entered : (t : Tree) (at : Location) (i j : ℕ) → j ≢ at.parent → IsBare (t j) → IsBare (with_entry t at i j)
bare_entered t at i j apart bare = ap entries_of (set_other t at.parent j (Some (Dir (fin.insert (entries_of (t at.parent)) at.name i))) apart) ∙ bare

pub bare_left : (t : Tree) (at : Location) (j : ℕ) → IsBare (t j) → IsBare (without_entry t at j)
bare_left t at j bare =
    elim (eqb_tells j at.parent) [
      | inl same ↦
          let m = entries_of (t at.parent) in
          let was : m ≡ fin.empty = ap (λ (k : ℕ). entries_of (t k)) (sym same.1) ∙ bare in
          ap (λ (k : ℕ). entries_of (without_entry t at k)) same.1
          ∙ ap entries_of (set_there t at.parent (Some (Dir (fin.remove m at.name))))
          ∙ absent m at.name (ap (λ (e : Entries ℕ). fin.get e at.name) was ∙ get_nothing at.name)
          ∙ was
      | inr off ↦ ap entries_of (set_other t at.parent j (Some (Dir (fin.remove (entries_of (t at.parent)) at.name))) off.1) ∙ bare
    ]

pub bare_put_out : (t : Tree) (to : Location) (i : ℕ) (replaced : Replaced) → Replaces t to i replaced → IsBareReplaced (with_entry t to i) replaced
bare_put_out t to i Nothing h = tt
bare_put_out t to i (OldFile j) h = bare_entered t to i j (off_parent t to j j h.1 h.2) h.2
bare_put_out t to i (OldDir j) h = bare_entered t to i j (off_parent t to j j h.1 h.2) h.2

-- ---- what is stored

abbrev Nodes : Type 0
Nodes = List (Option Node)

pub counted_none : AreNameCounts [] []
unfolding names_of
counted_none i = sym (all_zero MAX_INODE (λ d. names_in i (stored_tree [] d)) (λ d. nothing d))
  where
    nothing : (d : ℕ) → names_in i (stored_tree [] d) ≡ 0
    nothing d = ap (names_in i) (get_or_past [] d None (omega arith))

pub counted_same : (counts counts' : List ℕ) (old new : Nodes) → AreNameCounts counts old → count_at counts' ≡ count_at counts → stored_tree new ≡ stored_tree old → AreNameCounts counts' new
counted_same counts counts' old new was same tree i = ap (λ (f : ℕ → ℕ). f i) same ∙ was i ∙ sym (ap (λ (t : Tree). names_of t i) tree)

pub counted_set : (counts : List ℕ) (old new : Nodes) (i : ℕ) (x : Option Node) → AreNameCounts counts old → stored_tree new ≡ set_node (stored_tree old) i x → IsBare (stored_tree old i) → IsBare x → AreNameCounts counts new
counted_set counts old new i x was tree before after k =
    was k ∙ sym (ap (λ (t : Tree). names_of t k) tree ∙ bare_names (stored_tree old) i x before after k)

pub counted_if : {R : Type 0} (r : Result R AllocError) (counts : List ℕ) (old new : Nodes) (i : ℕ) (x : Option Node) → AreNameCounts counts old → IsBare (stored_tree old i) → IsBare x
    → OnOk r (stored_tree new ≡ set_node (stored_tree old) i x) → OnErr r (stored_tree new ≡ stored_tree old) → AreNameCounts counts new
counted_if (Ok a) counts old new i x was before after ok err = counted_set counts old new i x was ok before after
counted_if (Err e) counts old new i x was before after ok err = counted_same counts counts old new was refl err

pub counted_exchanged : {R : Type 0} (r : Result R AllocError) (counts : List ℕ) (old new : Nodes) (p q : Location) (i j : ℕ) → AreNameCounts counts old → HasPlace p.parent → HasPlace q.parent → AreExchangeable (stored_tree old) p q i j
    → OnOk r (stored_tree new ≡ with_entry (with_entry (stored_tree old) p j) q i) → OnErr r (stored_tree new ≡ stored_tree old) → AreNameCounts counts new
counted_exchanged (Ok a) counts old new p q i j was at_p at_q can ok err k =
    was k ∙ sym (ap (λ (t : Tree). names_of t k) ok ∙ names_exchanged (stored_tree old) p q i j at_p at_q can.0 can.1 can.2 k)
counted_exchanged (Err e) counts old new p q i j was at_p at_q can ok err k = counted_same counts counts old new was refl err k

-- what was stored, and the inode under a name
module _ (counts made : List ℕ) (old : Nodes) (at : Location) (o : Option ℕ) (was : AreNameCounts counts old) (same : count_at made ≡ count_at counts) (place : HasPlace at.parent) (is : o ≡ at_location (stored_tree old) at) where
  -- it has a name that can go
  pub can_go : (k : ℕ) → one_for o k ≤ count_at made k
  can_go k =
      let most = named_most (stored_tree old) at place k in
      let one : one_for o k ≡ one_for (at_location (stored_tree old) at) k = ap (λ (p : Option ℕ). one_for p k) is in
      let now : count_at made k ≡ count_at counts k = ap (λ (f : ℕ → ℕ). f k) same in
      let before = was k in
      omega (arith, most, one, now, before)

  module _ (between : List ℕ) (fewer : (k : ℕ) → count_at between k + one_for o k ≡ count_at made k) where
    pub few_then : (i most : ℕ) → names_of (stored_tree old) i ≤ most → count_at between i ≤ most
    few_then i most few =
        let now : count_at made i ≡ count_at counts i = ap (λ (f : ℕ → ℕ). f i) same in
        let less = fewer i in
        let before = was i in
        omega (arith, few, now, less, before)

    pub counted_left : (new : Nodes) → stored_tree new ≡ without_entry (stored_tree old) at → AreNameCounts between new
    counted_left new tree k =
        let all : names_of (stored_tree new) k ≡ names_of (without_entry (stored_tree old) at) k = ap (λ (t : Tree). names_of t k) tree in
        let less = names_left (stored_tree old) at place k in
        let one : one_for o k ≡ one_for (at_location (stored_tree old) at) k = ap (λ (p : Option ℕ). one_for p k) is in
        let now : count_at made k ≡ count_at counts k = ap (λ (f : ℕ → ℕ). f k) same in
        let before = was k in
        let stored = fewer k in
        omega (arith, all, less, one, now, before, stored)

    pub counted_entered : (after : List ℕ) (new : Nodes) (i : ℕ) → ((k : ℕ) → count_at after k ≡ count_at between k + one_for (Some i) k) → stored_tree new ≡ with_entry (stored_tree old) at i → AreNameCounts after new
    counted_entered after new i more tree k =
        let all : names_of (stored_tree new) k ≡ names_of (with_entry (stored_tree old) at i) k = ap (λ (t : Tree). names_of t k) tree in
        let come = names_entered (stored_tree old) at i place k in
        let less = names_left (stored_tree old) at place k in
        let one : one_for o k ≡ one_for (at_location (stored_tree old) at) k = ap (λ (p : Option ℕ). one_for p k) is in
        let now : count_at made k ≡ count_at counts k = ap (λ (f : ℕ → ℕ). f k) same in
        let before = was k in
        let stored = fewer k in
        let then_more = more k in
        omega (arith, all, come, less, one, now, before, stored, then_more)

-- ---- the counts in their list

-- no names at the end change nothing
pub counts_pushed : (counts : List ℕ) → count_at (counts ++ 0 ∷ []) ≡ count_at counts
counts_pushed counts = λ k i. pushed_at counts 0 i k

-- what has a name has its place
pub has_place : (counts : List ℕ) (o : Option ℕ) (i : ℕ) → o ≡ Some i → ((k : ℕ) → one_for o k ≤ count_at counts k) → i < length counts
has_place counts o i is most =
    elim (cases_lt i (length counts)) [
      | inl within ↦ within
      | inr past ↦
          let none : count_at counts i ≡ 0 = get_or_past counts i 0 past in
          let one : one_for o i ≡ 1 = ap (λ (p : Option ℕ). one_for p i) is ∙ on_one i in
          let few = most i in
          absurd (omega (arith, none, one, few))
    ]
