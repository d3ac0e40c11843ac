-- What each change by an operation leaves of a well-formed state: names that come, go and move.
use Rattle.std.proofs.Common.{◌≡◌, ◌≢◌, inl, inr, ℕ, ◌+◌, ◌<◌, ◌≤◌, List, refl, Some, None, cond, ap, sym, ◌∙◌, subst, Bool, true, false, arith, ◌==◌}
use Rattle.std.specs.Prelude.{option_map, is_some}
use Rattle.posix_calls.specs.Tree.{Tree, Node, State, set_node, entries_of, names_of}
use Rattle.posix_calls.specs.Query.{dir_test}
use Rattle.posix_calls.specs.declared.operation.Location.{Location}
use Rattle.posix_calls.specs.Operations.{with_entry, without_entry, less_unused}
use Rattle.posix_calls.specs.WellFormed.{IsDirectory, IsFile, IsWellFormed}
use Rattle.posix_calls.proofs.Changes.{IsBare, IsRoom, entry, entry_parent, bare_entry, bare_file, bare_same, bare_names, set_there, set_other, entered_kind, entered_here, entered_keeps, entered_names, left_kind, left_none, left_keeps, left_names, off_one, on_one}
use Rattle.posix_calls.proofs.Reached.{Avoids, Chain, reached_beside, reached_moved, reached_new}
use Rattle.posix_calls.proofs.Trees.{tree_of, reached_of, range_of, parent_range, named_once, none_there, node_of, some_kind, tree_set, tree_entered, tree_left, well_formed}
use Rattle.posix_calls.proofs.Kept.{not_both, file_not_root, dirs_set, unused_fine}

-- what is named is not the root
pub named_not_root : (s : State) (at : Location) (i : ℕ) → IsWellFormed s → entry s.tree at ≡ Some i → i ≢ 1
named_not_root s at i fine is same =
    let one = named_once s.tree at i (tree_of s fine) is in
    let zero_names : names_of s.tree i ≡ 0 = ap (names_of s.tree) same ∙ fine.root_names in
    omega (arith, one, zero_names)

-- no other inode's names change where a name goes
left_names_other : (s : State) (at : Location) (i : ℕ) → IsWellFormed s → entry s.tree at ≡ Some i → (j : ℕ) → j ≢ i → names_of (without_entry s.tree at) j ≡ names_of s.tree j
left_names_other s at i fine is j off =
    let range = parent_range s.tree at i (tree_of s fine) is in
    let change = left_names s.tree at i is range.0 range.1 j in
    let none = off_one i j off in
    omega (arith, change, none)

-- ---- a file loses a name

pub dropped_fine : (s : State) (at : Location) (i : ℕ) → IsWellFormed s → entry s.tree at ≡ Some i → IsFile (s.tree i) → IsWellFormed (record { tree = less_unused s.descriptors (without_entry s.tree at) i; descriptors = s.descriptors })
dropped_fine s at i fine is file =
    let t = s.tree in
    let parent : IsDirectory (t at.parent) = entry_parent (t at.parent) at.name i is in
    let kinds = left_kind t at parent in
    unused_fine s (without_entry t at) s.descriptors i fine (file_not_root s i fine file)
    (tree_left t at (tree_of s fine) parent)
    (reached_beside t (without_entry t at) i (reached_of s fine) (bare_file (t i) file)
    (λ a c off e. (e.0, left_keeps t at i is (record { parent = a; name = e.0 }) c off e.1))
    (λ j dir. (sym (kinds j) ∙ dir, λ same. not_both (t i) file (ap (λ k. option_map dir_test (t k)) (sym same) ∙ sym (kinds j) ∙ dir))))
    (record { numbers = fine.numbers; opened = λ c n o there. kinds o.inode ∙ fine.opened c n o there })
    (record { kinds = λ j off. kinds j; names = left_names_other s at i fine is; opens = λ j off e. e })
    (kinds i ∙ file)

-- ---- an empty directory goes

pub removed_fine : (s : State) (at : Location) (i : ℕ) → IsWellFormed s → entry s.tree at ≡ Some i → IsDirectory (s.tree i) → IsBare (s.tree i) → IsWellFormed (record { tree = set_node (without_entry s.tree at) i None; descriptors = s.descriptors })
removed_fine s at i fine is dir bare =
    let t = s.tree in
    let tree = tree_of s fine in
    let parent : IsDirectory (t at.parent) = entry_parent (t at.parent) at.name i is in
    let kinds = left_kind t at parent in
    let other = named_not_root s at i fine is in
    let range = range_of t i true tree dir in
    let apart : i ≢ at.parent = λ same. bare_entry (t i) at.name i bare (ap (λ k. entry t (record { parent = k; name = at.name })) same ∙ is) in
    let bare_then : IsBare (without_entry t at i) = ap entries_of (set_other t at.parent i _ apart) ∙ bare in
    let names = λ (j : ℕ). bare_names (without_entry t at) i None bare_then refl j in
    let gone : set_node (without_entry t at) i None i ≡ None = set_there (without_entry t at) i None in
    well_formed s (set_node (without_entry t at) i None) s.descriptors i fine other
    (tree_set (without_entry t at) i None (tree_left t at tree parent) other range.0 range.1)
    (reached_beside t (set_node (without_entry t at) i None) i (reached_of s fine) bare
    (λ a c off e. (e.0, bare_same (without_entry t at) i None bare_then refl (record { parent = a; name = e.0 }) ∙ left_keeps t at i is (record { parent = a; name = e.0 }) c off e.1))
    (λ j now. let d = dirs_set (without_entry t at) i None (λ e. let clash : None ≡ Some true = e in cc) j now in (sym (kinds j) ∙ d.0, d.1)))
    (record {
      numbers = fine.numbers;
      opened = λ c n o there.
          let file = fine.opened c n o there in
          let off : o.inode ≢ i = λ same. not_both (t i) (ap (λ k. option_map dir_test (t k)) (sym same) ∙ file) dir in
          ap (option_map dir_test) (set_other (without_entry t at) i o.inode None off) ∙ kinds o.inode ∙ file;
    })
    (record {
      kinds = λ j off. ap (option_map dir_test) (set_other (without_entry t at) i j None off) ∙ kinds j;
      names = λ j off. names j ∙ left_names_other s at i fine is j off;
      opens = λ j off e. e;
    })
    (record {
      none = λ none.
          let place = parent_range t at i tree is in
          let change = left_names t at i is place.0 place.1 i in
          let one = on_one i in
          let had = fine.one_name i dir other in
          let same = names i in
          omega (arith, change, one, had, same);
      one_name = λ now. absurd (let clash : None ≡ Some true = sym (ap (option_map dir_test) gone) ∙ now in cc);
      used = λ now. absurd (let clash : None ≡ Some false = sym (ap (option_map dir_test) gone) ∙ now in cc);
    })

-- ---- a file has one more name

pub added_fine : (s : State) (at : Location) (i : ℕ) → IsWellFormed s → IsRoom s.tree at → IsFile (s.tree i) → IsWellFormed (record { tree = with_entry s.tree at i; descriptors = s.descriptors })
added_fine s at i fine room file =
    let t = s.tree in
    let tree = tree_of s fine in
    let kinds = entered_kind t at i room.directory in
    let range = range_of t at.parent true tree room.directory in
    let names = entered_names t at i room.none range.0 range.1 in
    well_formed s (with_entry t at i) s.descriptors i fine (file_not_root s i fine file)
    (tree_entered t at i tree room.directory)
    (reached_beside t (with_entry t at i) i (reached_of s fine) (bare_file (t i) file)
    (λ a c off e. (e.0, entered_keeps t at i room.none (record { parent = a; name = e.0 }) c e.1))
    (λ j dir. (sym (kinds j) ∙ dir, λ same. not_both (t i) file (ap (λ k. option_map dir_test (t k)) (sym same) ∙ sym (kinds j) ∙ dir))))
    (record { numbers = fine.numbers; opened = λ c n o there. kinds o.inode ∙ fine.opened c n o there })
    (record {
      kinds = λ j off. kinds j;
      names = λ j off. let change = names j in let none = off_one i j off in omega (arith, change, none);
      opens = λ j off e. e;
    })
    (record {
      none = λ none. absurd (let clash : None ≡ Some false = sym (ap (option_map dir_test) none) ∙ kinds i ∙ file in cc);
      one_name = λ dir. absurd (not_both (with_entry t at i i) (kinds i ∙ file) dir);
      used = λ now. inl (let change = names i in let one = on_one i in omega (arith, change, one));
    })

-- ---- a node is made

pub made_fine : (s : State) (at : Location) (i : ℕ) (x : Node) → IsWellFormed s → IsRoom s.tree at → s.tree i ≡ None → 1 < i → i ≤ 1024 → IsBare (Some x) → IsWellFormed (record { tree = with_entry (set_node s.tree i (Some x)) at i; descriptors = s.descriptors })
made_fine s at i x fine room free low high new =
    let t = s.tree in
    let tree = tree_of s fine in
    let bare : IsBare (t i) = ap entries_of free in
    let made = set_node t i (Some x) in
    let other : i ≢ 1 = λ e. omega (arith, e, low) in
    let no_file : (j : ℕ) (b : Bool) → option_map dir_test (t j) ≡ Some b → j ≢ i = λ j b is same. let clash : None ≡ Some b = sym (ap (option_map dir_test) free) ∙ ap (λ k. option_map dir_test (t k)) (sym same) ∙ is in cc in
    let apart : at.parent ≢ i = no_file at.parent true room.directory in
    let parent : IsDirectory (made at.parent) = ap (option_map dir_test) (set_other t i at.parent (Some x) apart) ∙ room.directory in
    let none : entry made at ≡ None = bare_same t i (Some x) bare new at ∙ room.none in
    let kinds = λ (j : ℕ) (off : j ≢ i). entered_kind made at i parent j ∙ ap (option_map dir_test) (set_other t i j (Some x) off) in
    let range = range_of t at.parent true tree room.directory in
    let names = λ (j : ℕ). entered_names made at i none range.0 range.1 j ∙ ap (λ n. n + cond (i == j) 1 0) (bare_names t i (Some x) bare new j) in
    let had = fine.entries i free in
    let one : names_of (with_entry made at i) i ≡ 1 = let change = names i in let there = on_one i in omega (arith, change, there, had) in
    well_formed s (with_entry made at i) s.descriptors i fine other
    (tree_entered made at i (tree_set t i (Some x) tree other (omega (arith, low)) high) parent)
    (reached_new t (with_entry made at i) i at.parent (reached_of s fine) room.directory
    (λ a c e. (e.0, entered_keeps made at i none (record { parent = a; name = e.0 }) c (bare_same t i (Some x) bare new (record { parent = a; name = e.0 }) ∙ e.1)))
    (λ j dir off. sym (kinds j off) ∙ dir)
    (at.name, entered_here made at i))
    (record { numbers = fine.numbers; opened = λ c n o there. let file = fine.opened c n o there in kinds o.inode (no_file o.inode false file) ∙ file })
    (record {
      kinds = kinds;
      names = λ j off. let change = names j in let none_more = off_one i j off in omega (arith, change, none_more);
      opens = λ j off e. e;
    })
    (record {
      none = λ gone. absurd (let clash : false ≡ true = sym (ap is_some gone) ∙ some_kind (with_entry made at i i) (dir_test x) (entered_kind made at i parent i ∙ ap (option_map dir_test) (set_there t i (Some x))) in cc);
      one_name = λ dir. one;
      used = λ file. inl (omega (arith, one));
    })

-- ---- a name moves

-- a way from the root that does not come by an inode
abbrev pub IsWay : Tree → ℕ → ℕ → Type 0
IsWay t i q = (qs : List ℕ) × Avoids i qs × Chain t 1 qs q

-- no names' number changes
pub moved_names : (s : State) (from to : Location) (i : ℕ) → IsWellFormed s → entry s.tree from ≡ Some i → IsRoom s.tree to → (k : ℕ) → names_of (with_entry (without_entry s.tree from) to i) k ≡ names_of s.tree k
moved_names s from to i fine is room k =
    let tree = tree_of s fine in
    let old_range = parent_range s.tree from i tree is in
    let range = range_of s.tree to.parent true tree room.directory in
    entered_names (without_entry s.tree from) to i (left_none s.tree from to room.none) range.0 range.1 k ∙ left_names s.tree from i is old_range.0 old_range.1 k

pub moved_fine : (s : State) (from to : Location) (i : ℕ) → IsWellFormed s → entry s.tree from ≡ Some i → IsRoom s.tree to → IsWay s.tree i to.parent → IsWellFormed (record { tree = with_entry (without_entry s.tree from) to i; descriptors = s.descriptors })
moved_fine s from to i fine is room way =
    let t = s.tree in
    let tree = tree_of s fine in
    let between = without_entry t from in
    let old_parent : IsDirectory (t from.parent) = entry_parent (t from.parent) from.name i is in
    let parent : IsDirectory (between to.parent) = left_kind t from old_parent to.parent ∙ room.directory in
    let none : entry between to ≡ None = left_none t from to room.none in
    let kinds = λ (j : ℕ). entered_kind between to i parent j ∙ left_kind t from old_parent j in
    let names = moved_names s from to i fine is room in
    well_formed s (with_entry between to i) s.descriptors i fine (named_not_root s from i fine is)
    (tree_entered between to i (tree_left t from tree old_parent) parent)
    (reached_moved t (with_entry between to i) i to.parent (reached_of s fine)
    (λ a c off e. (e.0, entered_keeps between to i none (record { parent = a; name = e.0 }) c (left_keeps t from i is (record { parent = a; name = e.0 }) c off e.1)))
    (λ j dir. sym (kinds j) ∙ dir)
    (to.name, entered_here between to i) way.0 way.1 way.2)
    (record { numbers = fine.numbers; opened = λ c n o there. kinds o.inode ∙ fine.opened c n o there })
    (record { kinds = λ j off. kinds j; names = λ j off. names j; opens = λ j off e. e })
    (record {
      none = λ gone. absurd (let clash : false ≡ true = sym (ap is_some (none_there (t i) (sym (kinds i) ∙ ap (option_map dir_test) gone))) ∙ node_of s from i fine is in cc);
      one_name = λ dir. names i ∙ fine.one_name i (sym (kinds i) ∙ dir) (named_not_root s from i fine is);
      used = λ file. elim (fine.used i (sym (kinds i) ∙ file)) [
        | inl named ↦ inl (subst (λ n. 0 < n) (sym (names i)) named)
        | inr at ↦ inr at
      ];
    })
