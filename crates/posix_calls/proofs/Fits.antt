-- When an operation fits a state, and that the state after it is then well-formed.
use Rattle.std.proofs.Common.{◌≡◌, ◌≢◌, ℕ, ◌<◌, ◌≤◌, List, [], ◌∷◌, refl, Some, None, cond, ap, sym, ◌∙◌, subst, Bool, true, false, ◌==◌, if◌then◌else◌}
use Rattle.std.specs.Prelude.{option_map, ◌&&◌, not}
use Rattle.std.specs.FinMap as fin
use Rattle.posix_calls.specs.Content.{with_bytes, with_length}
use Rattle.posix_calls.specs.Tree.{Tree, File, Dir, with_own, Own, State, set_node, names_of, is_open, bytes_of, entries_of}
use Rattle.posix_calls.specs.declared.descriptor.Descriptor.{Descriptor}
use Rattle.posix_calls.specs.Query.{dir_test}
use Rattle.posix_calls.specs.declared.operation.Location.{Location}
use Rattle.posix_calls.specs.declared.operation.Operation.{Operation}
use Rattle.posix_calls.specs.declared.operation.Replaced.{Replaced}
use Rattle.posix_calls.specs.declared.operation.Operation.TheVariants.{Tell, NewDir, NewFile, OpenFile, CloseFile, Write, Resize, RemoveDir, AddName, DropName, Move, Exchange}
use Rattle.posix_calls.specs.declared.operation.Replaced.TheVariants.{Nothing, OldFile, OldDir}
use Rattle.posix_calls.specs.Operations.{with_entry, without_entry, less_unused, less_replaced, tree_after, makes, IsFree, state_after}
use Rattle.posix_calls.specs.WellFormed.{IsDirectory, IsFile, IsWellFormed}
use Rattle.posix_calls.proofs.Changes.{IsBare, IsRoom, entry, entry_parent, bare_entry, bare_file, bare_entries, set_there, set_other, entered_kind, left_kind, left_here, left_keeps}
use Rattle.posix_calls.proofs.Reached.{Avoids, Chain, nowhere, chain_moves}
use Rattle.posix_calls.proofs.Steps.{with_same}
use Rattle.posix_calls.proofs.Kept.{more_held, written_fine, opened_fine, closed_fine}
use Rattle.posix_calls.proofs.Exchanged.{exchanged_fine}
use Rattle.posix_calls.proofs.Moved.{IsWay, dropped_fine, removed_fine, added_fine, made_fine, moved_fine}

-- a number at which nothing is open
pub record IsNumber (own : Own) (number : ℕ) : Type 0 where
  pub few : number < 32
  pub free : own number ≡ None

-- what a rename puts out of its place has that name, and is another inode than the one that moves
abbrev pub FitsReplaced : Tree → Location → ℕ → Replaced → Type 0
FitsReplaced t to i Nothing = IsRoom t to
FitsReplaced t to i (OldFile j) = (i ≢ j) × (entry t to ≡ Some j) × IsFile (t j)
FitsReplaced t to i (OldDir j) = (i ≢ j) × (entry t to ≡ Some j) × IsDirectory (t j) × IsBare (t j)

-- an operation finds what it needs
abbrev pub Fits : Tree → Own → Operation → Type 0
Fits t own (Tell answer) = Unit {0}
Fits t own (NewDir at) = IsRoom t at
Fits t own (NewFile at number reads writes) = IsRoom t at × IsNumber own number
Fits t own (OpenFile i empties number reads writes) = IsFile (t i) × IsNumber own number
Fits t own (CloseFile i number) = (o : Descriptor) × (own number ≡ Some o) × (o.inode ≡ i)
Fits t own (Write i at bytes) = IsFile (t i)
Fits t own (Resize i len) = IsFile (t i)
Fits t own (RemoveDir at i) = (entry t at ≡ Some i) × IsDirectory (t i) × IsBare (t i)
Fits t own (AddName at i) = IsRoom t at × IsFile (t i)
Fits t own (DropName at i) = (entry t at ≡ Some i) × IsFile (t i)
Fits t own (Move from to i is_dir replaced) = (entry t from ≡ Some i) × FitsReplaced t to i replaced × IsWay t i to.parent
Fits t own (Exchange first second i j) = (i ≢ j) × (entry t first ≡ Some i) × (entry t second ≡ Some j) × IsWay t i second.parent × IsWay t j first.parent

-- ---- what a rename replaces

-- a tree that has lost no entry, and at most the node at j
pub record IsLess (t u : Tree) (j : ℕ) : Type 0 where
  pub entries : (d : ℕ) → entries_of (u d) ≡ entries_of (t d)
  pub kinds : (k : ℕ) → k ≢ j → option_map dir_test (u k) ≡ option_map dir_test (t k)

pub less_none : (t : Tree) (j : ℕ) → IsBare (t j) → IsLess t (set_node t j None) j
less_none t j bare = record { entries = bare_entries t j None bare refl; kinds = λ k off. ap (option_map dir_test) (set_other t j k None off) }

pub less_if : (b : Bool) (t : Tree) (j : ℕ) → IsBare (t j) → IsLess t (cond b (set_node t j None) t) j
less_if true t j bare = less_none t j bare
less_if false t j bare = record { entries = λ d. refl; kinds = λ k off. refl }

-- the way to a directory does not come by what has no entries
avoids_bare : (t : Tree) (j a : ℕ) (qs : List ℕ) (q : ℕ) → IsBare (t j) → q ≢ j → Chain t a qs q → Avoids j qs
avoids_bare t j a [] q bare other e = tt
avoids_bare t j a (c ∷ qs) q bare other e = (λ same. nowhere t j qs q bare other (subst (λ x. Chain t x qs q) same e.1), avoids_bare t j c qs q bare other e.1)

module _ (s : State) (u : Tree) (from to : Location) (i j : ℕ) (is : entry s.tree from ≡ Some i) (other : i ≢ j) (there : entry s.tree to ≡ Some j) (bare : IsBare (s.tree j)) (less : IsLess (without_entry s.tree to) u j) where
  parent : IsDirectory (s.tree to.parent)
  parent = entry_parent (s.tree to.parent) to.name j there

  pub parent_apart : to.parent ≢ j
  parent_apart same = bare_entry (s.tree j) to.name j bare (ap (λ k. entry s.tree (record { parent = k; name = to.name })) (sym same) ∙ there)

  same_entry : (x : Location) → entry u x ≡ entry (without_entry s.tree to) x
  same_entry x = ap (λ m. fin.get m x.name) (less.entries x.parent)

  -- then the moved name finds what it needs
  pub from_after : entry u from ≡ Some i
  from_after = same_entry from ∙ left_keeps s.tree to j there from i other is

  pub room_after : IsRoom u to
  room_after = record { directory = less.kinds to.parent parent_apart ∙ left_kind s.tree to parent to.parent ∙ parent; none = same_entry to ∙ left_here s.tree to }

  pub moved_after : IsWellFormed (record { tree = u; descriptors = s.descriptors }) → IsWay s.tree i to.parent → IsWellFormed (record { tree = with_entry (without_entry u from) to i; descriptors = s.descriptors })
  moved_after fine way = moved_fine (record { tree = u; descriptors = s.descriptors }) from to i fine from_after room_after
      (way.0, way.1, chain_moves s.tree u j (λ a c off e. (e.0, same_entry (record { parent = a; name = e.0 }) ∙ left_keeps s.tree to j there (record { parent = a; name = e.0 }) c off e.1)) 1 way.0 to.parent (avoids_bare s.tree j 1 way.0 to.parent bare parent_apart way.2) way.2)

pub bare_left : (t : Tree) (to : Location) (j : ℕ) → entry t to ≡ Some j → IsBare (t j) → IsBare (without_entry t to j)
bare_left t to j there bare = ap entries_of (set_other t to.parent j _ (λ same. bare_entry (t j) to.name j bare (ap (λ k. entry t (record { parent = k; name = to.name })) same ∙ there))) ∙ bare

replaced_fine : (s : State) (from to : Location) (i : ℕ) (replaced : Replaced) → IsWellFormed s → entry s.tree from ≡ Some i → FitsReplaced s.tree to i replaced → IsWay s.tree i to.parent
    → IsWellFormed (record { tree = with_entry (without_entry (less_replaced s.descriptors s.tree to replaced) from) to i; descriptors = s.descriptors })
replaced_fine s from to i Nothing fine is fits way = moved_fine s from to i fine is fits way
replaced_fine s from to i (OldFile j) fine is fits way =
    let bare = bare_file (s.tree j) fits.2 in
    let u = less_unused s.descriptors (without_entry s.tree to) j in
    let less = less_if (names_of (without_entry s.tree to) j == 0 && not (is_open s.descriptors j)) (without_entry s.tree to) j (bare_left s.tree to j fits.1 bare) in
    moved_after s u from to i j is fits.0 fits.1 bare less (dropped_fine s to j fine fits.1 fits.2) way
replaced_fine s from to i (OldDir j) fine is fits way =
    let less = less_none (without_entry s.tree to) j (bare_left s.tree to j fits.1 fits.3) in
    moved_after s (set_node (without_entry s.tree to) j None) from to i j is fits.0 fits.1 fits.3 less (removed_fine s to j fine fits.1 fits.2 fits.3) way

-- ---- every operation

-- where an operation leaves the descriptors, they are those that there were
kept_held : (s : State) (client new : ℕ) (operation : Operation) → IsWellFormed (record { tree = tree_after s.descriptors new s.tree operation; descriptors = s.descriptors })
    → IsWellFormed (record { tree = tree_after (with_own s.descriptors client (s.descriptors client)) new s.tree operation; descriptors = with_own s.descriptors client (s.descriptors client) })
kept_held s client new operation fine = subst (λ held. IsWellFormed (record { tree = tree_after held new s.tree operation; descriptors = held })) (sym (with_same s.descriptors client)) fine

opened_if : (s : State) (client number i : ℕ) (empties r w : Bool) → IsWellFormed s → IsFile (s.tree i) → 1 ≤ client → client ≤ 8 → IsNumber (s.descriptors client) number
    → IsWellFormed (record { tree = if empties then set_node s.tree i (Some (File [])) else s.tree; descriptors = more_held s.descriptors client number i r w })
opened_if s client number i true r w fine file low high num =
    opened_fine (record { tree = set_node s.tree i (Some (File [])); descriptors = s.descriptors }) client number i r w (written_fine s i [] fine file) (ap (option_map dir_test) (set_there s.tree i (Some (File [])))) low high num.few num.free
opened_if s client number i false r w fine file low high num = opened_fine s client number i r w fine file low high num.few num.free

-- the state after an operation that fits is well-formed
pub operation_fine : (s : State) (client new : ℕ) (operation : Operation) → IsWellFormed s → 1 ≤ client → client ≤ 8 → Fits s.tree (s.descriptors client) operation → (makes operation ≡ true → IsFree s.tree new) → IsWellFormed (state_after client new s operation)
operation_fine s client new (Tell answer) fine low high fits free = kept_held s client new (Tell answer) fine
operation_fine s client new (NewDir at) fine low high fits free =
    let f = free refl in
    kept_held s client new (NewDir at) (made_fine s at new (Dir fin.empty) fine fits f.none f.low f.high refl)
operation_fine s client new (NewFile at number r w) fine low high fits free =
    let f = free refl in
    let room = fits.0 in
    let made = set_node s.tree new (Some (File [])) in
    let apart : at.parent ≢ new = λ same. let clash : None ≡ Some true = sym (ap (option_map dir_test) f.none) ∙ ap (λ k. option_map dir_test (s.tree k)) (sym same) ∙ room.directory in cc in
    let parent : IsDirectory (made at.parent) = ap (option_map dir_test) (set_other s.tree new at.parent (Some (File [])) apart) ∙ room.directory in
    opened_fine (record { tree = with_entry made at new; descriptors = s.descriptors }) client number new r w
    (made_fine s at new (File []) fine room f.none f.low f.high refl)
    (entered_kind made at new parent new ∙ ap (option_map dir_test) (set_there s.tree new (Some (File []))))
    low high fits.1.few fits.1.free
operation_fine s client new (OpenFile i empties number r w) fine low high fits free = opened_if s client number i empties r w fine fits.0 low high fits.1
operation_fine s client new (CloseFile i number) fine low high fits free = closed_fine s client number i fits.0 fine fits.1 fits.2
operation_fine s client new (Write i at bytes) fine low high fits free = kept_held s client new (Write i at bytes) (written_fine s i (with_bytes at bytes (bytes_of (s.tree i))) fine fits)
operation_fine s client new (Resize i len) fine low high fits free = kept_held s client new (Resize i len) (written_fine s i (with_length len (bytes_of (s.tree i))) fine fits)
operation_fine s client new (RemoveDir at i) fine low high fits free = kept_held s client new (RemoveDir at i) (removed_fine s at i fine fits.0 fits.1 fits.2)
operation_fine s client new (AddName at i) fine low high fits free = kept_held s client new (AddName at i) (added_fine s at i fine fits.0 fits.1)
operation_fine s client new (DropName at i) fine low high fits free = kept_held s client new (DropName at i) (dropped_fine s at i fine fits.0 fits.1)
operation_fine s client new (Move from to i is_dir replaced) fine low high fits free = kept_held s client new (Move from to i is_dir replaced) (replaced_fine s from to i replaced fine fits.0 fits.1 fits.2)
operation_fine s client new (Exchange first second i j) fine low high fits free = kept_held s client new (Exchange first second i j) (exchanged_fine s first second i j fine fits.1 fits.2 fits.0 fits.3 fits.4)
