-- An operation over a sound graph leaves each directory reached, so the graph that its effects make is sound.
use Rattle.std.proofs.Common.{◌≡◌, ◌≢◌, ℕ, ◌≤◌, List, [], refl, Some, None, ap, sym, ◌∙◌, subst, true, false, ◌==◌, if◌then◌else◌}
use Rattle.std.specs.Prelude.{option_map, ◌&&◌, not}
use Rattle.posix_calls.specs.Content.{with_bytes, with_length}
use Rattle.posix_calls.specs.Tree.{Tree, Descriptors, set_node, bytes_of, names_of, is_open}
use Rattle.posix_calls.specs.Query.{dir_test}
use Rattle.posix_calls.specs.WellFormed.{IsDirectory, IsFile, IsWellFormed}
use Rattle.posix_calls.specs.declared.operation.Location.{Location}
use Rattle.posix_calls.specs.declared.operation.Operation.{Operation}
use Rattle.posix_calls.specs.declared.operation.Operation.TheVariants.{Tell, NewDir, NewFile, OpenFile, CloseFile, Write, Resize, RemoveDir, AddName, DropName, Move, Exchange}
use Rattle.posix_calls.specs.declared.operation.Replaced.TheVariants.{Nothing, OldFile, OldDir}
use Rattle.posix_calls.specs.Operations.{with_entry, without_entry, less_unused, tree_after, makes, held_after, state_after}
use Rattle.posix_calls.proofs.Changes.{entry, IsBare, bare_file, bare_same, set_other, left_kind, left_here, left_none, left_keeps}
use Rattle.posix_calls.proofs.Exchanged.{exchanged_fine}
use Rattle.posix_calls.proofs.Reached as way
use Rattle.posix_calls.proofs.Trees.{reached_of}
use Rattle.log_record.specs.file_graph.Graph.{Graph}
use Rattle.log_record.specs.file_graph.declared.effect.Kind.TheVariants as kind
use Rattle.call_effects.specs.Effects.{kind_if}
use Rattle.call_effects.specs.Wholes.{IsSound, tree_of, reachable_graph, state_of}
use Rattle.call_effects.specs.Fits.{IsNew, OperationFits}
use Rattle.call_effects.proofs.Changes.{fair_of, sound_fair}
use Rattle.call_effects.proofs.Held.{done, graph_after}
use Rattle.call_effects.proofs.Reached.{t, is_file, bare_used, bare_empty, room_parent, room_none, entry_parent, entry_there, none_new, reached_kept, reached_whole}
use Rattle.call_effects.proofs.Ways.{chains, paths, reached_file, reached_unused, reached_entered, reached_left, reached_removed, reached_made, reached_new_file, reached_shifted, parent_off, bare_left, removed_edge, clear_of, clear_beside, Clear}
use Rattle.call_effects.proofs.WellFormed.{well_formed}

-- ---- a name moves

-- the tree without what was at the new name, as the move finds it
record IsReady (t : Tree) (from to : Location) (i : ℕ) : Type 0 where
  reached : way.AreReached t
  from_dir : IsDirectory (t from.parent)
  there : entry t from ≡ Some i
  to_dir : IsDirectory (t to.parent)
  none : entry t to ≡ None
  clear : Clear t i to.parent

moved : (t : Tree) (from to : Location) (i : ℕ) → IsReady t from to i → way.AreReached (with_entry (without_entry t from) to i)
moved t from to i ready = reached_shifted t from to i ready.from_dir ready.there ready.to_dir (left_none t from to ready.none) ready.clear ready.reached

-- without a directory that is replaced
ready_removed : (t : Tree) (from to : Location) (i j : ℕ) → i ≢ j → IsDirectory (t from.parent) → entry t from ≡ Some i → IsDirectory (t to.parent) → entry t to ≡ Some j → IsBare (t j) → Clear t i to.parent → way.AreReached t → IsReady (set_node (without_entry t to) j None) from to i
ready_removed t from to i j other from_dir there to_dir old bare clear reached =
    let u = without_entry t to in
    let v = set_node u j None in
    let bare_u = bare_left t to j old bare in
    let to_off = parent_off t to j j old bare in
    let from_off = parent_off t from i j there bare in
    record {
      reached = reached_removed t to j to_dir old bare reached;
      from_dir = ap (option_map dir_test) (set_other u j from.parent None from_off) ∙ left_kind t to to_dir from.parent ∙ from_dir;
      there = bare_same u j None bare_u refl from ∙ left_keeps t to j old from i other there;
      to_dir = ap (option_map dir_test) (set_other u j to.parent None to_off) ∙ left_kind t to to_dir to.parent ∙ to_dir;
      none = bare_same u j None bare_u refl to ∙ left_here t to;
      clear = clear_beside t v i j to.parent bare to_off (removed_edge t to j old bare) clear;
    }

-- without the name of a file that is replaced
ready_left : (t : Tree) (from to : Location) (i j : ℕ) → i ≢ j → IsDirectory (t from.parent) → entry t from ≡ Some i → IsDirectory (t to.parent) → entry t to ≡ Some j → IsFile (t j) → Clear t i to.parent → way.AreReached t → IsReady (without_entry t to) from to i
ready_left t from to i j other from_dir there to_dir old file clear reached =
    let bare = bare_file (t j) file in
    record {
      reached = reached_left t to j to_dir old file reached;
      from_dir = left_kind t to to_dir from.parent ∙ from_dir;
      there = left_keeps t to j old from i other there;
      to_dir = left_kind t to to_dir to.parent ∙ to_dir;
      none = left_here t to;
      clear = clear_beside t (without_entry t to) i j to.parent bare (parent_off t to j j old bare) (λ a c off e. (e.0, left_keeps t to j old (record { parent = a; name = e.0 }) c off e.1)) clear;
    }

ready_unused : (held : Descriptors) (t : Tree) (from to : Location) (i j : ℕ) → i ≢ j → IsDirectory (t from.parent) → entry t from ≡ Some i → IsDirectory (t to.parent) → entry t to ≡ Some j → IsFile (t j) → Clear t i to.parent → way.AreReached t → IsReady (less_unused held (without_entry t to) j) from to i
ready_unused held t from to i j other from_dir there to_dir old file clear reached =
    elim (names_of (without_entry t to) j == 0 && not (is_open held j)) as (λ b. IsReady (if b then set_node (without_entry t to) j None else without_entry t to) from to i) [
      | true ↦ ready_removed t from to i j other from_dir there to_dir old (bare_file (t j) file) clear reached
      | false ↦ ready_left t from to i j other from_dir there to_dir old file clear reached
    ]

-- ---- every operation

reached_after : (g : Graph) (d e : Descriptors) (client new : ℕ) (operation : Operation) → IsWellFormed (state_of g d) → (makes operation ≡ true → IsNew g new) → OperationFits g d (d client) operation → way.AreReached (tree_of (reachable_graph g d)) → way.AreReached (tree_after e new (tree_of (reachable_graph g d)) operation)
reached_after g d e client new (Tell answer) fine free fits reached = reached
reached_after g d e client new (NewDir at) fine free room reached = reached_made (t g d) at new (none_new g d new (free refl)) (room_parent g d at room) (room_none g d at room) reached
reached_after g d e client new (NewFile at number r w) fine free (room, num) reached = reached_new_file (t g d) at new (none_new g d new (free refl)) (room_parent g d at room) (room_none g d at room) reached
reached_after g d e client new (OpenFile i true number r w) fine free (f, num) reached = reached_file (t g d) i [] (bare_used g d i f) reached
reached_after g d e client new (OpenFile i false number r w) fine free fits reached = reached
reached_after g d e client new (CloseFile i number) fine free (f, h) reached = reached_unused e (t g d) i (bare_used g d i f) reached
reached_after g d e client new (Write i at bytes) fine free f reached = reached_file (t g d) i (with_bytes at bytes (bytes_of (t g d i))) (bare_used g d i f) reached
reached_after g d e client new (Resize i len) fine free f reached = reached_file (t g d) i (with_length len (bytes_of (t g d i))) (bare_used g d i f) reached
reached_after g d e client new (RemoveDir at i) fine free (entry, f) reached = reached_removed (t g d) at i (entry_parent g d at (i, kind.Directory) entry) (entry_there g d at (i, kind.Directory) entry) (bare_empty g d i f) reached
reached_after g d e client new (AddName at i) fine free (room, f) reached = reached_entered (t g d) at i (room_parent g d at room) (room_none g d at room) reached
reached_after g d e client new (DropName at i) fine free (entry, f) reached =
    let there = entry_there g d at (i, kind.File) entry in
    reached_unused e (without_entry (t g d) at) i (bare_left (t g d) at i there (bare_used g d i f)) (reached_left (t g d) at i (entry_parent g d at (i, kind.File) entry) there (is_file g d i f) reached)
reached_after g d e client new (Move from to i b Nothing) fine free (entry, clear, room) reached =
    moved (t g d) from to i (record {
      reached = reached;
      from_dir = entry_parent g d from (i, kind_if b) entry;
      there = entry_there g d from (i, kind_if b) entry;
      to_dir = room_parent g d to room;
      none = room_none g d to room;
      clear = clear_of (t g d) i to.parent clear;
    })
reached_after g d e client new (Move from to i b (OldFile j)) fine free (entry, clear, old) reached =
    moved (less_unused e (without_entry (t g d) to) j) from to i
    (ready_unused e (t g d) from to i j old.0 (entry_parent g d from (i, kind_if b) entry) (entry_there g d from (i, kind_if b) entry) (entry_parent g d to (j, kind.File) old.1) (entry_there g d to (j, kind.File) old.1) (is_file g d j old.2) (clear_of (t g d) i to.parent clear) reached)
reached_after g d e client new (Move from to i b (OldDir j)) fine free (entry, clear, old) reached =
    moved (set_node (without_entry (t g d) to) j None) from to i
    (ready_removed (t g d) from to i j old.0 (entry_parent g d from (i, kind_if b) entry) (entry_there g d from (i, kind_if b) entry) (entry_parent g d to (j, kind.Directory) old.1) (entry_there g d to (j, kind.Directory) old.1) (bare_empty g d j old.2) (clear_of (t g d) i to.parent clear) reached)
reached_after g d e client new (Exchange first second i j) fine free fits reached =
    let is_first = entry_there g d first (i, fits.one) fits.first_is in
    let is_second = entry_there g d second (j, fits.two) fits.second_is in
    let whole = exchanged_fine (state_of g d) first second i j fine is_first is_second fits.apart (clear_of (t g d) i second.parent fits.clear_second) (clear_of (t g d) j first.parent fits.clear_first) in
    reached_of (record { tree = with_entry (with_entry (t g d) first j) second i; descriptors = d }) whole

pub sound_after : (g : Graph) (d : Descriptors) (client new : ℕ) (operation : Operation) → 1 ≤ client → client ≤ 8 → IsSound g d → (makes operation ≡ true → IsNew g new) → OperationFits g d (d client) operation → IsSound (graph_after g new operation) (held_after client new d operation)
sound_after g d client new operation low high sound free fits =
    let e = held_after client new d operation in
    let is = done g d client new operation low high (fair_of g d sound) free fits in
    let before = reached_kept g d (chains (tree_of g) sound.reached) in
    let after = reached_after g d e client new operation (well_formed g d sound) free fits before in
    sound_fair (graph_after g new operation) e is.fair (paths (tree_of (graph_after g new operation)) (reached_whole (graph_after g new operation) e (subst way.AreReached (sym is.tree) after)))

pub state_is : (g : Graph) (d : Descriptors) (client new : ℕ) (operation : Operation) → 1 ≤ client → client ≤ 8 → IsSound g d → (makes operation ≡ true → IsNew g new) → OperationFits g d (d client) operation → state_of (graph_after g new operation) (held_after client new d operation) ≡ state_after client new (state_of g d) operation
state_is g d client new operation low high sound free fits =
    let is = done g d client new operation low high (fair_of g d sound) free fits in
    λ x. record { tree = is.tree x; descriptors = held_after client new d operation }
