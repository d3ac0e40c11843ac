-- Each call that is not refused comes to an operation that keeps the limits, and so does a step.
use Rattle.std.proofs.Common.{◌≡◌, ℕ, ◌≤◌, List, [], length, refl, Some, None, sym, subst, Bool, true, false, arith, if◌then◌else◌}
use Rattle.std.specs.FinMap as fin
use Rattle.posix_calls.specs.Content.{with_bytes, with_length}
use Rattle.posix_calls.specs.Tree.{File, Dir, State, set_node, bytes_of}
use Rattle.posix_calls.specs.declared.operation.Operation.{Operation}
use Rattle.posix_calls.specs.declared.operation.Operation.TheVariants.{Tell, NewDir, NewFile, OpenFile, CloseFile, Write, Resize, RemoveDir, AddName, DropName, Move, Exchange}
use Rattle.posix_calls.specs.Operations.{with_entry, without_entry, less_replaced, held_after, state_after, makes, IsFree}
use Rattle.posix_calls.specs.WellFormed.{IsFile, IsWellFormed, IsWithinLimits}
use Rattle.posix_calls.specs.declared.limits.TheConstants.{MAX_FILE}
use Rattle.posix_calls.proofs.Changes.{bare_file}
use Rattle.posix_calls.proofs.Trees.{tree_of, range_of}
use Rattle.posix_calls.proofs.Steps.{with_same}
use Rattle.posix_calls.proofs.Fits.{Fits, bare_left}
use Rattle.posix_calls.proofs.Within.{file_within, none_within, empty_within, written_length, resized_length}
use Rattle.posix_calls.proofs.Able.{Able, nodes_of, lesser_within, lesser_set, lesser_unused, lesser_left, lesser_both, within_made, within_added, within_replaced, within_exchanged}

-- a file's bytes are changed
within_written : (s : State) (i : ℕ) (bytes : List ℕ) → IsWellFormed s → IsWithinLimits s.tree → IsFile (s.tree i) → length bytes ≤ MAX_FILE → IsWithinLimits (set_node s.tree i (Some (File bytes)))
within_written s i bytes fine within file few =
    let range = range_of s.tree i false (tree_of s fine) file in
    lesser_within s.tree (set_node s.tree i (Some (File bytes))) within (lesser_set s.tree i (Some (File bytes)) (nodes_of s.tree within) (bare_file (s.tree i) file) refl range.0 range.1 (file_within bytes few))

within_emptied : (s : State) (i : ℕ) (b : Bool) → IsWellFormed s → IsWithinLimits s.tree → IsFile (s.tree i) → IsWithinLimits (if b then set_node s.tree i (Some (File [])) else s.tree)
within_emptied s i true fine within file = within_written s i [] fine within file (omega arith)
within_emptied s i false fine within file = within

-- the tree after an operation that passes no limit keeps them
pub operation_within : (s : State) (client new : ℕ) (operation : Operation) → IsWellFormed s → IsWithinLimits s.tree → Fits s.tree (s.descriptors client) operation → Able s.tree operation → (makes operation ≡ true → IsFree s.tree new) → IsWithinLimits (state_after client new s operation).tree
operation_within s client new (Tell answer) fine within fits able free = within
operation_within s client new (NewDir at) fine within fits able free = let f = free refl in within_made s at new (Dir fin.empty) fine within fits able f.none f.low f.high refl empty_within
operation_within s client new (NewFile at number r w) fine within fits able free = let f = free refl in within_made s at new (File []) fine within fits.0 able f.none f.low f.high refl (file_within [] (omega arith))
operation_within s client new (OpenFile i empties number r w) fine within fits able free = within_emptied s i empties fine within fits.0
operation_within s client new (CloseFile i number) fine within fits able free =
    let t = s.tree in
    let held = held_after client new s.descriptors (CloseFile i number) in
    let file : IsFile (t i) = subst (λ k. IsFile (t k)) fits.2 (fine.opened client number fits.0 fits.1) in
    let range = range_of t i false (tree_of s fine) file in
    lesser_within t _ within (lesser_unused t held i (nodes_of t within) (bare_file (t i) file) range.0 range.1)
operation_within s client new (Write i at bytes) fine within fits able free = within_written s i (with_bytes at bytes (bytes_of (s.tree i))) fine within fits (written_length at bytes (bytes_of (s.tree i)) MAX_FILE able (within.sizes i))
operation_within s client new (Resize i len) fine within fits able free = within_written s i (with_length len (bytes_of (s.tree i))) fine within fits (let e = resized_length len (bytes_of (s.tree i)) in omega (arith, e, able))
operation_within s client new (RemoveDir at i) fine within fits able free =
    let t = s.tree in
    let range = range_of t i true (tree_of s fine) fits.1 in
    let first = lesser_left s at i fine (nodes_of t within) fits.0 in
    lesser_within t _ within (lesser_both t (without_entry t at) _ first (lesser_set (without_entry t at) i None first.nodes (bare_left t at i fits.0 fits.2) refl range.0 range.1 none_within))
operation_within s client new (AddName at i) fine within fits able free = within_added s at i fine within fits.0 able.0 able.1
operation_within s client new (DropName at i) fine within fits able free =
    let t = s.tree in
    let held = held_after client new s.descriptors (DropName at i) in
    let range = range_of t i false (tree_of s fine) fits.1 in
    let first = lesser_left s at i fine (nodes_of t within) fits.0 in
    lesser_within t _ within (lesser_both t (without_entry t at) _ first (lesser_unused (without_entry t at) held i first.nodes (bare_left t at i fits.0 (bare_file (t i) fits.1)) range.0 range.1))
operation_within s client new (Move from to i is_dir replaced) fine within fits able free =
    subst (λ held. IsWithinLimits (with_entry (without_entry (less_replaced held s.tree to replaced) from) to i)) (sym (with_same s.descriptors client))
    (within_replaced s from to i replaced fine within fits.0 fits.1 able.0 able.1)
operation_within s client new (Exchange first second i j) fine within fits able free = within_exchanged s first second i j fine within fits.1 fits.2 fits.0
