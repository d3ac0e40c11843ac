-- What a call comes to in a sound state can be done.
use Rattle.std.proofs.Common.{◌≡◌, ℕ, true, Some, None, Ok, refl, sym, ap, ◌∙◌}
use Rattle.std.specs.Prelude.{option_map}
use Rattle.posix_calls.specs.Tree.{Own, State}
use Rattle.posix_calls.specs.WellFormed.{IsBare, IsDirectory}
use Rattle.posix_calls.specs.Query.{run, view_of, dir_test}
use Rattle.posix_calls.specs.Decide.{decide}
use Rattle.posix_calls.specs.Exact.{IsInRange}
use Rattle.plain_tree.specs.Plain.{IsConsistent, IsHeld, Replaces, IsPlaced, IsDoable}
use Rattle.posix_calls.specs.declared.operation.Location.{Location}
use Rattle.posix_calls.specs.declared.operation.Operation.{Operation}
use Rattle.posix_calls.specs.declared.operation.Operation.TheVariants.{Tell, NewDir, NewFile, OpenFile, CloseFile, Write, Resize, RemoveDir, AddName, DropName, Move, Exchange}
use Rattle.posix_calls.specs.declared.operation.Replaced.{Replaced}
use Rattle.posix_calls.specs.declared.operation.Replaced.TheVariants.{Nothing, OldFile, OldDir}
use Rattle.posix_calls.specs.declared.call.Call.{Call}
use Rattle.posix_calls.proofs.Changes.{entry, entry_parent, bare_file}
use Rattle.posix_calls.proofs.Trees.{tree_of, range_of}
use Rattle.posix_calls.proofs.Fits.{Fits, FitsReplaced}
use Rattle.posix_calls.proofs.Calls.{decide_fits}

module _ (s : State) (sound : IsConsistent s) where
  -- a name's directory is there, and has an inode number
  held : (at : Location) → IsDirectory (s.tree at.parent) → IsHeld s.tree at
  held at dir = (range_of s.tree at.parent true (tree_of s sound.0) dir, λ none. let clash : None ≡ Some true = sym (ap (option_map dir_test) none) ∙ dir in absurd cc)

  named : (at : Location) (i : ℕ) → entry s.tree at ≡ Some i → IsHeld s.tree at
  named at i is = held at (entry_parent (s.tree at.parent) at.name i is)

  bare_open : (own : Own) (number i : ℕ) (client : ℕ) → s.descriptors client ≡ own → Fits s.tree own (CloseFile i number) → IsBare (s.tree i)
  bare_open own number i client is fits =
      bare_file (s.tree i) (ap (λ (k : ℕ). option_map dir_test (s.tree k)) (sym fits.2) ∙ sound.0.opened client number fits.0 (ap (λ (own : Own). own number) is ∙ fits.1))

  replaces : (to : Location) (i : ℕ) (replaced : Replaced) → FitsReplaced s.tree to i replaced → Replaces s.tree to i replaced
  replaces to i Nothing fits = fits.none
  replaces to i (OldFile j) fits = (fits.0, fits.1, bare_file (s.tree j) fits.2)
  replaces to i (OldDir j) fits = (fits.0, fits.1, fits.3)

  goal_held : (to : Location) (i : ℕ) (replaced : Replaced) → FitsReplaced s.tree to i replaced → IsHeld s.tree to
  goal_held to i Nothing fits = held to fits.directory
  goal_held to i (OldFile j) fits = named to j fits.1
  goal_held to i (OldDir j) fits = named to j fits.1

  placed : (client : ℕ) (operation : Operation) → Fits s.tree (s.descriptors client) operation → IsPlaced s.tree operation
  placed client (Tell answer) fits = tt
  placed client (NewDir at) fits = held at fits.directory
  placed client (NewFile at number reads writes) fits = held at fits.0.directory
  placed client (OpenFile i empties number reads writes) fits = bare_file (s.tree i) fits.0
  placed client (CloseFile i number) fits = bare_open (s.descriptors client) number i client refl fits
  placed client (Write i at bytes) fits = bare_file (s.tree i) fits
  placed client (Resize i len) fits = bare_file (s.tree i) fits
  placed client (RemoveDir at i) fits = (named at i fits.0, fits.2)
  placed client (AddName at i) fits = held at fits.0.directory
  placed client (DropName at i) fits = (named at i fits.0, bare_file (s.tree i) fits.1)
  placed client (Move from to i is_dir replaced) fits = (named from i fits.0, goal_held to i replaced fits.1, (fits.0, replaces to i replaced fits.1))
  placed client (Exchange first second i j) fits = (named first i fits.1, named second j fits.2, (fits.0, fits.1, fits.2, sound.1.entries second.parent))

  pub doable : (client : ℕ) (call : Call) (operation : Operation) → IsInRange operation → run (view_of s.tree) (decide (s.descriptors client) call) ≡ Ok operation → IsDoable s.tree operation
  doable client call operation range e = (range, sound.1.names, placed client operation (decide_fits s sound.0 client call operation e))
