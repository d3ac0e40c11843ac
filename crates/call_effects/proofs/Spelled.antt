-- What an answered call changes has a spelling as a record, and few units.
use Rattle.std.proofs.Common.{◌≡◌, ℕ, ◌-◌, ◌^◌, ◌<◌, ◌≤◌, List, [], length, Bool, true, false, Some, Ok, Err, refl, ap, ◌∙◌, arith}
use Rattle.std.specs.Prelude.{◌/◌, option_map, if◌then◌else◌}
use Rattle.std.specs.List.{AllByRecursion}
use Rattle.std.specs.FinMap as fin
use Rattle.posix_calls.specs.Name.{is_name}
use Rattle.posix_calls.specs.Tree.{Tree, Descriptors, Own, names_of, entries_of}
use Rattle.posix_calls.specs.Query.{run, view_of}
use Rattle.posix_calls.specs.Decide.{decide}
use Rattle.posix_calls.specs.Operations.{is_client, answer, makes}
use Rattle.posix_calls.specs.WellFormed.{IsWithinLimits}
use Rattle.posix_calls.specs.declared.limits.TheConstants.{MAX_FILE, MAX_NAMES, UNIT_BYTES}
use Rattle.posix_calls.specs.declared.call.Call.{Call}
use Rattle.posix_calls.specs.declared.errno.Errno.TheVariants as errno
use Rattle.posix_calls.specs.declared.operation.Location.{Location}
use Rattle.posix_calls.specs.declared.operation.Operation.{Operation}
use Rattle.posix_calls.specs.declared.operation.Operation.TheVariants.{Tell, NewDir, NewFile, OpenFile, CloseFile, Write, Resize, RemoveDir, AddName, DropName, Move, Exchange}
use Rattle.posix_calls.specs.declared.operation.Replaced.{Replaced}
use Rattle.posix_calls.specs.declared.operation.Replaced.TheVariants.{Nothing, OldFile, OldDir}
use Rattle.posix_calls.proofs.Able.{Able}
use Rattle.posix_calls.proofs.Lasting.{IsAnswered, answered}
use Rattle.posix_calls.proofs.Passing.{decide_able}
use Rattle.log_record.specs.file_graph.Graph.{Graph}
use Rattle.log_record.specs.file_graph.Units.{growth}
use Rattle.log_record.specs.file_graph.declared.effect.Kind.{Kind}
use Rattle.log_record.specs.file_graph.declared.effect.Kind.TheVariants as kind
use Rattle.log_record.specs.file_graph.declared.effect.Effect.{Effect}
use Rattle.log_record.specs.Grammar as grammar
use Rattle.call_effects.specs.Calls.{answer_over}
use Rattle.call_effects.specs.ChangeTest.{changes}
use Rattle.call_effects.specs.Effects.{stored_count, effects_of}
use Rattle.call_effects.specs.Wholes.{IsSound, state_of, tree_of, reachable_graph, kind_of, graph_view}
use Rattle.call_effects.specs.Fits.{IsNew, IsRoom, IsEntry, IsUsedFile, OperationFits}
use Rattle.call_effects.proofs.Changes.{fair_of, tree_dir}
use Rattle.call_effects.proofs.GrowthAsked.{growth_as_asked}
use Rattle.call_effects.proofs.Inodes.{get_inodes}
use Rattle.call_effects.proofs.SpelledQuery.{HasBytes, IsInFile, of_run, decide_fine, growth_few}
use Rattle.call_effects.proofs.Steps.{answer_fits}
use Rattle.call_effects.proofs.Views.{views_same, file_count}
use Rattle.call_effects.proofs.WellFormed.{well_formed}

-- ---- what keeps the limits

abbrev AllFit : List Effect → Type 0
AllFit es = AllByRecursion grammar.FitsLimits es

-- a record of some effects that keep the limits
record IsSpelled (es : List Effect) : Type 0 where
  some : 1 ≤ length es
  few : length es ≤ 8
  fit : AllFit es

as_record : (es : List Effect) (units : ℕ) → units < 2 ^ 32 → IsSpelled es → grammar.IsRecord (record { units = units; effects = es })
as_record es units small is = record { units = small; some = is.some; few = is.few; fit = is.fit }

in_file : (t : Tree) (operation : Operation) → Able t operation → IsInFile operation
in_file t (Tell answer) able = tt
in_file t (NewDir at) able = tt
in_file t (NewFile at number reads writes) able = tt
in_file t (OpenFile i empties number reads writes) able = tt
in_file t (CloseFile i number) able = tt
in_file t (Write i at bytes) able = able
in_file t (Resize i len) able = able
in_file t (RemoveDir at i) able = tt
in_file t (AddName at i) able = tt
in_file t (DropName at i) able = tt
in_file t (Move from to i is_dir replaced) able = tt
in_file t (Exchange first second i j) able = tt

module _ (g : Graph) (d : Descriptors) (sound : IsSound g d) where
  abbrev t : Tree
  t = tree_of (reachable_graph g d)

  inode : (i : ℕ) (k : Kind) → kind_of (g i) ≡ Some k → grammar.IsInode i
  inode i k is = sound.typed.numbers i k is

  new_inode : (i : ℕ) → IsNew g i → grammar.IsInode i
  new_inode i new = let low = new.low in (omega (arith, low), new.high)

  room_inode : (at : Location) → IsRoom g at → grammar.IsInode at.parent
  room_inode at room = inode at.parent kind.Directory (ap kind_of room.is)

  entry_inode : (at : Location) (e : ℕ × Kind) → IsEntry g at e → grammar.IsInode at.parent
  entry_inode at e entry = inode at.parent kind.Directory (ap kind_of entry.is)

  -- what has a name is a node
  named_inode : (at : Location) (e : ℕ × Kind) → IsEntry g at e → grammar.IsInode e.0
  named_inode at e entry = inode e.0 e.1 (sound.typed.kinds at.parent entry.names entry.entries at.name e entry.is entry.there)

  file_inode : (i : ℕ) → IsUsedFile g d i → grammar.IsInode i
  file_inode i f = inode i kind.File (ap kind_of f.is)

  file_names : (i : ℕ) → IsUsedFile g d i → stored_count (g i) ≡ names_of t i
  file_names i f = file_count g d i (fair_of g d sound) (ap kind_of f.is)

  module _ (within : IsWithinLimits t) where
    entry_name : (at : Location) (e : ℕ × Kind) → IsEntry g at e → is_name at.name ≡ true
    entry_name at e entry =
        within.valid at.parent at.name e.0
        (ap (λ o. fin.get (entries_of o) at.name) (tree_dir g d at.parent entry.names entry.entries entry.is) ∙ get_inodes entry.entries at.name ∙ ap (option_map (λ (x : ℕ × Kind). x.0)) entry.there)

    fewer_names : (i : ℕ) → IsUsedFile g d i → stored_count (g i) - 1 ≤ MAX_NAMES
    fewer_names i f = let same = file_names i f in let had = within.names i in omega (arith, same, had)

    leaves : (at : Location) (e : ℕ × Kind) → IsEntry g at e → grammar.IsInode at.parent × (is_name at.name ≡ true)
    leaves at e entry = (entry_inode at e entry, entry_name at e entry)

    moved_fits : (from to : Location) (i : ℕ) (b : Bool) (k : Kind) → IsEntry g from (i, k) → grammar.IsInode to.parent → is_name to.name ≡ true → AllFit (effects_of g 0 (Move from to i b Nothing))
    moved_fits from to i b k entry parent valid = (leaves from (i, k) entry, ((parent, named_inode from (i, k) entry, valid), tt))

    -- a rename, whatever it puts out of its place
    move_spelled : (own : Own) (new : ℕ) (from to : Location) (i : ℕ) (b : Bool) (replaced : Replaced) → OperationFits g d own (Move from to i b replaced) → is_name to.name ≡ true → IsSpelled (effects_of g new (Move from to i b replaced))
    move_spelled own new from to i b Nothing (entry, clear, room) valid = record { some = omega arith; few = omega arith; fit = moved_fits from to i b _ entry (room_inode to room) valid }
    move_spelled own new from to i b (OldFile j) (entry, clear, old) valid = record {
      some = omega arith;
      few = omega arith;
      fit = (leaves to (j, kind.File) old.1, ((file_inode j old.2, fewer_names j old.2), moved_fits from to i b _ entry (entry_inode to (j, kind.File) old.1) valid));
    }
    move_spelled own new from to i b (OldDir j) (entry, clear, old) valid = record {
      some = omega arith;
      few = omega arith;
      fit = (leaves to (j, kind.Directory) old.1, (named_inode to (j, kind.Directory) old.1, moved_fits from to i b _ entry (entry_inode to (j, kind.Directory) old.1) valid));
    }

    spelled : (own : Own) (new : ℕ) (operation : Operation) → (makes operation ≡ true → IsNew g new) → OperationFits g d own operation → Able t operation → HasBytes operation → changes operation ≡ true → IsSpelled (effects_of g new operation)
    spelled own new (Tell answer) free fits able bytes e = absurd cc
    spelled own new (NewDir at) free room able bytes e = record { some = omega arith; few = omega arith; fit = (new_inode new (free refl), ((room_inode at room, new_inode new (free refl), able.valid), ((new_inode new (free refl), omega arith), tt))) }
    spelled own new (NewFile at number reads writes) free (room, num) able bytes e = record { some = omega arith; few = omega arith; fit = (new_inode new (free refl), ((room_inode at room, new_inode new (free refl), able.valid), ((new_inode new (free refl), omega arith), tt))) }
    spelled own new (OpenFile i true number reads writes) free (f, num) able bytes e = record { some = omega arith; few = omega arith; fit = ((file_inode i f, omega arith), tt) }
    spelled own new (OpenFile i false number reads writes) free fits able bytes e = absurd cc
    spelled own new (CloseFile i number) free fits able bytes e = absurd cc
    spelled own new (Write i at bs) free f able bytes e = record { some = omega arith; few = omega arith; fit = ((file_inode i f, bytes.0, bytes.1, able), tt) }
    spelled own new (Resize i len) free f able bytes e = record { some = omega arith; few = omega arith; fit = ((file_inode i f, able), tt) }
    spelled own new (RemoveDir at i) free (entry, empty) able bytes e = record { some = omega arith; few = omega arith; fit = (leaves at (i, kind.Directory) entry, (named_inode at (i, kind.Directory) entry, tt)) }
    spelled own new (AddName at i) free (room, f) able bytes e = record {
      some = omega arith;
      few = omega arith;
      fit = ((room_inode at room, file_inode i f, able.0.valid), ((file_inode i f, (let same = file_names i f in let low = able.1 in omega (arith, same, low))), tt));
    }
    spelled own new (DropName at i) free (entry, f) able bytes e = record { some = omega arith; few = omega arith; fit = (leaves at (i, kind.File) entry, ((file_inode i f, fewer_names i f), tt)) }
    spelled own new (Move from to i b replaced) free fits able bytes e = move_spelled own new from to i b replaced fits able.0
    spelled own new (Exchange first second i j) free fits able bytes e =
        let one = leaves first (i, fits.one) fits.first_is in
        let two = leaves second (j, fits.two) fits.second_is in
        record { some = omega arith; few = omega arith; fit = ((one.0, one.1, two.0, two.1), tt) }

-- ---- an answered call

answer_in : (g : Graph) (d : Descriptors) (client : ℕ) (c : Call) (operation : Operation) → IsSound g d → answer_over g d client c ≡ Ok operation → IsAnswered (state_of g d) client c operation
answer_in g d client c operation sound e =
    answered (state_of g d) client c operation (ap (λ v. if is_client client then run v (decide (d client) c) else Err errno.Invalid) (views_same g d (fair_of g d sound)) ∙ e)

pub record_spelled : (g : Graph) (d : Descriptors) (client new units : ℕ) (c : Call) (operation : Operation) → IsSound g d → IsWithinLimits (state_of g d).tree → answer_over g d client c ≡ Ok operation → (makes operation ≡ true → IsNew g new) → changes operation ≡ true → units < 2 ^ 32
    → grammar.IsRecord (record { units = units; effects = effects_of g new operation })
record_spelled g d client new units c operation sound within e free some small =
    let came = answer_in g d client c operation sound e in
    let v = view_of (state_of g d).tree in
    as_record (effects_of g new operation) units small
    (spelled g d sound within (d client) new operation free (answer_fits g d client c operation sound e) (decide_able (state_of g d) (well_formed g d sound) client c operation came.is)
    (of_run HasBytes v (decide (d client) c) operation (decide_fine (d client) c) came.is) some)

pub growth_small : (g : Graph) (d : Descriptors) (client new : ℕ) (c : Call) (operation : Operation) → IsSound g d → answer_over g d client c ≡ Ok operation → (makes operation ≡ true → IsNew g new) → growth g (effects_of g new operation) ≤ MAX_FILE / UNIT_BYTES
growth_small g d client new c operation sound e free =
    let came = answer_in g d client c operation sound e in
    let able = decide_able (state_of g d) (well_formed g d sound) client c operation came.is in
    of_run (λ n. n ≤ MAX_FILE / UNIT_BYTES) (graph_view g d) _ (growth g (effects_of g new operation)) (growth_few operation (in_file (state_of g d).tree operation able)) (growth_as_asked g d sound (d client) new operation free (answer_fits g d client c operation sound e))

pub unchanged : (g : Graph) (new : ℕ) (operation : Operation) → changes operation ≡ false → effects_of g new operation ≡ []
unchanged g new (Tell answer) e = refl
unchanged g new (NewDir at) e = absurd cc
unchanged g new (NewFile at number reads writes) e = absurd cc
unchanged g new (OpenFile i true number reads writes) e = absurd cc
unchanged g new (OpenFile i false number reads writes) e = refl
unchanged g new (CloseFile i number) e = refl
unchanged g new (Write i at bytes) e = absurd cc
unchanged g new (Resize i len) e = absurd cc
unchanged g new (RemoveDir at i) e = absurd cc
unchanged g new (AddName at i) e = absurd cc
unchanged g new (DropName at i) e = absurd cc
unchanged g new (Move from to i is_dir replaced) e = absurd cc
unchanged g new (Exchange first second i j) e = absurd cc
