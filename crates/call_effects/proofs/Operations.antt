-- What the effects of an operation make of a graph, whose descriptors stay: the tree after the operation, and counts that are right.
use Rattle.std.proofs.Common.{◌≡◌, ◌≢◌, inl, inr, ℕ, ◌+◌, ◌-◌, List, [], ◌∷◌, ◌++◌, refl, Some, None, Option, ap, sym, ◌∙◌, subst, true, false, Bool, arith, length}
use Rattle.std.specs.Prelude.{option_map, replicate}
use Rattle.std.proofs.lemmas.Bool.Decides.{eqb_tells}
use Rattle.std.specs.FinMap as fin
use Rattle.posix_calls.specs.Content.{with_length}
use Rattle.posix_calls.specs.Tree.{Tree, Descriptors, Own, is_open, bytes_of}
use Rattle.posix_calls.specs.Tree as tree
use Rattle.posix_calls.specs.declared.operation.Location.{Location}
use Rattle.posix_calls.specs.declared.operation.Operation.{Operation}
use Rattle.posix_calls.specs.declared.operation.Operation.TheVariants.{Tell, NewDir, NewFile, OpenFile, CloseFile, Write, Resize, RemoveDir, AddName, DropName, Move, Exchange}
use Rattle.posix_calls.specs.declared.operation.Replaced.{Replaced}
use Rattle.posix_calls.specs.declared.operation.Replaced.TheVariants.{Nothing, OldFile, OldDir}
use Rattle.posix_calls.specs.Operations.{tree_after, makes, with_entry, without_entry, less_replaced}
use Rattle.posix_calls.proofs.Counts.{get_other, gone, none_left, none_of_no_entries}
use Rattle.log_record.specs.file_graph.Graph.{Graph, Node, after_effect, after_effects}
use Rattle.log_record.specs.file_graph.declared.effect.Kind.{Kind}
use Rattle.log_record.specs.file_graph.declared.effect.Kind.TheVariants as kind
use Rattle.log_record.specs.file_graph.declared.effect.Effect.{Effect}
use Rattle.log_record.specs.file_graph.declared.effect.Effect.TheVariants as effect
use Rattle.call_effects.specs.Effects.{effects_of, clear_effects, replaced_file, drop_effects, kind_if, stored_count, stored_at}
use Rattle.call_effects.specs.Wholes.{reachable_graph, tree_of}
use Rattle.call_effects.specs.Fits.{IsNew, IsRoom, IsEntry, IsUsedFile, IsEmptyDir, OperationFits}
use Rattle.call_effects.proofs.Puts.{put, put_there, put_other}
use Rattle.call_effects.proofs.Changes.{IsFair, file, dir, same_dir}
use Rattle.call_effects.proofs.NewNodes.{sound_made, tree_made}
use Rattle.call_effects.proofs.Exchanges.{swapped, sound_swapped, tree_swapped}
use Rattle.call_effects.proofs.Edges.{file_no_dir, sound_written, tree_written, sound_resized, tree_resized, drop_2, dropped, sound_dropped, tree_dropped, shifted, sound_shifted, tree_shifted, go_2, gone_is, sound_gone, tree_gone, added, sound_added, tree_added}

-- an operation other than one that closes a file, over descriptors that stay
pub record IsAfterOperation (g : Graph) (d : Descriptors) (new : ℕ) (operation : Operation) : Type 0 where
  pub tree : tree_of (reachable_graph (after_effects g (effects_of g new operation)) d) ≡ tree_after d new (tree_of (reachable_graph g d)) operation
  pub fair : IsFair (after_effects g (effects_of g new operation)) d

-- ---- rename's parts

after_append : (g : Graph) (es fs : List Effect) → after_effects g (es ++ fs) ≡ after_effects (after_effects g es) fs
after_append g [] fs = refl
after_append g (e ∷ es) fs = after_append (after_effect g e) es fs

room_left : (g : Graph) (from to : Location) (e : ℕ × Kind) (entry : IsEntry g from e) → IsRoom g to → IsRoom (put g from.parent (dir entry.names (fin.remove entry.entries from.name))) to
room_left g from to e entry room =
    let x = dir entry.names (fin.remove entry.entries from.name) in
    elim (eqb_tells to.parent from.parent) [
      | inl same ↦
          let one = same_dir room.names entry.names room.entries entry.entries (sym room.is ∙ ap g same.1 ∙ entry.is) in
          record { names = entry.names; entries = fin.remove entry.entries from.name; is = ap (λ p. put g from.parent x p) same.1 ∙ put_there g from.parent x; none = none_left entry.entries from.name to.name (ap (λ m. fin.get m to.name) (sym one) ∙ room.none) }
      | inr off ↦ record { names = room.names; entries = room.entries; is = put_other g from.parent to.parent x off.1 ∙ room.is; none = room.none }
    ]

pub entry_left : (g : Graph) (from to : Location) (i j : ℕ) (k l : Kind) → i ≢ j → IsEntry g from (i, k) → (old : IsEntry g to (j, l)) → IsEntry (put g to.parent (dir old.names (fin.remove old.entries to.name))) from (i, k)
entry_left g from to i j k l other entry old =
    let x = dir old.names (fin.remove old.entries to.name) in
    elim (eqb_tells from.parent to.parent) [
      | inl same ↦
          let one = same_dir entry.names old.names entry.entries old.entries (sym entry.is ∙ ap g same.1 ∙ old.is) in
          let here : fin.get old.entries from.name ≡ Some (i, k) = ap (λ m. fin.get m from.name) (sym one) ∙ entry.there in
          let names_off : from.name ≢ to.name = λ e. let clash : ◌≡◌ {A = Option (ℕ × Kind)} (Some (i, k)) (Some (j, l)) = sym here ∙ ap (fin.get old.entries) e ∙ old.there in other (same_first clash) in
          record { names = old.names; entries = fin.remove old.entries to.name; is = ap (λ p. put g to.parent x p) same.1 ∙ put_there g to.parent x; there = get_other old.entries to.name from.name (i, k) names_off ∙ here }
      | inr off ↦ record { names = entry.names; entries = entry.entries; is = put_other g to.parent from.parent x off.1 ∙ entry.is; there = entry.there }
    ] where
      same_first : ◌≡◌ {A = Option (ℕ × Kind)} (Some (i, k)) (Some (j, l)) → i ≡ j
      same_first e = let firsts : Some i ≡ Some j = ap (option_map (λ (p : ℕ × Kind). p.0)) e in cc

entry_beside : (g : Graph) (at : Location) (e : ℕ × Kind) (j : ℕ) (x : Option Node) → at.parent ≢ j → IsEntry g at e → IsEntry (put g j x) at e
entry_beside g at e j x off entry = record { names = entry.names; entries = entry.entries; is = put_other g j at.parent x off ∙ entry.is; there = entry.there }

room_gone : (g : Graph) (at : Location) (e : ℕ × Kind) (entry : IsEntry g at e) (j : ℕ) (x : Option Node) → at.parent ≢ j → IsRoom (put (put g at.parent (dir entry.names (fin.remove entry.entries at.name))) j x) at
room_gone g at e entry j x off = record { names = entry.names; entries = fin.remove entry.entries at.name; is = put_other (put g at.parent (dir entry.names (fin.remove entry.entries at.name))) j at.parent x off ∙ put_there g at.parent (dir entry.names (fin.remove entry.entries at.name)); none = gone entry.entries at.name }

-- an empty directory holds no name
not_empty : (g : Graph) (at : Location) (e : ℕ × Kind) (j : ℕ) → IsEntry g at e → IsEmptyDir g j → at.parent ≢ j
not_empty g at e j entry empty same =
    let one = same_dir entry.names empty.names entry.entries empty.entries (sym entry.is ∙ ap g same ∙ empty.is) in
    none_of_no_entries empty.entries at.name e empty.none (ap (λ m. fin.get m at.name) (sym one) ∙ entry.there)

not_file : (g : Graph) (d : Descriptors) (at : Location) (e : ℕ × Kind) (j : ℕ) → IsEntry g at e → IsUsedFile g d j → at.parent ≢ j
not_file g d at e j entry f same = file_no_dir f.names entry.names f.bytes entry.entries (sym f.is ∙ ap g (sym same) ∙ entry.is)

moved_none : (g : Graph) (d : Descriptors) (new : ℕ) (from to : Location) (i : ℕ) (b : Bool) → IsFair g d → IsEntry g from (i, kind_if b) → IsRoom g to → IsAfterOperation g d new (Move from to i b Nothing)
moved_none g d new from to i b fair entry room =
    let k = kind_if b in
    let after = room_left g from to (i, k) entry room in
    record {
      tree = ap (λ h. tree_of (reachable_graph h d)) (shifted g d i k from to fair entry after) ∙ tree_shifted g d i k from to fair entry after;
      fair = subst (λ h. IsFair h d) (sym (shifted g d i k from to fair entry after)) (sound_shifted g d i k from to fair entry after);
    }

-- the second half, on the graph that the first half left
moved_on : (g h : Graph) (d : Descriptors) (new : ℕ) (from to : Location) (i : ℕ) (b : Bool) (replaced : Replaced) → after_effects g (clear_effects (stored_at g (replaced_file replaced)) to replaced) ≡ h → IsFair h d → tree_of (reachable_graph h d) ≡ less_replaced d (tree_of (reachable_graph g d)) to replaced
    → IsEntry h from (i, kind_if b) → IsRoom h to → IsAfterOperation g d new (Move from to i b replaced)
moved_on g h d new from to i b replaced is fair same entry room =
    let half = moved_none h d new from to i b fair entry room in
    let rest = effect.Leave from.parent from.name ∷ effect.Enter to.parent i (kind_if b) to.name ∷ [] in
    let first = clear_effects (stored_at g (replaced_file replaced)) to replaced in
    let whole : after_effects g (first ++ rest) ≡ after_effects h rest = after_append g first rest ∙ ap (λ x. after_effects x rest) is in
    record {
      tree = ap (λ x. tree_of (reachable_graph x d)) whole ∙ half.tree ∙ ap (λ t. with_entry (without_entry t from) to i) same;
      fair = subst (λ x. IsFair x d) (sym whole) half.fair;
    }

-- a name of a file is dropped, where its count stands in the graph
dropped_is : (g : Graph) (d : Descriptors) (at : Location) (i : ℕ) (fair : IsFair g d) (entry : IsEntry g at (i, kind.File)) (f : IsUsedFile g d i) → after_effects g (drop_effects at i (stored_count (g i))) ≡ drop_2 g d i f.names at f.bytes fair entry f.is
dropped_is g d at i fair entry f = ap (λ o. after_effects g (effect.Leave at.parent at.name ∷ effect.Names i (stored_count o - 1) ∷ [])) f.is ∙ dropped g d i f.names at f.bytes fair entry f.is

moved_file : (g : Graph) (d : Descriptors) (new : ℕ) (from to : Location) (i : ℕ) (b : Bool) (j : ℕ) → IsFair g d → IsEntry g from (i, kind_if b) → i ≢ j → IsEntry g to (j, kind.File) → IsUsedFile g d j → IsAfterOperation g d new (Move from to i b (OldFile j))
moved_file g d new from to i b j fair entry other old f =
    let h1 = put g to.parent (dir old.names (fin.remove old.entries to.name)) in
    moved_on g (drop_2 g d j f.names to f.bytes fair old f.is) d new from to i b (OldFile j)
    (dropped_is g d to j fair old f) (sound_dropped g d j f.names to f.bytes fair old f.is) (tree_dropped g d j f.names to f.bytes fair old f.is f.used)
    (entry_beside h1 from (i, kind_if b) j (file (f.names - 1) f.bytes) (not_file g d from (i, kind_if b) j entry f) (entry_left g from to i j (kind_if b) kind.File other entry old))
    (room_gone g to (j, kind.File) old j (file (f.names - 1) f.bytes) (not_file g d to (j, kind.File) j old f))

moved_dir : (g : Graph) (d : Descriptors) (new : ℕ) (from to : Location) (i : ℕ) (b : Bool) (j : ℕ) → IsFair g d → IsEntry g from (i, kind_if b) → i ≢ j → IsEntry g to (j, kind.Directory) → IsEmptyDir g j → IsAfterOperation g d new (Move from to i b (OldDir j))
moved_dir g d new from to i b j fair entry other old f =
    let h1 = put g to.parent (dir old.names (fin.remove old.entries to.name)) in
    moved_on g (go_2 g d j f.names to f.entries fair old f.is f.none) d new from to i b (OldDir j)
    (gone_is g d j f.names to f.entries fair old f.is f.none) (sound_gone g d j f.names to f.entries fair old f.is f.none) (tree_gone g d j f.names to f.entries fair old f.is f.none)
    (entry_beside h1 from (i, kind_if b) j None (not_empty g from (i, kind_if b) j entry f) (entry_left g from to i j (kind_if b) kind.Directory other entry old))
    (room_gone g to (j, kind.Directory) old j None (not_empty g to (j, kind.Directory) j old f))

nothing_left : (bytes : List ℕ) → with_length 0 bytes ≡ []
nothing_left bytes = ap (λ n. replicate n 0) (let e : 0 - length bytes ≡ 0 = omega arith in e)

-- ---- every operation

-- a file that is closed changes the descriptors alone
abbrev pub Stays : Operation → Type 0
Stays (CloseFile i number) = ⊥
Stays operation = Unit {0}

pub after_operation : (g : Graph) (d : Descriptors) (own : Own) (new : ℕ) (operation : Operation) → Stays operation → IsFair g d → (makes operation ≡ true → IsNew g new) → OperationFits g d own operation → IsAfterOperation g d new operation
after_operation g d own new (Tell answer) st fair free fits = record { tree = refl; fair = fair }
after_operation g d own new (CloseFile i number) st fair free fits = absurd st
after_operation g d own new (NewDir at) st fair free room = record { tree = tree_made g d new kind.Directory at fair (free refl) room; fair = sound_made g d new kind.Directory at fair (free refl) room }
after_operation g d own new (NewFile at number reads writes) st fair free (room, num) = record { tree = tree_made g d new kind.File at fair (free refl) room; fair = sound_made g d new kind.File at fair (free refl) room }
after_operation g d own new (OpenFile i true number reads writes) st fair free (f, num) = record {
  tree = tree_resized g d i f.names 0 f.bytes f.is f.used ∙ ap (λ y. put (tree_of (reachable_graph g d)) i (Some (tree.File y))) (nothing_left (bytes_of (tree_of (reachable_graph g d) i)));
  fair = sound_resized g d i f.names 0 f.bytes fair f.is;
}
after_operation g d own new (OpenFile i false number reads writes) st fair free fits = record { tree = refl; fair = fair }
after_operation g d own new (Write i at bytes) st fair free f = record { tree = tree_written g d i f.names at f.bytes bytes f.is f.used; fair = sound_written g d i f.names at f.bytes bytes fair f.is }
after_operation g d own new (Resize i len) st fair free f = record { tree = tree_resized g d i f.names len f.bytes f.is f.used; fair = sound_resized g d i f.names len f.bytes fair f.is }
after_operation g d own new (RemoveDir at i) st fair free (entry, f) = record {
  tree = ap (λ h. tree_of (reachable_graph h d)) (gone_is g d i f.names at f.entries fair entry f.is f.none) ∙ tree_gone g d i f.names at f.entries fair entry f.is f.none;
  fair = subst (λ h. IsFair h d) (sym (gone_is g d i f.names at f.entries fair entry f.is f.none)) (sound_gone g d i f.names at f.entries fair entry f.is f.none);
}
after_operation g d own new (AddName at i) st fair free (room, f) =
    let whole = ap (λ o. after_effects g (effect.Enter at.parent i kind.File at.name ∷ effect.Names i (stored_count o + 1) ∷ [])) f.is ∙ added g d i f.names at f.bytes fair room f.is in
    record {
      tree = ap (λ h. tree_of (reachable_graph h d)) whole ∙ tree_added g d i f.names at f.bytes fair room f.is f.used;
      fair = subst (λ h. IsFair h d) (sym whole) (sound_added g d i f.names at f.bytes fair room f.is);
    }
after_operation g d own new (DropName at i) st fair free (entry, f) =
    let whole = dropped_is g d at i fair entry f in
    record {
      tree = ap (λ h. tree_of (reachable_graph h d)) whole ∙ tree_dropped g d i f.names at f.bytes fair entry f.is f.used;
      fair = subst (λ h. IsFair h d) (sym whole) (sound_dropped g d i f.names at f.bytes fair entry f.is);
    }
after_operation g d own new (Move from to i b Nothing) st fair free (entry, clear, room) = moved_none g d new from to i b fair entry room
after_operation g d own new (Move from to i b (OldFile j)) st fair free (entry, clear, old) = moved_file g d new from to i b j fair entry old.0 old.1 old.2
after_operation g d own new (Move from to i b (OldDir j)) st fair free (entry, clear, old) = moved_dir g d new from to i b j fair entry old.0 old.1 old.2
after_operation g d own new (Exchange first second i j) st fair free fits =
    let is = swapped g d first second i j fits.one fits.two fair fits.apart fits.first_is fits.second_is in
    record {
      tree = ap (λ h. tree_of (reachable_graph h d)) is ∙ tree_swapped g d first second i j fits.one fits.two fair fits.apart fits.first_is fits.second_is;
      fair = subst (λ h. IsFair h d) (sym is) (sound_swapped g d first second i j fits.one fits.two fair fits.apart fits.first_is fits.second_is);
    }
