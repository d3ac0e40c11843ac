-- A directory that is made, and a file.
use Rattle.std.proofs.Common.{◌≡◌, ◌≢◌, ℕ, ◌+◌, ◌≤◌, List, [], refl, Some, None, Option, cond, ap, sym, ◌∙◌, subst, arith, ◌==◌}
use Rattle.std.specs.Prelude.{option_map}
use Rattle.std.specs.Ordering.{nat_cmp}
use Rattle.std.specs.Cmp.Lexicographic.{slice_cmp}
use Rattle.std.specs.FinMap as fin
use Rattle.posix_calls.specs.Content.{Entries}
use Rattle.posix_calls.specs.Tree.{Tree, Descriptors, names_of, names_in, is_open, entries_of}
use Rattle.posix_calls.specs.Tree as tree
use Rattle.log_record.specs.file_graph.Graph.{Graph, Node, after_effect, after_effects, empty_body}
use Rattle.log_record.specs.file_graph.declared.effect.Kind.{Kind}
use Rattle.log_record.specs.file_graph.declared.effect.Kind.TheVariants as kind
use Rattle.log_record.specs.file_graph.declared.effect.Effect.TheVariants as effect
use Rattle.call_effects.specs.Effects.{stored_count, make_effects}
use Rattle.call_effects.specs.Wholes.{without_kinds, tree_of, tree_node, reachable_graph, kind_of, one_if, IsTyped}
use Rattle.posix_calls.specs.declared.operation.Location.{Location}
use Rattle.posix_calls.specs.Operations.{with_entry}
use Rattle.posix_calls.proofs.Counts.{counted, counted_is, counted_empty, get_inserted}
use Rattle.posix_calls.proofs.Changes.{off_one, on_one}
use Rattle.call_effects.specs.Fits.{IsNew, IsRoom}
use Rattle.call_effects.proofs.Puts.{put, put_there, put_other, put_twice, put_exchange}
use Rattle.call_effects.proofs.Inodes.{inodes_empty}
use Rattle.call_effects.proofs.Changes.{IsFair, same_dir, dir, one_subject, enter_is, names_is, named, names_enter, names_stay, typed_put, put_alike, sound_of, shown, tree_put, tree_enter}

abbrev pub fresh : ℕ → Kind → Option Node
fresh n k = Some (record { names = n; body = empty_body k })

abbrev pub tree_fresh : Kind → Option tree.Node
tree_fresh kind.File = Some (tree.File [])
tree_fresh kind.Directory = Some (tree.Dir fin.empty)

no_names : (k : Kind) (n j : ℕ) → names_in j (option_map tree_node (fresh n k)) ≡ 0
no_names kind.File n j = refl
no_names kind.Directory n j = counted_is j (without_kinds fin.empty) ∙ ap (counted j) inodes_empty ∙ counted_empty j

kind_fresh : (k : Kind) (n : ℕ) → kind_of (fresh n k) ≡ Some k
kind_fresh kind.File n = refl
kind_fresh kind.Directory n = refl

no_entry : (k : Kind) (n m : ℕ) (es : Entries (ℕ × Kind)) (name : List ℕ) (e : ℕ × Kind) → fresh n k ≡ dir m es → fin.get es name ≡ Some e → ⊥
no_entry kind.File n m es name e is there = let no : Some kind.File ≡ Some kind.Directory = ap kind_of is in absurd (cc)
no_entry kind.Directory n m es name e is there =
    let empty = same_dir n m fin.empty es is in
    let none : fin.get es name ≡ None = ap (λ x. fin.get x name) (sym empty) ∙ fin.get-empty (slice_cmp nat_cmp) name in cc

shown_fresh : (d : Descriptors) (i : ℕ) (k : Kind) → shown d i (fresh 1 k) ≡ tree_fresh k
shown_fresh d i kind.File = refl
shown_fresh d i kind.Directory = ap (λ m. Some (tree.Dir m)) inodes_empty

module _ (g : Graph) (d : Descriptors) (i : ℕ) (k : Kind) (at : Location) (sound : IsFair g d) (new : IsNew g i) (room : IsRoom g at) where
  apart : at.parent ≢ i
  apart same = let both : dir room.names room.entries ≡ None = sym room.is ∙ ap g same ∙ new.none in cc

  abbrev g1 : Graph
  g1 = put g i (fresh 0 k)

  abbrev full : Option Node
  full = dir room.names (fin.insert room.entries at.name (i, k))

  abbrev pub g2 : Graph
  g2 = put g1 at.parent full

  abbrev g3 : Graph
  g3 = put g2 i (fresh 1 k)

  in_1 : g1 at.parent ≡ dir room.names room.entries
  in_1 = put_other g i at.parent (fresh 0 k) apart ∙ room.is

  in_2 : g2 i ≡ fresh 0 k
  in_2 = put_other g1 at.parent i full (λ e. apart (sym e)) ∙ put_there g i (fresh 0 k)

  pub made : after_effects g (make_effects i k at) ≡ g3
  made = ap (λ h. after_effect (after_effect h (effect.Enter at.parent i k at.name)) (effect.Names i 1)) (one_subject g (effect.Make i k) i refl) ∙ ap (λ h. after_effect h (effect.Names i 1)) (enter_is g1 at.parent room.names i k at.name room.entries in_1) ∙ names_is g2 i 0 1 (empty_body k) in_2

  range : (1 ≤ at.parent) × (at.parent ≤ 1024)
  range = sound.typed.numbers at.parent kind.Directory (ap kind_of room.is)

  typed_1 : IsTyped g1 d
  typed_1 = typed_put g d i (fresh 0 k) sound.typed (omega (arith, new.low)) new.high
      (λ h is. let no : kind_of None ≡ Some h = ap kind_of (sym new.none) ∙ is in absurd (cc))
      (λ m es name e is there. absurd (no_entry k 0 m es name e is there))

  typed_2 : IsTyped g2 d
  typed_2 = typed_put g1 d at.parent full typed_1 range.0 range.1
      (λ h is. sym (ap kind_of in_1) ∙ is)
      (λ m es name e is there.
      let same = same_dir room.names m (fin.insert room.entries at.name (i, k)) es is in
      get_inserted room.entries at.name name (i, k) e (λ u. kind_of (g1 u.0) ≡ Some u.1)
      (ap kind_of (put_there g i (fresh 0 k)) ∙ kind_fresh k 0)
      (λ u was. typed_1.kinds at.parent room.names room.entries name u in_1 was)
      (ap (λ x. fin.get x name) same ∙ there))

  typed_3 : IsTyped g3 d
  typed_3 = typed_put g2 d i (fresh 1 k) typed_2 (omega (arith, new.low)) new.high
      (λ h is. kind_fresh k 1 ∙ sym (kind_fresh k 0) ∙ sym (ap kind_of in_2) ∙ is)
      (λ m es name e is there. absurd (no_entry k 1 m es name e is there))

  names_3 : (j : ℕ) → named g3 j ≡ named g j + cond (i == j) 1 0
  names_3 j =
      names_stay g2 i (fresh 1 k) j (omega (arith, new.low)) new.high (no_names k 1 j ∙ sym (no_names k 0 j) ∙ ap (λ o. names_in j (option_map tree_node o)) (sym in_2))
      ∙ names_enter g1 at.parent room.names i k at.name room.entries j in_1 range.0 range.1 room.none
      ∙ ap (λ x. x + cond (i == j) 1 0) (names_stay g i (fresh 0 k) j (omega (arith, new.low)) new.high (no_names k 0 j ∙ ap (λ o. names_in j (option_map tree_node o)) (sym new.none)))

  other_3 : {A : Type 0} (f : Option Node → A) → f full ≡ f (g1 at.parent) → (j : ℕ) → j ≢ i → f (g3 j) ≡ f (g j)
  other_3 f same j off = ap f (put_other g2 i j (fresh 1 k) off) ∙ put_alike f g1 at.parent full same j ∙ ap f (put_other g i j (fresh 0 k) off)

  sound_3 : IsFair g3 d
  sound_3 =
      let there : g3 i ≡ fresh 1 k = put_there g2 i (fresh 1 k) in
      let none : stored_count None ≡ named g i + one_if (i == 1) = sym (ap stored_count new.none) ∙ sound.counted i in
      let more : named g3 i ≡ named g i + 1 = names_3 i ∙ ap (λ x. named g i + x) (on_one i) in
      let one : stored_count (g3 i) ≡ 1 = ap stored_count there in
      sound_of g g3 d d i sound typed_3
      (other_3 stored_count (sym (ap stored_count in_1)))
      (other_3 kind_of (sym (ap kind_of in_1)))
      (λ j off. let m = names_3 j in let z = off_one i j off in omega (arith, m, z))
      (omega (arith, none, more, one))
      (λ is. one)

  abbrev t : Tree
  t = tree_of (reachable_graph g d)

  tree_3 : tree_of (reachable_graph g3 d) ≡ put (with_entry t at i) i (tree_fresh k)
  tree_3 =
      let y = λ (o : Option tree.Node). Some (tree.Dir (fin.insert (entries_of o) at.name i)) in
      let s0 = shown d i (fresh 0 k) in
      tree_put g2 d i (fresh 1 k)
      ∙ ap (λ x. put (tree_of (reachable_graph g2 d)) i x) (shown_fresh d i k)
      ∙ ap (λ h. put h i (tree_fresh k)) (
      tree_enter g1 d at.parent room.names i k at.name room.entries in_1
      ∙ ap (λ h. with_entry h at i) (tree_put g d i (fresh 0 k))
      ∙ ap (λ o. put (put t i s0) at.parent (y o)) (put_other t i at.parent s0 apart)
      ∙ put_exchange t i at.parent s0 (y (t at.parent)) (λ e. apart (sym e)))
      ∙ put_twice (put t at.parent (y (t at.parent))) i s0 (tree_fresh k)

  -- the node stands there before it is named
  named_last : with_entry (put t i (tree_fresh k)) at i ≡ put (with_entry t at i) i (tree_fresh k)
  named_last =
      let y = λ (o : Option tree.Node). Some (tree.Dir (fin.insert (entries_of o) at.name i)) in
      let f = tree_fresh k in
      ap (λ o. put (put t i f) at.parent (y o)) (put_other t i at.parent f apart) ∙ put_exchange t i at.parent f (y (t at.parent)) (λ e. apart (sym e))

  pub sound_made : IsFair (after_effects g (make_effects i k at)) d
  sound_made = subst (λ h. IsFair h d) (sym made) sound_3

  pub tree_made : tree_of (reachable_graph (after_effects g (make_effects i k at)) d) ≡ with_entry (put t i (tree_fresh k)) at i
  tree_made = ap (λ h. tree_of (reachable_graph h d)) made ∙ tree_3 ∙ sym named_last
