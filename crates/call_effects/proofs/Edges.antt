-- Names that come, go and move, and bytes that change.
use Rattle.std.proofs.Common.{◌≡◌, ◌≢◌, inl, inr, ℕ, ◌+◌, ◌-◌, ◌≤◌, List, [], ◌∷◌, refl, Some, None, Option, cond, ap, sym, ◌∙◌, subst, true, false, arith, ◌==◌}
use Rattle.std.specs.Prelude.{option_map, ◌&&◌, not}
use Rattle.std.proofs.lemmas.Bool.Decides.{eqb_tells}
use Rattle.std.specs.FinMap as fin
use Rattle.posix_calls.specs.Content.{Entries, with_length, with_bytes}
use Rattle.posix_calls.specs.Tree.{Tree, Descriptors, names_of, names_in, is_open, entries_of, bytes_of}
use Rattle.posix_calls.specs.Tree as tree
use Rattle.log_record.specs.file_graph.Graph.{Graph, Node, FileBody, after_effect, after_effects, subject_after}
use Rattle.log_record.specs.file_graph.declared.effect.Kind.{Kind}
use Rattle.log_record.specs.file_graph.declared.effect.Kind.TheVariants as kind
use Rattle.log_record.specs.file_graph.declared.effect.Effect.TheVariants as effect
use Rattle.call_effects.specs.Effects.{stored_count, remove_effects}
use Rattle.call_effects.specs.Wholes.{without_kinds, tree_of, tree_node, reachable_graph, kind_of, one_if, IsTyped}
use Rattle.posix_calls.specs.declared.operation.Location.{Location}
use Rattle.posix_calls.specs.Operations.{with_entry, without_entry, less_unused}
use Rattle.posix_calls.proofs.Counts.{counted, counted_is, counted_empty, get_inserted, get_left, none_of_no_entries}
use Rattle.posix_calls.proofs.Changes.{off_one, on_one}
use Rattle.call_effects.specs.Fits.{IsRoom, IsEntry}
use Rattle.call_effects.proofs.Puts.{put, put_there, put_other, put_same}
use Rattle.call_effects.proofs.Inodes.{inodes_empty}
use Rattle.call_effects.proofs.Changes.{IsFair, same_dir, file, dir, enter_is, leave_is, names_is, one_subject, named, names_enter, names_leave, names_stay, has_name, typed_put, typed_drop, put_alike, sound_of, shown, tree_put, tree_enter, tree_leave}
use Rattle.call_effects.proofs.Views.{kept_named}

-- ---- types

pub file_no_dir : (n m : ℕ) (bytes : List ℕ) (es : Entries (ℕ × Kind)) → file n bytes ≡ dir m es → ⊥
file_no_dir n m bytes es is = let no : Some kind.File ≡ Some kind.Directory = ap kind_of is in absurd (cc)

pub typed_file : (g : Graph) (d : Descriptors) (i n m : ℕ) (old new : List ℕ) → IsTyped g d → g i ≡ file n old → IsTyped (put g i (file m new)) d
typed_file g d i n m old new typed is =
    let range = typed.numbers i kind.File (ap kind_of is) in
    typed_put g d i (file m new) typed range.0 range.1 (λ k was. sym (ap kind_of is) ∙ was) (λ h es name e no there. absurd (file_no_dir m h new es no))

pub typed_enter : (g : Graph) (d : Descriptors) (p n c : ℕ) (k : Kind) (name : List ℕ) (es : Entries (ℕ × Kind)) → IsTyped g d → g p ≡ dir n es → kind_of (g c) ≡ Some k → IsTyped (put g p (dir n (fin.insert es name (c, k)))) d
typed_enter g d p n c k name es typed is child =
    let range = typed.numbers p kind.Directory (ap kind_of is) in
    typed_put g d p (dir n (fin.insert es name (c, k))) typed range.0 range.1 (λ h was. sym (ap kind_of is) ∙ was)
    (λ m fs q e now there.
    get_inserted es name q (c, k) e (λ u. kind_of (g u.0) ≡ Some u.1) child (λ u was. typed.kinds p n es q u is was) (ap (λ x. fin.get x q) (same_dir n m (fin.insert es name (c, k)) fs now) ∙ there))

pub typed_leave : (g : Graph) (d : Descriptors) (p n : ℕ) (name : List ℕ) (es : Entries (ℕ × Kind)) → IsTyped g d → g p ≡ dir n es → IsTyped (put g p (dir n (fin.remove es name))) d
typed_leave g d p n name es typed is =
    let range = typed.numbers p kind.Directory (ap kind_of is) in
    typed_put g d p (dir n (fin.remove es name)) typed range.0 range.1 (λ h was. sym (ap kind_of is) ∙ was)
    (λ m fs q e now there. typed.kinds p n es q e is (get_left es name q e (ap (λ x. fin.get x q) (same_dir n m (fin.remove es name) fs now) ∙ there)))

-- ---- bytes

-- a file that has a name or a descriptor
abbrev pub IsUsed : Descriptors → ℕ → ℕ → Type 0
IsUsed d i n = (n == 0 && not (is_open d i)) ≡ false

pub shown_used : (d : Descriptors) (i n : ℕ) (bytes : List ℕ) → IsUsed d i n → shown d i (file n bytes) ≡ Some (tree.File bytes)
shown_used d i n bytes used = ap (λ b. option_map tree_node (cond b None (file n bytes))) used

pub tree_used : (g : Graph) (d : Descriptors) (i n : ℕ) (bytes : List ℕ) → g i ≡ file n bytes → IsUsed d i n → tree_of (reachable_graph g d) i ≡ Some (tree.File bytes)
tree_used g d i n bytes is used = ap (shown d i) is ∙ shown_used d i n bytes used

pub write_is : (g : Graph) (i n at : ℕ) (old bytes : List ℕ) → g i ≡ file n old → after_effect g (effect.Bytes i at bytes) ≡ put g i (file n (with_bytes at bytes old))
write_is g i n at old bytes is = one_subject g (effect.Bytes i at bytes) i refl ∙ ap (λ o. put g i (subject_after (effect.Bytes i at bytes) o)) is

pub size_is : (g : Graph) (i n len : ℕ) (old : List ℕ) → g i ≡ file n old → after_effect g (effect.Size i len) ≡ put g i (file n (with_length len old))
size_is g i n len old is = one_subject g (effect.Size i len) i refl ∙ ap (λ o. put g i (subject_after (effect.Size i len) o)) is

pub sound_bytes : (g : Graph) (d : Descriptors) (i n : ℕ) (old new : List ℕ) → IsFair g d → g i ≡ file n old → IsFair (put g i (file n new)) d
sound_bytes g d i n old new sound is =
    let range = sound.typed.numbers i kind.File (ap kind_of is) in
    let x = file n new in
    let names = λ (j : ℕ). names_stay g i x j range.0 range.1 (ap (λ o. names_in j (option_map tree_node o)) (sym is)) in
    let there : put g i x i ≡ x = put_there g i x in
    let count : stored_count (g i) ≡ named g i + one_if (i == 1) = sound.counted i in
    sound_of g (put g i x) d d i sound (typed_file g d i n n old new sound.typed is)
    (λ j off. ap stored_count (put_other g i j x off))
    (λ j off. ap kind_of (put_other g i j x off))
    (λ j off. names j)
    (ap stored_count there ∙ sym (ap stored_count is) ∙ count ∙ ap (λ m. m + one_if (i == 1)) (sym (names i)))
    (λ no. let clash : Some kind.File ≡ Some kind.Directory = sym (ap kind_of there) ∙ no in absurd (cc))

pub tree_bytes : (g : Graph) (d : Descriptors) (i n : ℕ) (new : List ℕ) → IsUsed d i n → tree_of (reachable_graph (put g i (file n new)) d) ≡ put (tree_of (reachable_graph g d)) i (Some (tree.File new))
tree_bytes g d i n new used = tree_put g d i (file n new) ∙ ap (λ y. put (tree_of (reachable_graph g d)) i y) (shown_used d i n new used)

pub sound_written : (g : Graph) (d : Descriptors) (i n at : ℕ) (old bytes : List ℕ) → IsFair g d → g i ≡ file n old → IsFair (after_effects g (effect.Bytes i at bytes ∷ [])) d
sound_written g d i n at old bytes sound is = subst (λ h. IsFair h d) (sym (write_is g i n at old bytes is)) (sound_bytes g d i n old (with_bytes at bytes old) sound is)

pub tree_written : (g : Graph) (d : Descriptors) (i n at : ℕ) (old bytes : List ℕ) → g i ≡ file n old → IsUsed d i n
    → tree_of (reachable_graph (after_effects g (effect.Bytes i at bytes ∷ [])) d) ≡ put (tree_of (reachable_graph g d)) i (Some (tree.File (with_bytes at bytes (bytes_of (tree_of (reachable_graph g d) i)))))
tree_written g d i n at old bytes is used =
    ap (λ h. tree_of (reachable_graph h d)) (write_is g i n at old bytes is) ∙ tree_bytes g d i n (with_bytes at bytes old) used
    ∙ ap (λ o. put (tree_of (reachable_graph g d)) i (Some (tree.File (with_bytes at bytes (bytes_of o))))) (sym (tree_used g d i n old is used))

pub sound_resized : (g : Graph) (d : Descriptors) (i n len : ℕ) (old : List ℕ) → IsFair g d → g i ≡ file n old → IsFair (after_effects g (effect.Size i len ∷ [])) d
sound_resized g d i n len old sound is = subst (λ h. IsFair h d) (sym (size_is g i n len old is)) (sound_bytes g d i n old (with_length len old) sound is)

pub tree_resized : (g : Graph) (d : Descriptors) (i n len : ℕ) (old : List ℕ) → g i ≡ file n old → IsUsed d i n
    → tree_of (reachable_graph (after_effects g (effect.Size i len ∷ [])) d) ≡ put (tree_of (reachable_graph g d)) i (Some (tree.File (with_length len (bytes_of (tree_of (reachable_graph g d) i)))))
tree_resized g d i n len old is used =
    ap (λ h. tree_of (reachable_graph h d)) (size_is g i n len old is) ∙ tree_bytes g d i n (with_length len old) used
    ∙ ap (λ o. put (tree_of (reachable_graph g d)) i (Some (tree.File (with_length len (bytes_of o))))) (sym (tree_used g d i n old is used))

-- ---- a name of a file goes

module _ (g : Graph) (d : Descriptors) (i names : ℕ) (at : Location) (bytes : List ℕ) (sound : IsFair g d) (entry : IsEntry g at (i, kind.File)) (is : g i ≡ file names bytes) where
  abbrev drop_1 : Graph
  drop_1 = put g at.parent (dir entry.names (fin.remove entry.entries at.name))

  abbrev pub drop_2 : Graph
  drop_2 = put drop_1 i (file (names - 1) bytes)

  file_apart : at.parent ≢ i
  file_apart same = file_no_dir names entry.names bytes entry.entries (sym is ∙ ap g (sym same) ∙ entry.is)

  in_1 : drop_1 i ≡ file names bytes
  in_1 = put_other g at.parent i (dir entry.names (fin.remove entry.entries at.name)) (λ e. file_apart (sym e)) ∙ is

  pub dropped : after_effects g (effect.Leave at.parent at.name ∷ effect.Names i (names - 1) ∷ []) ≡ drop_2
  dropped = ap (λ h. after_effect h (effect.Names i (names - 1))) (leave_is g at.parent entry.names at.name entry.entries entry.is) ∙ names_is drop_1 i names (names - 1) (FileBody bytes) in_1

  range : (1 ≤ at.parent) × (at.parent ≤ 1024)
  range = sound.typed.numbers at.parent kind.Directory (ap kind_of entry.is)

  range_i : (1 ≤ i) × (i ≤ 1024)
  range_i = sound.typed.numbers i kind.File (ap kind_of is)

  not_root : one_if (i == 1) ≡ 0
  not_root = elim (eqb_tells i 1) [
    | inl same ↦ let clash : Some kind.File ≡ Some kind.Directory = sym (ap kind_of is) ∙ ap (λ j. kind_of (g j)) same.1 ∙ sound.typed.root in absurd (cc)
    | inr off ↦ ap one_if off.0
  ]

  drop_names : (j : ℕ) → named drop_2 j + cond (i == j) 1 0 ≡ named g j
  drop_names j =
      ap (λ x. x + cond (i == j) 1 0) (names_stay drop_1 i (file (names - 1) bytes) j range_i.0 range_i.1 (ap (λ o. names_in j (option_map tree_node o)) (sym in_1)))
      ∙ names_leave g at.parent entry.names at.name entry.entries (i, kind.File) j entry.is range.0 range.1 entry.there

  drop_other : {A : Type 0} (f : Option Node → A) → f (dir entry.names (fin.remove entry.entries at.name)) ≡ f (g at.parent) → (j : ℕ) → j ≢ i → f (drop_2 j) ≡ f (g j)
  drop_other f same j off = ap f (put_other drop_1 i j (file (names - 1) bytes) off) ∙ put_alike f g at.parent (dir entry.names (fin.remove entry.entries at.name)) same j

  pub sound_dropped : IsFair drop_2 d
  sound_dropped =
      let there : drop_2 i ≡ file (names - 1) bytes = put_there drop_1 i (file (names - 1) bytes) in
      let before : names ≡ named g i + one_if (i == 1) = sym (ap stored_count is) ∙ sound.counted i in
      let less : named drop_2 i + 1 ≡ named g i = ap (λ x. named drop_2 i + x) (sym (on_one i)) ∙ drop_names i in
      let rest : stored_count (drop_2 i) ≡ names - 1 = ap stored_count there in
      let root = not_root in
      sound_of g drop_2 d d i sound
      (typed_file drop_1 d i names (names - 1) bytes bytes (typed_leave g d at.parent entry.names at.name entry.entries sound.typed entry.is) in_1)
      (drop_other stored_count (sym (ap stored_count entry.is)))
      (drop_other kind_of (sym (ap kind_of entry.is)))
      (λ j off. let m = drop_names j in let z = off_one i j off in omega (arith, m, z))
      (omega (arith, before, less, rest, root))
      (λ no. let clash : Some kind.File ≡ Some kind.Directory = sym (ap kind_of there) ∙ no in absurd (cc))

  -- the tree without the name has one name fewer
  left_names : names_of (without_entry (tree_of (reachable_graph g d)) at) i ≡ names - 1
  left_names =
      let same : names_of (without_entry (tree_of (reachable_graph g d)) at) i ≡ named drop_1 i = ap (λ h. names_of h i) (sym (tree_leave g d at.parent entry.names at.name entry.entries entry.is)) ∙ kept_named drop_1 d i in
      let before : names ≡ named g i + one_if (i == 1) = sym (ap stored_count is) ∙ sound.counted i in
      let less : named drop_1 i + 1 ≡ named g i = ap (λ x. named drop_1 i + x) (sym (on_one i)) ∙ names_leave g at.parent entry.names at.name entry.entries (i, kind.File) i entry.is range.0 range.1 entry.there in
      let root = not_root in
      omega (arith, same, before, less, root)

  pub tree_dropped : IsUsed d i names → tree_of (reachable_graph drop_2 d) ≡ less_unused d (without_entry (tree_of (reachable_graph g d)) at) i
  tree_dropped used =
      let t = tree_of (reachable_graph g d) in
      let h = without_entry t at in
      tree_put drop_1 d i (file (names - 1) bytes)
      ∙ ap (λ x. put x i (shown d i (file (names - 1) bytes))) (tree_leave g d at.parent entry.names at.name entry.entries entry.is)
      ∙ elim (names - 1 == 0 && not (is_open d i)) as (λ b. put h i (option_map tree_node (cond b None (file (names - 1) bytes))) ≡ cond b (put h i None) h) [
        | true ↦ refl
        | false ↦ put_same h i (Some (tree.File bytes)) (put_other t at.parent i (Some (tree.Dir (fin.remove (entries_of (t at.parent)) at.name))) (λ e. file_apart (sym e)) ∙ tree_used g d i names bytes is used)
      ]
      ∙ ap (λ n. cond (n == 0 && not (is_open d i)) (put h i None) h) (sym left_names)

-- ---- a name moves

module _ (g : Graph) (d : Descriptors) (i : ℕ) (k : Kind) (from to : Location) (sound : IsFair g d) (entry : IsEntry g from (i, k)) (room : IsRoom (put g from.parent (dir entry.names (fin.remove entry.entries from.name))) to) where
  abbrev pub shift_1 : Graph
  shift_1 = put g from.parent (dir entry.names (fin.remove entry.entries from.name))

  abbrev pub shift_2 : Graph
  shift_2 = put shift_1 to.parent (dir room.names (fin.insert room.entries to.name (i, k)))

  pub shifted : after_effects g (effect.Leave from.parent from.name ∷ effect.Enter to.parent i k to.name ∷ []) ≡ shift_2
  shifted = ap (λ h. after_effect h (effect.Enter to.parent i k to.name)) (leave_is g from.parent entry.names from.name entry.entries entry.is) ∙ enter_is shift_1 to.parent room.names i k to.name room.entries room.is

  typed_1 : IsTyped shift_1 d
  typed_1 = typed_leave g d from.parent entry.names from.name entry.entries sound.typed entry.is

  alike_1 : {A : Type 0} (f : Option Node → A) → f (dir entry.names (fin.remove entry.entries from.name)) ≡ f (g from.parent) → (j : ℕ) → f (shift_1 j) ≡ f (g j)
  alike_1 f same j = put_alike f g from.parent (dir entry.names (fin.remove entry.entries from.name)) same j

  alike_2 : {A : Type 0} (f : Option Node → A) → f (dir room.names (fin.insert room.entries to.name (i, k))) ≡ f (shift_1 to.parent) → (j : ℕ) → f (shift_2 j) ≡ f (shift_1 j)
  alike_2 f same j = put_alike f shift_1 to.parent (dir room.names (fin.insert room.entries to.name (i, k))) same j

  kinds_1 : (j : ℕ) → kind_of (shift_1 j) ≡ kind_of (g j)
  kinds_1 = alike_1 kind_of (sym (ap kind_of entry.is))

  kinds_2 : (j : ℕ) → kind_of (shift_2 j) ≡ kind_of (g j)
  kinds_2 j = alike_2 kind_of (sym (ap kind_of room.is)) j ∙ kinds_1 j

  stores_2 : (j : ℕ) → stored_count (shift_2 j) ≡ stored_count (g j)
  stores_2 j = alike_2 stored_count (sym (ap stored_count room.is)) j ∙ alike_1 stored_count (sym (ap stored_count entry.is)) j

  names_2 : (j : ℕ) → named shift_2 j ≡ named g j
  names_2 j =
      let low = sound.typed.numbers from.parent kind.Directory (ap kind_of entry.is) in
      let high = typed_1.numbers to.parent kind.Directory (ap kind_of room.is) in
      names_enter shift_1 to.parent room.names i k to.name room.entries j room.is high.0 high.1 room.none
      ∙ names_leave g from.parent entry.names from.name entry.entries (i, k) j entry.is low.0 low.1 entry.there

  pub sound_shifted : IsFair shift_2 d
  sound_shifted = sound_of g shift_2 d d i sound
      (typed_enter shift_1 d to.parent room.names i k to.name room.entries typed_1 room.is (kinds_1 i ∙ sound.typed.kinds from.parent entry.names entry.entries from.name (i, k) entry.is entry.there))
      (λ j off. stores_2 j) (λ j off. kinds_2 j) (λ j off. names_2 j)
      (stores_2 i ∙ sound.counted i ∙ ap (λ n. n + one_if (i == 1)) (sym (names_2 i)))
      (λ is. stores_2 i ∙ sound.one_name i (sym (kinds_2 i) ∙ is))

  pub tree_shifted : tree_of (reachable_graph shift_2 d) ≡ with_entry (without_entry (tree_of (reachable_graph g d)) from) to i
  tree_shifted = tree_enter shift_1 d to.parent room.names i k to.name room.entries room.is ∙ ap (λ h. with_entry h to i) (tree_leave g d from.parent entry.names from.name entry.entries entry.is)

-- ---- a directory goes

module _ (g : Graph) (d : Descriptors) (i : ℕ) (n : ℕ) (at : Location) (es : Entries (ℕ × Kind)) (sound : IsFair g d) (entry : IsEntry g at (i, kind.Directory)) (is : g i ≡ dir n es) (empty : fin.len es ≡ 0) where
  abbrev go_1 : Graph
  go_1 = put g at.parent (dir entry.names (fin.remove entry.entries at.name))

  abbrev pub go_2 : Graph
  go_2 = put go_1 i None

  dir_apart : at.parent ≢ i
  dir_apart same =
      let one = same_dir entry.names n entry.entries es (sym entry.is ∙ ap g same ∙ is) in
      none_of_no_entries es at.name (i, kind.Directory) empty (ap (λ m. fin.get m at.name) (sym one) ∙ entry.there)

  pub gone_is : after_effects g (remove_effects at i) ≡ go_2
  gone_is = ap (λ h. after_effect h (effect.Drop i)) (leave_is g at.parent entry.names at.name entry.entries entry.is) ∙ one_subject go_1 (effect.Drop i) i refl

  in_go : go_1 i ≡ dir n es
  in_go = put_other g at.parent i (dir entry.names (fin.remove entry.entries at.name)) (λ e. dir_apart (sym e)) ∙ is

  go_range : (1 ≤ at.parent) × (at.parent ≤ 1024)
  go_range = sound.typed.numbers at.parent kind.Directory (ap kind_of entry.is)

  go_range_i : (1 ≤ i) × (i ≤ 1024)
  go_range_i = sound.typed.numbers i kind.Directory (ap kind_of is)

  go_leaves : (j : ℕ) → named go_1 j + cond (i == j) 1 0 ≡ named g j
  go_leaves j = names_leave g at.parent entry.names at.name entry.entries (i, kind.Directory) j entry.is go_range.0 go_range.1 entry.there

  none_in : (j : ℕ) → names_in j (option_map tree_node (go_1 i)) ≡ 0
  none_in j = ap (λ o. names_in j (option_map tree_node o)) in_go ∙ counted_is j (without_kinds es) ∙ ap (λ m. counted j (without_kinds m)) (fin.empty_of_len es empty) ∙ ap (counted j) inodes_empty ∙ counted_empty j

  go_stay : (j : ℕ) → named go_2 j ≡ named go_1 j
  go_stay j = names_stay go_1 i None j go_range_i.0 go_range_i.1 (sym (none_in j))

  one_name_left : (1 ≤ named g i) × (stored_count (g i) ≡ 1) × (stored_count (g i) ≡ named g i + one_if (i == 1))
  one_name_left = (has_name g at.parent entry.names at.name entry.entries (i, kind.Directory) entry.is go_range.0 go_range.1 entry.there, sound.one_name i (ap kind_of is), sound.counted i)

  no_root : one_if (i == 1) ≡ 0
  no_root = let f = one_name_left in let a = f.0 in let b = f.1 in let c = f.2 in omega (arith, a, b, c)

  no_name : named go_1 i ≡ 0
  no_name = let f = one_name_left in let a = f.0 in let b = f.1 in let c = f.2 in let l : named go_1 i + 1 ≡ named g i = ap (λ x. named go_1 i + x) (sym (on_one i)) ∙ go_leaves i in omega (arith, a, b, c, l)

  i_no_root : i ≢ 1
  i_no_root e = let z = no_root in let o : one_if (i == 1) ≡ 1 = ap (λ y. one_if (y == 1)) e in omega (arith, z, o)

  go_other : {A : Type 0} (f : Option Node → A) → f (dir entry.names (fin.remove entry.entries at.name)) ≡ f (g at.parent) → (j : ℕ) → j ≢ i → f (go_2 j) ≡ f (g j)
  go_other f same j off = ap f (put_other go_1 i j None off) ∙ put_alike f g at.parent (dir entry.names (fin.remove entry.entries at.name)) same j

  pub sound_gone : IsFair go_2 d
  sound_gone =
      let there : go_2 i ≡ None = put_there go_1 i None in
      let rest : stored_count (go_2 i) ≡ 0 = ap stored_count there in
      let names : named go_2 i ≡ 0 = go_stay i ∙ no_name in
      let root = no_root in
      sound_of g go_2 d d i sound
      (typed_drop go_1 d i (typed_leave g d at.parent entry.names at.name entry.entries sound.typed entry.is) (λ c m o held same. let now : Some kind.Directory ≡ Some kind.File = sym (ap kind_of is) ∙ ap (λ y. kind_of (g y)) (sym same) ∙ sound.typed.opened c m o held in cc) i_no_root no_name)
      (go_other stored_count (sym (ap stored_count entry.is)))
      (go_other kind_of (sym (ap kind_of entry.is)))
      (λ j off. let m = go_leaves j in let s = go_stay j in let z = off_one i j off in omega (arith, m, s, z))
      (omega (arith, rest, names, root))
      (λ no. let clash : None ≡ Some kind.Directory = sym (ap kind_of there) ∙ no in absurd (cc))

  pub tree_gone : tree_of (reachable_graph go_2 d) ≡ put (without_entry (tree_of (reachable_graph g d)) at) i None
  tree_gone = tree_put go_1 d i None ∙ ap (λ h. put h i None) (tree_leave g d at.parent entry.names at.name entry.entries entry.is)

-- ---- one name more

not_zero : (n : ℕ) → (n + 1 == 0) ≡ false
not_zero n = elim (eqb_tells (n + 1) 0) [ inl same ↦ let e = same.1 in absurd (omega (arith, e)) | inr off ↦ off.0 ]

module _ (g : Graph) (d : Descriptors) (i names : ℕ) (at : Location) (bytes : List ℕ) (sound : IsFair g d) (room : IsRoom g at) (is : g i ≡ file names bytes) where
  abbrev add_1 : Graph
  add_1 = put g at.parent (dir room.names (fin.insert room.entries at.name (i, kind.File)))

  abbrev pub add_2 : Graph
  add_2 = put add_1 i (file (names + 1) bytes)

  add_apart : at.parent ≢ i
  add_apart same = file_no_dir names room.names bytes room.entries (sym is ∙ ap g (sym same) ∙ room.is)

  in_add : add_1 i ≡ file names bytes
  in_add = put_other g at.parent i (dir room.names (fin.insert room.entries at.name (i, kind.File))) (λ e. add_apart (sym e)) ∙ is

  pub added : after_effects g (effect.Enter at.parent i kind.File at.name ∷ effect.Names i (names + 1) ∷ []) ≡ add_2
  added = ap (λ h. after_effect h (effect.Names i (names + 1))) (enter_is g at.parent room.names i kind.File at.name room.entries room.is) ∙ names_is add_1 i names (names + 1) (FileBody bytes) in_add

  add_names : (j : ℕ) → named add_2 j ≡ named g j + cond (i == j) 1 0
  add_names j =
      let low = sound.typed.numbers at.parent kind.Directory (ap kind_of room.is) in
      let range = sound.typed.numbers i kind.File (ap kind_of is) in
      names_stay add_1 i (file (names + 1) bytes) j range.0 range.1 (ap (λ o. names_in j (option_map tree_node o)) (sym in_add))
      ∙ names_enter g at.parent room.names i kind.File at.name room.entries j room.is low.0 low.1 room.none

  add_other : {A : Type 0} (f : Option Node → A) → f (dir room.names (fin.insert room.entries at.name (i, kind.File))) ≡ f (g at.parent) → (j : ℕ) → j ≢ i → f (add_2 j) ≡ f (g j)
  add_other f same j off = ap f (put_other add_1 i j (file (names + 1) bytes) off) ∙ put_alike f g at.parent (dir room.names (fin.insert room.entries at.name (i, kind.File))) same j

  pub sound_added : IsFair add_2 d
  sound_added =
      let there : add_2 i ≡ file (names + 1) bytes = put_there add_1 i (file (names + 1) bytes) in
      let before : names ≡ named g i + one_if (i == 1) = sym (ap stored_count is) ∙ sound.counted i in
      let more : named add_2 i ≡ named g i + 1 = add_names i ∙ ap (λ x. named g i + x) (on_one i) in
      let now : stored_count (add_2 i) ≡ names + 1 = ap stored_count there in
      sound_of g add_2 d d i sound
      (typed_file add_1 d i names (names + 1) bytes bytes (typed_enter g d at.parent room.names i kind.File at.name room.entries sound.typed room.is (ap kind_of is)) in_add)
      (add_other stored_count (sym (ap stored_count room.is)))
      (add_other kind_of (sym (ap kind_of room.is)))
      (λ j off. let m = add_names j in let z = off_one i j off in omega (arith, m, z))
      (omega (arith, before, more, now))
      (λ no. let clash : Some kind.File ≡ Some kind.Directory = sym (ap kind_of there) ∙ no in absurd (cc))

  pub tree_added : IsUsed d i names → tree_of (reachable_graph add_2 d) ≡ with_entry (tree_of (reachable_graph g d)) at i
  tree_added used =
      let t = tree_of (reachable_graph g d) in
      let y = Some (tree.Dir (fin.insert (entries_of (t at.parent)) at.name i)) in
      tree_put add_1 d i (file (names + 1) bytes)
      ∙ ap (λ h. put h i (shown d i (file (names + 1) bytes))) (tree_enter g d at.parent room.names i kind.File at.name room.entries room.is)
      ∙ ap (λ o. put (with_entry t at i) i o) (ap (λ b. option_map tree_node (cond (b && not (is_open d i)) None (file (names + 1) bytes))) (not_zero names))
      ∙ put_same (with_entry t at i) i (Some (tree.File bytes)) (put_other t at.parent i y (λ e. add_apart (sym e)) ∙ tree_used g d i names bytes is used)
