-- What a client's copies show and tell is so in the whole.
use Rattle.std.proofs.Common.{◌≡◌, inl, inr, ℕ, List, [], ◌∷◌, refl, Some, None, Option, cond, ap, sym, ◌∙◌, true, false, Bool, T, ◌==◌}
use Rattle.std.specs.Prelude.{unwrap_or, option_map, ◌&&◌, ◌||◌}
use Rattle.std.specs.List.{list_any}
use Rattle.std.specs.Cmp.{tied_itself}
use Rattle.std.specs.Cmp.Lexicographic.{nat_list_cmp_total}
use Rattle.std.specs.Ordering.{is_lt, is_eq, ordering_reverse}
use Rattle.std.specs.declared.cmp.Ordering.{Ordering}
use Rattle.std.specs.declared.cmp.Ordering.TheVariants.{Less, Equal, Greater}
use Rattle.std.specs.FinMap as fin
use Rattle.std.specs.FinMap.Entries.{below_all}
use Rattle.std.proofs.lemmas.Bool.Decides.{eqb_tells}
use Rattle.posix_calls.specs.Content.{Entries, range}
use Rattle.posix_calls.specs.Tree.{Descriptors}
use Rattle.posix_calls.specs.Query.{Seen}
use Rattle.posix_calls.specs.Part.{IsPart}
use Rattle.posix_calls.proofs.Counts.{order}
use Rattle.posix_calls.proofs.Directory.{names_same}
use Rattle.posix_calls.proofs.Sums.{any_is}
use Rattle.log_record.specs.file_graph.Graph.{Graph, FileBody, DirBody}
use Rattle.log_record.specs.file_graph.declared.effect.Kind.{Kind}
use Rattle.log_record.specs.file_graph.declared.effect.Kind.TheVariants as kind
use Rattle.call_effects.specs.Blocks.{range_by}
use Rattle.call_effects.specs.NodeView.{NodeView, FileView, DirView, view_seen, view_is_dir}
use Rattle.call_effects.specs.Wholes.{kind_of, node_is_dir, node_seen, node_bytes}
use Rattle.call_effects.specs.Knowledge.{Knowledge, Agrees, copy_of, same_kind, lists_as, is_listed, is_dir_by, part_of, stored_view}
use Rattle.call_effects.proofs.Changes.{IsFair, dir}
use Rattle.call_effects.proofs.Facts.{has_dir, has_file}
use Rattle.call_effects.proofs.Blocks.{range_is}
use Rattle.call_effects.proofs.NodeViews.{dir_viewed, kind_viewed, seen_viewed, block_told}
use Rattle.call_effects.proofs.PutBack.{stands_back, dir_stood}

-- ---- an entry that passes is found by its name

parts : (a b : Bool) → T (a && b) → T a × T b
parts true b h = (tt, h)
parts false b h = absurd h

lower : (o : Ordering) → T (is_lt o) → o ≡ Less
lower Less h = refl
lower Equal h = absurd h
lower Greater h = absurd h

first_found : {X : Type 0} (e : List ℕ × X) (es : List (List ℕ × X)) → fin.find order e.0 (e ∷ es) ≡ Some e.1
first_found e es = ap (λ o. cond (is_eq o) (Some e.1) (fin.find order e.0 es)) (tied_itself nat_list_cmp_total e.0)

-- what is found among higher names is higher
higher : {X : Type 0} (low name : List ℕ) (x : X) (es : List (List ℕ × X)) → T (below_all order low es) → fin.find order name es ≡ Some x → order low name ≡ Less
higher low name x [] below found = absurd (cc)
higher low name x (e ∷ es) below found =
    let both = parts (is_lt (order low e.0)) (below_all order low es) below in
    elim (order name e.0) as (λ o. order name e.0 ≡ o → cond (is_eq o) (Some e.1) (fin.find order name es) ≡ Some x → order low name ≡ Less) [
      | Less ↦ λ is rest. higher low name x es both.1 rest
      | Equal ↦ λ is here. ap (order low) (names_same name e.0 is) ∙ lower (order low e.0) both.0
      | Greater ↦ λ is rest. higher low name x es both.1 rest
    ] refl found

-- an entry that passes a test
record IsFound {X : Type 0} (p : List ℕ × X → Bool) (es : List (List ℕ × X)) : Type 0 where
  name : List ℕ
  what : X
  found : fin.find order name es ≡ Some what
  passes : p (name, what) ≡ true

found_by : {X : Type 0} (p : List ℕ × X → Bool) (es : List (List ℕ × X)) → T (fin.is_sorted order es) → list_any p es ≡ true → IsFound p es
found_by p [] sorted any = absurd (cc)
found_by p (e ∷ es) sorted any =
    let both = parts (below_all order e.0 es) (fin.is_sorted order es) sorted in
    elim (p e) as (λ b. p e ≡ b → (b || list_any p es) ≡ true → IsFound p (e ∷ es)) [
      | true ↦ λ is here. record { name = e.0; what = e.1; found = first_found e es; passes = is }
      | false ↦ λ is rest.
          let r = found_by p es both.1 rest in
          let above : order r.name e.0 ≡ Greater = nat_list_cmp_total.antisymm r.name e.0 ∙ ap ordering_reverse (higher e.0 r.name r.what es both.0 r.found) in
          record { name = r.name; what = r.what; found = ap (λ o. cond (is_eq o) (Some e.1) (fin.find order r.name es)) above ∙ r.found; passes = r.passes }
    ] refl any

-- ---- what a copy tells

same_kind_is : (a b : Kind) → same_kind a b ≡ true → a ≡ b
same_kind_is kind.File kind.File e = refl
same_kind_is kind.Directory kind.Directory e = refl
same_kind_is kind.File kind.Directory e = absurd (cc)
same_kind_is kind.Directory kind.File e = absurd (cc)

pub both_hold : (a b : Bool) → (a && b) ≡ true → (a ≡ true) × (b ≡ true)
both_hold true b e = (refl, e)
both_hold false b e = absurd (cc)

same_number : (a b : ℕ) → (a == b) ≡ true → a ≡ b
same_number a b e = elim (eqb_tells a b) [ inl same ↦ same.1 | inr off ↦ absurd (let clash : true ≡ false = sym e ∙ off.0 in cc) ]

module _ (k : Knowledge) (g : Graph) (d : Descriptors) (fair : IsFair g d) (agrees : Agrees k g d) where
  abbrev back : Graph
  back = agrees.back

  -- what is copied of a directory stands in the whole
  pub dir_copied : (at names : ℕ) (es : Entries (ℕ × Kind)) → k.copies at ≡ Some (Some (DirView names es)) → g at ≡ dir names es
  dir_copied at names es is = dir_stood g back agrees.put_back at names es (dir_viewed (back at) names es (agrees.copies at (Some (DirView names es)) is))

  entry_tells : (at n i : ℕ) (es : Entries (ℕ × Kind)) (what : Kind) → g at ≡ dir n es → list_any (λ e. e.1.0 == i && same_kind e.1.1 what) (fin.entries es) ≡ true → kind_of (g i) ≡ Some what
  entry_tells at n i es what is any =
      let r = found_by (λ (e : List ℕ × (ℕ × Kind)). e.1.0 == i && same_kind e.1.1 what) (fin.entries es) (fin.entries_sorted es) any in
      let test = both_hold (r.what.0 == i) (same_kind r.what.1 what) r.passes in
      ap (λ j. kind_of (g j)) (sym (same_number r.what.0 i test.0))
      ∙ fair.typed.kinds at n es r.name r.what is (fin.get-entries es r.name ∙ r.found)
      ∙ ap (λ x. Some x) (same_kind_is r.what.1 what test.1)

  copy_tells : (at i : ℕ) (what : Kind) (copy : Option (Option NodeView)) → k.copies at ≡ copy → lists_as i what (unwrap_or copy None) ≡ true → kind_of (g i) ≡ Some what
  copy_tells at i what None is e = absurd (cc)
  copy_tells at i what (Some None) is e = absurd (cc)
  copy_tells at i what (Some (Some (FileView names size))) is e = absurd (cc)
  copy_tells at i what (Some (Some (DirView names es))) is e = entry_tells at names i es what (dir_copied at names es is) e

  pub told_is : (i : ℕ) (what : Kind) → is_listed k i what ≡ true → kind_of (g i) ≡ Some what
  told_is i what e =
      let at = any_is 1024 (λ x. lists_as i what (copy_of k x)) e in
      copy_tells at.k i what (k.copies at.k) refl at.passes

  -- ---- the part

  pub dir_stands : (i : ℕ) → kind_of (g i) ≡ Some kind.Directory → option_map node_is_dir (back i) ≡ Some true
  dir_stands i is = let f = has_dir g i is in ap (option_map node_is_dir) (stands_back g back agrees.put_back i (record { names = f.names; body = DirBody f.entries }) f.is)

  pub file_stands : (i : ℕ) → kind_of (g i) ≡ Some kind.File → option_map node_is_dir (back i) ≡ Some false
  file_stands i is = let f = has_file g i is in ap (option_map node_is_dir) (stands_back g back agrees.put_back i (record { names = f.names; body = FileBody f.bytes }) f.is)

  is_dir_of : (i : ℕ) (o : Option Bool) (copy : Option (Option NodeView)) (as_dir as_file : Bool) → k.copies i ≡ copy → is_listed k i kind.Directory ≡ as_dir → is_listed k i kind.File ≡ as_file → is_dir_by copy as_dir as_file ≡ Some o → option_map node_is_dir (back i) ≡ o
  is_dir_of i o (Some copy) as_dir as_file is b c e = kind_viewed (back i) ∙ ap (option_map view_is_dir) (agrees.copies i copy is) ∙ (let same : option_map view_is_dir copy ≡ o = cc in same)
  is_dir_of i o None true as_file is b c e = dir_stands i (told_is i kind.Directory b) ∙ (let same : Some true ≡ o = cc in same)
  is_dir_of i o None false true is b c e = file_stands i (told_is i kind.File c) ∙ (let same : Some false ≡ o = cc in same)
  is_dir_of i o None false false is b c e = absurd (cc)

  dir_of : (i : ℕ) (o : Option Bool) → (part_of k).is_dir i ≡ Some o → option_map node_is_dir (back i) ≡ o
  dir_of i o e = elim (eqb_tells i 1) [
    | inl same ↦
        let is : Some (Some true) ≡ Some o = sym (ap (λ b. cond b (Some (Some true)) (is_dir_by (k.copies i) (is_listed k i kind.Directory) (is_listed k i kind.File))) same.0) ∙ e in
        ap (λ j. option_map node_is_dir (back j)) same.1 ∙ dir_stands 1 fair.typed.root ∙ (let one : Some true ≡ o = cc in one)
    | inr off ↦ is_dir_of i o (k.copies i) (is_listed k i kind.Directory) (is_listed k i kind.File) refl refl refl (sym (ap (λ b. cond b (Some (Some true)) (is_dir_by (k.copies i) (is_listed k i kind.Directory) (is_listed k i kind.File))) off.0) ∙ e)
  ]

  node_of : (i : ℕ) (o : Option Seen) (copy : Option (Option NodeView)) → k.copies i ≡ copy → option_map (λ c. option_map view_seen c) copy ≡ Some o → option_map node_seen (back i) ≡ o
  node_of i o None is e = absurd (cc)
  node_of i o (Some copy) is e = seen_viewed (back i) ∙ ap (option_map view_seen) (agrees.copies i copy is) ∙ (let same : option_map view_seen copy ≡ o = cc in same)

  bytes_of : (i at count : ℕ) (bytes : List ℕ) → range_by (k.blocks i) at count ≡ Some bytes → range at count (node_bytes (back i)) ≡ bytes
  bytes_of i at count bytes e = range_is (k.blocks i) (node_bytes (back i)) (λ b block is. block_told b (back i) block (agrees.blocks i b block is)) at count bytes e

  pub part_is : IsPart (part_of k) (stored_view back)
  part_is = record { is_dir = dir_of; node = λ i o e. node_of i o (k.copies i) refl e; bytes = bytes_of }
