-- The state that a sound graph and descriptors stand for is well-formed.
use Rattle.std.proofs.Common.{◌≡◌, ◌≢◌, ◌⊎◌, inl, inr, ℕ, ◌+◌, ◌<◌, refl, Some, None, Option, cond, ap, sym, ◌∙◌, subst, true, false, Bool, arith, ◌==◌}
use Rattle.std.specs.Prelude.{option_map, ◌&&◌, not, IsSome, if◌then◌else◌}
use Rattle.std.proofs.lemmas.Bool.Decides.{eqb_tells}
use Rattle.posix_calls.specs.Tree.{Descriptors, is_open, names_of}
use Rattle.posix_calls.specs.Query.{dir_test}
use Rattle.posix_calls.specs.WellFormed.{IsDirectory, IsFile, IsWellFormed}
use Rattle.log_record.specs.file_graph.Graph.{Graph, Node, FileBody, DirBody}
use Rattle.log_record.specs.file_graph.declared.effect.Kind.{Kind}
use Rattle.log_record.specs.file_graph.declared.effect.Kind.TheVariants as kind
use Rattle.call_effects.specs.Effects.{stored_count}
use Rattle.call_effects.specs.Wholes.{IsSound, state_of, tree_of, tree_node, tree_body, keep, reachable_graph, kind_of, body_kind, one_if}
use Rattle.call_effects.proofs.Changes.{fair_of, named, tree_dir}
use Rattle.call_effects.proofs.Views.{kept_named, kind_alike, file_count}
use Rattle.call_effects.proofs.Facts.{has_dir, kept_is_dir}
use Rattle.call_effects.proofs.Calls.{open_file}
use Rattle.call_effects.proofs.Ways.{chains, paths}
use Rattle.call_effects.proofs.Reached.{is_file, reached_kept}

some_of : {A : Type 0} (o : Option A) → IsSome o → (x : A) × (o ≡ Some x)
some_of None e = absurd (let clash : false ≡ true = e in cc)
some_of (Some x) e = (x, refl)

-- what is kept is a node
some_kept : (b : Bool) (o : Option Node) → IsSome (option_map tree_node (keep b o)) → (k : Kind) × (kind_of o ≡ Some k)
some_kept b None e = absurd (let clash : false ≡ true = e in cc)
some_kept b (Some n) e = (body_kind n.body, refl)

test_true : (c : Bool) (n : Node) → option_map tree_node (cond c None (Some n)) ≡ None → c ≡ true
test_true true n e = refl
test_true false n e = absurd (cc)

pub zero_if : (m : ℕ) (b : Bool) → (m == 0 && b) ≡ true → m ≡ 0
zero_if m b e = elim (eqb_tells m 0) [ inl same ↦ same.1 | inr off ↦ absurd (let clash : false ≡ true = sym (ap (λ c. c && b) off.0) ∙ e in cc) ]

-- what is not kept has no name
none_stored : (b : Bool) (o : Option Node) → option_map tree_node (keep b o) ≡ None → stored_count o ≡ 0
none_stored b None e = refl
none_stored b (Some n) e = elim (n.body) as (λ y. option_map tree_node (elim y [ FileBody bytes ↦ if n.names == 0 && not b then None else Some n | DirBody es ↦ Some n ]) ≡ None → n.names ≡ 0) [
  | FileBody bytes ↦ λ is. zero_if n.names (not b) (test_true (n.names == 0 && not b) n is)
  | DirBody es ↦ λ is. absurd (cc)
] e

test_false : (c : Bool) (n : Node) → IsFile (option_map tree_node (cond c None (Some n))) → c ≡ false
test_false true n e = absurd (cc)
test_false false n e = refl

-- a file that is kept has a name, or is open
file_kept : (b : Bool) (o : Option Node) → IsFile (option_map tree_node (keep b o)) → (kind_of o ≡ Some kind.File) × ((stored_count o == 0 && not b) ≡ false)
file_kept b None e = absurd (cc)
file_kept b (Some n) e = elim (n.body) as (λ y. n.body ≡ y → IsFile (option_map tree_node (elim y [ FileBody bytes ↦ if n.names == 0 && not b then None else Some n | DirBody es ↦ Some n ])) → (Some (body_kind y) ≡ Some kind.File) × ((n.names == 0 && not b) ≡ false)) [
  | FileBody bytes ↦ λ is file. (refl, test_false (n.names == 0 && not b) n file)
  | DirBody es ↦ λ is file. absurd (let clash : Some true ≡ Some false = sym (ap (λ y. Some (dir_test (tree_body y))) is) ∙ file in cc)
] refl e

not_one : (i : ℕ) → i ≢ 1 → one_if (i == 1) ≡ 0
not_one i other = elim (eqb_tells i 1) [ inl same ↦ absurd (other same.1) | inr off ↦ ap one_if off.0 ]

used_how : (m : ℕ) (b : Bool) → (m == 0 && not b) ≡ false → (0 < m) ⊎ (b ≡ true)
used_how m true e = inr refl
used_how m false e = elim (eqb_tells m 0) [
  | inl same ↦ absurd (let clash : true ≡ false = sym (ap (λ c. c && true) same.0) ∙ e in cc)
  | inr off ↦ inl (let h = off.1 in omega (arith, h))
]

module _ (g : Graph) (d : Descriptors) (sound : IsSound g d) where
  root_named : names_of (tree_of (reachable_graph g d)) 1 ≡ 0
  root_named =
      let same = kept_named g d 1 in
      let count : stored_count (g 1) ≡ named g 1 + 1 = sound.counts.counted 1 in
      let one = sound.counts.one_name 1 sound.typed.root in
      omega (arith, same, count, one)

  unnamed : (i : ℕ) → tree_of (reachable_graph g d) i ≡ None → names_of (tree_of (reachable_graph g d)) i ≡ 0
  unnamed i none =
      let same = kept_named g d i in
      let count = sound.counts.counted i in
      let zero_stored = none_stored (is_open d i) (g i) none in
      omega (arith, same, count, zero_stored)

  named_once : (i : ℕ) → IsDirectory (tree_of (reachable_graph g d) i) → i ≢ 1 → names_of (tree_of (reachable_graph g d)) i ≡ 1
  named_once i is other =
      let same = kept_named g d i in
      let count = sound.counts.counted i in
      let one = sound.counts.one_name i (kept_is_dir (is_open d i) (g i) (sym (kind_alike (reachable_graph g d i)) ∙ is)) in
      let off = not_one i other in
      omega (arith, same, count, one, off)

  used_file : (i : ℕ) → IsFile (tree_of (reachable_graph g d) i) → (0 < names_of (tree_of (reachable_graph g d)) i) ⊎ (is_open d i ≡ true)
  used_file i is =
      let f = file_kept (is_open d i) (g i) is in
      elim (used_how (stored_count (g i)) (is_open d i) f.1) [
        | inl some ↦ inl (subst (λ n. 0 < n) (file_count g d i (fair_of g d sound) f.0) some)
        | inr at ↦ inr at
      ]

  pub well_formed : IsWellFormed (state_of g d)
  well_formed = record {
    root = let r = has_dir g 1 sound.typed.root in ap (option_map dir_test) (tree_dir g d 1 r.names r.entries r.is);
    root_names = root_named;
    inodes = λ i some. let k = some_kept (is_open d i) (g i) some in sound.typed.numbers i k.0 k.1;
    numbers = λ c n some. let o = some_of (d c n) some in sound.typed.in_range c n o.0 o.1;
    entries = unnamed;
    opened = λ c n o at. is_file g d o.inode (open_file g d c n o o.inode (fair_of g d sound) at refl);
    one_name = named_once;
    reached = paths (tree_of (reachable_graph g d)) (reached_kept g d (chains (tree_of g) sound.reached));
    used = used_file;
  }
