-- What the tables count is what the graph has.
use Rattle.std.proofs.Common.{◌≡◌, inl, inr, ℕ, zero, suc, ◌+◌, ◌<◌, ◌≤◌, ◌==◌, List, [], ◌∷◌, refl, Some, None, Option, cond, ap, sym, ◌∙◌, subst, true, false, Bool, arith, if◌then◌else◌}
use Rattle.std.specs.Prelude.{count_by, ◌&&◌, nat_le, T, option_map}
use Rattle.std.proofs.lemmas.Bool.Decides.{eqb_tells}
use Rattle.std.proofs.Math.Decide.{dec_le}
use Rattle.std.specs.Ordering.{nat_cmp}
use Rattle.std.specs.Cmp.Lexicographic.{slice_cmp}
use Rattle.std.specs.FinMap as fin
use Rattle.posix_calls.specs.Content.{Entries}
use Rattle.posix_calls.specs.Tree.{names_in, names_of, sum_up_to}
use Rattle.record_validation.specs.file_graph.Graph.{Graph, Node, FileBody, DirBody}
use Rattle.record_validation.specs.file_graph.declared.effect.Kind.{Kind}
use Rattle.record_validation.specs.file_graph.declared.effect.Kind.TheVariants.{File, Directory}
use Rattle.record_validation.specs.call_effects.NodeView.{NodeView, view_at, view_of_node}
use Rattle.record_validation.specs.call_effects.Wholes.{tree_of, tree_node}
use Rattle.record_validation.proofs.call_effects_lemmas.Nodes.{entries_without_kinds, named as without}
use Rattle.posix_calls.proofs.Directory.{entries-empty}
use Rattle.graph_check.specs.Tables.{same_kind, place_of, names_place, named_by, name_count}
use Rattle.graph_check.proofs.Entries.{count-cons, both, Found, counted_there, there_counted}

-- ---- places

le_true : (a b : ℕ) → a ≤ b → nat_le a b ≡ true
le_true a b h = grind arith

le_false : (a b : ℕ) → b < a → nat_le a b ≡ false
le_false a b h = grind arith

pub place_inode : (n : ℕ) → n ≤ 1024 → place_of n ≡ n
place_inode n h = ap (λ b. if b then n else 0) (le_true n 1024 h)

pub place_other : (n : ℕ) → 1024 < n → place_of n ≡ 0
place_other n h = ap (λ b. if b then n else 0) (le_false n 1024 h)

pub place_within : (n : ℕ) → place_of n ≤ 1024
place_within n = elim (dec_le n 1024) [
  | yes h ↦ subst (λ p. p ≤ 1024) (sym (place_inode n h)) h
  | no h ↦ subst (λ p. p ≤ 1024) (sym (place_other n (omega (arith, h)))) (omega arith)
]

-- a place from 1 on is its inode's alone
pub same_place : (n i : ℕ) → 1 ≤ i → i ≤ 1024 → (place_of n == i) ≡ (n == i)
same_place n i low high = elim (dec_le n 1024) [
  | yes h ↦ ap (λ p. p == i) (place_inode n h)
  | no h ↦
      let zero_off : (0 == i) ≡ false = grind arith in
      let off : (n == i) ≡ false = grind (arith, h) in
      ap (λ p. p == i) (place_other n (omega (arith, h))) ∙ zero_off ∙ sym off
]

-- ---- entries of one node

by_kind : (b : Bool) (k : Kind) → cond b 1 0 ≡ cond (b && same_kind k File) 1 0 + cond (b && same_kind k Directory) 1 0
by_kind true File = refl
by_kind true Directory = refl
by_kind false k = refl

four : (a b c d e f : ℕ) → a ≡ b + c → d ≡ e + f → a + d ≡ b + e + (c + f)
four a b c d e f p q = omega arith

abbrev names_it : ℕ → List ℕ × ℕ → Bool
names_it i e = e.1 == i

abbrev names_as : Kind → ℕ → List ℕ × (ℕ × Kind) → Bool
names_as k i e = names_place k i e.1

split_list : (i : ℕ) → 1 ≤ i → i ≤ 1024 → (es : List (List ℕ × (ℕ × Kind))) → count_by (names_it i) (without es) ≡ count_by (names_as File i) es + count_by (names_as Directory i) es
split_list i low high [] = refl
split_list i low high (e ∷ es) =
    let first : cond (e.1.0 == i) 1 0 ≡ cond (names_as File i e) 1 0 + cond (names_as Directory i e) 1 0 =
    by_kind (e.1.0 == i) e.1.1 ∙ ap (λ b. cond (b && same_kind e.1.1 File) 1 0 + cond (b && same_kind e.1.1 Directory) 1 0) (sym (same_place e.1.0 i low high)) in
    let rest = split_list i low high es in
    count-cons (names_it i) (e.0, e.1.0) (without es)
    ∙ four (cond (e.1.0 == i) 1 0) (cond (names_as File i e) 1 0) (cond (names_as Directory i e) 1 0) (count_by (names_it i) (without es)) (count_by (names_as File i) es) (count_by (names_as Directory i) es) first rest
    ∙ ap (λ n. n + (cond (names_as Directory i e) 1 0 + count_by (names_as Directory i) es)) (sym (count-cons (names_as File i) e es))
    ∙ ap (λ n. count_by (names_as File i) (e ∷ es) + n) (sym (count-cons (names_as Directory i) e es))

view_of : Option Node → Option NodeView
view_of o = option_map view_of_node o

none_there : (X : Type 0) (p : List ℕ × X → Bool) → count_by p (fin.entries {X = X} {R = slice_cmp nat_cmp} fin.empty) ≡ 0
none_there X p = ap (count_by p) (entries-empty X)

split_node : (i : ℕ) → 1 ≤ i → i ≤ 1024 → (o : Option Node) → names_in i (option_map tree_node o) ≡ named_by File i (option_map view_of_node o) + named_by Directory i (option_map view_of_node o)
split_node i low high None = refl
split_node i low high (Some n) = elim (n.body) as (λ b. names_in i (option_map tree_node (Some (record { names = n.names; body = b }))) ≡ named_by File i (option_map view_of_node (Some (record { names = n.names; body = b }))) + named_by Directory i (option_map view_of_node (Some (record { names = n.names; body = b })))) [
  | FileBody bytes ↦ let a = none_there (ℕ × Kind) (names_as File i) in let b = none_there (ℕ × Kind) (names_as Directory i) in omega (arith, a, b)
  | DirBody es ↦ ap (count_by (names_it i)) (entries_without_kinds es) ∙ split_list i low high (fin.entries es)
]

-- ---- all nodes

sum_split : (n : ℕ) (f a b : ℕ → ℕ) → ((d : ℕ) → f d ≡ a d + b d) → sum_up_to n f ≡ sum_up_to n a + sum_up_to n b
unfolding sum_up_to
sum_split zero f a b each = refl
sum_split (suc n) f a b each = four (f (suc n)) (a (suc n)) (b (suc n)) (sum_up_to n f) (sum_up_to n a) (sum_up_to n b) (each (suc n)) (sum_split n f a b each)

-- the names of an inode are those that the tables count
pub names_split : (g : Graph) (i : ℕ) → 1 ≤ i → i ≤ 1024 → names_of (tree_of g) i ≡ (name_count g 1024 File i).count + (name_count g 1024 Directory i).count
unfolding names_of
names_split g i low high = sum_split 1024 (λ d. names_in i (tree_of g d)) (λ d. named_by File i (view_at g d)) (λ d. named_by Directory i (view_at g d)) (λ d. split_node i low high (g d))

-- ---- one entry

-- a directory with an entry that names a place as a node of a kind
pub record Naming (g : Graph) (d : ℕ) (k : Kind) (i : ℕ) : Type 0 where
  pub names : ℕ
  pub entries : Entries (ℕ × Kind)
  pub is : g d ≡ Some (record { names = names; body = DirBody entries })
  pub name : List ℕ
  pub entry : ℕ × Kind
  pub there : fin.get entries name ≡ Some entry
  pub place : place_of entry.0 ≡ i
  pub kind : entry.1 ≡ k

same_is : (a b : Kind) → same_kind a b ≡ true → a ≡ b
same_is File File e = refl
same_is File Directory e = absurd (cc)
same_is Directory File e = absurd (cc)
same_is Directory Directory e = refl

itself : (k : Kind) → same_kind k k ≡ true
itself File = refl
itself Directory = refl

pub eq_is : (a b : ℕ) → (a == b) ≡ true → a ≡ b
eq_is a b e = elim (eqb_tells a b) [ inl same ↦ same.1 | inr off ↦ let x = off.0 in absurd (cc) ]

pub is_true : (b : Bool) → T b → b ≡ true
is_true true h = refl
is_true false h = absurd h

sorted : (m : Entries (ℕ × Kind)) → fin.is_sorted (slice_cmp nat_cmp) (fin.entries m) ≡ true
sorted m = is_true (fin.is_sorted (slice_cmp nat_cmp) (fin.entries m)) (fin.entries_sorted m)

naming_node : (k : Kind) (i : ℕ) (o : Option Node) → 0 < named_by k i (option_map view_of_node o) → (g : Graph) (d : ℕ) → g d ≡ o → Naming g d k i
naming_node k i None some g d is = absurd (omega arith)
naming_node k i (Some n) some g d is = elim (n.body) as (λ b. 0 < named_by k i (Some (view_of_node (record { names = n.names; body = b }))) → g d ≡ Some (record { names = n.names; body = b }) → Naming g d k i) [
  | FileBody bytes ↦ λ more at. let none = none_there (ℕ × Kind) (names_as k i) in absurd (omega arith)
  | DirBody es ↦ λ more at.
      let f : Found (names_place k i) (fin.entries es) = counted_there (names_place k i) (fin.entries es) (sorted es) more in
      let parts = both (place_of f.value.0 == i) (same_kind f.value.1 k) f.passes in
      record {
        names = n.names;
        entries = es;
        is = at;
        name = f.name;
        entry = f.value;
        there = fin.get-entries es f.name ∙ f.there;
        place = eq_is (place_of f.value.0) i parts.0;
        kind = same_is f.value.1 k parts.1;
      }
] some is

pub naming : (g : Graph) (d : ℕ) (k : Kind) (i : ℕ) → 0 < named_by k i (view_at g d) → Naming g d k i
naming g d k i some = naming_node k i (g d) some g d refl

-- an entry counts
pub named_there : (g : Graph) (d n : ℕ) (es : Entries (ℕ × Kind)) (name : List ℕ) (e : ℕ × Kind) → g d ≡ Some (record { names = n; body = DirBody es }) → fin.get es name ≡ Some e → 0 < named_by e.1 (place_of e.0) (view_at g d)
named_there g d n es name e is there =
    let passes : names_place e.1 (place_of e.0) e ≡ true = ap (λ b. b && same_kind e.1 e.1) (eqb_same (place_of e.0)) ∙ itself e.1 in
    subst (λ o. 0 < named_by e.1 (place_of e.0) (option_map view_of_node o)) (sym is) (there_counted (names_place e.1 (place_of e.0)) (fin.entries es) name e (sym (fin.get-entries es name) ∙ there) passes) where
      eqb_same : (a : ℕ) → (a == a) ≡ true
      eqb_same a = grind arith
