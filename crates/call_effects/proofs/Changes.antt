-- What one change of a graph does to its types, to the number of names, and to the tree.
use Rattle.std.proofs.Common.{◌≡◌, ◌≢◌, ◌⊎◌, inl, inr, ℕ, ◌+◌, ◌≤◌, List, [], ◌∷◌, refl, Some, None, Option, cond, ap, sym, ◌∙◌, subst, arith, ◌==◌, ◌||◌, if◌then◌else◌, Bool, true, false}
use Rattle.std.proofs.lemmas.Bool.Decides.{eqb_tells}
use Rattle.std.proofs.lemmas.Bool.{eq-eqb}
use Rattle.std.specs.Prelude.{option_map}
use Rattle.std.specs.FinMap as fin
use Rattle.posix_calls.specs.Content.{Entries}
use Rattle.posix_calls.specs.Tree.{Tree, Descriptors, names_of, names_in, is_open, entries_of}
use Rattle.posix_calls.specs.Tree as tree
use Rattle.log_record.specs.file_graph.Graph.{Graph, Node, Body, FileBody, DirBody, after_effect, acted_graph, subject_after, subjects, is_among}
use Rattle.log_record.specs.file_graph.declared.effect.Kind.{Kind}
use Rattle.log_record.specs.file_graph.declared.effect.Kind.TheVariants as kind
use Rattle.log_record.specs.file_graph.declared.effect.Effect.{Effect}
use Rattle.log_record.specs.file_graph.declared.effect.Effect.TheVariants as effect
use Rattle.log_record.specs.file_graph.Plain.{is_swap}
use Rattle.log_record.proofs.file_graph_lemmas.Touches.{plain_is}
use Rattle.call_effects.specs.Effects.{stored_count}
use Rattle.call_effects.specs.Wholes.{without_kinds, tree_of, tree_node, keep, reachable_graph, kind_of, one_if, IsTyped, IsSound, AreReached}
use Rattle.posix_calls.specs.declared.descriptor.Descriptor.{Descriptor}
use Rattle.posix_calls.specs.Operations.{with_entry, without_entry}
use Rattle.posix_calls.proofs.Sums.{names_of-set_node}
use Rattle.posix_calls.proofs.Counts.{counted, counted_is, counted_insert, counted_remove, gone, put_back}
use Rattle.call_effects.proofs.Puts.{put, put_there, put_other, put_twice, put_through, put_through_at}
use Rattle.call_effects.proofs.Inodes.{get_inodes, inodes_insert, inodes_remove}

-- what entries, descriptors and stored counts tell is so
pub record IsFair (g : Graph) (held : Descriptors) : Type 0 where
  pub typed : IsTyped g held
  pub counted : (i : ℕ) → stored_count (g i) ≡ names_of (tree_of g) i + one_if (i == 1)
  pub one_name : (i : ℕ) → kind_of (g i) ≡ Some kind.Directory → stored_count (g i) ≡ 1

-- a sound graph, but for what is reached
pub fair_of : (g : Graph) (held : Descriptors) → IsSound g held → IsFair g held
fair_of g held sound = record { typed = sound.typed; counted = sound.counts.counted; one_name = sound.counts.one_name }

pub sound_fair : (g : Graph) (held : Descriptors) → IsFair g held → AreReached (tree_of g) → IsSound g held
sound_fair g held fair reached = record { typed = fair.typed; counts = record { counted = fair.counted; one_name = fair.one_name }; reached = reached }

abbrev pub file : ℕ → List ℕ → Option Node
file n bytes = Some (record { names = n; body = FileBody bytes })

abbrev pub dir : ℕ → Entries (ℕ × Kind) → Option Node
dir n es = Some (record { names = n; body = DirBody es })

pub same_dir : (n m : ℕ) (es fs : Entries (ℕ × Kind)) → dir n es ≡ dir m fs → es ≡ fs
same_dir n m es fs is = let bodies : Some (DirBody es) ≡ Some (DirBody fs) = ap (option_map (λ (x : Node). x.body)) is in cc

-- ---- effects as puts

turned : (j d : ℕ) → (d == j) ≡ (j == d)
turned j d = elim (eqb_tells j d) [
  | inl same ↦ eq-eqb d j (sym same.1) ∙ sym same.0
  | inr off ↦ elim (eqb_tells d j) [ inl same ↦ absurd (off.1 (sym same.1)) | inr other ↦ other.0 ∙ sym off.0 ]
]

or_no : (b : Bool) → (b || false) ≡ b
or_no true = refl
or_no false = refl

or_false : (j d : ℕ) → is_among j (d ∷ []) ≡ (j == d)
or_false j d = or_no (d == j) ∙ turned j d

at_subject : (g : Graph) (f : Option Node → Option Node) (d j : ℕ) → (if j == d then f (g j) else g j) ≡ (if j == d then f (g d) else g j)
at_subject g f d j = elim (eqb_tells j d) [
  | inl same ↦ ap (λ k. if j == d then f (g k) else g j) same.1
  | inr off ↦ ap (λ b. cond b (f (g j)) (g j)) off.0 ∙ sym (ap (λ b. cond b (f (g d)) (g j)) off.0)
]

-- what changes one inode is no Swap
no_swap : (e : Effect) (d : ℕ) → subjects e ≡ d ∷ [] → is_swap e ≡ false
no_swap (effect.Swap x a y b) d one = absurd (let rest : y ∷ [] ≡ [] = cc in cc)
no_swap e d one = refl

-- an effect on one inode is a put
pub one_subject : (g : Graph) (e : Effect) (d : ℕ) → subjects e ≡ d ∷ [] → after_effect g e ≡ put g d (subject_after e (g d))
one_subject g e d one = plain_is g e (no_swap e d one) ∙ (λ t j. at_place j t) where
  at_place : (j : ℕ) → acted_graph g e j ≡ put g d (subject_after e (g d)) j
  at_place j = ap (λ is. cond (is_among j is) (subject_after e (g j)) (g j)) one ∙ ap (λ b. cond b (subject_after e (g j)) (g j)) (or_false j d) ∙ at_subject g (subject_after e) d j

pub enter_is : (g : Graph) (p n c : ℕ) (k : Kind) (name : List ℕ) (es : Entries (ℕ × Kind)) → g p ≡ dir n es → after_effect g (effect.Enter p c k name) ≡ put g p (dir n (fin.insert es name (c, k)))
enter_is g p n c k name es is = one_subject g (effect.Enter p c k name) p refl ∙ ap (λ o. put g p (subject_after (effect.Enter p c k name) o)) is

pub leave_is : (g : Graph) (p n : ℕ) (name : List ℕ) (es : Entries (ℕ × Kind)) → g p ≡ dir n es → after_effect g (effect.Leave p name) ≡ put g p (dir n (fin.remove es name))
leave_is g p n name es is = one_subject g (effect.Leave p name) p refl ∙ ap (λ o. put g p (subject_after (effect.Leave p name) o)) is

pub names_is : (g : Graph) (i n m : ℕ) (body : Body) → g i ≡ Some (record { names = n; body = body }) → after_effect g (effect.Names i m) ≡ put g i (Some (record { names = m; body = body }))
names_is g i n m body is = one_subject g (effect.Names i m) i refl ∙ ap (λ o. put g i (subject_after (effect.Names i m) o)) is

-- ---- names

abbrev pub named : Graph → ℕ → ℕ
named g i = names_of (tree_of g) i

pub names_put : (g : Graph) (d : ℕ) (x : Option Node) (i : ℕ) → 1 ≤ d → d ≤ 1024 → named (put g d x) i + names_in i (option_map tree_node (g d)) ≡ named g i + names_in i (option_map tree_node x)
names_put g d x i low high =
    ap (λ t. names_of t i + names_in i (option_map tree_node (g d))) (put_through (option_map tree_node) g d x)
    ∙ names_of-set_node (tree_of g) d i (option_map tree_node x) low high

in_dir : (g : Graph) (p n i : ℕ) (es : Entries (ℕ × Kind)) → g p ≡ dir n es → names_in i (option_map tree_node (g p)) ≡ counted i (without_kinds es)
in_dir g p n i es is = ap (λ o. names_in i (option_map tree_node o)) is ∙ counted_is i (without_kinds es)

pub names_enter : (g : Graph) (p n c : ℕ) (k : Kind) (name : List ℕ) (es : Entries (ℕ × Kind)) (i : ℕ) → g p ≡ dir n es → 1 ≤ p → p ≤ 1024 → fin.get es name ≡ None → named (put g p (dir n (fin.insert es name (c, k)))) i ≡ named g i + cond (c == i) 1 0
names_enter g p n c k name es i is low high none =
    let change : named (put g p (dir n (fin.insert es name (c, k)))) i + counted i (without_kinds es) ≡ named g i + counted i (without_kinds (fin.insert es name (c, k)))
    = ap (λ x. named (put g p (dir n (fin.insert es name (c, k)))) i + x) (sym (in_dir g p n i es is)) ∙ names_put g p (dir n (fin.insert es name (c, k))) i low high ∙ ap (λ x. named g i + x) (counted_is i (without_kinds (fin.insert es name (c, k)))) in
    let more : counted i (without_kinds (fin.insert es name (c, k))) ≡ counted i (without_kinds es) + cond (c == i) 1 0
    = ap (counted i) (inodes_insert es name (c, k)) ∙ counted_insert i (without_kinds es) name c (get_inodes es name ∙ ap (option_map (λ e. e.0)) none) in
    omega (arith, change, more)

pub names_leave : (g : Graph) (p n : ℕ) (name : List ℕ) (es : Entries (ℕ × Kind)) (e : ℕ × Kind) (i : ℕ) → g p ≡ dir n es → 1 ≤ p → p ≤ 1024 → fin.get es name ≡ Some e → named (put g p (dir n (fin.remove es name))) i + cond (e.0 == i) 1 0 ≡ named g i
names_leave g p n name es e i is low high there =
    let change : named (put g p (dir n (fin.remove es name))) i + counted i (without_kinds es) ≡ named g i + counted i (without_kinds (fin.remove es name))
    = ap (λ x. named (put g p (dir n (fin.remove es name))) i + x) (sym (in_dir g p n i es is)) ∙ names_put g p (dir n (fin.remove es name)) i low high ∙ ap (λ x. named g i + x) (counted_is i (without_kinds (fin.remove es name))) in
    let less : counted i (without_kinds (fin.remove es name)) + cond (e.0 == i) 1 0 ≡ counted i (without_kinds es)
    = ap (λ m. counted i m + cond (e.0 == i) 1 0) (inodes_remove es name) ∙ counted_remove i (without_kinds es) name e.0 (get_inodes es name ∙ ap (option_map (λ x. x.0)) there) in
    omega (arith, change, less)

-- a name leads to something else
pub names_over : (g : Graph) (p n c : ℕ) (k : Kind) (name : List ℕ) (es : Entries (ℕ × Kind)) (e : ℕ × Kind) (i : ℕ) → g p ≡ dir n es → 1 ≤ p → p ≤ 1024 → fin.get es name ≡ Some e → named (put g p (dir n (fin.insert es name (c, k)))) i + cond (e.0 == i) 1 0 ≡ named g i + cond (c == i) 1 0
names_over g p n c k name es e i is low high there =
    let left = put g p (dir n (fin.remove es name)) in
    let less : named left i + cond (e.0 == i) 1 0 ≡ named g i = names_leave g p n name es e i is low high there in
    let more : named (put left p (dir n (fin.insert (fin.remove es name) name (c, k)))) i ≡ named left i + cond (c == i) 1 0 = names_enter left p n c k name (fin.remove es name) i (put_there g p (dir n (fin.remove es name))) low high (gone es name) in
    let same : named (put left p (dir n (fin.insert (fin.remove es name) name (c, k)))) i ≡ named (put g p (dir n (fin.insert es name (c, k)))) i = ap (λ (h : Graph). named h i) (put_twice g p (dir n (fin.remove es name)) (dir n (fin.insert (fin.remove es name) name (c, k))) ∙ ap (λ m. put g p (dir n m)) (put_back es name (c, k))) in
    omega (arith, less, more, same)

-- a change that leaves the number of its names
pub names_stay : (g : Graph) (d : ℕ) (x : Option Node) (i : ℕ) → 1 ≤ d → d ≤ 1024 → names_in i (option_map tree_node x) ≡ names_in i (option_map tree_node (g d)) → named (put g d x) i ≡ named g i
names_stay g d x i low high same = let change = names_put g d x i low high in omega (arith, change, same)

pub has_name : (g : Graph) (p n : ℕ) (name : List ℕ) (es : Entries (ℕ × Kind)) (e : ℕ × Kind) → g p ≡ dir n es → 1 ≤ p → p ≤ 1024 → fin.get es name ≡ Some e → 1 ≤ named g e.0
has_name g p n name es e is low high there =
    let less : named (put g p (dir n (fin.remove es name))) e.0 + cond (e.0 == e.0) 1 0 ≡ named g e.0 = names_leave g p n name es e e.0 is low high there in
    let one : ◌≡◌ {A = ℕ} (cond (e.0 == e.0) 1 0) 1 = ap (λ b. cond b 1 0) (eq-eqb e.0 e.0 refl) in
    omega (arith, less, one)

-- ---- types

kind_put : (g : Graph) (i : ℕ) (x : Option Node) → ((k : Kind) → kind_of (g i) ≡ Some k → kind_of x ≡ Some k) → (j : ℕ) (k : Kind) → kind_of (g j) ≡ Some k → kind_of (put g i x j) ≡ Some k
kind_put g i x keeps j k is =
    elim (eqb_tells j i) [
      | inl same ↦ ap (λ b. kind_of (cond b x (g j))) same.0 ∙ keeps k (ap (λ y. kind_of (g y)) (sym same.1) ∙ is)
      | inr off ↦ ap (λ b. kind_of (cond b x (g j))) off.0 ∙ is
    ]

put_cases : (g : Graph) (i j : ℕ) (x y : Option Node) → put g i x j ≡ y → ((j ≡ i) × (x ≡ y)) ⊎ ((j ≢ i) × (g j ≡ y))
put_cases g i j x y is =
    elim (eqb_tells j i) [
      | inl same ↦ inl (same.1, sym (ap (λ b. cond b x (g j)) same.0) ∙ is)
      | inr off ↦ inr (off.1, sym (ap (λ b. cond b x (g j)) off.0) ∙ is)
    ]

pub typed_put : (g : Graph) (d : Descriptors) (i : ℕ) (x : Option Node) → IsTyped g d → 1 ≤ i → i ≤ 1024 → ((k : Kind) → kind_of (g i) ≡ Some k → kind_of x ≡ Some k)
    → ((n : ℕ) (es : Entries (ℕ × Kind)) (name : List ℕ) (e : ℕ × Kind) → x ≡ dir n es → fin.get es name ≡ Some e → kind_of (g e.0) ≡ Some e.1) → IsTyped (put g i x) d
typed_put g d i x typed low high keeps own = record {
  kinds = λ p n es name e is there. elim (put_cases g i p x (dir n es) is) [
    | inl at_i ↦ kind_put g i x keeps e.0 e.1 (own n es name e at_i.1 there)
    | inr off ↦ kind_put g i x keeps e.0 e.1 (typed.kinds p n es name e off.1 there)
  ];
  numbers = λ j k is. elim (eqb_tells j i) [
    | inl same ↦ (omega (arith, same.1), omega (arith, same.1))
    | inr off ↦ typed.numbers j k (sym (ap (λ b. kind_of (cond b x (g j))) off.0) ∙ is)
  ];
  root = kind_put g i x keeps 1 kind.Directory typed.root;
  opened = λ c n o is. kind_put g i x keeps o.inode kind.File (typed.opened c n o is);
  in_range = typed.in_range;
}

-- what has no name and is not open goes
pub typed_drop : (g : Graph) (d : Descriptors) (i : ℕ) → IsTyped g d → ((c n : ℕ) (o : Descriptor) → d c n ≡ Some o → o.inode ≢ i) → i ≢ 1 → named g i ≡ 0 → IsTyped (put g i None) d
typed_drop g d i typed closed other none =
    let stays = λ (j : ℕ) (off : j ≢ i). ap kind_of (put_other g i j None off) in
    record {
      kinds = λ p n es name e at there. elim (put_cases g i p None (dir n es) at) [
        | inl at_i ↦ absurd (let no = at_i.1 in cc)
        | inr off ↦
            let range = typed.numbers p kind.Directory (ap kind_of off.1) in
            let one = has_name g p n name es e off.1 range.0 range.1 there in
            stays e.0 (λ same. let zero_now : named g e.0 ≡ 0 = ap (named g) same ∙ none in omega (arith, one, zero_now)) ∙ typed.kinds p n es name e off.1 there
      ];
      numbers = λ j k at. elim (eqb_tells j i) [
        | inl same ↦ absurd (let no : kind_of None ≡ Some k = sym (ap (λ b. kind_of (cond b None (g j))) same.0) ∙ at in cc)
        | inr off ↦ typed.numbers j k (sym (ap (λ b. kind_of (cond b None (g j))) off.0) ∙ at)
      ];
      root = stays 1 (λ e. other (sym e)) ∙ typed.root;
      opened = λ c n o at. stays o.inode (closed c n o at) ∙ typed.opened c n o at;
      in_range = typed.in_range;
    }

-- what looks alike at the place that changes looks alike everywhere
pub put_alike : {A : Type 0} (f : Option Node → A) (g : Graph) (i : ℕ) (x : Option Node) → f x ≡ f (g i) → (j : ℕ) → f (put g i x j) ≡ f (g j)
put_alike f g i x same j =
    elim (eqb_tells j i) [
      | inl at_i ↦ ap (λ b. f (cond b x (g j))) at_i.0 ∙ same ∙ ap (λ y. f (g y)) (sym at_i.1)
      | inr off ↦ ap (λ b. f (cond b x (g j))) off.0
    ]

-- a graph that differs from a sound one in the number of names of one inode
pub sound_of : (g new : Graph) (d e : Descriptors) (i : ℕ) → IsFair g d → IsTyped new e
    → ((j : ℕ) → j ≢ i → stored_count (new j) ≡ stored_count (g j))
    → ((j : ℕ) → j ≢ i → kind_of (new j) ≡ kind_of (g j))
    → ((j : ℕ) → j ≢ i → named new j ≡ named g j)
    → stored_count (new i) ≡ named new i + one_if (i == 1)
    → (kind_of (new i) ≡ Some kind.Directory → stored_count (new i) ≡ 1)
    → IsFair new e
sound_of g new d e i sound typed stores kinds names count one = record {
  typed = typed;
  counted = λ j. elim (eqb_tells j i) [
    | inl same ↦ subst (λ y. stored_count (new y) ≡ named new y + one_if (y == 1)) (sym same.1) count
    | inr off ↦ stores j off.1 ∙ sound.counted j ∙ ap (λ n. n + one_if (j == 1)) (sym (names j off.1))
  ];
  one_name = λ j is. elim (eqb_tells j i) [
    | inl same ↦ ap (λ y. stored_count (new y)) same.1 ∙ one (ap (λ y. kind_of (new y)) (sym same.1) ∙ is)
    | inr off ↦ stores j off.1 ∙ sound.one_name j (sym (kinds j off.1) ∙ is)
  ];
}

-- ---- the tree

abbrev pub shown : Descriptors → ℕ → Option Node → Option tree.Node
shown d i x = option_map tree_node (keep (is_open d i) x)

pub tree_put : (g : Graph) (d : Descriptors) (i : ℕ) (x : Option Node) → tree_of (reachable_graph (put g i x) d) ≡ put (tree_of (reachable_graph g d)) i (shown d i x)
tree_put g d i x = put_through_at (λ j y. option_map tree_node (keep (is_open d j) y)) g i x

pub tree_dir : (g : Graph) (d : Descriptors) (p n : ℕ) (es : Entries (ℕ × Kind)) → g p ≡ dir n es → tree_of (reachable_graph g d) p ≡ Some (tree.Dir (without_kinds es))
tree_dir g d p n es is = ap (λ o. option_map tree_node (keep (is_open d p) o)) is

pub tree_enter : (g : Graph) (d : Descriptors) (p n c : ℕ) (k : Kind) (name : List ℕ) (es : Entries (ℕ × Kind)) → g p ≡ dir n es → tree_of (reachable_graph (put g p (dir n (fin.insert es name (c, k)))) d) ≡ with_entry (tree_of (reachable_graph g d)) (record { parent = p; name = name }) c
tree_enter g d p n c k name es is =
    tree_put g d p (dir n (fin.insert es name (c, k)))
    ∙ ap (λ y. put (tree_of (reachable_graph g d)) p (Some (tree.Dir y))) (inodes_insert es name (c, k) ∙ sym (ap (λ o. fin.insert (entries_of o) name c) (tree_dir g d p n es is)))

pub tree_leave : (g : Graph) (d : Descriptors) (p n : ℕ) (name : List ℕ) (es : Entries (ℕ × Kind)) → g p ≡ dir n es → tree_of (reachable_graph (put g p (dir n (fin.remove es name))) d) ≡ without_entry (tree_of (reachable_graph g d)) (record { parent = p; name = name })
tree_leave g d p n name es is =
    tree_put g d p (dir n (fin.remove es name))
    ∙ ap (λ y. put (tree_of (reachable_graph g d)) p (Some (tree.Dir y))) (inodes_remove es name ∙ sym (ap (λ o. fin.remove (entries_of o) name) (tree_dir g d p n es is)))
