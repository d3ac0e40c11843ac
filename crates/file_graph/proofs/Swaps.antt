-- Effects do what they do without the Swaps, and then enter at each name that a Swap named what it leads to in the end.
use Rattle.std.proofs.Common.{◌≡◌, inl, inr, ℕ, ◌+◌, ◌-◌, ◌==◌, ◌&&◌, ◌||◌, cond, Bool, true, false, List, [], ◌∷◌, ◌++◌, length, refl, Some, None, Option, ap, sym, ◌∙◌, subst}
use Rattle.std.specs.Prelude.{option_map, is_some, unwrap_or}
use Rattle.std.specs.List.{AllByRecursion}
use Rattle.std.specs.Ordering.{nat_cmp, eq_by_cmp}
use Rattle.std.specs.Cmp.{eq_by_cmp_equiv}
use Rattle.std.specs.Cmp.Lexicographic.{slice_cmp, nat_list_cmp_total}
use Rattle.std.specs.FinMap as fin
use Rattle.std.proofs.lemmas.Bool.{eq-eqb, false≢true}
use Rattle.std.proofs.lemmas.Bool.Decides.{eqb_tells}
use Rattle.posix_calls.specs.Content.{with_length, with_bytes}
use Rattle.posix_calls.proofs.Directory.{names_same}
use Rattle.posix_calls.specs.Units.{file_units, directory_units}
use Rattle.posix_calls.proofs.Counts.{alike}
use Rattle.file_graph.specs.declared.effect.Kind.{Kind}
use Rattle.file_graph.specs.declared.effect.Kind.TheVariants as kind
use Rattle.file_graph.specs.declared.effect.Effect.{Effect}
use Rattle.file_graph.specs.declared.effect.Effect.TheVariants as effect
use Rattle.file_graph.specs.Graph.{Graph, Node, Body, FileBody, DirBody, subjects, is_among, subject_after, acted_graph, acted_all, node_entries, child_at, exchanged_entries, after_effect, after_effects, swap_places, entered_if, entered_places, cost}
use Rattle.file_graph.proofs.Touches.{acted_append}

abbrev Child : Type 0
Child = ℕ × Kind

abbrev same_name : List ℕ → List ℕ → Bool
same_name q name = eq_by_cmp (slice_cmp nat_cmp) q name

itself : (name : List ℕ) → same_name name name ≡ true
itself name = (eq_by_cmp_equiv nat_list_cmp_total).refl name

-- ---- a node but for its entries

-- how many names it has, and a file's bytes
abbrev rest_of : Option Node → Option (ℕ × Option (List ℕ))
rest_of None = None
rest_of (Some n) = Some (n.names, elim (n.body) [ FileBody bytes ↦ Some bytes | DirBody es ↦ None ])

abbrev rest_after : Effect → Option (ℕ × Option (List ℕ)) → Option (ℕ × Option (List ℕ))
rest_after (effect.Make i kind.File) old = Some (0, Some [])
rest_after (effect.Make i kind.Directory) old = Some (0, None)
rest_after (effect.Enter d i k name) old = old
rest_after (effect.Leave d name) old = old
rest_after (effect.Names i n) old = option_map (λ x. (n, x.1)) old
rest_after (effect.Size i size) old = option_map (λ x. (x.0, option_map (with_length size) x.1)) old
rest_after (effect.Bytes i at new) old = option_map (λ x. (x.0, option_map (with_bytes at new) x.1)) old
rest_after (effect.Drop i) old = None
rest_after (effect.Swap d a e b) old = old

rest_acts : (e : Effect) (o : Option Node) → rest_of (subject_after e o) ≡ rest_after e (rest_of o)
rest_acts (effect.Make i kind.File) o = refl
rest_acts (effect.Make i kind.Directory) o = refl
rest_acts (effect.Enter d i k name) None = refl
rest_acts (effect.Enter d i k name) (Some n) = elim (n.body) as (λ y. rest_of (subject_after (effect.Enter d i k name) (Some (record { names = n.names; body = y }))) ≡ rest_of (Some (record { names = n.names; body = y }))) [ FileBody bytes ↦ refl | DirBody es ↦ refl ]
rest_acts (effect.Leave d name) None = refl
rest_acts (effect.Leave d name) (Some n) = elim (n.body) as (λ y. rest_of (subject_after (effect.Leave d name) (Some (record { names = n.names; body = y }))) ≡ rest_of (Some (record { names = n.names; body = y }))) [ FileBody bytes ↦ refl | DirBody es ↦ refl ]
rest_acts (effect.Names i m) None = refl
rest_acts (effect.Names i m) (Some n) = refl
rest_acts (effect.Size i size) None = refl
rest_acts (effect.Size i size) (Some n) = elim (n.body) as (λ y. rest_of (subject_after (effect.Size i size) (Some (record { names = n.names; body = y }))) ≡ rest_after (effect.Size i size) (rest_of (Some (record { names = n.names; body = y })))) [ FileBody bytes ↦ refl | DirBody es ↦ refl ]
rest_acts (effect.Bytes i at new) None = refl
rest_acts (effect.Bytes i at new) (Some n) = elim (n.body) as (λ y. rest_of (subject_after (effect.Bytes i at new) (Some (record { names = n.names; body = y }))) ≡ rest_after (effect.Bytes i at new) (rest_of (Some (record { names = n.names; body = y })))) [ FileBody bytes ↦ refl | DirBody es ↦ refl ]
rest_acts (effect.Drop i) o = refl
rest_acts (effect.Swap d a e b) o = refl

abbrev names_in_rest : Option (ℕ × Option (List ℕ)) → ℕ
names_in_rest None = 0
names_in_rest (Some x) = x.0

abbrev bytes_in_rest : Option (ℕ × Option (List ℕ)) → List ℕ
bytes_in_rest None = []
bytes_in_rest (Some x) = unwrap_or x.1 []

abbrev is_file : Option (ℕ × Option (List ℕ)) → Bool
is_file None = false
is_file (Some x) = is_some x.1

abbrev is_dir : Option (ℕ × Option (List ℕ)) → Bool
is_dir None = false
is_dir (Some x) = elim (x.1) [ None ↦ true | Some bytes ↦ false ]

-- two nodes that are alike so, and have the same entries, are one
whole_body : (n m : ℕ) (y z : Body) → rest_of (Some (record { names = n; body = y })) ≡ rest_of (Some (record { names = m; body = z })) → node_entries (Some (record { names = n; body = y })) ≡ node_entries (Some (record { names = m; body = z })) → ◌≡◌ {A = Option Node} (Some (record { names = n; body = y })) (Some (record { names = m; body = z }))
whole_body n m (FileBody a) (FileBody b) same entries = ap (λ k. Some (record { names = k; body = FileBody a })) (ap names_in_rest same) ∙ ap (λ x. Some (record { names = m; body = FileBody x })) (ap bytes_in_rest same)
whole_body n m (FileBody a) (DirBody fs) same entries = absurd (false≢true (sym (ap is_file same)))
whole_body n m (DirBody es) (FileBody b) same entries = absurd (false≢true (ap is_file same))
whole_body n m (DirBody es) (DirBody fs) same entries = ap (λ k. Some (record { names = k; body = DirBody es })) (ap names_in_rest same) ∙ ap (λ x. Some (record { names = m; body = DirBody x })) entries

whole : (x o : Option Node) → rest_of x ≡ rest_of o → node_entries x ≡ node_entries o → x ≡ o
whole None None same entries = refl
whole None (Some m) same entries = absurd (false≢true (ap is_some same))
whole (Some n) None same entries = absurd (false≢true (sym (ap is_some same)))
whole (Some n) (Some m) same entries = whole_body n.names m.names n.body m.body same entries

-- ---- what a name leads to

abbrev child_of : Option Node → List ℕ → Option Child
child_of o q = fin.get (node_entries o) q

no_child : (q : List ℕ) → fin.get {X = Child} {R = slice_cmp nat_cmp} fin.empty q ≡ None
no_child q = fin.get-empty (slice_cmp nat_cmp) q

-- after an effect, by what it led to and whether there is a directory
abbrev child_after : Effect → Bool → List ℕ → Option Child → Option Child
child_after (effect.Make i k) dir q old = None
child_after (effect.Enter d i k name) dir q old = cond (dir && same_name q name) (Some (i, k)) old
child_after (effect.Leave d name) dir q old = cond (dir && same_name q name) None old
child_after (effect.Names i n) dir q old = old
child_after (effect.Size i size) dir q old = old
child_after (effect.Bytes i at new) dir q old = old
child_after (effect.Drop i) dir q old = None
child_after (effect.Swap d a e b) dir q old = old

child_acts : (e : Effect) (o : Option Node) (q : List ℕ) → child_of (subject_after e o) q ≡ child_after e (is_dir (rest_of o)) q (child_of o q)
child_acts (effect.Make i kind.File) o q = no_child q
child_acts (effect.Make i kind.Directory) o q = no_child q
child_acts (effect.Enter d i k name) None q = refl
child_acts (effect.Enter d i k name) (Some n) q = elim (n.body) as (λ y. child_of (subject_after (effect.Enter d i k name) (Some (record { names = n.names; body = y }))) q ≡ child_after (effect.Enter d i k name) (is_dir (rest_of (Some (record { names = n.names; body = y })))) q (child_of (Some (record { names = n.names; body = y })) q)) [
  | FileBody bytes ↦ refl
  | DirBody es ↦ fin.get-insert nat_list_cmp_total es name (i, k) q
]
child_acts (effect.Leave d name) None q = refl
child_acts (effect.Leave d name) (Some n) q = elim (n.body) as (λ y. child_of (subject_after (effect.Leave d name) (Some (record { names = n.names; body = y }))) q ≡ child_after (effect.Leave d name) (is_dir (rest_of (Some (record { names = n.names; body = y })))) q (child_of (Some (record { names = n.names; body = y })) q)) [
  | FileBody bytes ↦ refl
  | DirBody es ↦ fin.get-remove nat_list_cmp_total es name q
]
child_acts (effect.Names i m) None q = refl
child_acts (effect.Names i m) (Some n) q = refl
child_acts (effect.Size i size) None q = refl
child_acts (effect.Size i size) (Some n) q = elim (n.body) as (λ y. child_of (subject_after (effect.Size i size) (Some (record { names = n.names; body = y }))) q ≡ child_of (Some (record { names = n.names; body = y })) q) [ FileBody bytes ↦ refl | DirBody es ↦ refl ]
child_acts (effect.Bytes i at new) None q = refl
child_acts (effect.Bytes i at new) (Some n) q = elim (n.body) as (λ y. child_of (subject_after (effect.Bytes i at new) (Some (record { names = n.names; body = y }))) q ≡ child_of (Some (record { names = n.names; body = y })) q) [ FileBody bytes ↦ refl | DirBody es ↦ refl ]
child_acts (effect.Drop i) o q = no_child q
child_acts (effect.Swap d a e b) o q = refl

-- how many names there are after an effect, by whether there was its name
count_of : Option Node → ℕ
count_of o = fin.len (node_entries o)

abbrev count_after : Effect → Bool → (List ℕ → Option Child) → ℕ → ℕ
count_after (effect.Make i k) dir old n = 0
count_after (effect.Enter d i k name) dir old n = cond dir (cond (is_some (old name)) n (n + 1)) n
count_after (effect.Leave d name) dir old n = cond dir (cond (is_some (old name)) (n - 1) n) n
count_after (effect.Names i m) dir old n = n
count_after (effect.Size i size) dir old n = n
count_after (effect.Bytes i at new) dir old n = n
count_after (effect.Drop i) dir old n = 0
count_after (effect.Swap d a e b) dir old n = n

count_acts : (e : Effect) (o : Option Node) → count_of (subject_after e o) ≡ count_after e (is_dir (rest_of o)) (child_of o) (count_of o)
unfolding count_of
count_acts (effect.Make i kind.File) o = fin.len-empty (slice_cmp nat_cmp) Child
count_acts (effect.Make i kind.Directory) o = fin.len-empty (slice_cmp nat_cmp) Child
count_acts (effect.Enter d i k name) None = refl
count_acts (effect.Enter d i k name) (Some n) = elim (n.body) as (λ y. fin.len (node_entries (subject_after (effect.Enter d i k name) (Some (record { names = n.names; body = y })))) ≡ count_after (effect.Enter d i k name) (is_dir (rest_of (Some (record { names = n.names; body = y })))) (child_of (Some (record { names = n.names; body = y }))) (fin.len (node_entries (Some (record { names = n.names; body = y }))))) [
  | FileBody bytes ↦ refl
  | DirBody es ↦ fin.len-insert nat_list_cmp_total es name (i, k)
]
count_acts (effect.Leave d name) None = refl
count_acts (effect.Leave d name) (Some n) = elim (n.body) as (λ y. fin.len (node_entries (subject_after (effect.Leave d name) (Some (record { names = n.names; body = y })))) ≡ count_after (effect.Leave d name) (is_dir (rest_of (Some (record { names = n.names; body = y })))) (child_of (Some (record { names = n.names; body = y }))) (fin.len (node_entries (Some (record { names = n.names; body = y }))))) [
  | FileBody bytes ↦ refl
  | DirBody es ↦ fin.len-remove nat_list_cmp_total es name
]
count_acts (effect.Names i m) None = refl
count_acts (effect.Names i m) (Some n) = refl
count_acts (effect.Size i size) None = refl
count_acts (effect.Size i size) (Some n) = elim (n.body) as (λ y. fin.len (node_entries (subject_after (effect.Size i size) (Some (record { names = n.names; body = y })))) ≡ fin.len (node_entries (Some (record { names = n.names; body = y })))) [ FileBody bytes ↦ refl | DirBody es ↦ refl ]
count_acts (effect.Bytes i at new) None = refl
count_acts (effect.Bytes i at new) (Some n) = elim (n.body) as (λ y. fin.len (node_entries (subject_after (effect.Bytes i at new) (Some (record { names = n.names; body = y })))) ≡ fin.len (node_entries (Some (record { names = n.names; body = y })))) [ FileBody bytes ↦ refl | DirBody es ↦ refl ]
count_acts (effect.Drop i) o = fin.len-empty (slice_cmp nat_cmp) Child
count_acts (effect.Swap d a e b) o = refl

some_count : (e : Effect) (dir : Bool) (c d : List ℕ → Option Child) (n m : ℕ) → ((q : List ℕ) → is_some (c q) ≡ is_some (d q)) → n ≡ m → count_after e dir c n ≡ count_after e dir d m
some_count (effect.Make i k) dir c d n m same is = refl
some_count (effect.Enter x i k name) dir c d n m same is = ap (λ b. cond dir (cond b n (n + 1)) n) (same name) ∙ ap (λ j. cond dir (cond (is_some (d name)) j (j + 1)) j) is
some_count (effect.Leave x name) dir c d n m same is = ap (λ b. cond dir (cond b (n - 1) n) n) (same name) ∙ ap (λ j. cond dir (cond (is_some (d name)) (j - 1) j) j) is
some_count (effect.Names i k) dir c d n m same is = is
some_count (effect.Size i size) dir c d n m same is = is
some_count (effect.Bytes i at new) dir c d n m same is = is
some_count (effect.Drop i) dir c d n m same is = refl
some_count (effect.Swap x a e b) dir c d n m same is = is

same_either : (b : Bool) (n : ℕ) → cond b n n ≡ n
same_either true n = refl
same_either false n = refl

-- ---- a node with Swaps done, beside the same without them

-- they differ in what some names lead to, and the same names are there
record Beside (at : List ℕ → Bool) (o x : Option Node) : Type 0 where
  rest : rest_of o ≡ rest_of x
  keys : (q : List ℕ) → is_some (child_of o q) ≡ is_some (child_of x q)
  same : (q : List ℕ) → at q ≡ false → child_of o q ≡ child_of x q
  count : count_of o ≡ count_of x

-- whether there is a child after an effect follows from whether there was one
some_after : (e : Effect) (dir : Bool) (q : List ℕ) (c d : Option Child) → is_some c ≡ is_some d → is_some (child_after e dir q c) ≡ is_some (child_after e dir q d)
some_after (effect.Make i k) dir q c d same = refl
some_after (effect.Enter x i k name) dir q c d same = elim (dir && same_name q name) as (λ b. is_some (cond b (Some (i, k)) c) ≡ is_some (cond b (Some (i, k)) d)) [ true ↦ refl | false ↦ same ]
some_after (effect.Leave x name) dir q c d same = elim (dir && same_name q name) as (λ b. is_some (cond b None c) ≡ is_some (cond b None d)) [ true ↦ refl | false ↦ same ]
some_after (effect.Names i n) dir q c d same = same
some_after (effect.Size i size) dir q c d same = same
some_after (effect.Bytes i at new) dir q c d same = same
some_after (effect.Drop i) dir q c d same = refl
some_after (effect.Swap x a e b) dir q c d same = same

module _ (at : List ℕ → Bool) (o x : Option Node) (s : Beside at o x) where
  -- an effect that is no Swap, on both
  beside_plain : (e : Effect) → Beside at (subject_after e o) (subject_after e x)
  beside_plain e = record {
    rest = rest_acts e o ∙ ap (rest_after e) s.rest ∙ sym (rest_acts e x);
    keys = λ q.
        ap is_some (child_acts e o q) ∙ some_after e (is_dir (rest_of o)) q (child_of o q) (child_of x q) (s.keys q)
        ∙ ap (λ r. is_some (child_after e (is_dir r) q (child_of x q))) s.rest ∙ sym (ap is_some (child_acts e x q));
    same = λ q off. child_acts e o q ∙ ap (child_after e (is_dir (rest_of o)) q) (s.same q off) ∙ ap (λ r. child_after e (is_dir r) q (child_of x q)) s.rest ∙ sym (child_acts e x q);
    count =
        count_acts e o ∙ some_count e (is_dir (rest_of o)) (child_of o) (child_of x) (count_of o) (count_of x) s.keys s.count
        ∙ ap (λ r. count_after e (is_dir r) (child_of x) (count_of x)) s.rest ∙ sym (count_acts e x);
  }

  -- one of the names that is there leads to something else
  beside_over : (d i : ℕ) (k : Kind) (name : List ℕ) → at name ≡ true → is_some (child_of o name) ≡ true → Beside at (subject_after (effect.Enter d i k name) o) x
  beside_over d i k name on there = record {
    rest = rest_acts (effect.Enter d i k name) o ∙ s.rest;
    keys = λ q.
        ap is_some (child_acts (effect.Enter d i k name) o q)
        ∙ elim (is_dir (rest_of o) && same_name q name) as (λ b. (is_dir (rest_of o) && same_name q name) ≡ b → is_some (cond b (Some (i, k)) (child_of o q)) ≡ is_some (child_of x q)) [
          | true ↦ λ e. sym there ∙ ap (λ n. is_some (child_of o n)) (sym (alike q name (second (is_dir (rest_of o)) (same_name q name) e))) ∙ s.keys q
          | false ↦ λ e. s.keys q
        ] refl;
    same = λ q off.
        child_acts (effect.Enter d i k name) o q
        ∙ elim (is_dir (rest_of o) && same_name q name) as (λ b. (is_dir (rest_of o) && same_name q name) ≡ b → cond b (Some (i, k)) (child_of o q) ≡ child_of x q) [
          | true ↦ λ e. absurd (false≢true (sym off ∙ ap at (alike q name (second (is_dir (rest_of o)) (same_name q name) e)) ∙ on))
          | false ↦ λ e. s.same q off
        ] refl;
    count = count_acts (effect.Enter d i k name) o ∙ ap (λ b. cond (is_dir (rest_of o)) (cond b (count_of o) (count_of o + 1)) (count_of o)) there ∙ same_either (is_dir (rest_of o)) (count_of o) ∙ s.count;
  } where
    second : (a b : Bool) → (a && b) ≡ true → b ≡ true
    second true b e = e
    second false b e = absurd (false≢true e)

-- ---- graphs

abbrev BesideAll : (ℕ → List ℕ → Bool) → Graph → Graph → Type 0
BesideAll at h k = (i : ℕ) → Beside (at i) (h i) (k i)

among_one : (j s : ℕ) → is_among j (s ∷ []) ≡ (j == s)
among_one j s = elim (eqb_tells j s) [
  | inl here ↦ ap (λ b. b || false) (eq-eqb s j (sym here.1)) ∙ sym here.0
  | inr off ↦ elim (eqb_tells s j) [
    | inl there ↦ absurd (off.1 (sym there.1))
    | inr apart ↦ ap (λ b. b || false) apart.0 ∙ sym off.0
  ]
]

plain_all : (at : ℕ → List ℕ → Bool) (h k : Graph) (e : Effect) → BesideAll at h k → BesideAll at (acted_graph h e) (acted_graph k e)
plain_all at h k e all i = elim (is_among i (subjects e)) as (λ b. Beside (at i) (cond b (subject_after e (h i)) (h i)) (cond b (subject_after e (k i)) (k i))) [ true ↦ beside_plain (at i) (h i) (k i) (all i) e | false ↦ all i ]

over_all : (at : ℕ → List ℕ → Bool) (h k : Graph) (d i : ℕ) (c : Kind) (name : List ℕ) → BesideAll at h k → at d name ≡ true → is_some (child_of (h d) name) ≡ true → BesideAll at (acted_graph h (effect.Enter d i c name)) k
over_all at h k d i c name all on there j =
    subst (λ b. Beside (at j) (cond b (subject_after (effect.Enter d i c name) (h j)) (h j)) (k j)) (sym (among_one j d))
    (elim (eqb_tells j d) [
      | inl here ↦ subst (λ b. Beside (at j) (cond b (subject_after (effect.Enter d i c name) (h j)) (h j)) (k j)) (sym here.0) (beside_over (at j) (h j) (k j) (all j) d i c name (ap (λ x. at x name) here.1 ∙ on) (ap (λ x. is_some (child_of (h x) name)) here.1 ∙ there))
      | inr off ↦ subst (λ b. Beside (at j) (cond b (subject_after (effect.Enter d i c name) (h j)) (h j)) (k j)) (sym off.0) (all j)
    ])

-- a Swap done, and not done
swap_all : (at : ℕ → List ℕ → Bool) (h k : Graph) (d : ℕ) (a : List ℕ) (e : ℕ) (b : List ℕ) (x y : Option Child) → child_at h d a ≡ x → child_at h e b ≡ y → at d a ≡ true → at e b ≡ true → BesideAll at h k → BesideAll at (acted_all h (exchanged_entries d a e b x y)) k
swap_all at h k d a e b (Some x) (Some y) is_x is_y on_a on_b all =
    let mid = over_all at h k d y.0 y.1 a all on_a (ap is_some is_x) in
    over_all at (acted_graph h (effect.Enter d y.0 y.1 a)) k e x.0 x.1 b mid on_b ((mid e).keys b ∙ sym ((all e).keys b) ∙ ap is_some is_y)
swap_all at h k d a e b (Some x) None is_x is_y on_a on_b all = all
swap_all at h k d a e b None y is_x is_y on_a on_b all = all

idle : (k : Graph) (d : ℕ) (a : List ℕ) (e : ℕ) (b : List ℕ) → acted_graph k (effect.Swap d a e b) ≡ k
idle k d a e b = λ t i. at i t where
  at : (i : ℕ) → acted_graph k (effect.Swap d a e b) i ≡ k i
  at i = elim (is_among i (d ∷ e ∷ [])) as (λ c. cond c (k i) (k i) ≡ k i) [ true ↦ refl | false ↦ refl ]

abbrev AreOn : (ℕ → List ℕ → Bool) → List (ℕ × List ℕ) → Type 0
AreOn at ps = AllByRecursion (λ p. at p.0 p.1 ≡ true) ps

run_beside : (es : List Effect) (at : ℕ → List ℕ → Bool) (h k : Graph) → AreOn at (swap_places es) → BesideAll at h k → BesideAll at (after_effects h es) (acted_all k es)
run_beside [] at h k on all = all
run_beside (effect.Make i c ∷ es) at h k on all = run_beside es at (acted_graph h (effect.Make i c)) (acted_graph k (effect.Make i c)) on (plain_all at h k (effect.Make i c) all)
run_beside (effect.Enter d i c name ∷ es) at h k on all = run_beside es at (acted_graph h (effect.Enter d i c name)) (acted_graph k (effect.Enter d i c name)) on (plain_all at h k (effect.Enter d i c name) all)
run_beside (effect.Leave d name ∷ es) at h k on all = run_beside es at (acted_graph h (effect.Leave d name)) (acted_graph k (effect.Leave d name)) on (plain_all at h k (effect.Leave d name) all)
run_beside (effect.Names i n ∷ es) at h k on all = run_beside es at (acted_graph h (effect.Names i n)) (acted_graph k (effect.Names i n)) on (plain_all at h k (effect.Names i n) all)
run_beside (effect.Size i size ∷ es) at h k on all = run_beside es at (acted_graph h (effect.Size i size)) (acted_graph k (effect.Size i size)) on (plain_all at h k (effect.Size i size) all)
run_beside (effect.Bytes i x new ∷ es) at h k on all = run_beside es at (acted_graph h (effect.Bytes i x new)) (acted_graph k (effect.Bytes i x new)) on (plain_all at h k (effect.Bytes i x new) all)
run_beside (effect.Drop i ∷ es) at h k on all = run_beside es at (acted_graph h (effect.Drop i)) (acted_graph k (effect.Drop i)) on (plain_all at h k (effect.Drop i) all)
run_beside (effect.Swap d a e b ∷ es) at h k on all =
    run_beside es at (after_effect h (effect.Swap d a e b)) (acted_graph k (effect.Swap d a e b)) on.1.1
    (subst (λ (u : Graph). BesideAll at (after_effect h (effect.Swap d a e b)) u) (sym (idle k d a e b)) (swap_all at h k d a e b (child_at h d a) (child_at h e b) refl refl on.0 on.1.0 all))

-- ---- the names that Swaps named are entered

abbrev is_place : List (ℕ × List ℕ) → ℕ → List ℕ → Bool
is_place [] i q = false
is_place (p ∷ ps) i q = (i == p.0 && same_name q p.1) || is_place ps i q

or_right : (a b : Bool) → b ≡ true → (a || b) ≡ true
or_right true b h = refl
or_right false b h = h

on_self : (ps : List (ℕ × List ℕ)) (at : ℕ → List ℕ → Bool) → ((i : ℕ) (q : List ℕ) → is_place ps i q ≡ true → at i q ≡ true) → AreOn at ps
on_self [] at more = tt
on_self (p ∷ ps) at more = (
  more p.0 p.1 (ap (λ b. (b && same_name p.1 p.1) || is_place ps p.0 p.1) (eq-eqb p.0 p.0 refl) ∙ ap (λ b. b || is_place ps p.0 p.1) (itself p.1)),
  on_self ps at (λ i q h. more i q (or_right (i == p.0 && same_name q p.1) (is_place ps i q) h)),
)

none_is : (c : Option Child) → is_some c ≡ false → c ≡ None
none_is None e = refl
none_is (Some x) e = absurd (false≢true (sym e))

-- one name is entered as it stands in the end; one that leads to nothing leads to nothing in both
module _ (h k : Graph) (p : ℕ × List ℕ) (ps : List (ℕ × List ℕ)) (all : BesideAll (is_place (p ∷ ps)) h k) where
  left_out : child_at h p.0 p.1 ≡ None → BesideAll (is_place ps) h k
  left_out none i = record {
    rest = (all i).rest;
    keys = (all i).keys;
    count = (all i).count;
    same = λ q off. elim (i == p.0 && same_name q p.1) as (λ b. (i == p.0 && same_name q p.1) ≡ b → child_of (h i) q ≡ child_of (k i) q) [
      | true ↦ λ e.
          let nothing : child_of (h i) q ≡ None = here i q e (λ j n. child_of (h j) n ≡ None) none in
          nothing ∙ sym (none_is (child_of (k i) q) (sym ((all i).keys q) ∙ ap is_some nothing))
      | false ↦ λ e. (all i).same q (ap (λ b. b || is_place ps i q) e ∙ off)
    ] refl;
  } where
    here : (i : ℕ) (q : List ℕ) → (i == p.0 && same_name q p.1) ≡ true → (P : ℕ → List ℕ → Type 0) → P p.0 p.1 → P i q
    here i q e P at_p = elim (eqb_tells i p.0) [
      | inl same ↦ subst (λ j. P j q) (sym same.1) (subst (λ n. P p.0 n) (sym (alike q p.1 (sym (ap (λ b. b && same_name q p.1) same.0) ∙ e))) at_p)
      | inr off ↦ absurd (false≢true (sym (ap (λ b. b && same_name q p.1) off.0) ∙ e))
    ]

  entered : (c : Child) → child_at h p.0 p.1 ≡ Some c → BesideAll (is_place ps) h (acted_graph k (effect.Enter p.0 c.0 c.1 p.1))
  entered c is i = subst (λ b. Beside (is_place ps i) (h i) (cond b (subject_after (effect.Enter p.0 c.0 c.1 p.1) (k i)) (k i))) (sym (among_one i p.0))
      (elim (eqb_tells i p.0) [
        | inl same ↦ subst (λ b. Beside (is_place ps i) (h i) (cond b (subject_after (effect.Enter p.0 c.0 c.1 p.1) (k i)) (k i))) (sym same.0) (there i same.0 (ap (λ j. child_of (h j) p.1) same.1 ∙ is))
        | inr off ↦ subst (λ b. Beside (is_place ps i) (h i) (cond b (subject_after (effect.Enter p.0 c.0 c.1 p.1) (k i)) (k i))) (sym off.0)
            (record { rest = (all i).rest; keys = (all i).keys; count = (all i).count; same = λ q none. (all i).same q (ap (λ b. (b && same_name q p.1) || is_place ps i q) off.0 ∙ none) })
      ]) where
        dir_has : (o : Option Node) (q : List ℕ) → is_some (child_of o q) ≡ true → is_dir (rest_of o) ≡ true
        dir_has None q e = absurd (false≢true (sym (ap is_some (no_child q)) ∙ e))
        dir_has (Some n) q e = elim (n.body) as (λ y. is_some (child_of (Some (record { names = n.names; body = y })) q) ≡ true → is_dir (rest_of (Some (record { names = n.names; body = y }))) ≡ true) [
          | FileBody bytes ↦ λ e. absurd (false≢true (sym (ap is_some (no_child q)) ∙ e))
          | DirBody es ↦ λ e. refl
        ] e

        there : (i : ℕ) → (i == p.0) ≡ true → child_of (h i) p.1 ≡ Some c → Beside (is_place ps i) (h i) (subject_after (effect.Enter p.0 c.0 c.1 p.1) (k i))
        there i on leads =
            let act = effect.Enter p.0 c.0 c.1 p.1 in
            let dir : is_dir (rest_of (k i)) ≡ true = dir_has (k i) p.1 (sym ((all i).keys p.1) ∙ ap is_some leads) in
            let get = λ (q : List ℕ). child_acts act (k i) q ∙ ap (λ b. cond (b && same_name q p.1) (Some c) (child_of (k i) q)) dir in
            record {
              rest = (all i).rest ∙ sym (rest_acts act (k i));
              keys = λ q. elim (same_name q p.1) as (λ b. same_name q p.1 ≡ b → is_some (child_of (h i) q) ≡ is_some (cond b (Some c) (child_of (k i) q))) [
                | true ↦ λ e. ap (λ n. is_some (child_of (h i) n)) (alike q p.1 e) ∙ ap is_some leads
                | false ↦ λ e. (all i).keys q
              ] refl ∙ sym (ap is_some (get q));
              same = λ q off. elim (same_name q p.1) as (λ b. same_name q p.1 ≡ b → child_of (h i) q ≡ cond b (Some c) (child_of (k i) q)) [
                | true ↦ λ e. ap (child_of (h i)) (alike q p.1 e) ∙ leads
                | false ↦ λ e. (all i).same q (ap (λ b. (b && same_name q p.1) || is_place ps i q) on ∙ ap (λ b. b || is_place ps i q) e ∙ off)
              ] refl ∙ sym (get q);
              count =
                  (all i).count
                  ∙ sym (count_acts act (k i) ∙ ap (λ b. cond (is_dir (rest_of (k i))) (cond b (count_of (k i)) (count_of (k i) + 1)) (count_of (k i))) (sym ((all i).keys p.1) ∙ ap is_some leads) ∙ same_either (is_dir (rest_of (k i))) (count_of (k i)));
            }

all_entered : (ps : List (ℕ × List ℕ)) (h k : Graph) → BesideAll (is_place ps) h k → (i : ℕ) → acted_all k (entered_places h ps) i ≡ h i
all_entered [] h k all i = whole (k i) (h i) (sym (all i).rest) (fin.same_map nat_list_cmp_total names_same _ _ (λ q. sym ((all i).same q refl)))
all_entered (p ∷ ps) h k all i =
    elim (child_at h p.0 p.1) as (λ c. child_at h p.0 p.1 ≡ c → acted_all k (entered_if p c (entered_places h ps)) i ≡ h i) [
      | None ↦ λ none. all_entered ps h k (left_out h k p ps all none) i
      | Some c ↦ λ is. all_entered ps h (acted_graph k (effect.Enter p.0 c.0 c.1 p.1)) (entered h k p ps all c is) i
    ] refl

itself_beside : (at : ℕ → List ℕ → Bool) (g : Graph) → BesideAll at g g
itself_beside at g i = record { rest = refl; keys = λ q. refl; same = λ q off. refl; count = refl }

pub swaps_last : (es : List Effect) (g : Graph) → after_effects g es ≡ acted_all g (es ++ entered_places (after_effects g es) (swap_places es))
swaps_last es g =
    let at = is_place (swap_places es) in
    let run = run_beside es at g g (on_self (swap_places es) at (λ i q h. h)) (itself_beside at g) in
    sym (acted_append g es (entered_places (after_effects g es) (swap_places es)) ∙ (λ t i. all_entered (swap_places es) (after_effects g es) (acted_all g es) run i t))

-- ---- what a node costs

abbrev rest_cost : Option (ℕ × Option (List ℕ)) → ℕ → ℕ
rest_cost None n = 0
rest_cost (Some x) n = elim (x.1) [ None ↦ directory_units n | Some bytes ↦ file_units (length bytes) ]

cost_is : (o : Option Node) → cost o ≡ rest_cost (rest_of o) (count_of o)
unfolding count_of
cost_is None = refl
cost_is (Some n) = elim (n.body) as (λ y. cost (Some (record { names = n.names; body = y })) ≡ rest_cost (rest_of (Some (record { names = n.names; body = y }))) (fin.len (node_entries (Some (record { names = n.names; body = y }))))) [ FileBody bytes ↦ refl | DirBody es ↦ refl ]

-- a Swap changes no node's cost
pub swaps_cost_nothing : (es : List Effect) (g : Graph) (i : ℕ) → cost (after_effects g es i) ≡ cost (acted_all g es i)
swaps_cost_nothing es g i =
    let at = is_place (swap_places es) in
    let one = run_beside es at g g (on_self (swap_places es) at (λ i q h. h)) (itself_beside at g) i in
    cost_is (after_effects g es i) ∙ ap (λ r. rest_cost r (count_of (after_effects g es i))) one.rest ∙ ap (rest_cost (rest_of (acted_all g es i))) one.count ∙ sym (cost_is (acted_all g es i))
