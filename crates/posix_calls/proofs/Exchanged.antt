-- What an exchange of two names leaves of a well-formed state.
use Rattle.std.proofs.Common.{◌≡◌, ◌≢◌, ◌⊎◌, inl, inr, ℕ, ◌+◌, ◌<◌, ◌≤◌, List, [], ◌∷◌, ◌++◌, refl, Some, Option, cond, ap, sym, ◌∙◌, subst, Bool, true, false, arith, ◌==◌}
use Rattle.std.specs.Prelude.{option_map, is_some}
use Rattle.std.proofs.lemmas.Bool.Decides.{eqb_tells}
use Rattle.std.specs.FinMap as fin
use Rattle.posix_calls.specs.Tree.{Tree, Node, Dir, State, entries_of, names_of}
use Rattle.posix_calls.specs.Query.{dir_test}
use Rattle.posix_calls.specs.declared.operation.Location.{Location}
use Rattle.posix_calls.specs.Operations.{with_entry, without_entry}
use Rattle.posix_calls.specs.WellFormed.{IsDirectory, IsWellFormed}
use Rattle.posix_calls.proofs.Counts.{put_back, get_other_insert}
use Rattle.posix_calls.proofs.Changes.{entry, entry_parent, set_there, set_other, entered_kind, entered_here, entered_keeps, entered_names, left_here, left_keeps, left_names}
use Rattle.posix_calls.proofs.Reached.{Edge, Avoids, Chain, AreReached, chain_append}
use Rattle.posix_calls.proofs.Trees.{tree_of, reached_of, parent_range, node_of, none_there, tree_entered, well_formed}
use Rattle.posix_calls.proofs.Moved.{IsWay, named_not_root}
use Rattle.posix_calls.proofs.Ancestors.{IsRound, rounds_up, no_root}

-- ---- a name that leads to something else

again : {A : Type 0} (b : Bool) (x y z : A) → cond b x (cond b y z) ≡ cond b x z
again true x y z = refl
again false x y z = refl

-- a name that goes and comes back in the same place
put_over : (t : Tree) (p : Location) (j : ℕ) → with_entry (without_entry t p) p j ≡ with_entry t p j
put_over t p j = λ x k. at k x where
  at : (k : ℕ) → with_entry (without_entry t p) p j k ≡ with_entry t p j k
  at k =
      ap (λ (o : Option Node). cond (k == p.parent) (Some (Dir (fin.insert (entries_of o) p.name j))) (without_entry t p k)) (set_there t p.parent (Some (Dir (fin.remove (entries_of (t p.parent)) p.name))))
      ∙ ap (λ m. cond (k == p.parent) (Some (Dir m)) (without_entry t p k)) (put_back (entries_of (t p.parent)) p.name j)
      ∙ again (k == p.parent) (Some (Dir (fin.insert (entries_of (t p.parent)) p.name j))) (Some (Dir (fin.remove (entries_of (t p.parent)) p.name))) (t k)

module _ (t : Tree) (p : Location) (i j : ℕ) (is : entry t p ≡ Some i) where
  parent : IsDirectory (t p.parent)
  parent = entry_parent (t p.parent) p.name i is

  pub over_kind : (k : ℕ) → option_map dir_test (with_entry t p j k) ≡ option_map dir_test (t k)
  over_kind k = entered_kind t p j parent k

  -- every name of another inode stays
  pub over_keeps : (x : Location) (c : ℕ) → c ≢ i → entry t x ≡ Some c → entry (with_entry t p j) x ≡ Some c
  over_keeps x c off e =
      ap (λ (u : Tree). entry u x) (sym (put_over t p j))
      ∙ entered_keeps (without_entry t p) p j (left_here t p) x c (left_keeps t p i is x c off e)

  pub over_names : 1 ≤ p.parent → p.parent ≤ 1024 → (k : ℕ) → names_of (with_entry t p j) k + cond (i == k) 1 0 ≡ names_of t k + cond (j == k) 1 0
  over_names low high k =
      let same = ap (λ (u : Tree). names_of u k) (put_over t p j) in
      let more = entered_names (without_entry t p) p j (left_here t p) low high k in
      let less = left_names t p i is low high k in
      omega (arith, same, more, less)

-- a name elsewhere leads where it did
apart_keeps : (t : Tree) (at x : Location) (i : ℕ) → (x.parent ≡ at.parent → x.name ≢ at.name) → entry (with_entry t at i) x ≡ entry t x
apart_keeps t at x i apart = elim (eqb_tells x.parent at.parent) [
  | inl same ↦
      ap (λ b. fin.get (entries_of (cond b (Some (Dir (fin.insert (entries_of (t at.parent)) at.name i))) (t x.parent))) x.name) same.0
      ∙ get_other_insert (entries_of (t at.parent)) at.name x.name i (apart same.1)
      ∙ ap (λ d. fin.get (entries_of (t d)) x.name) (sym same.1)
  | inr off ↦ ap (λ o. fin.get (entries_of o) x.name) (set_other t at.parent x.parent (Some (Dir (fin.insert (entries_of (t at.parent)) at.name i))) off.1)
]

-- ---- ways that come by neither of two inodes

pub record IsClear (g : Tree) (i j a b : ℕ) : Type 0 where
  pub steps : List ℕ
  pub off_i : Avoids i steps
  pub off_j : Avoids j steps
  pub chain : Chain g a steps b

-- a way, or what follows the last time that it comes by one of them
last_seen : (g : Tree) (i j a : ℕ) (cs : List ℕ) (b : ℕ) → Chain g a cs b → IsClear g i j a b ⊎ (IsClear g i j i b ⊎ IsClear g i j j b)
last_seen g i j a [] b e = inl (record { steps = []; off_i = tt; off_j = tt; chain = e })
last_seen g i j a (c ∷ cs) b e = elim (last_seen g i j c cs b e.1) [
  | inl clear ↦ elim (eqb_tells c i) [
    | inl same ↦ inr (inl (subst (λ x. IsClear g i j x b) same.1 clear))
    | inr off_i ↦ elim (eqb_tells c j) [
      | inl same ↦ inr (inr (subst (λ x. IsClear g i j x b) same.1 clear))
      | inr off_j ↦ inl (record { steps = c ∷ clear.steps; off_i = (off_i.1, clear.off_i); off_j = (off_j.1, clear.off_j); chain = (e.0, clear.chain) })
    ]
  ]
  | inr later ↦ inr later
]

clear_moves : (g h : Tree) (i j : ℕ) → ((a c : ℕ) → c ≢ i → c ≢ j → Edge g a c → Edge h a c) → (a : ℕ) (cs : List ℕ) (b : ℕ) → Avoids i cs → Avoids j cs → Chain g a cs b → Chain h a cs b
clear_moves g h i j stays a [] b off_i off_j e = e
clear_moves g h i j stays a (c ∷ cs) b off_i off_j e = (stays a c off_i.0 off_j.0 e.0, clear_moves g h i j stays c cs b off_i.1 off_j.1 e.1)

-- All stay reached where only the edges to i and j change, and each hangs on a directory whose way comes by neither.
reached_exchanged : (g h : Tree) (i j p q : ℕ) → AreReached g → ((a c : ℕ) → c ≢ i → c ≢ j → Edge g a c → Edge h a c) → ((k : ℕ) → IsDirectory (h k) → IsDirectory (g k))
    → Edge h q i → IsClear g i j 1 q → Edge h p j → IsClear g i j 1 p → AreReached h
reached_exchanged g h i j p q reached stays kinds to_i way_i to_j way_j k is =
    let r = reached k (kinds k is) in
    elim (last_seen g i j 1 r.0 k r.1) [
      | inl apart ↦ (apart.steps, clear_moves g h i j stays 1 apart.steps k apart.off_i apart.off_j apart.chain)
      | inr (inl under) ↦ (way_i.steps ++ i ∷ under.steps, chain_append h 1 way_i.steps q (i ∷ under.steps) k (clear_moves g h i j stays 1 way_i.steps q way_i.off_i way_i.off_j way_i.chain) (to_i, clear_moves g h i j stays i under.steps k under.off_i under.off_j under.chain))
      | inr (inr under) ↦ (way_j.steps ++ j ∷ under.steps, chain_append h 1 way_j.steps p (j ∷ under.steps) k (clear_moves g h i j stays 1 way_j.steps p way_j.off_i way_j.off_j way_j.chain) (to_j, clear_moves g h i j stays j under.steps k under.off_i under.off_j under.chain))
    ]

-- a way to a directory that names c leads round where it comes by c
round_of : (t : Tree) (c : ℕ) (qs : List ℕ) (d : ℕ) → Chain t c qs d → Edge t d c → IsRound t c
round_of t c [] d e edge = record { first = c; steps = []; way = (subst (λ x. Edge t x c) (sym e) edge, refl) }
round_of t c (x ∷ qs) d e edge = record { first = x; steps = qs ++ c ∷ []; way = (e.0, chain_append t x qs d (c ∷ []) c e.1 (edge, refl)) }

-- so the way to what names an inode does not come by it
own_way : (s : State) (j d : ℕ) → IsWellFormed s → Edge s.tree d j → (a : ℕ) (ps qs : List ℕ) → Chain s.tree 1 ps a → Chain s.tree a qs d → Avoids j qs
own_way s j d fine edge a ps [] before e = tt
own_way s j d fine edge a ps (c ∷ qs) before e =
    let here = chain_append s.tree 1 ps a (c ∷ []) c before (e.0, refl) in (
      (λ same. no_root s fine (rounds_up s 1 (ps ++ c ∷ []) c fine here (round_of s.tree c qs d e.1 (subst (Edge s.tree d) (sym same) edge)))),
      own_way s j d fine edge c (ps ++ c ∷ []) qs here e.1,
    )

-- ---- two names change what they lead to

-- the tree in which each of two names has what the other one had
abbrev pub exchanged_tree : Tree → Location → Location → ℕ → ℕ → Tree
exchanged_tree t p q i j = with_entry (with_entry t p j) q i

module _ (s : State) (p q : Location) (i j : ℕ) (fine : IsWellFormed s) (is_p : entry s.tree p ≡ Some i) (is_q : entry s.tree q ≡ Some j) (apart : i ≢ j) where
  abbrev t : Tree
  t = s.tree

  abbrev mid : Tree
  mid = with_entry t p j

  abbrev h : Tree
  h = with_entry mid q i

  pub mid_q : entry mid q ≡ Some j
  mid_q = over_keeps t p i j is_p q j (λ same. apart (sym same)) is_q

  pub exchanged_kind : (k : ℕ) → option_map dir_test (h k) ≡ option_map dir_test (t k)
  exchanged_kind k = over_kind mid q j i mid_q k ∙ over_kind t p i j is_p k

  pub exchanged_names : (k : ℕ) → names_of h k ≡ names_of t k
  exchanged_names k =
      let tree = tree_of s fine in
      let at_p = parent_range t p i tree is_p in
      let at_q = parent_range t q j tree is_q in
      let first = over_names t p i j is_p at_p.0 at_p.1 k in
      let second = over_names mid q j i mid_q at_q.0 at_q.1 k in
      omega (arith, first, second)

  stays : (a c : ℕ) → c ≢ i → c ≢ j → Edge t a c → Edge h a c
  stays a c off_i off_j e = (e.0, over_keeps mid q j i mid_q (record { parent = a; name = e.0 }) c off_j (over_keeps t p i j is_p (record { parent = a; name = e.0 }) c off_i e.1))

  to_i : Edge h q.parent i
  to_i = (q.name, entered_here mid q i)

  differ : p.parent ≡ q.parent → p.name ≢ q.name
  differ d n =
      let clash : Some i ≡ Some j = sym is_p ∙ ap (λ k. fin.get (entries_of (t k)) p.name) d ∙ ap (fin.get (entries_of (t q.parent))) n ∙ is_q in
      let one : i ≡ j = cc in
      apart one

  to_j : Edge h p.parent j
  to_j = (p.name, apart_keeps mid q p i differ ∙ entered_here t p j)

  pub exchanged_fine : IsWay t i q.parent → IsWay t j p.parent → IsWellFormed (record { tree = h; descriptors = s.descriptors })
  exchanged_fine way_i way_j =
      let tree = tree_of s fine in
      well_formed s h s.descriptors i fine (named_not_root s p i fine is_p)
      (tree_entered mid q i (tree_entered t p j tree (entry_parent (t p.parent) p.name i is_p)) (entry_parent (mid q.parent) q.name j mid_q))
      (reached_exchanged t h i j p.parent q.parent (reached_of s fine) stays (λ k dir. sym (exchanged_kind k) ∙ dir)
      to_i (record { steps = way_i.0; off_i = way_i.1; off_j = own_way s j q.parent fine (q.name, is_q) 1 [] way_i.0 refl way_i.2; chain = way_i.2 })
      to_j (record { steps = way_j.0; off_i = own_way s i p.parent fine (p.name, is_p) 1 [] way_j.0 refl way_j.2; off_j = way_j.1; chain = way_j.2 }))
      (record { numbers = fine.numbers; opened = λ c n o there. exchanged_kind o.inode ∙ fine.opened c n o there })
      (record { kinds = λ k off. exchanged_kind k; names = λ k off. exchanged_names k; opens = λ k off e. e })
      (record {
        none = λ gone. absurd (let clash : false ≡ true = sym (ap is_some (none_there (t i) (sym (exchanged_kind i) ∙ ap (option_map dir_test) gone))) ∙ node_of s p i fine is_p in cc);
        one_name = λ dir. exchanged_names i ∙ fine.one_name i (sym (exchanged_kind i) ∙ dir) (named_not_root s p i fine is_p);
        used = λ file. elim (fine.used i (sym (exchanged_kind i) ∙ file)) [
          | inl named ↦ inl (subst (λ n. 0 < n) (sym (exchanged_names i)) named)
          | inr at ↦ inr at
        ];
      })
