-- Each directory is reached from the root, also after a name has come, gone or moved.
use Rattle.std.proofs.Common.{◌≡◌, ◌≢◌, ◌⊎◌, inl, inr, ℕ, List, [], ◌∷◌, ◌++◌, refl, Some, None, Option, Ok, Err, ap, sym, ◌∙◌, subst}
use Rattle.std.proofs.lemmas.Bool.Decides.{eqb_tells}
use Rattle.std.specs.FinMap as fin
use Rattle.posix_calls.specs.Tree.{Tree, Node, File, Dir, entries_of}
use Rattle.posix_calls.specs.Resolve.{entry_or, child, then_from, resolve_from}
use Rattle.posix_calls.specs.WellFormed.{IsDirectory}
use Rattle.posix_calls.proofs.Changes.{IsBare, bare_entry, no_entry}

-- a name in a leads to c
abbrev pub Edge : Tree → ℕ → ℕ → Type 0
Edge t a c = (name : List ℕ) × (fin.get (entries_of (t a)) name ≡ Some c)

-- names lead from a by these inodes to b
abbrev pub Chain : Tree → ℕ → List ℕ → ℕ → Type 0
Chain t a [] b = a ≡ b
Chain t a (c ∷ cs) b = Edge t a c × Chain t c cs b

-- an inode is none of these
abbrev pub Avoids : ℕ → List ℕ → Type 0
Avoids i [] = Unit {0}
Avoids i (c ∷ cs) = (c ≢ i) × Avoids i cs

abbrev pub AreReached : Tree → Type 0
AreReached t = (j : ℕ) → IsDirectory (t j) → (cs : List ℕ) × Chain t 1 cs j

-- ---- a path is a chain

entry_ok : (o : Option ℕ) (c : ℕ) → entry_or o ≡ Ok c → o ≡ Some c
entry_ok None c e = absurd (cc)
entry_ok (Some i) c e = let same : i ≡ c = cc in ap (λ x. Some x) same

pub child_ok : (o : Option Node) (name : List ℕ) (c : ℕ) → child o name ≡ Ok c → fin.get (entries_of o) name ≡ Some c
child_ok None name c e = absurd (cc)
child_ok (Some (File bytes)) name c e = absurd (cc)
child_ok (Some (Dir es)) name c e = entry_ok (fin.get es name) c e

child_is : (o : Option Node) (name : List ℕ) (c : ℕ) → fin.get (entries_of o) name ≡ Some c → child o name ≡ Ok c
child_is None name c e = absurd (no_entry name c e)
child_is (Some (File bytes)) name c e = absurd (no_entry name c e)
child_is (Some (Dir es)) name c e = ap entry_or e

pub path_chain : (t : Tree) (names : List (List ℕ)) (i j : ℕ) → resolve_from t names i ≡ Ok j → (cs : List ℕ) × Chain t i cs j
unfolding resolve_from
path_chain t [] i j e = ([], (let same : i ≡ j = cc in same))
path_chain t (name ∷ names) i j e =
    elim (child (t i) name) as (λ r. child (t i) name ≡ r → then_from (resolve_from t names) r ≡ Ok j → (cs : List ℕ) × Chain t i cs j) [
      | Err x ↦ λ is clash. absurd (cc)
      | Ok c ↦ λ is rest.
          let more = path_chain t names c j rest in
          (c ∷ more.0, ((name, child_ok (t i) name c is), more.1))
    ] refl e

pub chain_path : (t : Tree) (cs : List ℕ) (i j : ℕ) → Chain t i cs j → (names : List (List ℕ)) × (resolve_from t names i ≡ Ok j)
unfolding resolve_from
chain_path t [] i j e = ([], ap (λ k. Ok k) e)
chain_path t (c ∷ cs) i j e =
    let more = chain_path t cs c j e.1 in
    (e.0.0 ∷ more.0, ap (then_from (resolve_from t more.0)) (child_is (t i) e.0.0 c e.0.1) ∙ more.1)

-- ---- chains where names come and go

-- a way that does not come by i, or what follows the last time that it does
last_seen : (g : Tree) (i a : ℕ) (cs : List ℕ) (b : ℕ) → Chain g a cs b → ((ds : List ℕ) × Avoids i ds × Chain g a ds b) ⊎ ((ds : List ℕ) × Avoids i ds × Chain g i ds b)
last_seen g i a [] b e = inl ([], tt, e)
last_seen g i a (c ∷ cs) b e = elim (last_seen g i c cs b e.1) [
  | inl clear ↦ elim (eqb_tells c i) [
    | inl same ↦ inr (clear.0, clear.1, subst (λ x. Chain g x clear.0 b) same.1 clear.2)
    | inr off ↦ inl (c ∷ clear.0, (off.1, clear.1), (e.0, clear.2))
  ]
  | inr later ↦ inr later
]

pub chain_moves : (g h : Tree) (i : ℕ) → ((a c : ℕ) → c ≢ i → Edge g a c → Edge h a c) → (a : ℕ) (cs : List ℕ) (b : ℕ) → Avoids i cs → Chain g a cs b → Chain h a cs b
chain_moves g h i stays a [] b clear e = e
chain_moves g h i stays a (c ∷ cs) b clear e = (stays a c clear.0 e.0, chain_moves g h i stays c cs b clear.1 e.1)

pub chain_stays : (g h : Tree) → ((a c : ℕ) → Edge g a c → Edge h a c) → (a : ℕ) (cs : List ℕ) (b : ℕ) → Chain g a cs b → Chain h a cs b
chain_stays g h stays a [] b e = e
chain_stays g h stays a (c ∷ cs) b e = (stays a c e.0, chain_stays g h stays c cs b e.1)

pub chain_append : (h : Tree) (a : ℕ) (cs : List ℕ) (b : ℕ) (ds : List ℕ) (c : ℕ) → Chain h a cs b → Chain h b ds c → Chain h a (cs ++ ds) c
chain_append h a [] b ds c e f = subst (λ x. Chain h x ds c) (sym e) f
chain_append h a (x ∷ cs) b ds c e f = (e.0, chain_append h x cs b ds c e.1 f)

-- All stay reached where only the edges to i change, and i hangs on q, whose way does not come by i.
pub reached_moved : (g h : Tree) (i q : ℕ) → AreReached g → ((a c : ℕ) → c ≢ i → Edge g a c → Edge h a c) → ((j : ℕ) → IsDirectory (h j) → IsDirectory (g j))
    → Edge h q i → (qs : List ℕ) → Avoids i qs → Chain g 1 qs q → AreReached h
reached_moved g h i q reached stays kinds edge qs clear way j is =
    let r = reached j (kinds j is) in
    elim (last_seen g i 1 r.0 j r.1) [
      | inl apart ↦ (apart.0, chain_moves g h i stays 1 apart.0 j apart.1 apart.2)
      | inr under ↦ (qs ++ i ∷ under.0, chain_append h 1 qs q (i ∷ under.0) j (chain_moves g h i stays 1 qs q clear way) (edge, chain_moves g h i stays i under.0 j under.1 under.2))
    ]

-- what has no entries leads nowhere
pub nowhere : (g : Tree) (i : ℕ) (cs : List ℕ) (j : ℕ) → IsBare (g i) → j ≢ i → Chain g i cs j → ⊥
nowhere g i [] j bare other e = other (sym e)
nowhere g i (c ∷ cs) j bare other e = bare_entry (g i) e.0.0 c bare e.0.1

-- All stay reached where only the edges to i change, which has no entries and is then no directory.
pub reached_beside : (g h : Tree) (i : ℕ) → AreReached g → IsBare (g i) → ((a c : ℕ) → c ≢ i → Edge g a c → Edge h a c) → ((j : ℕ) → IsDirectory (h j) → IsDirectory (g j) × (j ≢ i)) → AreReached h
reached_beside g h i reached bare stays dirs j is =
    let d = dirs j is in
    let r = reached j d.0 in
    elim (last_seen g i 1 r.0 j r.1) [
      | inl apart ↦ (apart.0, chain_moves g h i stays 1 apart.0 j apart.1 apart.2)
      | inr under ↦ absurd (nowhere g i under.0 j bare d.1 under.2)
    ]

-- All are reached where a new directory hangs on one that is.
pub reached_new : (g h : Tree) (i q : ℕ) → AreReached g → IsDirectory (g q) → ((a c : ℕ) → Edge g a c → Edge h a c) → ((j : ℕ) → IsDirectory (h j) → j ≢ i → IsDirectory (g j)) → Edge h q i → AreReached h
reached_new g h i q reached at stays dirs edge j is =
    elim (eqb_tells j i) [
      | inl same ↦
          let r = reached q at in
          (r.0 ++ i ∷ [], chain_append h 1 r.0 q (i ∷ []) j (chain_stays g h stays 1 r.0 q r.1) (edge, sym same.1))
      | inr off ↦ let r = reached j (dirs j is off.1) in (r.0, chain_stays g h stays 1 r.0 j r.1)
    ]
