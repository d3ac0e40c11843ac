-- No directory of a well-formed tree is its own ancestor.
use Rattle.std.proofs.Common.{◌≡◌, inl, inr, ℕ, List, [], ◌∷◌, refl, Some, Ok, Err, ap, sym, ◌∙◌, subst, arith}
use Rattle.std.proofs.lemmas.Bool.Decides.{eqb_tells}
use Rattle.std.specs.FinMap as fin
use Rattle.posix_calls.specs.Tree.{Tree, State, names_of, entries_of}
use Rattle.posix_calls.specs.declared.operation.Location.{Location}
use Rattle.posix_calls.specs.Operations.{without_entry}
use Rattle.posix_calls.specs.Resolve.{child, then_from, resolve_from}
use Rattle.posix_calls.specs.WellFormed.{IsDirectory, IsWellFormed}
use Rattle.posix_calls.proofs.Changes.{entry, entry_parent, left_names, has_name, set_other, on_one}
use Rattle.posix_calls.proofs.Reached.{Edge, Chain, path_chain, child_ok}
use Rattle.posix_calls.proofs.Trees.{tree_of, reached_of, parent_range}
use Rattle.posix_calls.proofs.Moved.{named_not_root}

abbrev location : ℕ → List ℕ → Location
location d name = record { parent = d; name = name }

-- an inode with one name is in one directory
one_parent : (s : State) (a b c : ℕ) → IsWellFormed s → names_of s.tree c ≡ 1 → Edge s.tree a c → Edge s.tree b c → b ≡ a
one_parent s a b c fine one e f = elim (eqb_tells b a) [
  | inl same ↦ same.1
  | inr off ↦
      let t = s.tree in
      let tree = tree_of s fine in
      let range = parent_range t (location a e.0) c tree e.1 in
      let range_b = parent_range t (location b f.0) c tree f.1 in
      let less = left_names t (location a e.0) c e.1 range.0 range.1 c in
      let it = on_one c in
      let stays : entry (without_entry t (location a e.0)) (location b f.0) ≡ Some c = ap (λ o. fin.get (entries_of o) f.0) (set_other t a b _ off.1) ∙ f.1 in
      let more = has_name (without_entry t (location a e.0)) (location b f.0) c stays range_b.0 range_b.1 in
      absurd (omega (arith, less, it, more, one))
]

-- the last step of a way
pub record IsLast (t : Tree) (a b : ℕ) : Type 0 where
  pub before : ℕ
  pub steps : List ℕ
  pub way : Chain t a steps before
  pub edge : Edge t before b

last_of : (t : Tree) (a c : ℕ) (cs : List ℕ) (b : ℕ) → Chain t a (c ∷ cs) b → IsLast t a b
last_of t a c [] b e = record { before = a; steps = []; way = refl; edge = subst (Edge t a) e.1 e.0 }
last_of t a c (d ∷ cs) b e =
    let l = last_of t c d cs b e.1 in
    record { before = l.before; steps = c ∷ l.steps; way = (e.0, l.way); edge = l.edge }

-- a way of one step or more that leads back
pub record IsRound (t : Tree) (i : ℕ) : Type 0 where
  pub first : ℕ
  pub steps : List ℕ
  pub way : Chain t i (first ∷ steps) i

-- then one leads back to the parent too
round_up : (s : State) (a c : ℕ) → IsWellFormed s → Edge s.tree a c → IsRound s.tree c → IsRound s.tree a
round_up s a c fine e round =
    let t = s.tree in
    let dir : IsDirectory (t c) = entry_parent (t c) round.way.0.0 round.first round.way.0.1 in
    let one = fine.one_name c dir (named_not_root s (location a e.0) c fine e.1) in
    let l = last_of t c round.first round.steps c round.way in
    let same : l.before ≡ a = one_parent s a l.before c fine one e l.edge in
    record { first = c; steps = l.steps; way = (e, subst (Chain t c l.steps) same l.way) }

pub rounds_up : (s : State) (a : ℕ) (cs : List ℕ) (b : ℕ) → IsWellFormed s → Chain s.tree a cs b → IsRound s.tree b → IsRound s.tree a
rounds_up s a [] b fine e round = subst (IsRound s.tree) (sym e) round
rounds_up s a (c ∷ cs) b fine e round = round_up s a c fine e.0 (rounds_up s c cs b fine e.1 round)

-- names that lead back are such a way
path_round : (t : Tree) (i : ℕ) (name : List ℕ) (names : List (List ℕ)) → resolve_from t (name ∷ names) i ≡ Ok i → IsRound t i
unfolding resolve_from
path_round t i name names e =
    elim (child (t i) name) as (λ r. child (t i) name ≡ r → then_from (resolve_from t names) r ≡ Ok i → IsRound t i) [
      | Err x ↦ λ is clash. absurd (cc)
      | Ok c ↦ λ is rest.
          let more = path_chain t names c i rest in
          record { first = c; steps = more.0; way = ((name, child_ok (t i) name c is), more.1) }
    ] refl e

pub no_root : (s : State) → IsWellFormed s → IsRound s.tree 1 → ⊥
no_root s fine round =
    let l = last_of s.tree 1 round.first round.steps 1 round.way in
    named_not_root s (location l.before l.edge.0) 1 fine l.edge.1 refl

-- and to the root, which has no name
pub no_round : (s : State) (i : ℕ) (name : List ℕ) (names : List (List ℕ)) → IsWellFormed s → IsDirectory (s.tree i) → resolve_from s.tree (name ∷ names) i ≡ Ok i → ⊥
no_round s i name names fine dir e =
    let way = reached_of s fine i dir in
    no_root s fine (rounds_up s 1 way.0 i fine way.1 (path_round s.tree i name names e))
