-- What a call that is not refused tells of the graph.
use Rattle.std.proofs.Common.{◌≡◌, ◌≢◌, ◌⊎◌, inl, inr, ℕ, ◌+◌, ◌≤◌, List, [], ◌∷◌, length, refl, Some, None, Option, Ok, cond, ap, sym, ◌∙◌, subst, true, false, Bool, arith, ◌==◌, ◌||◌, if◌then◌else◌}
use Rattle.std.specs.Prelude.{option_map, ◌&&◌, not}
use Rattle.std.specs.List.{list_any}
use Rattle.std.proofs.lemmas.Bool.Decides.{eqb_tells}
use Rattle.std.specs.FinMap as fin
use Rattle.posix_calls.specs.Content.{Entries}
use Rattle.posix_calls.specs.Tree.{Tree, Descriptors, is_open, set_node, entries_of}
use Rattle.posix_calls.specs.Query.{Seen, Query, Gives, Refuses, IsDir, Look, ◌>>=◌, View, run}
use Rattle.posix_calls.specs.Query as query
use Rattle.posix_calls.specs.declared.operation.Location.{Location}
use Rattle.posix_calls.specs.Walk.{Place, root_place, entries_seen, directory, directory_if, walk}
use Rattle.posix_calls.proofs.Reached.{Chain, chain_path}
use Rattle.posix_calls.proofs.Changes.{set_other}
use Rattle.log_record.specs.file_graph.Graph.{Graph, Node, FileBody, DirBody}
use Rattle.log_record.specs.file_graph.declared.effect.Kind.{Kind}
use Rattle.log_record.specs.file_graph.declared.effect.Kind.TheVariants as kind
use Rattle.call_effects.specs.Effects.{stored_count}
use Rattle.call_effects.specs.Wholes.{without_kinds, tree_of, keep, reachable_graph, kind_of, body_kind, one_if, graph_view, node_is_dir, node_seen}
use Rattle.call_effects.specs.Fits.{IsRoom, IsEntry, IsClear}
use Rattle.call_effects.proofs.Asked.{bind_ok, given, looked}
use Rattle.call_effects.proofs.Inodes.{get_inodes}
use Rattle.call_effects.proofs.Changes.{IsFair, file, dir, named, has_name, tree_dir}
use Rattle.call_effects.proofs.Edges.{IsUsed}

-- ---- a node by its kind

pub record HasDir (g : Graph) (i : ℕ) : Type 0 where
  pub names : ℕ
  pub entries : Entries (ℕ × Kind)
  pub is : g i ≡ dir names entries

pub record HasFile (g : Graph) (i : ℕ) : Type 0 where
  pub names : ℕ
  pub bytes : List ℕ
  pub is : g i ≡ file names bytes

pub dir_of_kind : (o : Option Node) → kind_of o ≡ Some kind.Directory → (n : ℕ) × (es : Entries (ℕ × Kind)) × (o ≡ dir n es)
dir_of_kind None e = absurd (cc)
dir_of_kind (Some n) e = elim (n.body) as (λ b. n.body ≡ b → Some (body_kind b) ≡ Some kind.Directory → (m : ℕ) × (es : Entries (ℕ × Kind)) × (Some n ≡ dir m es)) [
  | FileBody bytes ↦ λ is clash. absurd (cc)
  | DirBody es ↦ λ is same. (n.names, es, ap (λ b. Some (record { names = n.names; body = b })) is)
] refl e

pub file_of_kind : (o : Option Node) → kind_of o ≡ Some kind.File → (n : ℕ) × (bytes : List ℕ) × (o ≡ file n bytes)
file_of_kind None e = absurd (cc)
file_of_kind (Some n) e = elim (n.body) as (λ b. n.body ≡ b → Some (body_kind b) ≡ Some kind.File → (m : ℕ) × (bytes : List ℕ) × (Some n ≡ file m bytes)) [
  | FileBody bytes ↦ λ is same. (n.names, bytes, ap (λ b. Some (record { names = n.names; body = b })) is)
  | DirBody es ↦ λ is clash. absurd (cc)
] refl e

pub has_dir : (g : Graph) (i : ℕ) → kind_of (g i) ≡ Some kind.Directory → HasDir g i
has_dir g i e = let d = dir_of_kind (g i) e in record { names = d.0; entries = d.1; is = d.2 }

pub has_file : (g : Graph) (i : ℕ) → kind_of (g i) ≡ Some kind.File → HasFile g i
has_file g i e = let d = file_of_kind (g i) e in record { names = d.0; bytes = d.1; is = d.2 }

-- ---- the view

some_true : (b : Bool) (n : Node) → option_map node_is_dir (cond b None (Some n)) ≡ Some true → node_is_dir n ≡ true
some_true true n e = absurd (cc)
some_true false n e = cc

pub kept_is_dir : (b : Bool) (o : Option Node) → option_map node_is_dir (keep b o) ≡ Some true → kind_of o ≡ Some kind.Directory
kept_is_dir b None e = absurd (cc)
kept_is_dir b (Some n) e = elim (n.body) as (λ y. n.body ≡ y → option_map node_is_dir (elim y [ FileBody bytes ↦ if n.names == 0 && not b then None else Some n | DirBody entries ↦ Some n ]) ≡ Some true → Some (body_kind y) ≡ Some kind.Directory) [
  | FileBody bytes ↦ λ is t. let yes = some_true (n.names == 0 && not b) n t in let no : node_is_dir n ≡ false = ap (λ y. elim y [ FileBody bytes ↦ false | DirBody entries ↦ true ]) is in absurd (let clash : true ≡ false = sym yes ∙ no in cc)
  | DirBody es ↦ λ is t. refl
] refl e

pub view_dir : (g : Graph) (d : Descriptors) (i n : ℕ) (es : Entries (ℕ × Kind)) → g i ≡ dir n es → (graph_view g d).node i ≡ Some (query.Dir (without_kinds es))
view_dir g d i n es is = ap (λ o. option_map node_seen (keep (is_open d i) o)) is

pub view_is_dir : (g : Graph) (d : Descriptors) (i n : ℕ) (es : Entries (ℕ × Kind)) → g i ≡ dir n es → (graph_view g d).is_dir i ≡ Some true
view_is_dir g d i n es is = ap (λ o. option_map node_is_dir (keep (is_open d i) o)) is

pub view_file : (g : Graph) (d : Descriptors) (i n : ℕ) (bytes : List ℕ) → g i ≡ file n bytes → IsUsed d i n → (graph_view g d).node i ≡ Some (query.File n (length bytes))
view_file g d i n bytes is used = ap (λ o. option_map node_seen (keep (is_open d i) o)) is ∙ ap (λ b. option_map node_seen (cond b None (file n bytes))) used

pub view_is_file : (g : Graph) (d : Descriptors) (i n : ℕ) (bytes : List ℕ) → g i ≡ file n bytes → IsUsed d i n → (graph_view g d).is_dir i ≡ Some false
view_is_file g d i n bytes is used = ap (λ o. option_map node_is_dir (keep (is_open d i) o)) is ∙ ap (λ b. option_map node_is_dir (cond b None (file n bytes))) used

-- ---- places

pub record IsPlace (g : Graph) (place : Place) : Type 0 where
  pub names : ℕ
  pub entries : Entries (ℕ × Kind)
  pub is : g place.location.parent ≡ dir names entries
  pub inode : place.inode ≡ fin.get (without_kinds entries) place.location.name

-- in the root, or beyond it
abbrev pub Leads : Graph → List (List ℕ) → Place → Type 0
Leads g names place = ((names ≡ []) × (place ≡ root_place)) ⊎ IsPlace g place

pub directory_given : (g : Graph) (d : Descriptors) (o : Option ℕ) (child : ℕ) → run (graph_view g d) (directory o) ≡ Ok child → kind_of (g child) ≡ Some kind.Directory
unfolding run
directory_given g d None child e = absurd (cc)
directory_given g d (Some i) child e =
    elim ((graph_view g d).is_dir i) as (λ o. (graph_view g d).is_dir i ≡ o → run (graph_view g d) (directory_if i o) ≡ Ok child → kind_of (g child) ≡ Some kind.Directory) [
      | None ↦ λ is no. absurd (cc)
      | Some b ↦ λ is yes. elim b as (λ c. Some b ≡ Some c → run (graph_view g d) (directory_if i (Some c)) ≡ Ok child → kind_of (g child) ≡ Some kind.Directory) [
        | true ↦ λ same now. let one : i ≡ child = cc in subst (λ j. kind_of (g j) ≡ Some kind.Directory) one (kept_is_dir (is_open d i) (g i) (is ∙ same))
        | false ↦ λ same now. absurd (cc)
      ] refl yes
    ] refl e

pub leads : (g : Graph) (d : Descriptors) (from : ℕ) (way : List ℕ) (names : List (List ℕ)) (place : Place) → kind_of (g from) ≡ Some kind.Directory → run (graph_view g d) (walk from way names) ≡ Ok place → Leads g names place
unfolding walk
leads g d from way [] place is e = inl (refl, sym (given (graph_view g d) e))
leads g d from way (name ∷ []) place is e =
    let v = graph_view g d in
    let s = bind_ok v _ _ _ e in
    let there = has_dir g from is in
    let seen = looked v from entries_seen s.0 s.1 in
    let entries : without_kinds there.entries ≡ s.0 = sym (ap entries_seen (view_dir g d from there.names there.entries there.is)) ∙ seen in
    let made = given v s.2 in
    inr (subst (IsPlace g) made (record { names = there.names; entries = there.entries; is = there.is; inode = ap (λ m. fin.get m name) (sym entries) }))
leads g d from way (name ∷ next ∷ names) place is e =
    let v = graph_view g d in
    let s = bind_ok v _ _ _ e in
    let c = bind_ok v _ _ _ s.2 in
    let dir_here = directory_given g d (fin.get s.0 name) c.0 c.1 in
    elim (leads g d c.0 (from ∷ way) (next ∷ names) place dir_here c.2) [
      | inl end ↦ absurd (let clash : next ∷ names ≡ [] = end.0 in cc)
      | inr at ↦ inr at
    ]

-- the entry that a place has, and its node
pub some_first : (o : Option (ℕ × Kind)) (i : ℕ) → Some i ≡ option_map (λ (e : ℕ × Kind). e.0) o → (k : Kind) × (o ≡ Some (i, k))
some_first None i e = absurd (cc)
some_first (Some x) i e = let same : i ≡ x.0 = cc in (x.1, λ t. Some (sym same t, x.1))

pub record IsNamed (g : Graph) (at : Location) (i : ℕ) : Type 0 where
  pub kind : Kind
  pub entry : IsEntry g at (i, kind)
  pub node : kind_of (g i) ≡ Some kind

pub named_at : (g : Graph) (d : Descriptors) (place : Place) (i : ℕ) → IsFair g d → IsPlace g place → place.inode ≡ Some i → IsNamed g place.location i
named_at g d place i sound at is =
    let e = some_first (fin.get at.entries place.location.name) i (sym is ∙ at.inode ∙ get_inodes at.entries place.location.name) in
    record {
      kind = e.0;
      entry = record { names = at.names; entries = at.entries; is = at.is; there = e.1 };
      node = sound.typed.kinds place.location.parent at.names at.entries place.location.name (i, e.0) at.is e.1;
    }

none_first : (o : Option (ℕ × Kind)) → None ≡ option_map (λ (e : ℕ × Kind). e.0) o → o ≡ None
none_first None e = refl
none_first (Some x) e = absurd (cc)

pub room_at : (g : Graph) (place : Place) → IsPlace g place → place.inode ≡ None → IsRoom g place.location
room_at g place at is = record { names = at.names; entries = at.entries; is = at.is; none = none_first (fin.get at.entries place.location.name) (sym is ∙ at.inode ∙ get_inodes at.entries place.location.name) }

-- a file with a name is used
pub used_by_name : (g : Graph) (d : Descriptors) (at : Location) (i n : ℕ) (bytes : List ℕ) (k : Kind) → IsFair g d → IsEntry g at (i, k) → g i ≡ file n bytes → IsUsed d i n
used_by_name g d at i n bytes k sound entry is =
    let range = sound.typed.numbers at.parent kind.Directory (ap kind_of entry.is) in
    let one : 1 ≤ named g i = has_name g at.parent entry.names at.name entry.entries (i, k) entry.is range.0 range.1 entry.there in
    let count : n ≡ named g i + one_if (i == 1) = sym (ap stored_count is) ∙ sound.counted i in
    elim (eqb_tells n 0) [
      | inl same ↦ let z = same.1 in absurd (omega (arith, one, count, z))
      | inr off ↦ ap (λ b. b && not (is_open d i)) off.0
    ]

-- ---- the walk does not come by an inode

pub or_left : (a b : Bool) → (a || b) ≡ false → (a ≡ false) × (b ≡ false)
or_left true b e = absurd (cc)
or_left false b e = (refl, e)

off_it : (a i : ℕ) → (a == i) ≡ false → a ≢ i
off_it a i e same = elim (eqb_tells a i) [ inl equal ↦ let clash : true ≡ false = sym equal.0 ∙ e in absurd (cc) | inr off ↦ off.1 same ]

directory_is : (v : View) (o : Option ℕ) (child : ℕ) → run v (directory o) ≡ Ok child → o ≡ Some child
unfolding run
directory_is v None child e = absurd (cc)
directory_is v (Some i) child e = elim (v.is_dir i) as (λ o. run v (directory_if i o) ≡ Ok child → Some i ≡ Some child) [
  | None ↦ λ no. absurd (cc)
  | Some b ↦ λ yes. elim b as (λ c. run v (directory_if i (Some c)) ≡ Ok child → Some i ≡ Some child) [
    | true ↦ λ now. let one : i ≡ child = cc in ap (λ x. Some x) one
    | false ↦ λ now. absurd (cc)
  ] yes
] e

-- from here to the parent that the walk led to, there is a way also without this inode, and what was walked before is not it
record IsPast (u : Tree) (i from : ℕ) (way : List ℕ) (place : Place) : Type 0 where
  inodes : List ℕ
  chain : Chain u from inodes place.location.parent
  apart : place.location.parent ≢ i
  before : list_any (λ d. d == i) way ≡ false

past : (g : Graph) (d : Descriptors) (i from : ℕ) (way : List ℕ) (name : List ℕ) (names : List (List ℕ)) (place : Place) → kind_of (g from) ≡ Some kind.Directory → run (graph_view g d) (walk from way (name ∷ names)) ≡ Ok place → list_any (λ d. d == i) place.walked ≡ false
    → IsPast (set_node (tree_of (reachable_graph g d)) i None) i from way place
unfolding walk
past g d i from way name [] place is e clear =
    let v = graph_view g d in
    let s = bind_ok v _ _ _ e in
    let made = given v s.2 in
    let walked : list_any (λ d. d == i) (from ∷ way) ≡ false = ap (λ p. list_any (λ d. d == i) p.walked) made ∙ clear in
    let both = or_left (from == i) (list_any (λ d. d == i) way) walked in
    subst (IsPast (set_node (tree_of (reachable_graph g d)) i None) i from way) made (record { inodes = []; chain = refl; apart = off_it from i both.0; before = both.1 })
past g d i from way name (next ∷ names) place is e clear =
    let v = graph_view g d in
    let t = tree_of (reachable_graph g d) in
    let s = bind_ok v _ _ _ e in
    let c = bind_ok v _ _ _ s.2 in
    let there = has_dir g from is in
    let rest = past g d i c.0 (from ∷ way) next names place (directory_given g d (fin.get s.0 name) c.0 c.1) c.2 clear in
    let both = or_left (from == i) (list_any (λ d. d == i) way) rest.before in
    let here : set_node t i None from ≡ t from = set_other t i from None (off_it from i both.0) in
    let seen : without_kinds there.entries ≡ s.0 = sym (ap entries_seen (view_dir g d from there.names there.entries there.is)) ∙ looked v from entries_seen s.0 s.1 in
    let edge : fin.get (entries_of (set_node t i None from)) name ≡ Some (c.0) = ap (λ o. fin.get (entries_of o) name) (here ∙ tree_dir g d from there.names there.entries there.is) ∙ ap (λ m. fin.get m name) seen ∙ directory_is v (fin.get s.0 name) c.0 c.1 in
    record { inodes = c.0 ∷ rest.inodes; chain = ((name, edge), rest.chain); apart = rest.apart; before = both.1 }

pub clear_walk : (g : Graph) (d : Descriptors) (i : ℕ) (name : List ℕ) (names : List (List ℕ)) (place : Place) → kind_of (g 1) ≡ Some kind.Directory → run (graph_view g d) (walk 1 [] (name ∷ names)) ≡ Ok place → list_any (λ d. d == i) place.walked ≡ false → IsClear (tree_of (reachable_graph g d)) i place.location.parent
clear_walk g d i name names place root e clear =
    let p = past g d i 1 [] name names place root e clear in
    let path = chain_path (set_node (tree_of (reachable_graph g d)) i None) p.inodes 1 place.location.parent p.chain in
    record { apart = p.apart; path = path.0; leads = path.1 }
