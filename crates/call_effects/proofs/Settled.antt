-- A sound graph of which fewer files are open, or none: with its files that have no name and are not open, and without them.
use Rattle.std.proofs.Common.{◌≡◌, inl, inr, ℕ, List, zero, suc, ◌+◌, ◌≤◌, refl, Some, None, Option, cond, ap, sym, ◌∙◌, subst, true, false, Bool, arith, ◌==◌, if◌then◌else◌}
use Rattle.std.specs.Prelude.{option_map, ◌&&◌, ◌||◌, not, nat_lt}
use Rattle.std.proofs.lemmas.Bool.{lt-ltb}
use Rattle.std.proofs.lemmas.Bool.Decides.{eqb_tells}
use Rattle.std.specs.FinMap as fin
use Rattle.posix_calls.specs.Content.{Entries}
use Rattle.posix_calls.specs.Tree.{Descriptors, State, is_open, any_up_to, names_of}
use Rattle.posix_calls.specs.Run.{settled, settled_tree, without_client, used_tree, left_with}
use Rattle.posix_calls.specs.WellFormed.{IsWellFormed, IsWithinLimits}
use Rattle.posix_calls.specs.Tree as tree
use Rattle.posix_calls.specs.declared.limits.TheConstants.{MAX_NAMES}
use Rattle.posix_calls.specs.declared.descriptor.Descriptor.{Descriptor}
use Rattle.posix_calls.proofs.Able.{nodes_of}
use Rattle.posix_calls.proofs.Open.{open_there, open_at, is_open_by}
use Rattle.posix_calls.proofs.Within.{IsNodeWithin, none_within}
use Rattle.log_record.specs.file_graph.Graph.{Graph, Node, FileBody, DirBody}
use Rattle.log_record.specs.file_graph.declared.effect.Kind.{Kind}
use Rattle.log_record.specs.file_graph.declared.effect.Kind.TheVariants as kind
use Rattle.call_effects.specs.Effects.{stored_count}
use Rattle.call_effects.specs.ClosedGraph.{nobody, settled_graph, IsFewer}
use Rattle.call_effects.specs.Wholes.{IsSound, state_of, tree_of, tree_node, keep, reachable_graph, kind_of, body_kind, one_if}
use Rattle.call_effects.proofs.Changes.{fair_of, file, dir, named, has_name}
use Rattle.call_effects.proofs.Facts.{dir_of_kind, file_of_kind}
use Rattle.call_effects.proofs.Reached.{reached_kept}
use Rattle.call_effects.proofs.Views.{kept_named, file_count}
use Rattle.call_effects.proofs.Ways.{chains, paths}
use Rattle.call_effects.proofs.WellFormed.{well_formed, zero_if}

-- ---- nothing is open

none_up_to : (n : ℕ) → any_up_to n (λ k. false) ≡ false
unfolding any_up_to
none_up_to zero = refl
none_up_to (suc n) = none_up_to n

not_open : (i : ℕ) → is_open nobody i ≡ false
unfolding is_open
not_open i = ap (any_up_to 8) (λ t c. none_up_to 32 t) ∙ none_up_to 8

-- ---- what is kept of a node

-- a file that goes has no name
stored_if : (c : Bool) (n : Node) → (c ≡ true → n.names ≡ 0) → stored_count (cond c None (Some n)) ≡ n.names
stored_if true n none = sym (none refl)
stored_if false n none = refl

stored_kept : (b : Bool) (o : Option Node) → stored_count (keep b o) ≡ stored_count o
stored_kept b None = refl
stored_kept b (Some n) = elim (n.body) as (λ y. stored_count (elim y [ FileBody bytes ↦ if n.names == 0 && not b then None else Some n | DirBody es ↦ Some n ]) ≡ n.names) [
  | FileBody bytes ↦ stored_if (n.names == 0 && not b) n (zero_if n.names (not b))
  | DirBody es ↦ refl
]

some_if : (c : Bool) (n x : Node) → cond c None (Some n) ≡ Some x → Some n ≡ Some x
some_if true n x e = absurd (cc)
some_if false n x e = e

-- what is kept was there
kept_was : (b : Bool) (o : Option Node) (x : Node) → keep b o ≡ Some x → o ≡ Some x
kept_was b None x e = absurd (cc)
kept_was b (Some n) x e = elim (n.body) as (λ y. (elim y [ FileBody bytes ↦ if n.names == 0 && not b then None else Some n | DirBody es ↦ Some n ]) ≡ Some x → Some n ≡ Some x) [
  | FileBody bytes ↦ λ is. some_if (n.names == 0 && not b) n x is
  | DirBody es ↦ λ is. is
] e

some_kind : (o : Option Node) (k : Kind) → kind_of o ≡ Some k → (x : Node) × (o ≡ Some x)
some_kind None k e = absurd (cc)
some_kind (Some x) k e = (x, refl)

kind_was : (b : Bool) (o : Option Node) (k : Kind) → kind_of (keep b o) ≡ Some k → kind_of o ≡ Some k
kind_was b o k e =
    let x = some_kind (keep b o) k e in
    ap kind_of (kept_was b o x.0 x.1) ∙ sym (ap kind_of x.1) ∙ e

-- a directory is kept
dir_stays : (b : Bool) (o : Option Node) → kind_of o ≡ Some kind.Directory → keep b o ≡ o
dir_stays b o e = let d = dir_of_kind o e in ap (keep b) d.2 ∙ sym d.2

-- so is a file that has a name
has_none : (m : ℕ) → 1 ≤ m → (m == 0) ≡ false
has_none m some = elim (eqb_tells m 0) [ inl same ↦ absurd (let none = same.1 in omega (arith, some, none)) | inr off ↦ off.0 ]

file_stays : (b : Bool) (o : Option Node) → kind_of o ≡ Some kind.File → 1 ≤ stored_count o → keep b o ≡ o
file_stays b o e some =
    let f = file_of_kind o e in
    let named_file : 1 ≤ f.0 = subst (λ n. 1 ≤ stored_count n) f.2 some in
    ap (keep b) f.2 ∙ ap (λ c. cond (c && not b) None (file f.0 f.1)) (has_none f.0 named_file) ∙ sym f.2

-- and one that is open
open_stays : (o : Option Node) → kind_of o ≡ Some kind.File → keep true o ≡ o
open_stays o e = let f = file_of_kind o e in ap (keep true) f.2 ∙ ap (λ c. cond c None (file f.0 f.1)) (never (f.0 == 0)) ∙ sym f.2
  where
    never : (b : Bool) → (b && not true) ≡ false
    never true = refl
    never false = refl

-- and what is kept is kept again
again_if : (b c : Bool) (n : Node) → (c ≡ false → keep b (Some n) ≡ Some n) → keep b (cond c None (Some n)) ≡ cond c None (Some n)
again_if b true n stays = refl
again_if b false n stays = stays refl

keep_twice : (b : Bool) (o : Option Node) → keep b (keep b o) ≡ keep b o
keep_twice b None = refl
keep_twice b (Some n) = elim (n.body) as (λ y. n.body ≡ y → keep b (elim y [ FileBody bytes ↦ if n.names == 0 && not b then None else Some n | DirBody es ↦ Some n ]) ≡ (elim y [ FileBody bytes ↦ if n.names == 0 && not b then None else Some n | DirBody es ↦ Some n ])) [
  | FileBody bytes ↦ λ is. again_if b (n.names == 0 && not b) n (λ stays. ap (λ y. keep b (Some (record { names = n.names; body = y }))) is ∙ ap (λ c. cond c None (file n.names bytes)) stays ∙ sym (ap (λ y. Some (record { names = n.names; body = y })) is))
  | DirBody es ↦ λ is. ap (λ y. keep b (Some (record { names = n.names; body = y }))) is ∙ sym (ap (λ y. Some (record { names = n.names; body = y })) is)
] refl

-- ---- the tree of what is kept

-- a file with a name, or that is open still, is kept by any test of that
used_node : (m : ℕ) (b c test : Bool) (n : Node) → (c ≡ true → b ≡ true) → test ≡ nat_lt 0 m → option_map tree_node (cond (m == 0 && not c) None (Some n)) ≡ cond (test || c) (option_map tree_node (cond (m == 0 && not b) None (Some n))) None
used_node m b c test n still e = elim (eqb_tells m 0) [
  | inl same ↦
      ap (λ t. option_map tree_node (cond (t && not c) None (Some n))) same.0
      ∙ unnamed b c still
      ∙ sym (ap (λ t. cond (t || c) (option_map tree_node (cond (m == 0 && not b) None (Some n))) None) (e ∙ ap (nat_lt 0) same.1) ∙ ap (λ t. cond c (option_map tree_node (cond (t && not b) None (Some n))) None) same.0)
  | inr off ↦
      ap (λ t. option_map tree_node (cond (t && not c) None (Some n))) off.0
      ∙ sym (ap (λ t. cond (t || c) (option_map tree_node (cond (m == 0 && not b) None (Some n))) None) (e ∙ lt-ltb 0 m (let some = off.1 in omega (arith, some))) ∙ ap (λ t. option_map tree_node (cond (t && not b) None (Some n))) off.0)
]
  where
    unnamed : (b c : Bool) → (c ≡ true → b ≡ true) → option_map tree_node (cond (not c) None (Some n)) ≡ cond c (option_map tree_node (cond (not b) None (Some n))) None
    unnamed b false still = refl
    unnamed true true still = refl
    unnamed false true still = absurd (let clash : false ≡ true = still refl in cc)

none_either : {A : Type 0} (c : Bool) → ◌≡◌ {A = Option A} None (cond c None None)
none_either true = refl
none_either false = refl

-- what is kept with fewer descriptors is what passes a test for having a name or being open, kept with more
left_node : (b c test : Bool) (o : Option Node) → (c ≡ true → b ≡ true) → (kind_of o ≡ Some kind.File → test ≡ nat_lt 0 (stored_count o)) → (kind_of o ≡ Some kind.Directory → test ≡ true) → option_map tree_node (keep c o) ≡ cond (test || c) (option_map tree_node (keep b o)) None
left_node b c test None still as_file as_dir = none_either (test || c)
left_node b c test (Some n) still as_file as_dir = elim (n.body) as (λ y. (Some (body_kind y) ≡ Some kind.File → test ≡ nat_lt 0 n.names) → (Some (body_kind y) ≡ Some kind.Directory → test ≡ true) → option_map tree_node (elim y [ FileBody bytes ↦ if n.names == 0 && not c then None else Some n | DirBody es ↦ Some n ]) ≡ cond (test || c) (option_map tree_node (elim y [ FileBody bytes ↦ if n.names == 0 && not b then None else Some n | DirBody es ↦ Some n ])) None) [
  | FileBody bytes ↦ λ f d. used_node n.names b c test n still (f refl)
  | DirBody es ↦ λ f d. sym (ap (λ t. cond (t || c) (Some (tree_node n)) None) (d refl))
] as_file as_dir

within_if : (b : Bool) (o : Option tree.Node) → IsNodeWithin o → IsNodeWithin (if b then o else None)
within_if true o within = within
within_if false o within = none_within

pub kept_state_of : (g : Graph) (fewer : Descriptors) → state_of (reachable_graph g fewer) fewer ≡ state_of g fewer
kept_state_of g fewer = λ t. record { tree = λ i. option_map tree_node (keep_twice (is_open fewer i) (g i) t); descriptors = fewer }

module _ (g : Graph) (d : Descriptors) (sound : IsSound g d) where
  abbrev has : ℕ → Bool
  has i = i == 1 || nat_lt 0 (names_of (tree_of (reachable_graph g d)) i)

  has_file : (i : ℕ) → kind_of (g i) ≡ Some kind.File → has i ≡ nat_lt 0 (stored_count (g i))
  has_file i is =
      elim (eqb_tells i 1) [
        | inl same ↦ absurd (let clash : Some kind.File ≡ Some kind.Directory = sym is ∙ ap (λ j. kind_of (g j)) same.1 ∙ sound.typed.root in cc)
        | inr off ↦ ap (λ b. b || nat_lt 0 (names_of (tree_of (reachable_graph g d)) i)) off.0
      ]
      ∙ ap (nat_lt 0) (sym (file_count g d i (fair_of g d sound) is))

  has_dir : (i : ℕ) → kind_of (g i) ≡ Some kind.Directory → has i ≡ true
  has_dir i is =
      elim (eqb_tells i 1) [
        | inl same ↦ ap (λ b. b || nat_lt 0 (names_of (tree_of (reachable_graph g d)) i)) same.0
        | inr off ↦
            let one = sound.counts.one_name i is in
            let count = sound.counts.counted i in
            let other : one_if (i == 1) ≡ 0 = ap one_if off.0 in
            let same = kept_named g d i in
            let is_one : names_of (tree_of (reachable_graph g d)) i ≡ 1 = omega (arith, one, count, other, same) in
            ap (λ b. b || nat_lt 0 (names_of (tree_of (reachable_graph g d)) i)) off.0 ∙ ap (nat_lt 0) is_one
      ]

  module _ (e : Descriptors) (fewer : IsFewer d e) where
    -- what is open still was open
    still_open : (i : ℕ) → is_open e i ≡ true → is_open d i ≡ true
    still_open i is =
        let at = open_at e i is in
        is_open_by d i (record { client = at.client; number = at.number; low = at.low; high = at.high; few = at.few; what = at.what; is = fewer at.client at.number at.what at.is; inode = at.inode })

    tree_at : (i : ℕ) → tree_of (reachable_graph g e) i ≡ used_tree e (tree_of (reachable_graph g d)) i
    tree_at i = left_node (is_open d i) (is_open e i) (has i) (g i) (still_open i) (has_file i) (has_dir i)

    pub fewer_state : state_of g e ≡ left_with e (state_of g d)
    fewer_state = λ t. record { tree = λ i. tree_at i t; descriptors = e }

    pub left_state : state_of (reachable_graph g e) e ≡ left_with e (state_of g d)
    left_state = kept_state_of g e ∙ fewer_state

    pub fewer_sound : IsSound g e
    fewer_sound = record {
      typed = record {
        kinds = sound.typed.kinds;
        numbers = sound.typed.numbers;
        root = sound.typed.root;
        opened = λ c n o is. sound.typed.opened c n o (fewer c n o is);
        in_range = λ c n o is. sound.typed.in_range c n o (fewer c n o is);
      };
      counts = sound.counts;
      reached = sound.reached;
    }

    -- what an entry names has a name, so it is kept
    named_kept : (i : ℕ) (k : Kind) → kind_of (g i) ≡ Some k → 1 ≤ named g i → kind_of (reachable_graph g e i) ≡ Some k
    named_kept i kind.Directory is some = ap kind_of (dir_stays (is_open e i) (g i) is) ∙ is
    named_kept i kind.File is some =
        let count = sound.counts.counted i in
        ap kind_of (file_stays (is_open e i) (g i) is (omega (arith, some, count))) ∙ is

    left_kinds : (p n : ℕ) (es : Entries (ℕ × Kind)) (name : List ℕ) (x : ℕ × Kind) → reachable_graph g e p ≡ dir n es → fin.get es name ≡ Some x → kind_of (reachable_graph g e x.0) ≡ Some x.1
    left_kinds p n es name x is there =
        let was = kept_was (is_open e p) (g p) (record { names = n; body = DirBody es }) is in
        let range = sound.typed.numbers p kind.Directory (ap kind_of was) in
        named_kept x.0 x.1 (sound.typed.kinds p n es name x was there) (has_name g p n name es x was range.0 range.1 there)

    -- what is open is kept
    left_open : (c n : ℕ) (o : Descriptor) → e c n ≡ Some o → kind_of (reachable_graph g e o.inode) ≡ Some kind.File
    left_open c n o is =
        let range = sound.typed.in_range c n o (fewer c n o is) in
        let file_there = sound.typed.opened c n o (fewer c n o is) in
        ap kind_of (ap (λ b. keep b (g o.inode)) (open_there e c n o range.0 range.1 range.2 is) ∙ open_stays (g o.inode) file_there) ∙ file_there

    left_stored : (i : ℕ) → stored_count (reachable_graph g e i) ≡ stored_count (g i)
    left_stored i = stored_kept (is_open e i) (g i)

    pub left_sound : IsSound (reachable_graph g e) e
    left_sound = record {
      typed = record {
        kinds = left_kinds;
        numbers = λ i k is. sound.typed.numbers i k (kind_was (is_open e i) (g i) k is);
        root = ap kind_of (dir_stays (is_open e 1) (g 1) sound.typed.root) ∙ sound.typed.root;
        opened = left_open;
        in_range = λ c n o is. sound.typed.in_range c n o (fewer c n o is);
      };
      counts = record {
        counted = λ i. left_stored i ∙ sound.counts.counted i ∙ ap (λ n. n + one_if (i == 1)) (sym (kept_named g e i));
        one_name = λ i is. left_stored i ∙ sound.counts.one_name i (kind_was (is_open e i) (g i) kind.Directory is);
      };
      reached = paths (tree_of (reachable_graph g e)) (reached_kept g e (chains (tree_of g) sound.reached));
    }

    pub left_well_formed : IsWellFormed (state_of (reachable_graph g e) e)
    left_well_formed = well_formed (reachable_graph g e) e left_sound

    pub left_within : IsWithinLimits (state_of g d).tree → IsWithinLimits (state_of (reachable_graph g e) e).tree
    left_within within = subst (λ (s : State). IsWithinLimits s.tree) (sym (kept_state_of g e)) (record {
      sizes = λ i. (nodes i).size;
      entries = λ i. (nodes i).entries;
      names = λ i. subst (λ n. n ≤ MAX_NAMES) (kept_named g d i ∙ sym (kept_named g e i)) (within.names i);
      valid = λ i. (nodes i).valid;
    })
      where
        nodes : (i : ℕ) → IsNodeWithin (tree_of (reachable_graph g e) i)
        nodes i = subst IsNodeWithin (sym (tree_at i)) (within_if ((i == 1 || nat_lt 0 (names_of (tree_of (reachable_graph g d)) i)) || is_open e i) (tree_of (reachable_graph g d) i) (nodes_of (tree_of (reachable_graph g d)) within i))

  -- ---- nobody has a file open

  none_open : IsFewer d nobody
  none_open c n o is = absurd (cc)

  used_by_nobody : (i : ℕ) → used_tree nobody (tree_of (reachable_graph g d)) i ≡ settled_tree (tree_of (reachable_graph g d)) i
  used_by_nobody i = ap (λ b. cond (has i || b) (tree_of (reachable_graph g d) i) None) (not_open i) ∙ ap (λ b. cond b (tree_of (reachable_graph g d) i) None) (or_none (has i))
    where
      or_none : (b : Bool) → (b || false) ≡ b
      or_none true = refl
      or_none false = refl

  settled_with : left_with nobody (state_of g d) ≡ settled (state_of g d)
  settled_with = λ t. record { tree = λ i. used_by_nobody i t; descriptors = nobody }

  pub closed_state : state_of g nobody ≡ settled (state_of g d)
  closed_state = fewer_state nobody none_open ∙ settled_with

  pub settled_state : state_of (settled_graph g) nobody ≡ settled (state_of g d)
  settled_state = left_state nobody none_open ∙ settled_with

  pub closed_sound : IsSound g nobody
  closed_sound = fewer_sound nobody none_open

  pub settled_sound : IsSound (settled_graph g) nobody
  settled_sound = left_sound nobody none_open

  pub settled_well_formed : IsWellFormed (state_of (settled_graph g) nobody)
  settled_well_formed = left_well_formed nobody none_open

  pub settled_within : IsWithinLimits (state_of g d).tree → IsWithinLimits (state_of (settled_graph g) nobody).tree
  settled_within within = left_within nobody none_open within

-- ---- one client is gone

pub without_fewer : (d : Descriptors) (client : ℕ) → IsFewer d (without_client d client)
without_fewer d client c n o is = own_left (c == client) is where
  own_left : (b : Bool) → cond b None (d c n) ≡ Some o → d c n ≡ Some o
  own_left true is = absurd (cc)
  own_left false is = is
