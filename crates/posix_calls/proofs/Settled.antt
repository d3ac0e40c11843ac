-- The opening state is well-formed, and so is a well-formed state once fewer files are open, or none.
use Rattle.std.proofs.Common.{◌≡◌, ◌⊎◌, inl, inr, ℕ, zero, suc, ◌<◌, ◌≤◌, List, [], refl, Some, None, Option, Ok, cond, ap, sym, ◌∙◌, subst, true, false, Bool, arith, ◌==◌, if◌then◌else◌}
use Rattle.std.specs.Prelude.{option_map, IsSome, is_some, ◌||◌, nat_lt}
use Rattle.std.proofs.lemmas.Bool.{ltb-false, ltb-true}
use Rattle.std.proofs.lemmas.Bool.Decides.{eqb_tells}
use Rattle.std.specs.FinMap as fin
use Rattle.posix_calls.specs.Tree.{Tree, Node, File, Dir, Descriptors, State, entries_of, names_of, names_in, sum_up_to, any_up_to, is_open}
use Rattle.posix_calls.specs.declared.descriptor.Descriptor.{Descriptor}
use Rattle.posix_calls.specs.EmptyTree.{empty_tree, empty_state}
use Rattle.posix_calls.specs.Query.{dir_test}
use Rattle.posix_calls.specs.Run.{settled, used_tree, left_with, without_client, departed}
use Rattle.posix_calls.specs.Resolve.{resolve_from}
use Rattle.posix_calls.specs.WellFormed.{IsDirectory, IsFile, IsWellFormed}
use Rattle.posix_calls.proofs.Sums.{all_zero}
use Rattle.posix_calls.proofs.Counts.{counted_empty}
use Rattle.posix_calls.proofs.Changes.{in_node, entry_parent}
use Rattle.posix_calls.proofs.Reached.{chain_stays, chain_path}
use Rattle.posix_calls.proofs.Trees.{some_kind, reached_of}
use Rattle.posix_calls.proofs.Kept.{not_both}
use Rattle.posix_calls.proofs.Open.{open_there}

-- ---- the opening state

no_names_in : (k : ℕ) (b : Bool) → names_in k (cond b (Some (Dir fin.empty)) None) ≡ 0
no_names_in k true = in_node k (Some (Dir fin.empty)) ∙ counted_empty k
no_names_in k false = refl

pub no_names : (k : ℕ) → names_of empty_tree k ≡ 0
unfolding names_of
no_names k = all_zero 1024 (λ d. names_in k (empty_tree d)) (λ d. no_names_in k (d == 1))

is_one : (i : ℕ) → (i == 1) ≡ true → i ≡ 1
is_one i e = elim (eqb_tells i 1) [ inl same ↦ same.1 | inr off ↦ absurd (let clash : true ≡ false = sym e ∙ off.0 in cc) ]

there_true : (b : Bool) → is_some (cond b (Some (Dir fin.empty)) None) ≡ true → b ≡ true
there_true true e = refl
there_true false e = absurd (cc)

no_file : (b : Bool) → IsFile (cond b (Some (Dir fin.empty)) None) → ⊥
no_file true e = cc
no_file false e = cc

at_root : (i : ℕ) → i ≡ 1 → resolve_from empty_tree [] 1 ≡ Ok i
unfolding resolve_from
at_root i e = ap (λ k. Ok k) (sym e)

pub opening_fine : IsWellFormed empty_state
opening_fine = record {
  root = refl;
  root_names = no_names 1;
  inodes = λ i some. let one = is_one i (there_true (i == 1) some) in (omega (arith, one), omega (arith, one));
  numbers = λ c n some. absurd (let clash : false ≡ true = some in cc);
  entries = λ i none. no_names i;
  opened = λ c n o is. absurd (cc);
  one_name = λ i dir root. absurd (root (is_one i (there_true (i == 1) (some_kind (empty_tree i) true dir))));
  reached = λ i dir. ([], at_root i (is_one i (there_true (i == 1) (some_kind (empty_tree i) true dir))));
  used = λ i file. absurd (no_file (i == 1) file);
}

-- ---- fewer files are open

-- of what was open nothing else is open, and nothing as another file
abbrev pub IsFewer : Descriptors → Descriptors → Type 0
IsFewer held fewer = (c n : ℕ) (o : Descriptor) → fewer c n ≡ Some o → held c n ≡ Some o

-- what is kept of a node
stays_if : (b : Bool) (o : Option Node) → b ≡ true → (if b then o else None) ≡ o
stays_if b o e = ap (λ c. cond c o None) e

or_left : (a b : Bool) → a ≡ true → (a || b) ≡ true
or_left a b e = ap (λ c. c || b) e

or_right : (a b : Bool) → b ≡ true → (a || b) ≡ true
or_right true b e = refl
or_right false b e = e

module _ (s : State) (fine : IsWellFormed s) (held : Descriptors) (fewer : IsFewer s.descriptors held) where
  abbrev t : Tree
  t = s.tree

  abbrev keeps : ℕ → Bool
  keeps i = (i == 1 || nat_lt 0 (names_of t i)) || is_open held i

  -- a directory stays: the root, or one with its name
  dir_stays : (i : ℕ) → IsDirectory (t i) → used_tree held t i ≡ t i
  dir_stays i dir = stays_if (keeps i) (t i) (or_left (i == 1 || nat_lt 0 (names_of t i)) (is_open held i) (elim (eqb_tells i 1) [
    | inl same ↦ or_left (i == 1) (nat_lt 0 (names_of t i)) same.0
    | inr off ↦ or_right (i == 1) (nat_lt 0 (names_of t i)) (ap (nat_lt 0) (fine.one_name i dir off.1))
  ]))

  -- so what goes held no name
  same_names_in : (k d : ℕ) → names_in k (used_tree held t d) ≡ names_in k (t d)
  same_names_in k d = by_kind (t d) refl where
    gone_names : (b : Bool) (o : Option Node) → names_in k o ≡ 0 → names_in k (if b then o else None) ≡ names_in k o
    gone_names true o e = refl
    gone_names false o e = sym e

    by_kind : (o : Option Node) → t d ≡ o → names_in k (used_tree held t d) ≡ names_in k (t d)
    by_kind None is = gone_names (keeps d) (t d) (ap (names_in k) is)
    by_kind (Some (File bytes)) is = gone_names (keeps d) (t d) (ap (names_in k) is)
    by_kind (Some (Dir es)) is = ap (names_in k) (dir_stays d (ap (option_map dir_test) is))

  pub same_names : (k : ℕ) → names_of (used_tree held t) k ≡ names_of t k
  unfolding names_of
  same_names k = ap (sum_up_to 1024) (λ x d. same_names_in k d x)

  -- what is left was there
  left_if : (b : Bool) (o : Option Node) (x : Bool) → option_map dir_test (if b then o else None) ≡ Some x → (b ≡ true) × (option_map dir_test o ≡ Some x)
  left_if true o x e = (refl, e)
  left_if false o x e = absurd (cc)

  some_if : (b : Bool) (o : Option Node) → IsSome (if b then o else None) → IsSome o
  some_if true o e = e
  some_if false o e = absurd (let clash : false ≡ true = e in cc)

  -- what is not left had no name
  none_if : (b : Bool) (o : Option Node) → (if b then o else None) ≡ None → (b ≡ false) ⊎ (o ≡ None)
  none_if true o e = inr e
  none_if false o e = inl refl

  not_less : (a : Bool) (n : ℕ) (b : Bool) → ((a || nat_lt 0 n) || b) ≡ false → n ≡ 0
  not_less true n b e = absurd (cc)
  not_less false n b e = elim (nat_lt 0 n) as (λ l. nat_lt 0 n ≡ l → (l || b) ≡ false → n ≡ 0) [
    | true ↦ λ is f. absurd (cc)
    | false ↦ λ is f. let h : n ≤ 0 = ltb-false 0 n is in omega (arith, h)
  ] refl e

  -- a file that is left has a name, or is open
  less : (n : ℕ) (b : Bool) → ((false || nat_lt 0 n) || b) ≡ true → (0 < n) ⊎ (b ≡ true)
  less n b e = elim (nat_lt 0 n) as (λ l. nat_lt 0 n ≡ l → (l || b) ≡ true → (0 < n) ⊎ (b ≡ true)) [
    | true ↦ λ is f. inl (ltb-true 0 n is)
    | false ↦ λ is f. inr f
  ] refl e

  edge_stays : (a c : ℕ) → (name : List ℕ) × (fin.get (entries_of (t a)) name ≡ Some c) → (name : List ℕ) × (fin.get (entries_of (used_tree held t a)) name ≡ Some c)
  edge_stays a c e = (e.0, ap (λ o. fin.get (entries_of o) e.0) (dir_stays a (entry_parent (t a) e.0 c e.1)) ∙ e.1)

  open_stays : (c n : ℕ) (o : Descriptor) → held c n ≡ Some o → used_tree held t o.inode ≡ t o.inode
  open_stays c n o is =
      let range = fine.numbers c n (ap is_some (fewer c n o is)) in
      stays_if (keeps o.inode) (t o.inode) (or_right (o.inode == 1 || nat_lt 0 (names_of t o.inode)) (is_open held o.inode) (open_there held c n o range.0 range.1 range.2 is))

  some_was : (c n : ℕ) → IsSome (held c n) → IsSome (s.descriptors c n)
  some_was c n some = elim (held c n) as (λ o. held c n ≡ o → IsSome o → IsSome (s.descriptors c n)) [
    | None ↦ λ is e. absurd (let clash : false ≡ true = e in cc)
    | Some o ↦ λ is e. ap is_some (fewer c n o is)
  ] refl some

  pub left_fine : IsWellFormed (left_with held s)
  left_fine = record {
    root = ap (option_map dir_test) (dir_stays 1 fine.root) ∙ fine.root;
    root_names = same_names 1 ∙ fine.root_names;
    inodes = λ i some. fine.inodes i (some_if (keeps i) (t i) some);
    numbers = λ c n some. fine.numbers c n (some_was c n some);
    entries = λ i none. same_names i ∙ elim (none_if (keeps i) (t i) none) [
      | inl gone ↦ not_less (i == 1) (names_of t i) (is_open held i) gone
      | inr empty ↦ fine.entries i empty
    ];
    opened = λ c n o is. ap (option_map dir_test) (open_stays c n o is) ∙ fine.opened c n o (fewer c n o is);
    one_name = λ i dir root. same_names i ∙ fine.one_name i (left_if (keeps i) (t i) true dir).1 root;
    reached = λ i dir.
        let way = reached_of s fine i (left_if (keeps i) (t i) true dir).1 in
        chain_path (used_tree held t) way.0 1 i (chain_stays t (used_tree held t) edge_stays 1 way.0 i way.1);
    used = λ i file.
        let was = left_if (keeps i) (t i) false file in
        elim (eqb_tells i 1) [
          | inl same ↦ absurd (not_both (t i) was.1 (ap (λ k. option_map dir_test (t k)) same.1 ∙ fine.root))
          | inr off ↦ elim (less (names_of t i) (is_open held i) (ap (λ b. (b || nat_lt 0 (names_of t i)) || is_open held i) (sym off.0) ∙ was.0)) [
            | inl named ↦ inl (subst (λ n. 0 < n) (sym (same_names i)) named)
            | inr opened ↦ inr opened
          ]
        ];
  }

-- ---- a client departs

pub without_fewer : (held : Descriptors) (client : ℕ) → IsFewer held (without_client held client)
without_fewer held client c n o e = elim (c == client) as (λ b. cond b None (held c n) ≡ Some o → held c n ≡ Some o) [
  | true ↦ λ is. absurd (cc)
  | false ↦ λ is. is
] e

pub departed_fine : (s : State) (client : ℕ) → IsWellFormed s → IsWellFormed (departed s client)
departed_fine s client fine = left_fine s fine (without_client s.descriptors client) (without_fewer s.descriptors client)

-- ---- nobody has a file open

abbrev nobody : Descriptors
nobody c n = None

none_up_to : (n : ℕ) → any_up_to n (λ k. false) ≡ false
unfolding any_up_to
none_up_to zero = refl
none_up_to (suc n) = none_up_to n

not_open : (i : ℕ) → is_open nobody i ≡ false
unfolding is_open
not_open i = ap (any_up_to 8) (λ t c. none_up_to 32 t) ∙ none_up_to 8

or_none : (a b : Bool) → b ≡ false → a ≡ (a || b)
or_none true b e = refl
or_none false b e = sym e

pub settled_is : (s : State) → settled s ≡ left_with nobody s
settled_is s = ap (λ (t : Tree). record { tree = t; descriptors = nobody }) (λ x i. cond (or_none (i == 1 || nat_lt 0 (names_of s.tree i)) (is_open nobody i) (not_open i) x) (s.tree i) None)

pub settled_fine : (s : State) → IsWellFormed s → IsWellFormed (settled s)
settled_fine s fine = subst IsWellFormed (sym (settled_is s)) (left_fine s fine nobody (λ c n o e. absurd (cc)))
