-- What each change by an operation leaves of a well-formed state: files that are written, opened and closed.
use Rattle.std.proofs.Common.{◌≡◌, ◌≢◌, ◌⊎◌, inl, inr, ℕ, ◌<◌, ◌≤◌, List, refl, Some, None, Option, ap, sym, ◌∙◌, subst, Bool, true, false, arith, ◌==◌, if◌then◌else◌}
use Rattle.std.specs.Prelude.{option_map, is_some, ◌&&◌, not}
use Rattle.std.proofs.lemmas.Bool.Decides.{eqb_tells}
use Rattle.posix_calls.specs.Tree.{Tree, Node, File, Descriptors, State, set_node, set_own, with_own, names_of, is_open}
use Rattle.posix_calls.specs.declared.descriptor.Descriptor.{Descriptor}
use Rattle.posix_calls.specs.Query.{dir_test}
use Rattle.posix_calls.specs.Operations.{less_unused}
use Rattle.posix_calls.specs.WellFormed.{IsDirectory, IsFile, IsWellFormed}
use Rattle.posix_calls.proofs.Changes.{bare_file, bare_same, bare_names, set_there, set_other}
use Rattle.posix_calls.proofs.Reached.{AreReached, reached_beside}
use Rattle.posix_calls.proofs.Trees.{IsTree, IsHeld, IsBeside, tree_of, reached_of, range_of, tree_set, well_formed}
use Rattle.posix_calls.proofs.Open.{open_there, open_at, is_open_by, own_cases, own_other}

-- a node is not both
pub not_both : (o : Option Node) → IsFile o → IsDirectory o → ⊥
not_both o file dir = let clash : Some false ≡ Some true = sym file ∙ dir in cc

pub file_not_root : (s : State) (i : ℕ) → IsWellFormed s → IsFile (s.tree i) → i ≢ 1
file_not_root s i fine is same = not_both (s.tree i) is (ap (λ k. option_map dir_test (s.tree k)) same ∙ fine.root)

-- what is a directory after a change to none was one before
pub dirs_set : (t : Tree) (i : ℕ) (x : Option Node) → (IsDirectory x → ⊥) → (j : ℕ) → IsDirectory (set_node t i x j) → IsDirectory (t j) × (j ≢ i)
dirs_set t i x no_dir j is = elim (eqb_tells j i) [
  | inl same ↦ absurd (no_dir (sym (ap (option_map dir_test) (ap (set_node t i x) same.1 ∙ set_there t i x)) ∙ is))
  | inr off ↦ (sym (ap (option_map dir_test) (set_other t i j x off.1)) ∙ is, off.1)
]

no_dir_file : (bytes : List ℕ) → IsDirectory (Some (File bytes)) → ⊥
no_dir_file bytes e = cc

no_dir_none : IsDirectory None → ⊥
no_dir_none e = cc

-- a file's bytes are changed
pub written_fine : (s : State) (i : ℕ) (bytes : List ℕ) → IsWellFormed s → IsFile (s.tree i) → IsWellFormed (record { tree = set_node s.tree i (Some (File bytes)); descriptors = s.descriptors })
written_fine s i bytes fine is =
    let t = s.tree in
    let x = Some (File bytes) in
    let held = s.descriptors in
    let other = file_not_root s i fine is in
    let tree = tree_of s fine in
    let range = range_of t i false tree is in
    let bare = bare_file (t i) is in
    let here : IsFile (set_node t i x i) = ap (option_map dir_test) (set_there t i x) in
    well_formed s (set_node t i x) held i fine other
    (tree_set t i x tree other range.0 range.1)
    (reached_beside t (set_node t i x) i (reached_of s fine) bare (λ a c off e. (e.0, bare_same t i x bare refl (record { parent = a; name = e.0 }) ∙ e.1)) (dirs_set t i x (no_dir_file bytes)))
    (record {
      numbers = fine.numbers;
      opened = λ c n o at. elim (eqb_tells o.inode i) [
        | inl same ↦ ap (λ k. option_map dir_test (set_node t i x k)) same.1 ∙ here
        | inr off ↦ ap (option_map dir_test) (set_other t i o.inode x off.1) ∙ fine.opened c n o at
      ];
    })
    (record {
      kinds = λ j off. ap (option_map dir_test) (set_other t i j x off);
      names = λ j off. bare_names t i x bare refl j;
      opens = λ j off e. e;
    })
    (record {
      none = λ none. absurd (let clash : None ≡ Some false = sym (ap (option_map dir_test) none) ∙ here in cc);
      one_name = λ dir. absurd (not_both (set_node t i x i) here dir);
      used = λ file. elim (fine.used i is) [
        | inl named ↦ inl (subst (λ n. 0 < n) (sym (bare_names t i x bare refl i)) named)
        | inr at ↦ inr at
      ];
    })

-- ---- a file is opened

abbrev pub descriptor : ℕ → Bool → Bool → Descriptor
descriptor i r w = record { inode = i; reads = r; writes = w }

-- all descriptors with one more
abbrev pub more_held : Descriptors → ℕ → ℕ → ℕ → Bool → Bool → Descriptors
more_held held client number i r w = with_own held client (set_own (held client) number (Some (descriptor i r w)))

more_opens : (held : Descriptors) (client number i : ℕ) (r w : Bool) → held client number ≡ None → (j : ℕ) → is_open held j ≡ true → is_open (more_held held client number i r w) j ≡ true
more_opens held client number i r w free j e =
    let at = open_at held j e in
    is_open_by (more_held held client number i r w) j (record {
      client = at.client;
      number = at.number;
      low = at.low;
      high = at.high;
      few = at.few;
      what = at.what;
      inode = at.inode;
      is = own_other held client number (Some (descriptor i r w)) at.client at.number at.what at.is (λ taken. let clash : None ≡ Some at.what = sym free ∙ taken in cc);
    })

pub opened_fine : (s : State) (client number i : ℕ) (r w : Bool) → IsWellFormed s → IsFile (s.tree i) → 1 ≤ client → client ≤ 8 → number < 32 → s.descriptors client number ≡ None
    → IsWellFormed (record { tree = s.tree; descriptors = more_held s.descriptors client number i r w })
opened_fine s client number i r w fine is low high few free =
    let held = s.descriptors in
    let after = more_held held client number i r w in
    well_formed s s.tree after i fine (file_not_root s i fine is) (tree_of s fine) (reached_of s fine)
    (record {
      numbers = λ c n some. elim (own_cases held client number (Some (descriptor i r w)) c n) [
        | inl at ↦ let ec = at.same_client in let en = at.same_number in (omega (arith, ec, low), omega (arith, ec, high), omega (arith, en, few))
        | inr same ↦ fine.numbers c n (ap is_some (sym same) ∙ some)
      ];
      opened = λ c n o there. elim (own_cases held client number (Some (descriptor i r w)) c n) [
        | inl at ↦
            let inodes : Some i ≡ Some o.inode = ap (option_map (λ (x : Descriptor). x.inode)) (sym at.is ∙ there) in
            let same : i ≡ o.inode = cc in
            subst (λ k. IsFile (s.tree k)) same is
        | inr same ↦ fine.opened c n o (sym same ∙ there)
      ];
    })
    (record { kinds = λ j off. refl; names = λ j off. refl; opens = λ j off e. more_opens held client number i r w free j e })
    (record {
      none = fine.entries i;
      one_name = λ dir. absurd (not_both (s.tree i) is dir);
      used = λ file. elim (fine.used i is) [ inl named ↦ inl named | inr at ↦ inr (more_opens held client number i r w free i at) ];
    })

-- ---- a file without name and descriptor goes

unused_false : (n : ℕ) (b : Bool) → (n == 0 && not b) ≡ false → (0 < n) ⊎ (b ≡ true)
unused_false n true e = inr refl
unused_false n false e = elim (eqb_tells n 0) [
  | inl same ↦ absurd (let clash : true ≡ false = sym (ap (λ c. c && true) same.0) ∙ e in cc)
  | inr off ↦ inl (let h = off.1 in omega (arith, h))
]

unused_true : (n : ℕ) (b : Bool) → (n == 0 && not b) ≡ true → (n ≡ 0) × (b ≡ false)
unused_true n true e = elim (eqb_tells n 0) [
  | inl same ↦ absurd (let clash : false ≡ true = sym (ap (λ c. c && false) same.0) ∙ e in cc)
  | inr off ↦ absurd (let clash : false ≡ true = sym (ap (λ c. c && false) off.0) ∙ e in cc)
]
unused_true n false e = elim (eqb_tells n 0) [
  | inl same ↦ (same.1, refl)
  | inr off ↦ absurd (let clash : false ≡ true = sym (ap (λ c. c && true) off.0) ∙ e in cc)
]

-- where a file has lost a name or a descriptor, and goes if that was the last
pub unused_fine : (s : State) (t : Tree) (held : Descriptors) (i : ℕ) (fine : IsWellFormed s) → i ≢ 1 → IsTree t → AreReached t → IsHeld s t held i fine → IsBeside s t held i fine → IsFile (t i)
    → IsWellFormed (record { tree = less_unused held t i; descriptors = held })
unused_fine s t held i fine other tree reached holds beside is =
    elim (names_of t i == 0 && not (is_open held i)) as (λ b. (names_of t i == 0 && not (is_open held i)) ≡ b → IsWellFormed (record { tree = if b then set_node t i None else t; descriptors = held })) [
      | false ↦ λ used. well_formed s t held i fine other tree reached holds beside
          (record {
            none = λ none. absurd (let clash : None ≡ Some false = sym (ap (option_map dir_test) none) ∙ is in cc);
            one_name = λ dir. absurd (not_both (t i) is dir);
            used = λ file. unused_false (names_of t i) (is_open held i) used;
          })
      | true ↦ λ unused.
          let un = unused_true (names_of t i) (is_open held i) unused in
          let range = range_of t i false tree is in
          let bare = bare_file (t i) is in
          let names = λ (j : ℕ). bare_names t i None bare refl j in
          let gone : set_node t i None i ≡ None = set_there t i None in
          well_formed s (set_node t i None) held i fine other
          (tree_set t i None tree other range.0 range.1)
          (reached_beside t (set_node t i None) i reached bare (λ a c off e. (e.0, bare_same t i None bare refl (record { parent = a; name = e.0 }) ∙ e.1)) (dirs_set t i None no_dir_none))
          (record {
            numbers = holds.numbers;
            opened = λ c n o there.
                let at = holds.numbers c n (ap is_some there) in
                let off : o.inode ≢ i = λ same. let clash : false ≡ true = sym un.1 ∙ ap (is_open held) (sym same) ∙ open_there held c n o at.0 at.1 at.2 there in cc in
                ap (option_map dir_test) (set_other t i o.inode None off) ∙ holds.opened c n o there;
          })
          (record {
            kinds = λ j off. ap (option_map dir_test) (set_other t i j None off) ∙ beside.kinds j off;
            names = λ j off. names j ∙ beside.names j off;
            opens = beside.opens;
          })
          (record {
            none = λ none. names i ∙ un.0;
            one_name = λ dir. absurd (let clash : None ≡ Some true = sym (ap (option_map dir_test) gone) ∙ dir in cc);
            used = λ file. absurd (let clash : None ≡ Some false = sym (ap (option_map dir_test) gone) ∙ file in cc);
          })
    ] refl

-- ---- a file is closed

-- all descriptors with one fewer
abbrev pub less_held : Descriptors → ℕ → ℕ → Descriptors
less_held held client number = with_own held client (set_own (held client) number None)

pub closed_fine : (s : State) (client number i : ℕ) (o : Descriptor) → IsWellFormed s → s.descriptors client number ≡ Some o → o.inode ≡ i
    → IsWellFormed (record { tree = less_unused (less_held s.descriptors client number) s.tree i; descriptors = less_held s.descriptors client number })
closed_fine s client number i o fine is same_inode =
    let held = s.descriptors in
    let after = less_held held client number in
    let file : IsFile (s.tree i) = subst (λ k. IsFile (s.tree k)) same_inode (fine.opened client number o is) in
    unused_fine s s.tree after i fine (file_not_root s i fine file) (tree_of s fine) (reached_of s fine)
    (record {
      numbers = λ c n some. elim (own_cases held client number None c n) [
        | inl at ↦ absurd (let clash : false ≡ true = sym (ap is_some at.is) ∙ some in cc)
        | inr same ↦ fine.numbers c n (ap is_some (sym same) ∙ some)
      ];
      opened = λ c n p there. elim (own_cases held client number None c n) [
        | inl at ↦ absurd (let clash : None ≡ Some p = sym at.is ∙ there in cc)
        | inr same ↦ fine.opened c n p (sym same ∙ there)
      ];
    })
    (record {
      kinds = λ j off. refl;
      names = λ j off. refl;
      opens = λ j off e.
          let at = open_at held j e in
          is_open_by after j (record {
            client = at.client;
            number = at.number;
            low = at.low;
            high = at.high;
            few = at.few;
            what = at.what;
            inode = at.inode;
            is = own_other held client number None at.client at.number at.what at.is (λ taken.
                let inodes : Some at.what.inode ≡ Some o.inode = ap (option_map (λ (x : Descriptor). x.inode)) (sym taken ∙ is) in
                let one : at.what.inode ≡ o.inode = cc in
                off (sym at.inode ∙ one ∙ same_inode));
          });
    })
    file
