-- A new node over a root alone: a record that makes one, and the graph that has a file without a name.
use Rattle.std.proofs.Common.{◌≡◌, ◌≢◌, inl, inr, ℕ, ◌+◌, ◌-◌, ◌≤◌, ◌==◌, ◌||◌, cond, Bool, List, [], ◌∷◌, ◌++◌, length, true, false, refl, Some, None, Option, Ok, ap, sym, ◌∙◌, subst, arith}
use Rattle.std.specs.Prelude.{option_map}
use Rattle.std.specs.FinMap as fin
use Rattle.std.proofs.lemmas.Bool.{false≢true, eq-eqb}
use Rattle.std.proofs.lemmas.Bool.Decides.{eqb_tells}
use Rattle.posix_calls.specs.Units.{directory_units}
use Rattle.posix_calls.specs.Tree as tree
use Rattle.posix_calls.specs.Tree.{Descriptors, sum_up_to}
use Rattle.posix_calls.specs.Resolve.{resolve, resolve_from}
use Rattle.posix_calls.specs.WellFormed.{IsDirectory}
use Rattle.posix_calls.specs.declared.limits.TheConstants.{MAX_FILE}
use Rattle.posix_calls.proofs.Counts.{order}
use Rattle.posix_calls.proofs.Sums.{all_zero, one_changes}
use Rattle.call_effects.specs.file_graph.Graph.{Graph, Node, FileBody, fresh, empty_body, cost, after_effects, touches, subjects, is_among}
use Rattle.call_effects.specs.file_graph.Units.{growth, rise}
use Rattle.call_effects.specs.file_graph.declared.effect.Kind.{Kind}
use Rattle.call_effects.specs.file_graph.declared.effect.Kind.TheVariants as kind
use Rattle.call_effects.specs.file_graph.declared.effect.Effect.{Effect}
use Rattle.call_effects.specs.file_graph.declared.effect.Effect.TheVariants as effect
use Rattle.call_effects.proofs.file_graph_lemmas.Touches.{untouched}
use Rattle.call_effects.specs.log_record.declared.format.Record.{Record}
use Rattle.call_effects.specs.ClosedGraph.{nobody}
use Rattle.call_effects.specs.Effects.{stored_count}
use Rattle.call_effects.specs.Wholes.{IsSound, kind_of, tree_of, tree_node}
use Rattle.call_effects.proofs.Changes.{typed_put, sound_of, sound_fair, fair_of, names_stay, file, dir}
use Rattle.call_effects.proofs.Puts.{put_other}
use Rattle.call_effects.proofs.Fresh.{fresh_sound}
use Rattle.world_invariant.specs.Limits.{IsBodyWithin, IsWithin, AreWithin}
use Rattle.world_invariant.specs.Logs.{after_records, IsNameless, IsPaid, NamesNone, Keeps}
use Rattle.world_invariant.specs.BrokenWorlds.{with_bytes, making_directory, drop_record, counted_record, entered_graph}
use Rattle.world_invariant.proofs.Fresh.{no_entries, fresh_within}
use Rattle.world_invariant.proofs.Idle.{none_some}

-- ---- a record that makes a node

module _ (k : Kind) (units : ℕ) where
  abbrev pub new_node : Record
  new_node = record { units = units; effects = effect.Make 2 k ∷ [] }

  clear_of : (i : ℕ) → i ≢ 2 → is_among i (touches (effect.Make 2 k ∷ [])) ≡ false
  clear_of i other = elim (eqb_tells 2 i) [ inl same ↦ absurd (other (sym same.1)) | inr off ↦ ap (λ b. b || false) off.0 ]

  off_two : (i : ℕ) → i ≢ 2 → after_effects fresh (effect.Make 2 k ∷ []) i ≡ fresh i
  off_two i other = untouched fresh (effect.Make 2 k ∷ []) i (clear_of i other)

  -- it costs a unit
  one_unit : (k : Kind) → cost (Some (record { names = 0; body = empty_body k })) ≡ 1
  one_unit kind.File = refl
  one_unit kind.Directory = ap directory_units (fin.len-empty order (ℕ × Kind))

  pub new_paid : 1 ≤ units → IsPaid fresh new_node
  unfolding growth
  new_paid enough =
      let nothing : sum_up_to 1024 (λ i. 0) ≡ 0 = all_zero 1024 (λ i. 0) (λ i. refl) in
      let changed : sum_up_to 1024 (λ i. cond (is_among i (touches (effect.Make 2 k ∷ []))) (rise fresh (after_effects fresh (effect.Make 2 k ∷ [])) i) 0) + 0 ≡ sum_up_to 1024 (λ i. 0) + (cost (Some (record { names = 0; body = empty_body k })) - 0) =
      one_changes 1024 (λ i. 0) (λ i. cond (is_among i (touches (effect.Make 2 k ∷ []))) (rise fresh (after_effects fresh (effect.Make 2 k ∷ [])) i) 0) 2 (omega arith) (omega arith) (λ j other. ap (λ b. cond b (rise fresh (after_effects fresh (effect.Make 2 k ∷ [])) j) 0) (clear_of j other)) in
      let one : cost (Some (record { names = 0; body = empty_body k })) ≡ 1 = one_unit k in
      omega (arith, nothing, changed, one, enough)

  pub new_names_none : NamesNone fresh new_node
  new_names_none i was = elim (eqb_tells i 2) [
    | inl same ↦ none_some (record { names = 0; body = FileBody was.bytes }) (sym (ap fresh same.1) ∙ was.is)
    | inr off ↦ subst (λ o. IsNameless o) (sym (off_two i off.1)) was
  ]

  body_within : (k : Kind) → IsBodyWithin (empty_body k)
  body_within kind.File = omega arith
  body_within kind.Directory = no_entries

  pub new_keeps_limits : Keeps IsWithin fresh new_node
  new_keeps_limits i was = elim (eqb_tells i 2) [
    | inl same ↦ subst (λ j. IsWithin j (after_effects fresh (effect.Make 2 k ∷ []) j)) (sym same.1) (record { low = omega arith; high = omega arith; names = omega arith; body = body_within k })
    | inr off ↦ subst (IsWithin i) (sym (off_two i off.1)) was
  ]

-- ---- the graph of a root and a file without a name

module _ (bytes : List ℕ) where
  only_root : (i : ℕ) → IsDirectory (tree_of (with_bytes bytes) i) → i ≡ 1
  only_root i is = elim (eqb_tells i 2) [
    | inl same ↦
        let file_here : IsDirectory (Some (tree.File bytes)) = subst (λ o. IsDirectory (option_map tree_node o)) (ap (with_bytes bytes) same.1) is in
        absurd (cc)
    | inr off ↦ elim (eqb_tells i 1) [
      | inl root ↦ root.1
      | inr away ↦
          let nothing : IsDirectory None = subst (λ o. IsDirectory (option_map tree_node o)) (put_other fresh 2 i (file 0 bytes) off.1 ∙ put_other {A = Option Node} (λ j. None) 1 i (dir 1 fin.empty) away.1) is in
          absurd (cc)
    ]
  ]

  at_root : (i : ℕ) → i ≡ 1 → resolve (tree_of (with_bytes bytes)) [] ≡ Ok i
  unfolding resolve_from
  at_root i one = ap (λ k. Ok k) (sym one)

  pub file_sound : IsSound (with_bytes bytes) nobody
  file_sound =
      let typed = typed_put fresh nobody 2 (file 0 bytes) fresh_sound.typed (omega arith) (omega arith) (λ k is. none_some k is) (λ n es name e is there. absurd (let clash : Some kind.File ≡ Some kind.Directory = ap kind_of is in cc)) in
      let stays = λ (j : ℕ). names_stay fresh 2 (file 0 bytes) j (omega arith) (omega arith) refl in
      sound_fair (with_bytes bytes) nobody (sound_of fresh (with_bytes bytes) nobody nobody 2 (fair_of fresh nobody fresh_sound) typed
      (λ j off. ap stored_count (put_other fresh 2 j (file 0 bytes) off)) (λ j off. ap kind_of (put_other fresh 2 j (file 0 bytes) off)) (λ j off. stays j)
      (fresh_sound.counts.counted 2 ∙ ap (λ n. n + 0) (sym (stays 2))) (λ is. absurd (let clash : Some kind.File ≡ Some kind.Directory = is in cc))) (λ i is. ([], at_root i (only_root i is)))

  pub file_within : length bytes ≤ MAX_FILE → AreWithin (with_bytes bytes)
  file_within few i = elim (eqb_tells i 2) [
    | inl same ↦ subst (λ j. IsWithin j (with_bytes bytes j)) (sym same.1) (record { low = omega arith; high = omega arith; names = omega arith; body = few })
    | inr off ↦ subst (IsWithin i) (sym (put_other fresh 2 i (file 0 bytes) off.1)) (fresh_within i)
  ]

-- it is what a record makes that makes a file
pub makes_file : after_effects fresh (effect.Make 2 kind.File ∷ []) ≡ with_bytes []
makes_file = λ t i. same i t
  where
    same : (i : ℕ) → after_effects fresh (effect.Make 2 kind.File ∷ []) i ≡ with_bytes [] i
    same i = elim (eqb_tells i 2) [
      | inl there ↦ ap (after_effects fresh (effect.Make 2 kind.File ∷ [])) there.1 ∙ sym (ap (with_bytes []) there.1)
      | inr off ↦ off_two kind.File 0 i off.1 ∙ sym (put_other fresh 2 i (file 0 []) off.1)
    ]

-- ---- a new directory that is dropped

abbrev pub with_directory : Graph
with_directory = after_effects fresh making_directory.effects

unmoved : (g : Graph) (e : Effect) (i : ℕ) → subjects e ≡ 2 ∷ [] → i ≢ 2 → after_effects g (e ∷ []) i ≡ g i
unmoved g e i is off = untouched g (e ∷ []) i (ap (λ is. is_among i (is ++ [])) is ∙ elim (eqb_tells 2 i) [ inl same ↦ absurd (off (sym same.1)) | inr other ↦ ap (λ b. b || false) other.0 ])

pub drop_paid : (g : Graph) → IsPaid g drop_record
unfolding growth
drop_paid g =
    let nothing : sum_up_to 1024 (λ i. cond (is_among i (touches drop_record.effects)) (rise g (after_effects g drop_record.effects) i) 0) ≡ 0 = all_zero 1024 (λ i. cond (is_among i (touches drop_record.effects)) (rise g (after_effects g drop_record.effects) i) 0) (λ i. none_risen (2 == i) (g i)) in
    omega (arith, nothing)
  where
    none_risen : (b : Bool) (o : Option Node) → cond (b || false) (cost (cond (b || false) None o) - cost o) 0 ≡ 0
    none_risen true o = omega arith
    none_risen false o = refl

pub drop_names_none : NamesNone with_directory drop_record
drop_names_none i was = elim (eqb_tells i 2) [
  | inl same ↦ absurd (let clash : Some kind.Directory ≡ Some kind.File = sym (ap (λ j. kind_of (with_directory j)) same.1) ∙ ap kind_of was.is in cc)
  | inr off ↦ subst (λ o. IsNameless o) (sym (unmoved with_directory (effect.Drop 2) i refl off.1)) was
]

pub drop_keeps_limits : (g : Graph) → Keeps IsWithin g drop_record
drop_keeps_limits g i was = elim (eqb_tells i 2) [
  | inl same ↦ subst (λ j. IsWithin j (after_effects g drop_record.effects j)) (sym same.1) tt
  | inr off ↦ subst (IsWithin i) (sym (unmoved g (effect.Drop 2) i refl off.1)) was
]

pub dropped : after_effects with_directory drop_record.effects ≡ fresh
dropped = λ t i. same i t
  where
    same : (i : ℕ) → after_effects with_directory drop_record.effects i ≡ fresh i
    same i = elim (eqb_tells i 2) [
      | inl there ↦ ap (after_effects with_directory drop_record.effects) there.1 ∙ sym (ap fresh there.1)
      | inr off ↦ unmoved with_directory (effect.Drop 2) i refl off.1 ∙ off_two kind.Directory 0 i off.1
    ]

-- ---- a count of names that is set

pub count_paid : (g : Graph) (n : ℕ) → IsPaid g (counted_record n)
unfolding growth
count_paid g n =
    let nothing : sum_up_to 1024 (λ i. cond (is_among i (touches (counted_record n).effects)) (rise g (after_effects g (counted_record n).effects) i) 0) ≡ 0 = all_zero 1024 (λ i. cond (is_among i (touches (counted_record n).effects)) (rise g (after_effects g (counted_record n).effects) i) 0) (λ i. none_risen (2 == i) (g i)) in
    omega (arith, nothing)
  where
    none_risen : (b : Bool) (o : Option Node) → cond (b || false) (cost (cond (b || false) (option_map (λ x. record { names = n; body = x.body }) o) o) - cost o) 0 ≡ 0
    none_risen true None = omega arith
    none_risen true (Some x) = omega arith
    none_risen false o = refl

pub count_names_none : (g : Graph) (n : ℕ) → kind_of (g 2) ≡ Some kind.Directory → NamesNone g (counted_record n)
count_names_none g n is i was = elim (eqb_tells i 2) [
  | inl same ↦ absurd (let clash : Some kind.Directory ≡ Some kind.File = sym is ∙ sym (ap (λ j. kind_of (g j)) same.1) ∙ ap kind_of was.is in cc)
  | inr off ↦ subst (λ o. IsNameless o) (sym (unmoved g (effect.Names 2 n) i refl off.1)) was
]

pub counted_back : after_records entered_graph (counted_record 2000 ∷ counted_record 1 ∷ []) ≡ entered_graph
counted_back = λ t i. same i t
  where
    same : (i : ℕ) → after_records entered_graph (counted_record 2000 ∷ counted_record 1 ∷ []) i ≡ entered_graph i
    same i = elim (eqb_tells i 2) [
      | inl there ↦ ap (after_records entered_graph (counted_record 2000 ∷ counted_record 1 ∷ [])) there.1 ∙ sym (ap entered_graph there.1)
      | inr off ↦ unmoved (after_effects entered_graph (counted_record 2000).effects) (effect.Names 2 1) i refl off.1 ∙ unmoved entered_graph (effect.Names 2 2000) i refl off.1
    ]

-- ---- what holds of the inodes that a record of the inode 2 touches

pub two_of : (f : Bool → Bool) → f false ≡ false → (i : ℕ) → f (2 == i) ≡ true → (i == 2) ≡ true
two_of f none i e = elim (eqb_tells 2 i) [ inl same ↦ eq-eqb i 2 (sym same.1) | inr off ↦ absurd (false≢true (sym none ∙ sym (ap f off.0) ∙ e)) ]

-- ---- a graph in which nothing is open any more

pub sound_closed : (g : Graph) (d : Descriptors) → IsSound g d → IsSound g nobody
sound_closed g d sound = record {
  typed = record { kinds = sound.typed.kinds; numbers = sound.typed.numbers; root = sound.typed.root; opened = λ c n o e. none_some o e; in_range = λ c n o e. none_some o e };
  counts = sound.counts;
  reached = sound.reached;
}
