-- Two names of a graph change what they lead to.
use Rattle.std.proofs.Common.{◌≡◌, ◌≢◌, inl, inr, ℕ, ◌+◌, ◌≤◌, List, [], ◌∷◌, refl, Some, Option, cond, ap, sym, ◌∙◌, arith, ◌==◌}
use Rattle.std.specs.Prelude.{option_map}
use Rattle.std.proofs.lemmas.Bool.Decides.{eqb_tells}
use Rattle.std.specs.FinMap as fin
use Rattle.posix_calls.specs.Tree.{Descriptors}
use Rattle.posix_calls.specs.declared.operation.Location.{Location}
use Rattle.posix_calls.specs.Operations.{with_entry}
use Rattle.posix_calls.proofs.Counts.{get_other_insert}
use Rattle.log_record.specs.file_graph.Graph.{Graph, Node, node_entries, child_at, exchanged_entries, acted_all, after_effect, after_effects}
use Rattle.log_record.specs.file_graph.declared.effect.Kind.{Kind}
use Rattle.log_record.specs.file_graph.declared.effect.Kind.TheVariants as kind
use Rattle.log_record.specs.file_graph.declared.effect.Effect.TheVariants as effect
use Rattle.call_effects.specs.Effects.{stored_count}
use Rattle.call_effects.specs.Wholes.{tree_of, reachable_graph, kind_of, one_if, IsTyped}
use Rattle.call_effects.specs.Fits.{IsEntry}
use Rattle.call_effects.proofs.Puts.{put, put_there, put_other}
use Rattle.call_effects.proofs.Changes.{IsFair, dir, same_dir, enter_is, named, names_over, put_alike, sound_of, tree_enter}
use Rattle.call_effects.proofs.Edges.{typed_enter}

same_first : (i j : ℕ) (k l : Kind) → ◌≡◌ {A = Option (ℕ × Kind)} (Some (i, k)) (Some (j, l)) → i ≡ j
same_first i j k l e = let firsts : Some i ≡ Some j = ap (option_map (λ (p : ℕ × Kind). p.0)) e in cc

-- a name of another inode leads where it did
pub entry_over : (g : Graph) (p q : Location) (i j c : ℕ) (k l h : Kind) → i ≢ j → (first : IsEntry g p (i, k)) → IsEntry g q (j, l) → IsEntry (put g p.parent (dir first.names (fin.insert first.entries p.name (c, h)))) q (j, l)
entry_over g p q i j c k l h apart first second =
    let x = dir first.names (fin.insert first.entries p.name (c, h)) in
    elim (eqb_tells q.parent p.parent) [
      | inl same ↦
          let one = same_dir second.names first.names second.entries first.entries (sym second.is ∙ ap g same.1 ∙ first.is) in
          let here : fin.get first.entries q.name ≡ Some (j, l) = ap (λ m. fin.get m q.name) (sym one) ∙ second.there in
          let names_off : q.name ≢ p.name = λ e. apart (same_first i j k l (sym first.there ∙ ap (fin.get first.entries) (sym e) ∙ here)) in
          record { names = first.names; entries = fin.insert first.entries p.name (c, h); is = ap (λ y. put g p.parent x y) same.1 ∙ put_there g p.parent x; there = get_other_insert first.entries p.name q.name (c, h) names_off ∙ here }
      | inr off ↦ record { names = second.names; entries = second.entries; is = put_other g p.parent q.parent x off.1 ∙ second.is; there = second.there }
    ]

module _ (g : Graph) (d : Descriptors) (p q : Location) (i j : ℕ) (k l : Kind) (sound : IsFair g d) (apart : i ≢ j) (first : IsEntry g p (i, k)) (second : IsEntry g q (j, l)) where
  abbrev swap_1 : Graph
  swap_1 = put g p.parent (dir first.names (fin.insert first.entries p.name (j, l)))

  -- the second name where it was
  pub later : IsEntry swap_1 q (j, l)
  later = entry_over g p q i j j k l l apart first second

  abbrev pub swap_2 : Graph
  swap_2 = put swap_1 q.parent (dir later.names (fin.insert later.entries q.name (i, k)))

  first_child : child_at g p.parent p.name ≡ Some (i, k)
  first_child = ap (λ o. fin.get (node_entries o) p.name) first.is ∙ first.there

  second_child : child_at g q.parent q.name ≡ Some (j, l)
  second_child = ap (λ o. fin.get (node_entries o) q.name) second.is ∙ second.there

  pub swapped : after_effects g (effect.Swap p.parent p.name q.parent q.name ∷ []) ≡ swap_2
  swapped =
      ap (λ x. acted_all g (exchanged_entries p.parent p.name q.parent q.name x (child_at g q.parent q.name))) first_child
      ∙ ap (λ y. acted_all g (exchanged_entries p.parent p.name q.parent q.name (Some (i, k)) y)) second_child
      ∙ ap (λ h. after_effect h (effect.Enter q.parent i k q.name)) (enter_is g p.parent first.names j l p.name first.entries first.is)
      ∙ enter_is swap_1 q.parent later.names i k q.name later.entries later.is

  alike_1 : {A : Type 0} (f : Option Node → A) → f (dir first.names (fin.insert first.entries p.name (j, l))) ≡ f (g p.parent) → (x : ℕ) → f (swap_1 x) ≡ f (g x)
  alike_1 f same x = put_alike f g p.parent (dir first.names (fin.insert first.entries p.name (j, l))) same x

  alike_2 : {A : Type 0} (f : Option Node → A) → f (dir later.names (fin.insert later.entries q.name (i, k))) ≡ f (swap_1 q.parent) → (x : ℕ) → f (swap_2 x) ≡ f (swap_1 x)
  alike_2 f same x = put_alike f swap_1 q.parent (dir later.names (fin.insert later.entries q.name (i, k))) same x

  kinds_1 : (x : ℕ) → kind_of (swap_1 x) ≡ kind_of (g x)
  kinds_1 = alike_1 kind_of (sym (ap kind_of first.is))

  kinds_2 : (x : ℕ) → kind_of (swap_2 x) ≡ kind_of (g x)
  kinds_2 x = alike_2 kind_of (sym (ap kind_of later.is)) x ∙ kinds_1 x

  stores_2 : (x : ℕ) → stored_count (swap_2 x) ≡ stored_count (g x)
  stores_2 x = alike_2 stored_count (sym (ap stored_count later.is)) x ∙ alike_1 stored_count (sym (ap stored_count first.is)) x

  typed_1 : IsTyped swap_1 d
  typed_1 = typed_enter g d p.parent first.names j l p.name first.entries sound.typed first.is (sound.typed.kinds q.parent second.names second.entries q.name (j, l) second.is second.there)

  -- each has one name more and one fewer
  names_2 : (x : ℕ) → named swap_2 x ≡ named g x
  names_2 x =
      let low = sound.typed.numbers p.parent kind.Directory (ap kind_of first.is) in
      let high = typed_1.numbers q.parent kind.Directory (ap kind_of later.is) in
      let one = names_over g p.parent first.names j l p.name first.entries (i, k) x first.is low.0 low.1 first.there in
      let two = names_over swap_1 q.parent later.names i k q.name later.entries (j, l) x later.is high.0 high.1 later.there in
      omega (arith, one, two)

  pub sound_swapped : IsFair swap_2 d
  sound_swapped = sound_of g swap_2 d d i sound
      (typed_enter swap_1 d q.parent later.names i k q.name later.entries typed_1 later.is (kinds_1 i ∙ sound.typed.kinds p.parent first.names first.entries p.name (i, k) first.is first.there))
      (λ x off. stores_2 x) (λ x off. kinds_2 x) (λ x off. names_2 x)
      (stores_2 i ∙ sound.counted i ∙ ap (λ n. n + one_if (i == 1)) (sym (names_2 i)))
      (λ is. stores_2 i ∙ sound.one_name i (sym (kinds_2 i) ∙ is))

  pub tree_swapped : tree_of (reachable_graph swap_2 d) ≡ with_entry (with_entry (tree_of (reachable_graph g d)) p j) q i
  tree_swapped = tree_enter swap_1 d q.parent later.names i k q.name later.entries later.is ∙ ap (λ h. with_entry h q i) (tree_enter g d p.parent first.names j l p.name first.entries first.is)
