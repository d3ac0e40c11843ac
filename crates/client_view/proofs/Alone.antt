-- What is known after one effect.
use Rattle.std.proofs.Common.{◌≡◌, inl, inr, ℕ, ◌<◌, cond, length, set, List, [], ◌∷◌, Option, Some, None, false, refl, ap, sym, ◌∙◌, subst}
use Rattle.std.specs.Prelude.{◌==◌, IsSome, is_some, option_map, unwrap_or}
use Rattle.std.specs.FinMap as fin
use Rattle.std.proofs.lemmas.Bool.{cases_eq, eq-eqb, ne_eqb, cond-true, cond-false}
use Rattle.client_plan.specs.file_graph.Graph.{is_among, subjects, touches}
use Rattle.client_plan.specs.file_graph.declared.effect.Effect.{Effect}
use Rattle.client_plan.specs.file_graph.declared.effect.Effect.TheVariants as effect
use Rattle.client_plan.specs.file_graph.declared.effect.Kind.{Kind}
use Rattle.client_plan.specs.call_effects.KnownCopies.{known_acted, known_after, known_after_effect}
use Rattle.client_plan.specs.call_effects.NodeView.{NodeView, in_entries, view_acted}
use Rattle.record_validation.proofs.Steps.{on_one}
use Rattle.client_view.specs.KnowledgeTables.{Held, copy_at, knows}
use Rattle.client_view.specs.AfterRecord.{with_effects, without_touched}
use Rattle.client_view.proofs.Known.{blocks_apart, slot_changed}
use Rattle.client_view.proofs.Untouched.{untouched_copy}

abbrev Copy : Type 0
Copy = Option (Option NodeView)

-- ---- one slot

module _ (e : Effect) (j : ℕ) (alone : subjects e ≡ j ∷ []) where
  acted : (i : ℕ) → i ≡ j → (v : Option NodeView) → view_acted e v ≡ cond (is_among i (subjects e)) (view_acted e v) v
  acted i same v = sym (ap (λ xs. cond (is_among i xs) (view_acted e v) v) alone ∙ cond-true (is_among i (j ∷ [])) (view_acted e v) v (on_one i j ∙ eq-eqb j i (sym same)))

  at_it : (i : ℕ) → i ≡ j → (c : Copy) → option_map (view_acted e) c ≡ option_map (λ v. cond (is_among i (subjects e)) (view_acted e v) v) c
  at_it i same None = refl
  at_it i same (Some v) = ap (λ w. Some w) (acted i same v)

  elsewhere : (i : ℕ) (c : Copy) → (j == i) ≡ false → c ≡ option_map (λ v. cond (is_among i (subjects e)) (view_acted e v) v) c
  elsewhere i None off = refl
  elsewhere i (Some v) off = sym (ap (λ xs. Some (cond (is_among i xs) (view_acted e v) v)) alone ∙ ap (λ w. Some w) (cond-false (is_among i (j ∷ [])) (view_acted e v) v (on_one i j ∙ off)))

  by_inode : (copies : ℕ → Copy) (i : ℕ) → cond (i == j) (option_map (view_acted e) (copies j)) (copies i) ≡ known_acted e copies i
  by_inode copies i = elim (cases_eq i j) [
    | inl same ↦
        cond-true (i == j) (option_map (view_acted e) (copies j)) (copies i) (eq-eqb i j same)
        ∙ ap (λ n. option_map (view_acted e) (copies n)) (sym same)
        ∙ at_it i same (copies i)
    | inr other ↦
        cond-false (i == j) (option_map (view_acted e) (copies j)) (copies i) (ne_eqb i j other)
        ∙ elsewhere i (copies i) (ne_eqb j i (λ same. other (sym same)))
  ]

  -- its subject's slot is acted on in its place
  pub slot_acted : (cs : List Copy) (old new : Copy) → j < length cs → old ≡ copy_at cs j → new ≡ option_map (view_acted e) old → copy_at (set cs j new) ≡ known_acted e (copy_at cs)
  slot_acted cs old new inside is to = λ t i.
      (slot_changed cs j new i inside
      ∙ ap (λ c. cond (i == j) c (copy_at cs i)) (to ∙ ap (option_map (view_acted e)) is)
      ∙ by_inode (copy_at cs) i) t

-- ---- what the client knows then

-- the copies are as an effect leaves them, and the blocks of what it touches go
pub acted_is_known : (h : Held) (e : Effect) (cs : List Copy) → copy_at cs ≡ known_after_effect e (copy_at h.copies) → knows (record h { copies = cs; blocks = without_touched h.blocks (e ∷ []) }) ≡ with_effects (knows h) (e ∷ [])
acted_is_known h e cs is = λ t. record {
  client = h.client;
  own = (knows h).own;
  copies = is t;
  blocks = λ i b. blocks_apart h (λ k. is_among k (touches (e ∷ []))) cs same i b t;
  granted = (knows h).granted;
}
  where
    same : (k : ℕ) → is_among k (touches (e ∷ [])) ≡ false → copy_at cs k ≡ copy_at h.copies k
    same k off = ap (λ (known : ℕ → Copy). known k) is ∙ untouched_copy (e ∷ []) (copy_at h.copies) k off
