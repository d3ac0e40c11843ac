-- The numbers that a client was granted, as they go.
use Rattle.std.proofs.Common.{◌≡◌, ◌≢◌, ℕ, List, [], ◌∷◌, refl, ap, sym, ◌∙◌, true, false, Bool, inl, inr}
use Rattle.std.specs.Prelude.{◌==◌, ◌||◌, ◌&&◌, not}
use Rattle.std.proofs.lemmas.Bool.{cases_eq, eq-eqb, ne_eqb, cond-true, cond-false}
use Rattle.std.specs.List.{filter}
use Rattle.client_plan.specs.file_graph.Graph.{is_among}
use Rattle.client_view.specs.KnowledgeTables.{Held, knows}
use Rattle.client_view.specs.KnowledgeChanges.{without_granted}

and_false : (a b : Bool) → b ≡ false → (a && b) ≡ false
and_false true b e = e
and_false false b e = refl

and_true : (a b : Bool) → b ≡ true → (a && b) ≡ a
and_true true b e = e
and_true false b e = refl

-- without one of them
pub among_less : (i n : ℕ) (ns : List ℕ) → is_among i (filter (λ m. not (m == n)) ns) ≡ (is_among i ns && not (i == n))
among_less i n [] = refl
among_less i n (m ∷ ns) = elim (cases_eq m n) [
  | inl same ↦
      let off : not (m == n) ≡ false = ap not (eq-eqb m n same) in
      ap (is_among i) (cond-false (not (m == n)) (m ∷ filter (λ k. not (k == n)) ns) (filter (λ k. not (k == n)) ns) off) ∙ among_less i n ns ∙ this_one same
  | inr other ↦
      let on : not (m == n) ≡ true = ap not (ne_eqb m n other) in
      ap (is_among i) (cond-true (not (m == n)) (m ∷ filter (λ k. not (k == n)) ns) (filter (λ k. not (k == n)) ns) on) ∙ ap (λ b. (m == i) || b) (among_less i n ns) ∙ another other
]
  where
    this_one : m ≡ n → (is_among i ns && not (i == n)) ≡ (((m == i) || is_among i ns) && not (i == n))
    this_one same = elim (cases_eq i n) [
      | inl at ↦ and_false (is_among i ns) (not (i == n)) (ap not (eq-eqb i n at)) ∙ sym (and_false ((m == i) || is_among i ns) (not (i == n)) (ap not (eq-eqb i n at)))
      | inr off ↦ ap (λ b. b && not (i == n)) (ap (λ b. b || is_among i ns) (sym (ne_eqb m i (λ e. off (sym e ∙ same)))))
    ]

    another : m ≢ n → ((m == i) || (is_among i ns && not (i == n))) ≡ (((m == i) || is_among i ns) && not (i == n))
    another off = elim (cases_eq m i) [
      | inl at ↦
          let far : not (i == n) ≡ true = ap not (ne_eqb i n (λ e. off (at ∙ e))) in
          ap (λ b. b || (is_among i ns && not (i == n))) (eq-eqb m i at) ∙ sym (and_true ((m == i) || is_among i ns) (not (i == n)) far ∙ ap (λ b. b || is_among i ns) (eq-eqb m i at))
      | inr other ↦ ap (λ b. b || (is_among i ns && not (i == n))) (ne_eqb m i other) ∙ sym (ap (λ b. (b || is_among i ns) && not (i == n)) (ne_eqb m i other))
    ]

pub used_is_known : (h : Held) (n : ℕ) (ns : List ℕ) → ((i : ℕ) → is_among i ns ≡ (is_among i h.numbers && not (i == n))) → knows (record h { numbers = ns }) ≡ without_granted (knows h) n
used_is_known h n ns less = λ t. record { client = h.client; own = (knows h).own; copies = (knows h).copies; blocks = (knows h).blocks; granted = λ i. less i t }
