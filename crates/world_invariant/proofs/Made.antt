-- Which records make a node.
use Rattle.std.proofs.Common.{◌≡◌, inl, inr, ℕ, zero, suc, ◌≤◌, ◌||◌, cond, Bool, true, false, List, [], ◌∷◌, ◌++◌, refl, Some, None, Option, ap, sym, ◌∙◌, arith}
use Rattle.std.proofs.lemmas.Bool.{false≢true}
use Rattle.call_effects.specs.file_graph.Graph.{Graph, Node, acted_graph, acted_all, exchanged_entries, child_at, after_effect, after_effects, subject_after, is_among}
use Rattle.call_effects.specs.file_graph.declared.effect.Kind.{Kind}
use Rattle.call_effects.specs.file_graph.declared.effect.Effect.{Effect}
use Rattle.call_effects.specs.file_graph.declared.effect.Effect.TheVariants as effect
use Rattle.call_effects.specs.log_record.declared.format.Record.{Record}
use Rattle.world_invariant.specs.Logs.{after_records, after_clients, makes_node, is_made, is_made_in, IsMadeOnce}
use Rattle.world_invariant.proofs.Records.{either, both, or_first, or_rest, or_neither, in_rest, or_joined}

-- ---- lists

pub made_append : (i : ℕ) (rs ss : List Record) → is_made_in i (rs ++ ss) ≡ (is_made_in i rs || is_made_in i ss)
made_append i [] ss = refl
made_append i (r ∷ rs) ss = ap (λ b. is_made i r.effects || b) (made_append i rs ss) ∙ or_joined (is_made i r.effects) (is_made_in i rs) (is_made_in i ss)

pub front_unmade : (i : ℕ) (rs ss : List Record) → is_made_in i (rs ++ ss) ≡ false → is_made_in i rs ≡ false
front_unmade i rs ss e = or_first (is_made_in i rs) (is_made_in i ss) (sym (made_append i rs ss) ∙ e)

pub rest_unmade : (i : ℕ) (rs ss : List Record) → is_made_in i (rs ++ ss) ≡ false → is_made_in i ss ≡ false
rest_unmade i rs ss e = or_rest (is_made_in i rs) (is_made_in i ss) (sym (made_append i rs ss) ∙ e)

pub rest_made : (i : ℕ) (rs ss : List Record) → is_made_in i ss ≡ true → is_made_in i (rs ++ ss) ≡ true
rest_made i rs ss e = made_append i rs ss ∙ in_rest (is_made_in i rs) (is_made_in i ss) e

pub unmade_append : (i : ℕ) (rs ss : List Record) → is_made_in i rs ≡ false → is_made_in i ss ≡ false → is_made_in i (rs ++ ss) ≡ false
unmade_append i rs ss e f = made_append i rs ss ∙ or_neither (is_made_in i rs) (is_made_in i ss) e f

-- ---- once

pub once_rest : (i : ℕ) (rs ss : List Record) → IsMadeOnce i (rs ++ ss) → IsMadeOnce i ss
once_rest i [] ss once = once
once_rest i (r ∷ rs) ss once = once_rest i rs ss once.1

pub once_front : (i : ℕ) (rs ss : List Record) → IsMadeOnce i (rs ++ ss) → IsMadeOnce i rs
once_front i [] ss once = tt
once_front i (r ∷ rs) ss once = ((λ e. front_unmade i rs ss (once.0 e)), once_front i rs ss once.1)

pub once_apart : (i : ℕ) (rs ss : List Record) → IsMadeOnce i (rs ++ ss) → is_made_in i rs ≡ true → is_made_in i ss ≡ false
once_apart i [] ss once e = absurd (false≢true e)
once_apart i (r ∷ rs) ss once e =
    elim (either (is_made i r.effects)) [
      | inl there ↦ rest_unmade i rs ss (once.0 there)
      | inr clean ↦ once_apart i rs ss once.1 (sym (ap (λ b. b || is_made_in i rs) clean) ∙ e)
    ]

pub once_more : (i : ℕ) (rs : List Record) (r : Record) → IsMadeOnce i rs → (is_made i r.effects ≡ true → is_made_in i rs ≡ false) → IsMadeOnce i (rs ++ (r ∷ []))
once_more i [] r once apart = ((λ e. refl), tt)
once_more i (s ∷ rs) r once apart =
    ((λ e. unmade_append i rs (r ∷ []) (once.0 e) (single e)), once_more i rs r once.1 (λ e. or_rest (is_made i s.effects) (is_made_in i rs) (apart e)))
  where
    single : is_made i s.effects ≡ true → is_made_in i (r ∷ []) ≡ false
    single e = elim (either (is_made i r.effects)) [
      | inl there ↦ both (is_made i s.effects) e (or_first (is_made i s.effects) (is_made_in i rs) (apart there))
      | inr clean ↦ ap (λ b. b || false) clean
    ]

-- ---- a number that no record makes stays free

cond_same : (b : Bool) → cond {A = Option Node} b None None ≡ None
cond_same true = refl
cond_same false = refl

entered_none : (g : Graph) (d j : ℕ) (k : Kind) (name : List ℕ) (i : ℕ) → g i ≡ None → acted_graph g (effect.Enter d j k name) i ≡ None
entered_none g d j k name i none = ap (λ o. cond (is_among i (d ∷ [])) (subject_after (effect.Enter d j k name) o) o) none ∙ cond_same (is_among i (d ∷ []))

exchanged_none : (g : Graph) (d e : ℕ) (a b : List ℕ) (x y : Option (ℕ × Kind)) (i : ℕ) → g i ≡ None → acted_all g (exchanged_entries d a e b x y) i ≡ None
exchanged_none g d e a b (Some x) (Some y) i none = entered_none (acted_graph g (effect.Enter d y.0 y.1 a)) e x.0 x.1 b i (entered_none g d y.0 y.1 a i none)
exchanged_none g d e a b (Some x) None i none = none
exchanged_none g d e a b None y i none = none

effect_stays : (g : Graph) (e : Effect) (i : ℕ) → g i ≡ None → makes_node i e ≡ false → after_effect g e i ≡ None
effect_stays g (effect.Make x k) i none e = ap (λ b. cond (b || false) (subject_after (effect.Make x k) (g i)) (g i)) e ∙ none
effect_stays g (effect.Enter x j k name) i none e = entered_none g x j k name i none
effect_stays g (effect.Leave x name) i none e = ap (λ o. cond (is_among i (x ∷ [])) (subject_after (effect.Leave x name) o) o) none ∙ cond_same (is_among i (x ∷ []))
effect_stays g (effect.Names x n) i none e = ap (λ o. cond (is_among i (x ∷ [])) (subject_after (effect.Names x n) o) o) none ∙ cond_same (is_among i (x ∷ []))
effect_stays g (effect.Size x size) i none e = ap (λ o. cond (is_among i (x ∷ [])) (subject_after (effect.Size x size) o) o) none ∙ cond_same (is_among i (x ∷ []))
effect_stays g (effect.Bytes x at new) i none e = ap (λ o. cond (is_among i (x ∷ [])) (subject_after (effect.Bytes x at new) o) o) none ∙ cond_same (is_among i (x ∷ []))
effect_stays g (effect.Drop x) i none e = ap (λ o. cond (is_among i (x ∷ [])) (subject_after (effect.Drop x) o) o) none ∙ cond_same (is_among i (x ∷ []))
effect_stays g (effect.Swap x a y b) i none e = exchanged_none g x y a b (child_at g x a) (child_at g y b) i none

pub effects_none : (g : Graph) (es : List Effect) (i : ℕ) → g i ≡ None → is_made i es ≡ false → after_effects g es i ≡ None
effects_none g [] i none e = none
effects_none g (x ∷ es) i none e = effects_none (after_effect g x) es i (effect_stays g x i none (or_first (makes_node i x) (is_made i es) e)) (or_rest (makes_node i x) (is_made i es) e)

pub records_none : (g : Graph) (rs : List Record) (i : ℕ) → g i ≡ None → is_made_in i rs ≡ false → after_records g rs i ≡ None
records_none g [] i none e = none
records_none g (r ∷ rs) i none e = records_none (after_effects g r.effects) rs i (effects_none g r.effects i none (or_first (is_made i r.effects) (is_made_in i rs) e)) (or_rest (is_made i r.effects) (is_made_in i rs) e)

pub clients_none : (n : ℕ) (logs : ℕ → List Record) (g : Graph) (i : ℕ) → g i ≡ None → ((d : ℕ) → 1 ≤ d → d ≤ n → is_made_in i (logs d) ≡ false) → after_clients logs g n i ≡ None
unfolding after_clients
clients_none zero logs g i none e = none
clients_none (suc n) logs g i none e =
    records_none (after_clients logs g n) (logs (suc n)) i (clients_none n logs g i none (λ d low high. e d low (omega (arith, high)))) (e (suc n) (omega arith) (omega arith))
