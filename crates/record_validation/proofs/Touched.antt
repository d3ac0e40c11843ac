-- The inodes that effects touch, one effect more in front; what is known of all of them.
use Rattle.std.proofs.Common.{◌≡◌, inl, inr, ℕ, ◌+◌, ◌==◌, ◌||◌, ◌&&◌, Bool, true, false, cond, not, List, [], ◌∷◌, ◌++◌, Option, Some, None, refl, ap, sym, ◌∙◌}
use Rattle.std.specs.Prelude.{is_some, unwrap_or}
use Rattle.std.specs.List.{AllByRecursion, find, list_all}
use Rattle.std.specs.Ordering.{nat_cmp}
use Rattle.std.specs.BTreeMap.{get}
use Rattle.std.proofs.lemmas.Bool.{false≢true}
use Rattle.std.proofs.lemmas.Bool.Decides.{eqb_tells}
use Rattle.std.proofs.lemmas.Option.{none-some}
use Rattle.call_effects.specs.file_graph.declared.effect.Effect.{Effect}
use Rattle.call_effects.specs.file_graph.Graph.{Graph, after_effects, touches, subjects, is_among}
use Rattle.call_effects.specs.file_graph.Subject.{one_or_two}
use Rattle.call_effects.specs.file_graph.Units.{growth, charge}
use Rattle.call_effects.specs.log_record.Grammar.{FitsLimits}
use Rattle.call_effects.specs.NodeView.{NodeView, view_at}
use Rattle.record_validation.specs.Good.{are_held}
use Rattle.record_validation.specs.KnownNodes.{Known, ViewsAgree, known_at, first_unknown, inodes_behind, is_unknown}
use Rattle.record_validation.specs.Rises.{view_rise, view_cost, view_cost_after, sum_distinct}
use Rattle.record_validation.proofs.Rises.{growth_told, charge_told}

-- ---- one effect more in front

-- the inodes of an effect and those behind it
pub next_touched : (e : Effect) (d : ℕ) (o : Option ℕ) (es : List Effect) → subjects e ≡ one_or_two d o → touches (e ∷ es) ≡ d ∷ inodes_behind o es
next_touched e d o es is = ap (λ xs. xs ++ touches es) is ∙ behind o where
  behind : (o : Option ℕ) → one_or_two d o ++ touches es ≡ d ∷ inodes_behind o es
  behind None = refl
  behind (Some j) = refl

-- the first of two, or else the other
abbrev pub or_other : Option ℕ → Option ℕ → Option ℕ
or_other None other = other
or_other (Some i) other = Some i

found_joined : (test : ℕ → Bool) (is js : List ℕ) → find test (is ++ js) ≡ or_other (find test is) (find test js)
found_joined test [] js = refl
found_joined test (d ∷ is) js = elim (test d) as (λ b. cond b (Some d) (find test (is ++ js)) ≡ or_other (cond b (Some d) (find test is)) (find test js)) [
  | true ↦ refl
  | false ↦ found_joined test is js
]

pub next_unknown : (m : Known) (e : Effect) (es : List Effect) → find (is_unknown m) (touches (e ∷ es)) ≡ or_other (find (is_unknown m) (subjects e)) (find (is_unknown m) (touches es))
next_unknown m e es = found_joined (is_unknown m) (subjects e) (touches es)

all_joined : (test : ℕ → Bool) (is js : List ℕ) → list_all test (is ++ js) ≡ (list_all test is && list_all test js)
all_joined test [] js = refl
all_joined test (d ∷ is) js = elim (test d) as (λ b. (b && list_all test (is ++ js)) ≡ ((b && list_all test is) && list_all test js)) [
  | true ↦ all_joined test is js
  | false ↦ refl
]

pub next_held : (held : List ℕ) (e : Effect) (es : List Effect) → are_held held (e ∷ es) ≡ (list_all (λ i. is_among i held) (subjects e) && are_held held es)
next_held held e es = all_joined (λ i. is_among i held) (subjects e) (touches es)

among_joined : (i : ℕ) (is js : List ℕ) → is_among i (is ++ js) ≡ (is_among i is || is_among i js)
among_joined i [] js = refl
among_joined i (d ∷ is) js = elim (d == i) as (λ b. (b || is_among i (is ++ js)) ≡ ((b || is_among i is) || is_among i js)) [
  | true ↦ refl
  | false ↦ among_joined i is js
]

pub next_among : (i : ℕ) (e : Effect) (es : List Effect) → is_among i (touches (e ∷ es)) ≡ (is_among i (subjects e) || is_among i (touches es))
next_among i e es = among_joined i (subjects e) (touches es)

-- ---- all is known

pub all_known : (m : Known) (is : List ℕ) → find (is_unknown m) is ≡ None → (i : ℕ) → is_among i is ≡ true → is_some (get nat_cmp m i) ≡ true
all_known m [] none i among = absurd (false≢true among)
all_known m (d ∷ is) none i among = elim (is_some (get nat_cmp m d)) as (λ b. is_some (get nat_cmp m d) ≡ b → cond (not b) (Some d) (find (is_unknown m) is) ≡ None → is_some (get nat_cmp m i) ≡ true) [
  | true ↦ λ there rest. elim (eqb_tells d i) [
    | inl same ↦ ap (λ j. is_some (get nat_cmp m j)) (sym same.1) ∙ there
    | inr apart ↦ all_known m is rest i (ap (λ b. b || is_among i is) (sym apart.0) ∙ among)
  ]
  | false ↦ λ there rest. absurd (none-some d (sym rest))
] refl none

at_some : (o : Option (Option NodeView)) (w : Option NodeView) → ((v : Option NodeView) → o ≡ Some v → w ≡ v) → is_some o ≡ true → w ≡ unwrap_or o None
at_some None w same there = absurd (false≢true there)
at_some (Some v) w same there = same v refl

pub as_known : (m : Known) (g : Graph) (es : List Effect) → first_unknown m es ≡ None → ViewsAgree m g → (i : ℕ) → is_among i (touches es) ≡ true → view_at g i ≡ known_at m i
as_known m g es none agrees i among = at_some (get nat_cmp m i) (view_at g i) (agrees i) (all_known m (touches es) none i among)

pub growth_known : (m : Known) (g : Graph) (es : List Effect) → first_unknown m es ≡ None → AllByRecursion FitsLimits es → ViewsAgree m g → growth g es ≡ sum_distinct (view_rise es (known_at m)) (touches es)
growth_known m g es none fit agrees = growth_told g es (known_at m) fit (as_known m g es none agrees)

pub charge_known : (m : Known) (g : Graph) (es : List Effect) → first_unknown m es ≡ None → AllByRecursion FitsLimits es → ViewsAgree m g → charge (after_effects g es) + sum_distinct (view_cost (known_at m)) (touches es) ≡ charge g + sum_distinct (view_cost_after es (known_at m)) (touches es)
charge_known m g es none fit agrees = charge_told g es (known_at m) fit (as_known m g es none agrees)
