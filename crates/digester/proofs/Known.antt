-- Where each inode that effects touch is known, none is the first that is not.
use Rattle.std.proofs.Common.{◌≡◌, ◌⊎◌, inl, inr, ℕ, ◌+◌, ◌<◌, ◌==◌, ◌||◌, Bool, true, false, cond, List, [], ◌∷◌, ◌++◌, length, take, get_or, Some, None, refl, ap, sym, subst, ◌∙◌, add-one}
use Rattle.std.proofs.Math.Seq.{take-suc}
use Rattle.std.proofs.lemmas.Bool.{false≢true}
use Rattle.std.proofs.lemmas.List.{append-nil}
use Rattle.std.proofs.lemmas.List.Concat.{flat_map-append}
use Rattle.std.specs.List.{find}
use Rattle.std.proofs.lemmas.Bool.Decides.{eqb_tells}
use Rattle.update_log.specs.file_graph.declared.effect.Effect.{Effect}
use Rattle.update_log.specs.file_graph.Graph.{touches, subjects, is_among}
use Rattle.shared_area.specs.record_validation.KnownNodes.{Known, is_unknown}

-- each inode of some is known
abbrev pub AreKnown : Known → List ℕ → Type 0
AreKnown m is = (i : ℕ) → is_among i is ≡ true → is_unknown m i ≡ false

pub either_of : (b c : Bool) → b ≡ true → (b || c) ≡ true
either_of b c e = ap (λ x. x || c) e

pub or_of : (b c : Bool) → c ≡ true → (b || c) ≡ true
or_of true c e = refl
or_of false c e = e

pub among_first : (d : ℕ) (is : List ℕ) → is_among d (d ∷ is) ≡ true
among_first d is = elim (eqb_tells d d) [
  | inl same ↦ either_of (d == d) (is_among d is) same.0
  | inr apart ↦ absurd (apart.1 refl)
]

pub none_unknown : (m : Known) (is : List ℕ) → AreKnown m is → find (is_unknown m) is ≡ None
none_unknown m [] all = refl
none_unknown m (d ∷ is) all =
    ap (λ b. cond b (Some d) (find (is_unknown m) is)) (all d (among_first d is))
    ∙ none_unknown m is (λ i among. all i (or_of (d == i) (is_among i is) among))

-- ---- one inode more

pub among_joined : (i : ℕ) (is js : List ℕ) → is_among i (is ++ js) ≡ (is_among i is || is_among i js)
among_joined i [] js = refl
among_joined i (d ∷ is) js = elim (d == i) as (λ b. (b || is_among i (is ++ js)) ≡ ((b || is_among i is) || is_among i js)) [
  | true ↦ refl
  | false ↦ among_joined i is js
]

pub touches_joined : (es fs : List Effect) → touches (es ++ fs) ≡ touches es ++ touches fs
touches_joined es fs = flat_map-append subjects es fs

-- with the next effect, whose inodes were learned
pub more_known : (m n : Known) (es : List Effect) (k : ℕ) (e : Effect) → k < length es → e ≡ get_or es k e → AreKnown m (touches (take k es)) → AreKnown n (subjects e) → ((i : ℕ) → is_unknown m i ≡ false → is_unknown n i ≡ false) → AreKnown n (touches (take (k + 1) es))
more_known m n es k e lt is all here others i among =
    let next : touches (take (k + 1) es) ≡ touches (take k es) ++ (subjects e ++ []) =
    ap touches (ap (λ j. take j es) (add-one k) ∙ take-suc es k e lt ∙ ap (λ x. take k es ++ (x ∷ [])) (sym is)) ∙ touches_joined (take k es) (e ∷ []) in
    let split : (is_among i (touches (take k es)) || is_among i (subjects e ++ [])) ≡ true =
    sym (among_joined i (touches (take k es)) (subjects e ++ [])) ∙ ap (is_among i) (sym next) ∙ among in
    elim (or_cases (is_among i (touches (take k es))) (is_among i (subjects e ++ [])) split) [
      | inl there ↦ others i (all i there)
      | inr last ↦ here i (ap (is_among i) (sym (append-nil (subjects e))) ∙ last)
    ]
  where
    or_cases : (b c : Bool) → (b || c) ≡ true → (b ≡ true) ⊎ (c ≡ true)
    or_cases true c h = inl refl
    or_cases false c h = inr h

-- of one inode, and of another one behind it
pub one_of : (i d : ℕ) → is_among i (d ∷ []) ≡ true → d ≡ i
one_of i d among = elim (eqb_tells d i) [
  | inl same ↦ same.1
  | inr apart ↦ absurd (false≢true (sym (ap (λ b. b || false) apart.0) ∙ among))
]

pub one_known : (n : Known) (d : ℕ) → is_unknown n d ≡ false → AreKnown n (d ∷ [])
one_known n d known i among = subst (λ j. is_unknown n j ≡ false) (one_of i d among) known

pub two_known : (n : Known) (d e : ℕ) → is_unknown n d ≡ false → is_unknown n e ≡ false → AreKnown n (d ∷ e ∷ [])
two_known n d e first second i among = elim (eqb_tells d i) [
  | inl same ↦ subst (λ j. is_unknown n j ≡ false) same.1 first
  | inr apart ↦ one_known n e second i (sym (ap (λ b. b || is_among i (e ∷ [])) apart.0) ∙ among)
]
