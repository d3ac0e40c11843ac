-- Effects on names, and Swaps, as loops over records find them.
use Rattle.std.proofs.Common.{◌≡◌, ℕ, zero, suc, ◌+◌, ◌<◌, cond, true, false, List, [], ◌∷◌, ◌++◌, length, take, get_or, Some, None, refl, ap, sym, ◌∙◌, subst, arith, append_assoc}
use Rattle.std.specs.Prelude.{◌||◌}
use Rattle.std.specs.List.{list_any}
use Rattle.std.proofs.lemmas.List.Folds.{list_any-append, list_any_more, list_any_at}
use Rattle.graph_change.specs.file_graph.declared.effect.Effect.{Effect}
use Rattle.graph_change.specs.file_graph.Plain.{is_swap}
use Rattle.graph_change.specs.Swaps.{is_on_names, on_names, kept_names}
use Rattle.log_record.specs.declared.format.Record.{Record}
use Rattle.coalescer.specs.Records.{effects_in}
use Rattle.coalescer.proofs.Folds.{take_next, next_record}
use Rattle.coalescer.proofs.Within.{or_left, or_right}

-- ---- Swaps

pub next_unswapped : (es : List Effect) (i : ℕ) (e : Effect) → i < length es → e ≡ get_or es i e → is_swap e ≡ false → list_any is_swap (take i es) ≡ false → list_any is_swap (take (i + 1) es) ≡ false
next_unswapped es i e lt is off before =
    list_any_more is_swap es i e lt
    ∙ ap (λ b. b || is_swap (get_or es i e)) before
    ∙ sym (ap is_swap is) ∙ off

pub swap_found : (es : List Effect) (i : ℕ) (e : Effect) → i < length es → e ≡ get_or es i e → is_swap e ≡ true → list_any is_swap es ≡ true
swap_found es i e lt is on = list_any_at is_swap es i e lt (sym (ap is_swap is) ∙ on)

pub next_record_unswapped : (rs : List Record) (i : ℕ) (d : Record) → i < length rs → d ≡ get_or rs i d → list_any is_swap d.effects ≡ false → list_any is_swap (effects_in (take i rs)) ≡ false → list_any is_swap (effects_in (take (i + 1) rs)) ≡ false
next_record_unswapped rs i d lt is off before =
    ap (list_any is_swap) (next_record rs i d lt)
    ∙ list_any-append is_swap (effects_in (take i rs)) (get_or rs i d).effects
    ∙ ap (λ b. b || list_any is_swap (get_or rs i d).effects) before
    ∙ sym (ap (λ (r : Record). list_any is_swap r.effects) is) ∙ off

some_swap : (rs : List Record) (i : ℕ) (d : Record) → i < length rs → list_any is_swap (get_or rs i d).effects ≡ true → list_any is_swap (effects_in rs) ≡ true
some_swap [] i d lt on = absurd (omega (arith, lt))
some_swap (r ∷ rs) zero d lt on = list_any-append is_swap r.effects (effects_in rs) ∙ or_left (list_any is_swap r.effects) (list_any is_swap (effects_in rs)) on
some_swap (r ∷ rs) (suc i) d lt on =
    list_any-append is_swap r.effects (effects_in rs)
    ∙ or_right (list_any is_swap r.effects) (list_any is_swap (effects_in rs)) (some_swap rs i d (omega (arith, lt)) on)

pub record_found : (rs : List Record) (i : ℕ) (d : Record) → i < length rs → d ≡ get_or rs i d → list_any is_swap d.effects ≡ true → list_any is_swap (effects_in rs) ≡ true
record_found rs i d lt is on = some_swap rs i d lt (sym (ap (λ (r : Record). list_any is_swap r.effects) is) ∙ on)

pub kept_none : (es : List Effect) → list_any is_swap es ≡ false → kept_names es ≡ []
kept_none es off = ap (λ b. cond b (on_names es) []) off

pub kept_all : (es : List Effect) → list_any is_swap es ≡ true → kept_names es ≡ on_names es
kept_all es on = ap (λ b. cond b (on_names es) []) on

-- ---- effects on names

pub names_joined : (es fs : List Effect) → on_names (es ++ fs) ≡ on_names es ++ on_names fs
names_joined [] fs = refl
names_joined (e ∷ es) fs =
    elim (is_on_names e) as (λ b. cond b (e ∷ on_names (es ++ fs)) (on_names (es ++ fs)) ≡ cond b (e ∷ on_names es) (on_names es) ++ on_names fs) [
      | true ↦ ap (λ (xs : List Effect). e ∷ xs) (names_joined es fs)
      | false ↦ names_joined es fs
    ]

-- with the next effect of a list
pub next_name : (front es : List Effect) (i : ℕ) (e : Effect) → i < length es → e ≡ get_or es i e → (front ++ on_names (take i es)) ++ on_names (e ∷ []) ≡ front ++ on_names (take (i + 1) es)
next_name front es i e lt is =
    append_assoc front (on_names (take i es)) (on_names (e ∷ []))
    ∙ ap (λ (xs : List Effect). front ++ xs) (
    sym (names_joined (take i es) (e ∷ []))
    ∙ ap on_names (ap (λ (x : Effect). take i es ++ x ∷ []) is ∙ sym (take_next es i e lt)))

-- as a loop over a slice reads it
pub next_read : (front all read : List Effect) (i : ℕ) (e : Effect) → read ≡ all → i < length read → e ≡ get_or read i e → (front ++ on_names (take i all)) ++ on_names (e ∷ []) ≡ front ++ on_names (take (i + 1) all)
next_read front all read i e same inside is = next_name front all i e (subst (λ (xs : List Effect). i < length xs) same inside) (subst (λ (xs : List Effect). e ≡ get_or xs i e) same is)

-- one effect is kept, or none
pub kept_one : (e copy : Effect) → Some copy ≡ cond (is_on_names e) (Some e) None → on_names (e ∷ []) ≡ copy ∷ []
kept_one e copy = elim (is_on_names e) as (λ b. Some copy ≡ cond b (Some e) None → cond b (e ∷ []) [] ≡ copy ∷ []) [ true ↦ λ h. (let same : copy ≡ e = cc in ap (λ (x : Effect). x ∷ []) (sym same)) | false ↦ λ h. absurd cc ]

pub kept_nothing : (e : Effect) → None ≡ cond (is_on_names e) (Some e) None → on_names (e ∷ []) ≡ []
kept_nothing e = elim (is_on_names e) as (λ b. None ≡ cond b (Some e) None → cond b (e ∷ []) [] ≡ []) [ true ↦ λ h. absurd cc | false ↦ λ h. refl ]

-- with the next record of a list
pub next_names : (rs : List Record) (i : ℕ) (d : Record) → i < length rs → d ≡ get_or rs i d → on_names (effects_in (take i rs)) ++ on_names d.effects ≡ on_names (effects_in (take (i + 1) rs))
next_names rs i d lt is =
    ap (λ (r : Record). on_names (effects_in (take i rs)) ++ on_names r.effects) is
    ∙ sym (names_joined (effects_in (take i rs)) (get_or rs i d).effects)
    ∙ sym (ap on_names (next_record rs i d lt))
