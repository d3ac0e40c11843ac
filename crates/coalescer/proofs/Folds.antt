-- Effects one after the other, as a loop adds them.
use Rattle.std.proofs.Common.{◌≡◌, List, [], ◌∷◌, ◌++◌, refl, ℕ, suc, ◌+◌, ◌<◌, ◌≤◌, zero, length, take, get_or, ap, sym, ◌∙◌, arith, append_assoc, subst}
use Rattle.std.specs.Prelude.{Result, Ok, Err, IfErr, OnErr, OnOk}
use Rattle.std.proofs.Math.Seq.{take-suc}
use Rattle.std.proofs.lemmas.List.Concat.{flat_map-append}
use Rattle.std.proofs.lemmas.List.{append-nil, length-append, take_all}
use Rattle.graph_change.specs.file_graph.declared.effect.Effect.{Effect}
use Rattle.graph_change.specs.Change.{Changes, with_effect, with_effects}
use Rattle.log_record.specs.declared.format.Record.{Record}
use Rattle.coalescer.specs.Records.{effects_in}

pub with_more : (cs : Changes) (es fs : List Effect) → with_effects cs (es ++ fs) ≡ with_effects (with_effects cs es) fs
with_more cs [] fs = refl
with_more cs (e ∷ es) fs = with_more (with_effect e cs) es fs

pub take_next : {A : Type 0} (xs : List A) (i : ℕ) (d : A) → i < length xs → take (i + 1) xs ≡ take i xs ++ get_or xs i d ∷ []
take_next xs i d lt = let e : i + 1 ≡ suc i = omega arith in ap (λ k. take k xs) e ∙ take-suc xs i d lt

-- with the next effect of a list
pub next_effect : (cs : Changes) (es : List Effect) (i : ℕ) (d : Effect) → i < length es → with_effects cs (take (i + 1) es) ≡ with_effect (get_or es i d) (with_effects cs (take i es))
next_effect cs es i d lt = ap (with_effects cs) (take_next es i d lt) ∙ with_more cs (take i es) (get_or es i d ∷ [])

pub effect_added : (cs : Changes) (es : List Effect) (i : ℕ) (e : Effect) → i < length es → e ≡ get_or es i e → with_effect e (with_effects cs (take i es)) ≡ with_effects cs (take (i + 1) es)
effect_added cs es i e inside is = ap (λ (x : Effect). with_effect x (with_effects cs (take i es))) is ∙ sym (next_effect cs es i e inside)

-- a list behind another, with the next effect of it, as a loop over a slice reads them
pub one_behind : (es all read : List Effect) (i : ℕ) (e : Effect) → read ≡ all → i < length read → e ≡ get_or read i e → (es ++ take i all) ++ e ∷ [] ≡ es ++ take (i + 1) all
one_behind es all read i e same inside is =
    let within = subst (λ (xs : List Effect). i < length xs) same inside in
    let next = subst (λ (xs : List Effect). e ≡ get_or xs i e) same is in
    append_assoc es (take i all) (e ∷ [])
    ∙ ap (λ xs. es ++ xs) (ap (λ (x : Effect). take i all ++ x ∷ []) next ∙ sym (take_next all i e within))

pub all_read : (es all read : List Effect) (i : ℕ) → read ≡ all → length read ≤ i → es ++ take i all ≡ es ++ all
all_read es all read i same past = ap (λ xs. es ++ xs) (take_all i all (subst (λ (xs : List Effect). length xs ≤ i) same past))

pub some_read : (all read : List Effect) (i : ℕ) → read ≡ all → i < length read → 0 < length all
some_read all read i same inside = omega (arith, subst (λ (xs : List Effect). i < length xs) same inside)

-- the effects with those of one more record
pub one_record : (rs : List Record) (r : Record) → effects_in (rs ++ r ∷ []) ≡ effects_in rs ++ r.effects
one_record rs r = flat_map-append (λ (x : Record). x.effects) rs (r ∷ []) ∙ ap (λ es. effects_in rs ++ es) (append-nil r.effects)

-- with the next record of a list
pub next_record : (rs : List Record) (i : ℕ) (d : Record) → i < length rs → effects_in (take (i + 1) rs) ≡ effects_in (take i rs) ++ (get_or rs i d).effects
next_record rs i d lt = ap effects_in (take_next rs i d lt) ∙ one_record (take i rs) (get_or rs i d)

-- where one of the records has an effect, so has the list
pub some_among : (rs : List Record) (i : ℕ) (d : Record) → i < length rs → 0 < length (get_or rs i d).effects → 0 < length (effects_in rs)
some_among [] i d lt some = absurd (omega (arith, lt))
some_among (r ∷ rs) zero d lt some = let sum = length-append r.effects (effects_in rs) in omega (arith, sum, some)
some_among (r ∷ rs) (suc i) d lt some =
    let sum = length-append r.effects (effects_in rs) in
    let more = some_among rs i d (omega (arith, lt)) some in
    omega (arith, sum, more)

-- what holds anyway holds of an error, in each of the two ways of saying so
pub on_error : {T E P : Type 0} (r : Result T E) → P → OnErr r P
on_error (Ok x) holds = tt
on_error (Err y) holds = holds

pub on_success : {T E P : Type 0} (r : Result T E) → P → OnOk r P
on_success (Ok x) holds = holds
on_success (Err y) holds = tt

pub of_error : {T E P : Type 0} (r : Result T E) → P → IfErr r (λ _. P)
of_error (Ok x) holds = tt
of_error (Err y) holds = holds
