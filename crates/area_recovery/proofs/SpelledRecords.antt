-- The records that a region's bytes spell have effects that are spelled, and are no more than the bytes.
use Rattle.std.proofs.Common.{◌≡◌, inl, inr, ℕ, zero, suc, ◌+◌, ◌≤◌, ◌<◌, eqb, leb, cond, List, [], ◌∷◌, length, take, get_or, Option, Some, None, refl, ap, sym, subst, arith}
use Rattle.std.specs.Prelude.{◌&&◌, ◌==◌}
use Rattle.std.specs.List.{AllByRecursion, cons_option}
use Rattle.std.proofs.lemmas.Bool.{cases_Bool, cond-false, cond-true, leb-true}
use Rattle.log_survey.specs.update_log.Frames.{is_whole, payload_length, payload_of, payloads, payloads_from, records, spelled_records}
use Rattle.graph_check.specs.file_graph.declared.effect.Effect.{Effect}
use Rattle.graph_check.specs.log_record.Grammar.{◌>>=◌, FitsLimits, byte_at, effect_at, effects_at, fields_at, fits, header_at, number_at, record_at, record_of}
use Rattle.graph_check.specs.log_record.declared.format.Record.{Record}
use Rattle.graph_check.proofs.log_record_lemmas.Effects.{Fits-from_fits, and_parts}
use Rattle.graph_check.proofs.log_record_lemmas.Fields.{bind_some, some_is, test_some}
use Rattle.area_recovery.specs.SpelledRecords.{HasSpelledEffects}

-- ---- what is read

effect_fits : (bytes : List ℕ) (x : Effect × List ℕ) → effect_at bytes ≡ Some x → FitsLimits x.0
unfolding effect_at
effect_fits bytes x e =
    let a = bind_some (fields_at bytes) (λ f. cond (fits f.0) (Some f) None) x e in
    let g = test_some (fits a.0.0) a.0 x a.2 in
    subst (λ (y : Effect × List ℕ). FitsLimits y.0) g.1 (Fits-from_fits a.0.0 g.0)

effects_fit : (n : ℕ) (bytes : List ℕ) (x : List Effect × List ℕ) → effects_at n bytes ≡ Some x → (length x.0 ≡ n) × AllByRecursion FitsLimits x.0
unfolding effects_at
effects_fit zero bytes x e = subst (λ (y : List Effect × List ℕ). (length y.0 ≡ 0) × AllByRecursion FitsLimits y.0) (some_is ([], bytes) x e) (refl, tt)
effects_fit (suc n) bytes x e =
    let a = bind_some (effect_at bytes) (λ first. effects_at n first.1 >>= λ others. Some (first.0 ∷ others.0, others.1)) x e in
    let b = bind_some (effects_at n a.0.1) (λ others. Some (a.0.0 ∷ others.0, others.1)) x a.2 in
    let made : List Effect × List ℕ = (a.0.0 ∷ b.0.0, b.0.1) in
    let rest = effects_fit n a.0.1 b.0 b.1 in
    subst (λ (y : List Effect × List ℕ). (length y.0 ≡ suc n) × AllByRecursion FitsLimits y.0) (some_is made x b.2) (ap suc rest.0, (effect_fits bytes a.0 a.1, rest.1))

count_is : (bytes : List ℕ) (x : (ℕ × ℕ) × List ℕ) → header_at bytes ≡ Some x → (1 ≤ x.0.1) × (x.0.1 ≤ 8)
unfolding header_at
count_is bytes x e =
    let a = bind_some (number_at 4 bytes) (λ units. byte_at units.1 >>= λ count. cond (leb 1 count.0 && leb count.0 8) (Some ((units.0, count.0), count.1)) None) x e in
    let b = bind_some (byte_at a.0.1) (λ count. cond (leb 1 count.0 && leb count.0 8) (Some ((a.0.0, count.0), count.1)) None) x a.2 in
    let made : (ℕ × ℕ) × List ℕ = ((a.0.0, b.0.0), b.0.1) in
    let g = test_some (leb 1 b.0.0 && leb b.0.0 8) made x b.2 in
    let p = and_parts (leb 1 b.0.0) (leb b.0.0 8) g.0 in
    subst (λ (y : (ℕ × ℕ) × List ℕ). (1 ≤ y.0.1) × (y.0.1 ≤ 8)) g.1 (leb-true 1 b.0.0 p.0, leb-true b.0.0 8 p.1)

front_spelled : (bytes : List ℕ) (x : Record × List ℕ) → record_at bytes ≡ Some x → HasSpelledEffects x.0
unfolding record_at
front_spelled bytes x e =
    let a = bind_some (header_at bytes) (λ h. effects_at h.0.1 h.1 >>= λ es. Some (record { units = h.0.0; effects = es.0 }, es.1)) x e in
    let b = bind_some (effects_at a.0.0.1 a.0.1) (λ es. Some (record { units = a.0.0.0; effects = es.0 }, es.1)) x a.2 in
    let made : Record × List ℕ = (record { units = a.0.0.0; effects = b.0.0 }, b.0.1) in
    let count = count_is bytes a.0 a.1 in
    let fit = effects_fit a.0.0.1 a.0.1 b.0 b.1 in
    let long = fit.0 in
    subst (λ (y : Record × List ℕ). HasSpelledEffects y.0) (some_is made x b.2)
    (record { some = (let low = count.0 in omega (arith, low, long)); few = (let high = count.1 in omega (arith, high, long)); fit = fit.1 })

record_spelled : (bytes : List ℕ) (r : Record) → record_of bytes ≡ Some r → HasSpelledEffects r
unfolding record_of
record_spelled bytes r e =
    let a = bind_some (record_at bytes) (λ x. cond (eqb (length x.1) 0) (Some x.0) None) r e in
    let g = test_some (eqb (length a.0.1) 0) a.0.0 r a.2 in
    subst HasSpelledEffects g.1 (front_spelled bytes a.0 a.1)

-- ---- the records of a region

next_spelled : (o : Option Record) (rs : List Record) → ((r : Record) → o ≡ Some r → HasSpelledEffects r) → AllByRecursion HasSpelledEffects rs → AllByRecursion HasSpelledEffects (cons_option o rs)
next_spelled None rs first rest = rest
next_spelled (Some r) rs first rest = (first r refl, rest)

all_spelled : (ps : List (List ℕ)) → AllByRecursion HasSpelledEffects (spelled_records ps)
all_spelled [] = tt
all_spelled (p ∷ ps) = next_spelled (record_of p) (spelled_records ps) (record_spelled p) (all_spelled ps)

pub region_spelled : (content : List ℕ) → AllByRecursion HasSpelledEffects (records content)
region_spelled content = all_spelled (payloads content)

-- ---- how many they are

one_at_most : (o : Option Record) (rs : List Record) → length (cons_option o rs) ≤ suc (length rs)
one_at_most None rs = omega arith
one_at_most (Some r) rs = omega arith

no_more : (ps : List (List ℕ)) → length (spelled_records ps) ≤ length ps
no_more [] = omega arith
no_more (p ∷ ps) = (let rest = no_more ps in let one = one_at_most (record_of p) (spelled_records ps) in omega (arith, rest, one))

payloads_few : (skip : ℕ) (content : List ℕ) → length (payloads_from skip content) ≤ length content
payloads_few skip [] = omega arith
payloads_few (suc skip) (byte ∷ rest) = (let few = payloads_few skip rest in omega (arith, few))
payloads_few zero (gate ∷ behind) = elim (cases_Bool ((gate == 165) && is_whole behind)) [
  | inl is ↦
      let few = payloads_few (4 + payload_length behind) behind in
      subst (λ (ps : List (List ℕ)). length ps ≤ suc (length behind)) (sym (cond-true ((gate == 165) && is_whole behind) (payload_of behind ∷ payloads_from (4 + payload_length behind) behind) [] is)) (omega (arith, few))
  | inr none ↦
      subst (λ (ps : List (List ℕ)). length ps ≤ suc (length behind)) (sym (cond-false ((gate == 165) && is_whole behind) (payload_of behind ∷ payloads_from (4 + payload_length behind) behind) [] none)) (omega arith)
]

pub records_few : (content : List ℕ) → length (records content) ≤ length content
records_few content = (let one = no_more (payloads content) in let two = payloads_few 16 content in omega (arith, one, two))

-- ---- one more of some

pub one_more : {A : Type 0} (P : A → Type 0) (xs : List A) (k : ℕ) (d : A) → AllByRecursion P (take k xs) → k < length xs → P (get_or xs k d) → AllByRecursion P (take (k + 1) xs)
one_more P [] k d all low its = absurd (omega (arith, low))
one_more P (x ∷ xs) zero d all low its = (its, tt)
one_more {A = A} P (x ∷ xs) (suc k) d all low its =
    let next : suc k + 1 ≡ suc (k + 1) = omega arith in
    subst (λ (n : ℕ). AllByRecursion {X = A} P (take n (x ∷ xs))) (sym next) (all.0, one_more P xs k d all.1 (omega (arith, low)) its)

pub one_of_all : {A : Type 0} (P : A → Type 0) (xs : List A) (k : ℕ) (d : A) → AllByRecursion P xs → k < length xs → P (get_or xs k d)
one_of_all P [] k d all low = absurd (omega (arith, low))
one_of_all P (x ∷ xs) zero d all low = all.0
one_of_all P (x ∷ xs) (suc k) d all low = one_of_all P xs k d all.1 (omega (arith, low))
