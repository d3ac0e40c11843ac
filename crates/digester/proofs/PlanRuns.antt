-- Records one after the other: good ones, and the first that is not.
use Rattle.std.proofs.Common.{◌≡◌, ℕ, zero, suc, ◌+◌, ◌<◌, ◌≤◌, List, [], ◌∷◌, ◌++◌, length, take, get_or, refl, ap, sym, ◌∙◌, subst, arith}
use Rattle.std.specs.Prelude.{Result, Ok, Err, IfErr}
use Rattle.std.proofs.Math.Seq.{take-nil}
use Rattle.std.proofs.lemmas.List.{length-append}
use Rattle.update_log.specs.file_graph.declared.effect.Effect.{Effect}
use Rattle.update_log.specs.file_graph.Graph.{Graph, after_effects, after_effect}
use Rattle.update_log.specs.log_record.declared.format.Record.{Record}
use Rattle.coalescer.specs.Records.{effects_in}
use Rattle.coalescer.proofs.Folds.{take_next, next_record}
use Rattle.shared_area.specs.record_validation.Good.{IsGood}
use Rattle.digester.specs.Plan.{AreGood, IsFirstBad}

pub after_more : (g : Graph) (es fs : List Effect) → after_effects g (es ++ fs) ≡ after_effects (after_effects g es) fs
after_more g [] fs = refl
after_more g (e ∷ es) fs = after_more (after_effect g e) es fs

-- a good one more
pub good_more : (held : List ℕ) (capacity : ℕ) (g : Graph) (rs : List Record) (r : Record) → AreGood held capacity g rs → IsGood held capacity (after_effects g (effects_in rs)) r → AreGood held capacity g (rs ++ r ∷ [])
good_more held capacity g [] r all good = (good, tt)
good_more held capacity g (x ∷ rs) r all good =
    (all.0, good_more held capacity (after_effects g x.effects) rs r all.1 (subst (λ (h : Graph). IsGood held capacity h r) (after_more g x.effects (effects_in rs)) good))

-- the next of some records is good
pub next_good : (held : List ℕ) (capacity : ℕ) (g : Graph) (rs : List Record) (k : ℕ) (r : Record) → k < length rs → r ≡ get_or rs k r → AreGood held capacity g (take k rs) → IsGood held capacity (after_effects g (effects_in (take k rs))) r → AreGood held capacity g (take (k + 1) rs)
next_good held capacity g rs k r lt is all good =
    subst (AreGood held capacity g) (ap (λ (x : Record). take k rs ++ x ∷ []) is ∙ sym (take_next rs k r lt)) (good_more held capacity g (take k rs) r all good)

-- the graph after it
pub next_graph : (g : Graph) (rs : List Record) (k : ℕ) (r : Record) → k < length rs → r ≡ get_or rs k r → after_effects (after_effects g (effects_in (take k rs))) r.effects ≡ after_effects g (effects_in (take (k + 1) rs))
next_graph g rs k r lt is =
    sym (after_more g (effects_in (take k rs)) r.effects)
    ∙ ap (after_effects g) (ap (λ (x : Record). effects_in (take k rs) ++ x.effects) is ∙ sym (next_record rs k r lt))

-- a bad one behind good ones
pub bad_behind : (held : List ℕ) (capacity : ℕ) (g : Graph) (rs : List Record) (k : ℕ) (d : Record) → k < length rs → AreGood held capacity g (take k rs) → (IsGood held capacity (after_effects g (effects_in (take k rs))) (get_or rs k d) → ⊥) → IsFirstBad held capacity g rs k
bad_behind held capacity g [] k d lt all bad = absurd (omega (arith, lt))
bad_behind held capacity g (r ∷ rs) zero d lt all bad = bad
bad_behind held capacity g (r ∷ rs) (suc k) d lt all bad = (
  all.0,
  bad_behind held capacity (after_effects g r.effects) rs k d (omega (arith, lt)) all.1
      (λ good. bad (subst (λ (h : Graph). IsGood held capacity h (get_or rs k d)) (sym (after_more g r.effects (effects_in (take k rs)))) good)),
)

-- ---- what a first bad one is

pub place : (held : List ℕ) (capacity : ℕ) (g : Graph) (rs : List Record) (k : ℕ) → IsFirstBad held capacity g rs k → k < length rs
place held capacity g [] k is = absurd is
place held capacity g (r ∷ rs) zero is = omega arith
place held capacity g (r ∷ rs) (suc k) is = let less = place held capacity (after_effects g r.effects) rs k is.1 in omega (arith, less)

pub before : (held : List ℕ) (capacity : ℕ) (g : Graph) (rs : List Record) (k : ℕ) → IsFirstBad held capacity g rs k → AreGood held capacity g (take k rs)
before held capacity g [] k is = absurd is
before held capacity g (r ∷ rs) zero is = tt
before held capacity g (r ∷ rs) (suc k) is = (is.0, before held capacity (after_effects g r.effects) rs k is.1)

pub bad : (held : List ℕ) (capacity : ℕ) (g : Graph) (rs : List Record) (k : ℕ) (d : Record) → IsFirstBad held capacity g rs k → IsGood held capacity (after_effects g (effects_in (take k rs))) (get_or rs k d) → ⊥
bad held capacity g [] k d is good = is
bad held capacity g (r ∷ rs) zero d is good = is good
bad held capacity g (r ∷ rs) (suc k) d is good =
    bad held capacity (after_effects g r.effects) rs k d is.1 (subst (λ (h : Graph). IsGood held capacity h (get_or rs k d)) (after_more g r.effects (effects_in (take k rs))) good)

pub alone : (held : List ℕ) (capacity : ℕ) (g : Graph) (rs : List Record) (k l : ℕ) → IsFirstBad held capacity g rs k → IsFirstBad held capacity g rs l → k ≡ l
alone held capacity g [] k l is also = absurd is
alone held capacity g (r ∷ rs) zero zero is also = refl
alone held capacity g (r ∷ rs) zero (suc l) is also = absurd (is also.0)
alone held capacity g (r ∷ rs) (suc k) zero is also = absurd (also is.0)
alone held capacity g (r ∷ rs) (suc k) (suc l) is also = ap suc (alone held capacity (after_effects g r.effects) rs k l is.1 also.1)

pub never : (held : List ℕ) (capacity : ℕ) (g : Graph) (rs : List Record) (k : ℕ) → IsFirstBad held capacity g rs k → AreGood held capacity g rs → ⊥
never held capacity g [] k is all = is
never held capacity g (r ∷ rs) zero is all = is all.0
never held capacity g (r ∷ rs) (suc k) is all = never held capacity (after_effects g r.effects) rs k is.1 all.1

-- the first ones have no more effects than all
pub fewer_taken : (rs : List Record) (n : ℕ) → length (effects_in (take n rs)) ≤ length (effects_in rs)
fewer_taken [] n = subst (λ (xs : List Record). length (effects_in xs) ≤ 0) (sym (take-nil n)) (omega arith)
fewer_taken (r ∷ rs) zero = omega arith
fewer_taken (r ∷ rs) (suc n) =
    let sum = length-append r.effects (effects_in rs) in
    let taken = length-append r.effects (effects_in (take n rs)) in
    let fewer = fewer_taken rs n in
    omega (arith, sum, taken, fewer)

-- what holds whatever the refusal is
pub refused_for : {T E : Type 0} (r : Result T E) (A : Type 0) → A → IfErr r (λ _. A)
refused_for (Ok x) A a = tt
refused_for (Err e) A a = a
