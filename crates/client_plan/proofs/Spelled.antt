-- The test for a record that has a spelling decides it.
use Rattle.std.proofs.Common.{◌≡◌, inl, inr, List, [], ◌∷◌, length, true, false, refl}
use Rattle.std.specs.Prelude.{◌&&◌, nat_le, nat_lt}
use Rattle.std.specs.List.{AllByRecursion}
use Rattle.std.proofs.lemmas.Bool.{and_parts, and_from, leb-true, le-leb, ltb-true, lt-ltb, cases_Bool}
use Rattle.call_effects.specs.file_graph.declared.effect.Effect.{Effect}
use Rattle.call_effects.specs.log_record.Grammar.{FitsLimits, fits, IsRecord}
use Rattle.call_effects.specs.log_record.declared.format.Record.{Record}
use Rattle.call_effects.proofs.log_record_lemmas.Effects.{Fits-from_fits, fits-from_Fits}
use Rattle.client_plan.specs.NeedOrder.{are_fit, is_record}

fit_from : (es : List Effect) → are_fit es ≡ true → AllByRecursion FitsLimits es
fit_from [] h = tt
fit_from (e ∷ es) h = let p = and_parts (fits e) (are_fit es) h in (Fits-from_fits e p.0, fit_from es p.1)

fit_is : (es : List Effect) → AllByRecursion FitsLimits es → are_fit es ≡ true
fit_is [] h = refl
fit_is (e ∷ es) h = and_from (fits e) (are_fit es) (fits-from_Fits e h.0) (fit_is es h.1)

pub record_from : (r : Record) → is_record r ≡ true → IsRecord r
record_from r h =
    let p = and_parts (nat_lt r.units 4294967296 && nat_le 1 (length r.effects) && nat_le (length r.effects) 8) (are_fit r.effects) h in
    let q = and_parts (nat_lt r.units 4294967296 && nat_le 1 (length r.effects)) (nat_le (length r.effects) 8) p.0 in
    let s = and_parts (nat_lt r.units 4294967296) (nat_le 1 (length r.effects)) q.0 in
    record { units = ltb-true _ _ s.0; some = leb-true _ _ s.1; few = leb-true _ _ q.1; fit = fit_from r.effects p.1 }

pub record_is : (r : Record) → IsRecord r → is_record r ≡ true
record_is r is = and_from _ _ (and_from _ _ (and_from _ _ (lt-ltb r.units 4294967296 is.units) (le-leb 1 (length r.effects) is.some)) (le-leb (length r.effects) 8 is.few)) (fit_is r.effects is.fit)

pub no_record : (r : Record) → (IsRecord r → ⊥) → is_record r ≡ false
no_record r never = elim (cases_Bool (is_record r)) [ inl is ↦ absurd (never (record_from r is)) | inr off ↦ off ]
