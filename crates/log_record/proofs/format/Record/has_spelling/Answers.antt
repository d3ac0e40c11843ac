use Rattle.std.proofs.Common.{◌≡◌, ℕ, zero, suc, ◌≤◌, length, true, false, eqb, List, ap, sym, subst, ◌∙◌, arith}
use Rattle.std.specs.List.{All, AllByRecursion}
use Rattle.std.proofs.lemmas.List.Elements.{All-from_recursion, recursion_from_All, All-weaker}
use Rattle.file_graph.specs.declared.effect.Effect.{Effect}
use Rattle.log_record.specs.Grammar.{FitsLimits, fits}
use Rattle.log_record.proofs.Effects.{Fits-from_fits, fits-from_Fits}
use Rattle.log_record.proofs.format.Record.has_spelling.Goals as goal

fitting : (es : List Effect) → All (λ e. fits e ≡ true) es → AllByRecursion FitsLimits es
fitting es all = recursion_from_All FitsLimits es (All-weaker (λ e. fits e ≡ true) FitsLimits Fits-from_fits es all)

tested : (es : List Effect) → AllByRecursion FitsLimits es → All (λ e. fits e ≡ true) es
tested es fit = All-weaker FitsLimits (λ e. fits e ≡ true) fits-from_Fits es (All-from_recursion FitsLimits es fit)

not_none : (n : ℕ) → eqb n 0 ≡ false → 1 ≤ n
not_none zero e = absurd cc
not_none (suc n) e = omega arith

pub returns : goal.returns
returns c =
    let same = c.as_slice-effects.ensures in
    let long = ap length same in
    let some = not_none (length c.as_slice-effects.result.now) (sym c.is_empty.ensures ∙ c.if-is_empty.false) in (
      λ t. record {
        units = omega arith;
        some = omega (arith, some, long);
        few = omega (arith, c.if-effects.false, long);
        fit = fitting c.args.self.now.effects (subst (λ (es : List Effect). All (λ e. fits e ≡ true) es) same (c.all_fit.ensures.0 t));
      },
      λ is. c.all_fit.ensures.1 (subst (λ (es : List Effect). All (λ e. fits e ≡ true) es) (sym same) (tested c.args.self.now.effects is.fit)),
    )
