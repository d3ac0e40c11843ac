-- The growth that a client asks for is that of the whole.
use Rattle.std.proofs.Common.{◌≡◌, ℕ, ◌≤◌, List, Ok, ap, sym, ◌∙◌, subst, arith}
use Rattle.std.specs.Prelude.{◌/◌, min}
use Rattle.posix_calls.specs.Tree.{Descriptors}
use Rattle.posix_calls.specs.Part.{Known, run_part}
use Rattle.posix_calls.specs.declared.limits.TheConstants.{MAX_FILE, UNIT_BYTES}
use Rattle.posix_calls.specs.declared.operation.Operation.{Operation}
use Rattle.posix_calls.specs.declared.call.Call.{Call}
use Rattle.log_record.specs.file_graph.Graph.{Graph}
use Rattle.log_record.specs.file_graph.Units.{growth}
use Rattle.log_record.specs.file_graph.declared.effect.Effect.{Effect}
use Rattle.call_effects.specs.Effects.{effects_of}
use Rattle.call_effects.specs.Records.{growth_asked, units_asked}
use Rattle.call_effects.specs.Wholes.{IsSound}
use Rattle.call_effects.specs.Knowledge.{Knowledge, Agrees, IsPlanned, part_of}
use Rattle.call_effects.proofs.GrowthAsked.{growth_as_asked}
use Rattle.call_effects.proofs.KnownSteps.{growth_known, planned_answer}
use Rattle.call_effects.proofs.KnownAsking.{bind_known, result_is}
use Rattle.call_effects.proofs.Spelled.{growth_small}
use Rattle.call_effects.proofs.Steps.{answer_fits}

pub planned_growth : (k : Knowledge) (g : Graph) (d : Descriptors) (c : Call) (new : ℕ) (operation : Operation) (es : List Effect) (units : ℕ) → IsSound g d → Agrees k g d → IsPlanned k c new operation es → run_part (part_of k) (growth_asked operation) ≡ Known (Ok units) → growth g es ≡ units
planned_growth k g d c new operation es units sound agrees plan known =
    let a = planned_answer k g d c new operation es sound agrees plan in
    let fits = answer_fits g d k.client c operation sound a.0 in
    let same : Ok (growth g (effects_of g new operation)) ≡ Ok units = sym (growth_as_asked g d sound (d k.client) new operation (λ m. agrees.granted new (plan.number m)) fits) ∙ growth_known k g d (d k.client) operation units sound agrees fits known in
    let here : growth g (effects_of g new operation) ≡ units = cc in
    ap (growth g) (sym a.1) ∙ here

few_in_32_bits : (units grown counted : ℕ) → grown ≡ units → grown ≤ MAX_FILE / UNIT_BYTES → min units 4294967295 ≡ counted → grown ≡ counted
few_in_32_bits units grown counted is few cut = omega (arith, is, few, cut)

-- so is it in the 32 bits that a record has
pub planned_units : (k : Knowledge) (g : Graph) (d : Descriptors) (c : Call) (new : ℕ) (operation : Operation) (es : List Effect) (units : ℕ) → IsSound g d → Agrees k g d → IsPlanned k c new operation es → run_part (part_of k) (units_asked operation) ≡ Known (Ok units) → growth g es ≡ units
planned_units k g d c new operation es units sound agrees plan known =
    let a = planned_answer k g d c new operation es sound agrees plan in
    let grown = bind_known (part_of k) (growth_asked operation) _ units known in
    let small : growth g es ≤ MAX_FILE / UNIT_BYTES = subst (λ es. growth g es ≤ MAX_FILE / UNIT_BYTES) a.1 (growth_small g d k.client new c operation sound a.0 (λ m. agrees.granted new (plan.number m))) in
    few_in_32_bits grown.0 (growth g es) units (planned_growth k g d c new operation es grown.0 sound agrees plan grown.1) small (result_is (part_of k) _ units grown.2)
