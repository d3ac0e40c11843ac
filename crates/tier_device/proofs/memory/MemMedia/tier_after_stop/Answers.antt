use Rattle.std.proofs.Common.{◌≡◌, List, ℕ, length, refl, sym, ◌∙◌, ap, subst, arith, rules}
use Rattle.std.proofs.lemmas.List.{take_all}
use Rattle.std.proofs.lemmas.Result.{IfOk-weaker}
use Rattle.tier_device.specs.declared.memory.Inside.{Inside}
use Rattle.tier_device.specs.Rows.{row}
use Rattle.tier_device.specs.Record.{LeftAfter}
use Rattle.tier_device.specs.CallLog.{calls_of}
use Rattle.tier_device.specs.StopContent.{stop_content}
use Rattle.tier_device.specs.Memory.{memory_left, memory_moment, memory_held}
use Rattle.tier_device.specs.DeviceCall.{DeviceCall}
use Rattle.tier_device.proofs.HeldLaws.{held_left}
use Rattle.tier_device.proofs.memory.MemMedia.tier_after_stop.Goals as goal

pub returns-clause-allowed : goal.returns-clause-allowed
returns-clause-allowed c =
    let m = c.args.self.now in
    let t = c.args.tier in
    let first = row m.inside.value.first t in
    let calls = m.inside.value.calls in
    let Before : List ℕ → Type 0 = λ d. d ≡ first in
    let now : LeftAfter t first Before calls (stop_content c.args.fill t first first calls) = held_left c.args.fill t first first Before calls refl refl in
    let at_moment : memory_left m (memory_moment m) t (memory_held c.args.fill m t) =
    subst (λ (xs : List DeviceCall). LeftAfter t first Before xs (stop_content c.args.fill t first first calls)) (sym (take_all (length calls) calls (omega arith))) now in
    let shown : c.bytes.result.now ≡ first = search rules in
    let entries = c.in_ok-entries.entries.now in
    let is_log : calls_of entries c.deref.result.now ≡ calls = ap (calls_of entries) c.deref.ensures.value ∙ c.in_ok-entries.ensures.calls ∙ ap (λ (it : Inside). it.calls) c.deref-inside.ensures in
    IfOk-weaker c.held_after.result _ _ (λ bytes same. subst (memory_left m (memory_moment m) t) (sym (same ∙ (λ k. stop_content c.args.fill t (shown k) (shown k) (is_log k)))) at_moment) c.held_after.ensures
