use Rattle.std.proofs.Common.{◌≡◌, ◌∙◌, ◌<◌, sym, ap, refl, take, length, List, Some, arith}
use Rattle.std.proofs.lemmas.List.{length-set, take_all, take_more_set}
use Rattle.tier_device.specs.declared.fill.Fill.{Fill}
use Rattle.script.specs.Script.{parts}
use Rattle.script.proofs.FillLaws.{all_fills-start, fills_from-step, fills_from-none, fills_from-end}
use Rattle.script.proofs.fills.fills_of.Goals as goal

pub loop-medium-init : goal.loop-medium-init
loop-medium-init c = record { long = refl; same = all_fills-start (parts 32 c.args.words.now) }

pub returns-in_err-fills : goal.returns-in_err-fills
returns-in_err-fills c =
    let m = c.loop-medium.medium in
    let front = take m c.loop-medium.fills in
    c.from_residual.ensures
    ∙ sym (sym c.loop-medium.invariant.same ∙ fills_from-none (parts 32 c.args.words.now) front 9 m c.loop-medium-test.true (sym c.in_err-fills.ensures))

pub loop-medium-preserved : goal.loop-medium-preserved
loop-medium-preserved c =
    let m = c.loop-medium.medium in
    let fills = c.loop-medium.fills in
    let fill = c.in_ok-fills.field-0 in
    let within : m < length fills = omega (arith, c.loop-medium-test.true, c.loop-medium.invariant.long) in
    record {
      long = rw length-set c.loop-medium.invariant.long;
      same = rw (take_more_set fills m fill within) (sym (fills_from-step (parts 32 c.args.words.now) (take m fills) 9 m fill c.loop-medium-test.true (sym c.in_ok-fills.ensures)) ∙ c.loop-medium.invariant.same);
    }

pub returns : goal.returns
returns c =
    let m = c.loop-medium.medium in
    let fills = c.loop-medium.fills in
    let all : take m fills ≡ fills = take_all m fills (omega (arith, c.loop-medium-test.false, c.loop-medium.invariant.long)) in
    sym (sym c.loop-medium.invariant.same ∙ fills_from-end (parts 32 c.args.words.now) (take m fills) 9 m c.loop-medium-test.false ∙ ap (λ (fs : List Fill). Some fs) all)
