use Rattle.std.proofs.Common.{◌≡◌, [], refl, ◌∙◌, ap, ◌++◌, ◌∷◌, List, ℕ, length, take, arith}
use Rattle.std.proofs.lemmas.List.{take_all}
use Rattle.tier_device.specs.declared.record.Entry.TheVariants as entry
use Rattle.tier_device.specs.DeviceCall.{DeviceCall, Write}
use Rattle.tier_device.proofs.CallLogs.{pushed, pushed_len}
use Rattle.tier_device.proofs.record.CallLog.push_write.Goals as goal

pub invariant_of-self-2 : goal.invariant_of-self-2
invariant_of-self-2 c =
    let l = c.self.inside in
    let new = c.args.bytes.now in
    let grown = c.in-Ok.ensures.items ∙ ap (λ x. x ++ entry.Write c.args.tier c.args.at (length new) ∷ []) c.reserve.ensures.items in
    pushed_len l.entries.items c.push-2.new.self.items l.bytes c.push.new.self c.self.invariant (entry.Write c.args.tier c.args.at (length new)) new grown c.in_ok-push.ensures.grown refl

pub returns-clause-grown : goal.returns-clause-grown
returns-clause-grown c =
    let l = c.self.inside in
    let new = c.args.bytes.now in
    let grown = c.in-Ok.ensures.items ∙ ap (λ x. x ++ entry.Write c.args.tier c.args.at (length new) ∷ []) c.reserve.ensures.items in
    let whole : take (length new) new ≡ new = take_all (length new) new (omega arith) in
    pushed l.entries.items c.push-2.new.self.items l.bytes c.push.new.self c.self.invariant (entry.Write c.args.tier c.args.at (length new)) new grown c.in_ok-push.ensures.grown refl
    ∙ ap (λ (xs : List DeviceCall). xs ++ Write c.args.tier c.args.at (take (length new) new) ∷ []) c.self.view_is
    ∙ ap (λ (b : List ℕ). c.args.self.now ++ Write c.args.tier c.args.at b ∷ []) whole
