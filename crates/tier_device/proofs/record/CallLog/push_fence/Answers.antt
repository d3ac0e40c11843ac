use Rattle.std.proofs.Common.{[], refl, sym, ◌∙◌, ap, ◌++◌, ◌∷◌, List}
use Rattle.std.proofs.lemmas.List.{append-nil}
use Rattle.tier_device.specs.declared.record.Entry.TheVariants as entry
use Rattle.tier_device.specs.DeviceCall.{DeviceCall, Fence}
use Rattle.tier_device.proofs.CallLogs.{pushed, pushed_len}
use Rattle.tier_device.proofs.record.CallLog.push_fence.Goals as goal

pub invariant_of-self-2 : goal.invariant_of-self-2
invariant_of-self-2 c =
    let l = c.self.inside in
    pushed_len l.entries.items c.push.new.self.items l.bytes l.bytes c.self.invariant (entry.Fence c.args.tier) [] c.in_ok-push.ensures.items (sym (append-nil l.bytes)) refl

pub returns-clause-grown : goal.returns-clause-grown
returns-clause-grown c =
    let l = c.self.inside in
    pushed l.entries.items c.push.new.self.items l.bytes l.bytes c.self.invariant (entry.Fence c.args.tier) [] c.in_ok-push.ensures.items (sym (append-nil l.bytes)) refl
    ∙ ap (λ (xs : List DeviceCall). xs ++ Fence c.args.tier ∷ []) c.self.view_is
