use Rattle.std.proofs.Common.{◌≡◌, ◌+◌, ◌-◌, ◌∙◌, List, ℕ, length, drop, ap, arith}
use Rattle.std.proofs.lemmas.List.{length-drop}
use Rattle.std.proofs.lemmas.Grind.{common_steps}
use Rattle.tier_device.specs.Fill.{left_bytes}
use Rattle.tier_device.proofs.HeldLaws.{length-left_bytes, left_bytes-take}
use Rattle.tier_device.proofs.stop_content.spoil_range.Goals as goal

pub returns : goal.returns
returns c =
    let items = c.args.bytes.now.items in
    let at = c.args.at in
    let new = c.args.new.now in
    let all : c.deref_mut.result.now ≡ items = c.deref_mut.ensures.value in
    let is : c.fill_range.new.place ≡ left_bytes c.args.fill c.args.tier at (drop at items) new =
    c.fill_range.ensures ∙ left_bytes-take c.args.fill c.args.tier at (drop at c.deref_mut.result.now) new (at + length new - at) (omega arith) ∙ ap (λ (l : List ℕ). left_bytes c.args.fill c.args.tier at (drop at l) new) all in
    let long : length (left_bytes c.args.fill c.args.tier at (drop at items) new) ≡ length new = length-left_bytes c.args.fill c.args.tier at (drop at items) new (omega (arith, length-drop at items)) in
    grind (arith, common_steps)
