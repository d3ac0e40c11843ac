use Rattle.std.proofs.Common.{◌∙◌, None, Some, ap, sym}
use Rattle.std.proofs.lemmas.Result.{IfOk-weaker}
use Rattle.graph_change.specs.Change.{Patch, blank, over_patch}
use Rattle.graph_change.specs.View.{patch_of}
use Rattle.graph_change.proofs.Changed.{part_put}
use Rattle.graph_change.proofs.Maps.{was_there}
use Rattle.graph_change.proofs.changed_blocks.changed_block.Goals as goal

pub returns-in-Some : goal.returns-in-Some
returns-in-Some c =
    let at = c.args.at in
    let b = c.args.number in
    let bytes = c.args.bytes.now in
    IfOk-weaker c.with.result _ _
    (λ new is p.
    is p
    ∙ part_put at b c.saturating_sub-place.result c.saturating_sub-from.result c.min-count.result c.len.result bytes c.in_ok-part.part (patch_of c.in-Some.block.now) p c.saturating_sub-place.ensures c.saturating_sub-from.ensures c.len.ensures c.min-count.ensures c.in_ok-part.ensures c.requires.low c.requires.high
    ∙ ap (λ (f : Patch). over_patch at bytes b f p) (sym (was_there patch_of c.args.blocks.now b (Some c.in-Some.block.now) blank (sym c.in-Some.ensures.value))))
    c.with.ensures

pub returns-in-None : goal.returns-in-None
returns-in-None c p =
    let at = c.args.at in
    let b = c.args.number in
    let bytes = c.args.bytes.now in
    c.of-in-None.ensures p
    ∙ part_put at b c.saturating_sub-place.result c.saturating_sub-from.result c.min-count.result c.len.result bytes c.in_ok-part.part blank p c.saturating_sub-place.ensures c.saturating_sub-from.ensures c.len.ensures c.min-count.ensures c.in_ok-part.ensures c.requires.low c.requires.high
    ∙ ap (λ (f : Patch). over_patch at bytes b f p) (sym (was_there patch_of c.args.blocks.now b None blank (sym c.in-None.ensures.value)))
