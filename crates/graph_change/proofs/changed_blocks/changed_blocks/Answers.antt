use Rattle.std.proofs.Common.{◌∙◌, [], ◌∷◌, arith, length, ap, sym, subst}
use Rattle.std.proofs.lemmas.List.{length-append}
use Rattle.graph_change.specs.Change.{over_patch, patch_at}
use Rattle.graph_change.specs.BlockChanges.{ChangedFrom}
use Rattle.graph_change.specs.View.{patches_of}
use Rattle.graph_change.proofs.Changed.{one_changed}
use Rattle.graph_change.proofs.changed_blocks.changed_blocks.Goals as goal

pub loop-number-preserved : goal.loop-number-preserved
loop-number-preserved c =
    let at = c.args.at in
    let bytes = c.args.bytes.now in
    let old = patches_of c.args.blocks.now in
    let items = c.loop-number.changed.items in
    let new = c.in_ok-changed_block.field-0 in
    let count = c.loop-number.invariant.count in
    let long = ap length c.in_ok-push.ensures.items ∙ length-append items (new ∷ []) in (record {
      count = omega (arith, long, count);
      each = subst (ChangedFrom c.args.first at bytes old) (sym c.in_ok-push.ensures.items) (one_changed c.args.first at bytes old items new c.loop-number.invariant.each (λ p. c.in_ok-changed_block.ensures p ∙ ap (λ n. over_patch at bytes n (patch_at old n) p) (sym count)));
    })
