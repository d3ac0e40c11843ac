use Rattle.std.proofs.Common.{◌∙◌, ◌/◌, ◌%◌, arith, ap, refl}
use Rattle.std.specs.FinMap as fin
use Rattle.std.proofs.lemmas.List.{take_all}
use Rattle.std.proofs.lemmas.Result.{on_ok_weaker}
use Rattle.posix_calls.specs.declared.limits.TheConstants.{UNIT_BYTES}
use Rattle.graph_change.specs.Change.{patch_at, put_patch}
use Rattle.graph_change.specs.View.{patches_of}
use Rattle.graph_change.proofs.Pieces.{in_one_block}
use Rattle.graph_change.proofs.node_change.put_bytes.Goals as goal

pub returns-then-len-place-clause-put : goal.returns-then-len-place-clause-put
returns-then-len-place-clause-put c =
    let at = c.args.at in
    let bytes = c.args.bytes.now in
    let old = patches_of c.args.blocks.now in
    let len = c.len.ensures in
    let all = c.len-then-len-place.ensures in
    let short = c.if-len-place.true in
    on_ok_weaker c.put_in_one.result
    (λ put.
    put
    ∙ ap (λ xs. fin.insert old (at / UNIT_BYTES) (put_patch (at % UNIT_BYTES) xs (patch_at old (at / UNIT_BYTES)))) (c.in_ok-part.ensures ∙ take_all c.len-then-len-place.result bytes (omega (arith, all)))
    ∙ in_one_block at (at % UNIT_BYTES) bytes old refl c.requires.some (omega (arith, short, len, c.requires.some)))
    c.put_in_one.ensures.put
