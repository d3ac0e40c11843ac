use Rattle.std.proofs.Common.{◌≡◌, ◌≤◌, ◌+◌, max, length, take, ap, ◌∙◌, arith}
use Rattle.client_view.proofs.Buffers.{puts}
use Rattle.client_view.proofs.blocks.put.Goals as goal

pub returns-clause-written : goal.returns-clause-written
returns-clause-written c =
    let most : c.max.result ≡ max c.args.len (c.args.offset + length c.args.bytes.now) = omega arith in
    let room : c.args.offset + length c.args.bytes.now ≤ length c.grow.new.buffer = omega arith in
    ap (λ n. take n c.overwrite.new.buffer) most
    ∙ ap (take (max c.args.len (c.args.offset + length c.args.bytes.now))) c.overwrite.ensures
    ∙ puts c.args.buffer.now c.grow.new.buffer c.args.bytes.now c.args.len c.args.offset c.requires.within room c.grow.ensures
