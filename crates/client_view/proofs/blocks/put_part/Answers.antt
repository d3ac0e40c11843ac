use Rattle.std.proofs.Common.{◌≤◌, ◌-◌, ℕ, List, length, take, ap, sym, ◌∙◌, arith}
use Rattle.std.proofs.lemmas.List.{length-take-le}
use Rattle.posix_calls.specs.Content.{with_bytes}
use Rattle.posix_calls.specs.declared.limits.TheConstants.{UNIT_BYTES}
use Rattle.client_view.proofs.Buffers.{writes}
use Rattle.client_view.proofs.blocks.put_part.Goals as goal

pub returns-clause-written : goal.returns-clause-written
returns-clause-written c =
    let short : length (take c.args.len c.args.buffer.now) ≤ UNIT_BYTES = omega (arith, length-take-le c.args.len c.args.buffer.now) in
    c.put.ensures.written
    ∙ ap (λ (xs : List ℕ). with_bytes c.at_most_a_block-at.result xs (take c.args.len c.args.buffer.now)) (c.cut-part.ensures.cut ∙ ap (take (UNIT_BYTES - c.at_most_a_block-at.result)) c.skip.ensures)
    ∙ sym (writes UNIT_BYTES c.args.offset c.args.skipped c.args.bytes.now (take c.args.len c.args.buffer.now) short c.at_most_a_block-at.result c.at_most_a_block-at.ensures)
