use Rattle.std.proofs.Common.{arith, length, subst, sym, ◌+◌, ◌≤◌}
use Rattle.digester.proofs.Composed.{its_end}
use Rattle.digester.proofs.chunk_digest.end_of.Goals as goal

pub overflow_add-result : goal.overflow_add-result
overflow_add-result c =
    let end = its_end c.args.sealed.now c.args.chunk.now c.invariant.ensures c.requires.some c.requires.chunk c.requires.next in
    let few = c.invariant.ensures.few in
    omega (arith, end, few)

pub returns-clause-within : goal.returns-clause-within
returns-clause-within c =
    let end = its_end c.args.sealed.now c.args.chunk.now c.invariant.ensures c.requires.some c.requires.chunk c.requires.next in
    subst (λ n. n + c.args.chunk.now.count ≤ length c.args.sealed.now.records) (sym c.digested_count.ensures) end
