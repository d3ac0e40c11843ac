use Rattle.std.proofs.Common.{arith, ap}
use Rattle.block_alloc.specs.Runs.{blocks_of}
use Rattle.block_alloc.proofs.Blocks.{normal-rising, length-rising}
use Rattle.block_alloc.proofs.Joins.{normal-wider, length-put_in, length-run}
use Rattle.block_alloc.proofs.free_runs.FreeRuns.give.Goals as goal

pub put_in-requires-clause-normal : goal.put_in-requires-clause-normal
put_in-requires-clause-normal c = normal-wider c.self.inside.first c.self.inside.end 0 4294967295 c.self.inside.runs.items (omega arith) (omega (arith, c.self.invariant.fits)) c.self.invariant.normal

pub overflow_add-self : goal.overflow_add-self
overflow_add-self c =
    let first = ap (λ v. v.first) c.self.view_is in
    let end = ap (λ v. v.end) c.self.view_is in
    let normal = c.in_ok-put_in.ensures.normal c.self.inside.first c.self.inside.end c.self.invariant.normal (omega (arith, c.requires.after, first)) (omega (arith, c.requires.before, end)) in
    let rising = normal-rising c.self.inside.first c.self.inside.end c.put_in.new.runs.items normal in
    omega (arith, length-rising c.self.inside.first c.self.inside.end (blocks_of c.put_in.new.runs.items) c.self.invariant.range rising, length-put_in _ _ _ c.in_ok-put_in.ensures.blocks, length-run c.args.run, c.self.invariant.count, c.self.invariant.fits)

pub invariant_of-self-2 : goal.invariant_of-self-2
invariant_of-self-2 c =
    let first = ap (λ v. v.first) c.self.view_is in
    let end = ap (λ v. v.end) c.self.view_is in
    record {
      normal = c.in_ok-put_in.ensures.normal c.self.inside.first c.self.inside.end c.self.invariant.normal (omega (arith, c.requires.after, first)) (omega (arith, c.requires.before, end));
      count = omega (arith, length-put_in _ _ _ c.in_ok-put_in.ensures.blocks, length-run c.args.run, c.self.invariant.count);
      range = c.self.invariant.range;
      fits = c.self.invariant.fits;
    }

pub returns-clause-ordered : goal.returns-clause-ordered
returns-clause-ordered c =
    let first = ap (λ v. v.first) c.self.view_is in
    let end = ap (λ v. v.end) c.self.view_is in
    normal-rising c.self.inside.first c.self.inside.end c.put_in.new.runs.items (c.in_ok-put_in.ensures.normal c.self.inside.first c.self.inside.end c.self.invariant.normal (omega (arith, c.requires.after, first)) (omega (arith, c.requires.before, end)))
