use Rattle.std.proofs.Common.{◌+◌, ◌<◌, arith, ap, length, length-append, ◌∷◌}
use Rattle.block_alloc.proofs.Joins.{met, apart_normal, joined_same_blocks, joined_normal}
use Rattle.block_alloc.proofs.runs.join_next.Goals as goal

pub returns-then-run-follower-clause-normal : goal.returns-then-run-follower-clause-normal
returns-then-run-follower-clause-normal c low end seam =
    let room : c.args.place + 1 < length c.args.runs.now.items = omega (arith, ap length seam.parts, length-append seam.front (seam.run ∷ seam.rest), seam.place_is, c.if-next-len.false, c.len.ensures) in
    apart_normal low end c.args.place c.args.runs.now.items _ _ (met low end c.args.place c.args.runs.now.items c.index-run.result.now c.index-follower.result.now seam room c.index-run.ensures c.index-follower.ensures) c.if-run-follower.true

pub returns-clause-blocks : goal.returns-clause-blocks
returns-clause-blocks c =
    let room : c.args.place + 1 < length c.args.runs.now.items = omega (arith, ap length c.requires.parts, length-append c.requires.front (c.requires.run ∷ c.requires.rest), c.requires.place_is, c.if-next-len.false, c.len.ensures) in
    joined_same_blocks 0 4294967295 c.args.place c.args.runs.now.items c.remove.new.self.items c.index-run.result.now c.index-follower.result.now (met 0 4294967295 c.args.place c.args.runs.now.items c.index-run.result.now c.index-follower.result.now c.requires room c.index-run.ensures c.index-follower.ensures) c.if-run-follower.false c.remove.ensures.items

pub returns-clause-normal : goal.returns-clause-normal
returns-clause-normal c low end seam =
    let room : c.args.place + 1 < length c.args.runs.now.items = omega (arith, ap length seam.parts, length-append seam.front (seam.run ∷ seam.rest), seam.place_is, c.if-next-len.false, c.len.ensures) in
    joined_normal low end c.args.place c.args.runs.now.items c.remove.new.self.items c.index-run.result.now c.index-follower.result.now (met low end c.args.place c.args.runs.now.items c.index-run.result.now c.index-follower.result.now seam room c.index-run.ensures c.index-follower.ensures) c.if-run-follower.false c.remove.ensures.items
