use Rattle.std.proofs.Common.{◌+◌, ◌<◌, ◌≤◌, arith, sym, subst, length}
use Rattle.block_alloc.specs.Runs.{blocks_of, run_blocks, PutIn}
use Rattle.block_alloc.proofs.Joins.{touches, grown_blocks, grown_seam}
use Rattle.block_alloc.proofs.runs.grow.Goals as goal

pub overflow_add-before : goal.overflow_add-before
overflow_add-before c =
    let before = c.index-before.result.now in
    let below : c.args.place < length c.args.runs.now.items = omega (arith, c.requires.within) in
    let starts : before.first < c.args.run.first = subst (λ r. r.first < c.args.run.first) (sym c.index-before.ensures) (c.requires.before before) in
    let ends : c.args.run.first ≤ before.first + before.count = subst (λ r. c.args.run.first ≤ r.first + r.count) (sym c.index-before.ensures) (c.requires.reaches before) in
    let touch = touches 0 4294967295 c.args.runs.now.items c.args.place c.args.run before below c.index-before.ensures c.requires.some c.requires.normal c.requires.apart starts ends in
    omega (arith, touch, c.requires.fits)

pub join_next-requires : goal.join_next-requires
join_next-requires c =
    let before = c.index-before.result.now in
    let below : c.args.place < length c.args.runs.now.items = omega (arith, c.requires.within) in
    let starts : before.first < c.args.run.first = subst (λ r. r.first < c.args.run.first) (sym c.index-before.ensures) (c.requires.before before) in
    let ends : c.args.run.first ≤ before.first + before.count = subst (λ r. c.args.run.first ≤ r.first + r.count) (sym c.index-before.ensures) (c.requires.reaches before) in
    let touch = touches 0 4294967295 c.args.runs.now.items c.args.place c.args.run before below c.index-before.ensures c.requires.some c.requires.normal c.requires.apart starts ends in
    grown_seam 0 4294967295 c.args.runs.now.items c.args.place c.args.run before below c.index-before.ensures c.requires.some (omega (arith, c.requires.fits)) c.requires.normal c.requires.apart touch

pub returns-clause-blocks : goal.returns-clause-blocks
returns-clause-blocks c =
    let before = c.index-before.result.now in
    let below : c.args.place < length c.args.runs.now.items = omega (arith, c.requires.within) in
    let starts : before.first < c.args.run.first = subst (λ r. r.first < c.args.run.first) (sym c.index-before.ensures) (c.requires.before before) in
    let ends : c.args.run.first ≤ before.first + before.count = subst (λ r. c.args.run.first ≤ r.first + r.count) (sym c.index-before.ensures) (c.requires.reaches before) in
    let touch = touches 0 4294967295 c.args.runs.now.items c.args.place c.args.run before below c.index-before.ensures c.requires.some c.requires.normal c.requires.apart starts ends in
    subst (PutIn (blocks_of c.args.runs.now.items) (run_blocks c.args.run)) (sym c.join_next.ensures.blocks) (grown_blocks c.args.runs.now.items c.args.place c.args.run before below c.index-before.ensures touch)

pub returns-clause-normal : goal.returns-clause-normal
returns-clause-normal c low end normal above fits =
    let before = c.index-before.result.now in
    let below : c.args.place < length c.args.runs.now.items = omega (arith, c.requires.within) in
    let starts : before.first < c.args.run.first = subst (λ r. r.first < c.args.run.first) (sym c.index-before.ensures) (c.requires.before before) in
    let ends : c.args.run.first ≤ before.first + before.count = subst (λ r. c.args.run.first ≤ r.first + r.count) (sym c.index-before.ensures) (c.requires.reaches before) in
    let touch = touches 0 4294967295 c.args.runs.now.items c.args.place c.args.run before below c.index-before.ensures c.requires.some c.requires.normal c.requires.apart starts ends in
    c.join_next.ensures.normal low end (grown_seam low end c.args.runs.now.items c.args.place c.args.run before below c.index-before.ensures c.requires.some fits normal c.requires.apart touch)
