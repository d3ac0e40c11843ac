use Rattle.std.proofs.Common.{◌∙◌, ◌<◌, arith, ap, sym, subst, take, length, vec_len}
use Rattle.block_alloc.specs.Runs.{blocks_of, AreNormalRuns}
use Rattle.block_alloc.proofs.Blocks.{rest_whole, normal-drop, trimmed_blocks, trimmed_normal, nothing_dropped, inside}
use Rattle.block_alloc.proofs.runs.drop_front.Goals as goal

pub returns-then-split-eq0-clause-blocks : goal.returns-then-split-eq0-clause-blocks
returns-then-split-eq0-clause-blocks c =
    ap blocks_of c.remove_front.ensures.items ∙ rest_whole c.args.runs.now.items c.args.split.whole
    ∙ nothing_dropped (blocks_of c.args.runs.now.items) (length (blocks_of (take c.args.split.whole c.args.runs.now.items))) c.args.split.left c.if-split-eq0.true

pub returns-then-split-eq0-clause-normal : goal.returns-then-split-eq0-clause-normal
returns-then-split-eq0-clause-normal c low end normal = subst (AreNormalRuns low end) (sym c.remove_front.ensures.items) (normal-drop low end c.args.split.whole c.args.runs.now.items normal)

pub returns-clause-blocks : goal.returns-clause-blocks
returns-clause-blocks c =
    let next = c.index-next.result.now in
    let below : c.args.split.whole < vec_len c.args.runs.now = inside (vec_len c.args.runs.now) c.args.split.whole c.args.split.left c.requires.none c.if-split-eq0.false in
    let within : c.args.split.whole < length c.args.runs.now.items = omega (arith, below) in
    let part : c.args.split.left < next.count = subst (λ r. c.args.split.left < r.count) (sym c.index-next.ensures) (c.requires.part next below) in
    trimmed_blocks c.args.runs.now.items c.remove_front-2.new.runs.items c.args.split.whole c.args.split.left next within c.index-next.ensures (omega (arith, part)) c.remove_front-2.ensures.items

pub returns-clause-normal : goal.returns-clause-normal
returns-clause-normal c low end normal =
    let next = c.index-next.result.now in
    let below : c.args.split.whole < vec_len c.args.runs.now = inside (vec_len c.args.runs.now) c.args.split.whole c.args.split.left c.requires.none c.if-split-eq0.false in
    let within : c.args.split.whole < length c.args.runs.now.items = omega (arith, below) in
    let part : c.args.split.left < next.count = subst (λ r. c.args.split.left < r.count) (sym c.index-next.ensures) (c.requires.part next below) in
    trimmed_normal c.args.runs.now.items c.remove_front-2.new.runs.items c.args.split.whole c.args.split.left low end next within c.index-next.ensures part c.remove_front-2.ensures.items normal
