use Rattle.std.proofs.Common.{Some}
use Rattle.area_commit.specs.graph_change.Change.{patch_at}
use Rattle.area_commit.specs.graph_change.View.{new_length, patches_of}
use Rattle.inode_plan.proofs.Adding.{put_is, made_of_put}
use Rattle.inode_plan.proofs.file_change.whole_block.Goals as goal

pub returns-in-Some-whole_bytes-clause-made : goal.returns-in-Some-whole_bytes-clause-made
returns-in-Some-whole_bytes-clause-made c old =
    let change = c.args.change.now in
    let k = c.args.number in
    made_of_put (new_length change.length) (patch_at (patches_of change.blocks) k) _ k (old k) c.in-Some-whole_bytes.bytes.now
    (put_is change.blocks k (Some c.in-Some.put.now) c.in-Some.ensures.value)
    (λ p lt. c.in-Some-whole_bytes.ensures.some.1 p lt)
