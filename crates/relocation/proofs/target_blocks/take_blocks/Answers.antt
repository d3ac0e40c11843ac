use Rattle.std.proofs.Common.{◌≡◌, ◌<◌, ◌⊎◌, length, take, subst}
use Rattle.std.specs.Prelude.{IfOk, IsErrOf, ◌↔◌}
use Rattle.block_alloc.specs.declared.error.AllocatorError.TheVariants.{NoBlock}
use Rattle.block_alloc.specs.Runs.{blocks_of}
use Rattle.inode_plan.specs.area_commit.Value.{data_pool}
use Rattle.relocation.proofs.Fresh.{taken_for}
use Rattle.relocation.proofs.target_blocks.take_blocks.Goals as goal

pub returns-clause-taken : goal.returns-clause-taken
returns-clause-taken c =
    let r = c.take_in.result in
    let old = c.args.pools.now in
    let f = c.args.file.now in
    let to = c.args.to in
    taken_for old c.take_in.new.self f to c.taken_blocks_were_free.ensures r (subst (λ n. IfOk r (λ taken. blocks_of taken.nodes.items ≡ take n old.nodes.free)) c.spare_count.ensures c.take_in.ensures.nodes)
    c.take_in.ensures.taken c.take_in.ensures.others c.take_in.ensures.fronts
    (subst (λ n. IsErrOf r NoBlock ↔ ((length old.nodes.free < n) ⊎ (length (data_pool old to).free < f.run.count))) c.spare_count.ensures c.take_in.ensures.few) c.free-free.ensures.ordered

pub returns-clause-few : goal.returns-clause-few
returns-clause-few c =
    let r = c.take_in.result in
    let old = c.args.pools.now in
    subst (λ n. IsErrOf r NoBlock ↔ ((length old.nodes.free < n) ⊎ (length (data_pool old c.args.to).free < c.args.file.now.run.count))) c.spare_count.ensures c.take_in.ensures.few
