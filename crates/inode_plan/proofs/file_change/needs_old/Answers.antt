use Rattle.std.proofs.Common.{◌≡◌, true, not, option_map, subst}
use Rattle.std.proofs.lemmas.Bool.{false≢true}
use Rattle.area_commit.specs.graph_change.Change.{IsWhole}
use Rattle.area_commit.specs.tree_blocks.FileBlock.{put_in}
use Rattle.inode_plan.proofs.file_change.needs_old.Goals as goal

pub returns-in-Some-clause-part : goal.returns-in-Some-clause-part
returns-in-Some-clause-part c = λ is whole.
    let held = subst (λ put. IsWhole (put_in (option_map (λ b. b.now) put))) c.in-Some.is whole in
    false≢true (subst (λ b. not b ≡ true) (c.is_whole.ensures.1 held) is)
