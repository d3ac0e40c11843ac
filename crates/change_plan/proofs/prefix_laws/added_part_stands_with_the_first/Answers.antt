use Rattle.block_alloc.proofs.Blocks.{normal-rising}
use Rattle.change_plan.proofs.Firsts.{none_first, first_and_one, first_are_all}
use Rattle.change_plan.proofs.prefix_laws.added_part_stands_with_the_first.Goals as goal

pub returns : goal.returns
returns c = record {
  none = none_first;
  added = λ g s cs touch i used count places left old_taken new_taken old new spelled number below took all first adds. first_and_one g s cs touch i used count places old_taken new_taken old new spelled number below
      (c.taken_blocks_were_free.ensures g s took.before left new_taken took.ranges took.free took.took) took.before.nodes.first took.before.nodes.end (normal-rising took.before.nodes.first took.before.nodes.end new_taken.nodes.items took.took.nodes.apart) all first adds;
  all = λ g s cs touch used places taken plan many all first. (first.x, first.m, first_are_all g s cs touch places taken plan used many all first);
}
