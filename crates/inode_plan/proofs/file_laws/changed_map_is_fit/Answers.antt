use Rattle.inode_plan.proofs.After.{keeps_or_takes, after_once, after_below, after_apart, after_within}
use Rattle.inode_plan.proofs.file_laws.changed_map_is_fit.Goals as goal

pub returns : goal.returns
returns c = record {
  uses = λ change numbers places old new are after. keeps_or_takes change numbers places old new are after;
  once = λ change numbers places old new are after. after_once change numbers places old new are after;
  below = λ change numbers places old new size are after. after_below change numbers places old new are after size;
  apart = λ change numbers places old new are after fresh. after_apart change numbers places old new are after fresh;
  within = λ g change numbers places old new are after. after_within change numbers places old new are after g;
}
