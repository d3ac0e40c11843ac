use Rattle.inode_plan.proofs.PlacesFit.{placed_once, placed_below, placed_apart, placed_within, elsewhere_within}
use Rattle.inode_plan.proofs.place_laws.placed_blocks_are_fit.Goals as goal

pub returns : goal.returns
returns c = record {
  once = λ first tier places old new placed. placed_once first tier places old new placed;
  below = λ n first tier places old new placed. placed_below first tier places old new placed n;
  apart = λ low end first tier places old new placed. placed_apart first tier places old new placed low end;
  within = λ g space first tier places old new placed. placed_within first tier places old new placed g space;
  others = λ g space first tier t places old new placed. elsewhere_within first tier places old new placed g space t;
}
