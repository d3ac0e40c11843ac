use Rattle.std.proofs.Common.{ap}
use Rattle.area_reader.specs.Store.{content_blocks}
use Rattle.area_reader.proofs.Torn.{loose_over}
use Rattle.area_reader.proofs.change_laws.batch_leaves_the_other_tiers.Goals as goal

pub returns : goal.returns
returns c = record {
  store = λ t old new same. ap (content_blocks t) same;
  loose = loose_over;
  fenced = λ g seen t d same. λ k taken. ap (λ bytes. content_blocks t bytes k) same;
}
