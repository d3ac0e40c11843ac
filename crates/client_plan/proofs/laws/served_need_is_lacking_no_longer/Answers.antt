use Rattle.client_plan.proofs.Serving as serving
use Rattle.client_plan.proofs.laws.served_need_is_lacking_no_longer.Goals as goal

pub returns : goal.returns
returns c = record {
  lacks = serving.lacking;
  unpin = serving.unpinned_once;
  lease = serving.leased_once;
  view = serving.viewed_once;
  blocks = serving.read_once;
  inodes = serving.numbered_once;
  units = serving.paid_once;
  pin = serving.pinned_once;
}
