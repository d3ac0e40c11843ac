use Rattle.tier_device.specs.DeviceCall.{Fence}
use Rattle.host_media.specs.File.{file_seen}
use Rattle.host_media.proofs.Grow.{past_kept, fence_leaves, fence_settles}
use Rattle.host_media.proofs.file.FileMediaMedia.fence.Goals as goal

pub returns-in-Ok-clause-past : goal.returns-in-Ok-clause-past
returns-in-Ok-clause-past c = past_kept c.args.self.now.inner.past.history c.fence.new.self.past.history (Fence c.args.tier) c.in-Ok.ensures.fenced

pub returns-in-Ok-clause-left : goal.returns-in-Ok-clause-left
returns-in-Ok-clause-left c = fence_leaves c.args.self.now.inner.past.history c.fence.new.self.past.history c.args.tier c.in-Ok.ensures.fenced

pub returns-in-Ok-clause-settled : goal.returns-in-Ok-clause-settled
returns-in-Ok-clause-settled c =
    let m = c.args.self.now in
    fence_settles m.inner.past.history c.fence.new.self.past.history c.args.tier c.in-Ok.ensures.fenced (file_seen m) (m.inner.shows c.args.tier)
