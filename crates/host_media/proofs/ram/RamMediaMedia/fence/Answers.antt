use Rattle.std.proofs.Common.{sym, ◌∙◌}
use Rattle.tier_device.specs.DeviceCall.{Fence}
use Rattle.host_media.specs.Ram.{ram_seen}
use Rattle.host_media.proofs.Grow.{past_kept, fence_shows, fence_leaves, fence_settles}
use Rattle.host_media.proofs.ram.RamMediaMedia.fence.Goals as goal

pub invariant_of-self : goal.invariant_of-self
invariant_of-self c =
    let m = c.args.self.now in
    record { shows = λ t. m.shows t ∙ sym (fence_shows m.past.history c.then-self.result.history c.args.tier c.then-self.ensures t) }

pub returns-clause-past : goal.returns-clause-past
returns-clause-past c = past_kept c.args.self.now.past.history c.then-self.result.history (Fence c.args.tier) c.then-self.ensures

pub returns-clause-left : goal.returns-clause-left
returns-clause-left c = fence_leaves c.args.self.now.past.history c.then-self.result.history c.args.tier c.then-self.ensures

pub returns-clause-settled : goal.returns-clause-settled
returns-clause-settled c =
    let m = c.args.self.now in
    fence_settles m.past.history c.then-self.result.history c.args.tier c.then-self.ensures (ram_seen m) (m.shows c.args.tier)
