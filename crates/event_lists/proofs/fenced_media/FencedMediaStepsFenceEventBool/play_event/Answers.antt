use Rattle.std.proofs.Common.{sym, subst}
use Rattle.event_lists.specs.FencedMedia.{clock_of, moves_of}
use Rattle.event_lists.proofs.FencedStops.{region_moves, region_past, shared_moves, shared_past}
use Rattle.event_lists.proofs.fenced_media.FencedMediaStepsFenceEventBool.play_event.Goals as goal

pub returns-in-Shared-clause-one_part : goal.returns-in-Shared-clause-one_part
returns-in-Shared-clause-one_part g c =
    record { part = 0; only = shared_moves g.M.Media.moment g.M.Media.left c.args.self.now.shared c.fence.new.self c.args.self.now.region c.fence.ensures.past }

pub returns-in-Shared-clause-in_pace : goal.returns-in-Shared-clause-in_pace
returns-in-Shared-clause-in_pace g c =
    subst (λ e. moves_of e (clock_of g.M.Media.moment c.args.self.now.shared c.args.self.now.region) (clock_of g.M.Media.moment c.fence.new.self c.args.self.now.region)) (sym c.in-Shared.is)
    (shared_moves g.M.Media.moment g.M.Media.left c.args.self.now.shared c.fence.new.self c.args.self.now.region c.fence.ensures.past)

pub returns-in-Shared-clause-past : goal.returns-in-Shared-clause-past
returns-in-Shared-clause-past g c = shared_past g.M.Media.moment g.M.Media.left c.args.self.now.shared c.fence.new.self c.args.self.now.region c.fence.ensures.past

pub returns-in-Region-clause-one_part : goal.returns-in-Region-clause-one_part
returns-in-Region-clause-one_part g c =
    record { part = 1; only = region_moves g.M.Media.moment g.M.Media.left c.args.self.now.shared c.args.self.now.region c.fence-in-Region.new.self c.fence-in-Region.ensures.past }

pub returns-in-Region-clause-in_pace : goal.returns-in-Region-clause-in_pace
returns-in-Region-clause-in_pace g c =
    subst (λ e. moves_of e (clock_of g.M.Media.moment c.args.self.now.shared c.args.self.now.region) (clock_of g.M.Media.moment c.args.self.now.shared c.fence-in-Region.new.self)) (sym c.in-Region.is)
    (region_moves g.M.Media.moment g.M.Media.left c.args.self.now.shared c.args.self.now.region c.fence-in-Region.new.self c.fence-in-Region.ensures.past)

pub returns-in-Region-clause-past : goal.returns-in-Region-clause-past
returns-in-Region-clause-past g c = region_past g.M.Media.moment g.M.Media.left c.args.self.now.shared c.args.self.now.region c.fence-in-Region.new.self c.fence-in-Region.ensures.past
