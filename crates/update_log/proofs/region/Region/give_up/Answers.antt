use Rattle.std.proofs.Common.{ℕ, List, take, sym, subst}
use Rattle.tier_device.specs.declared.media.Tier.TheVariants.{Fast}
use Rattle.tier_device.specs.StopsSince.{LeftSince}
use Rattle.update_log.specs.Stage.{IsUnopened, payload_in, BeforeOrAfter}
use Rattle.update_log.specs.View.{RegionView, WithOrWithout, header_of, records_of, begun_of}
use Rattle.update_log.proofs.Moves.{unopened_appends}
use Rattle.update_log.proofs.Views.{since_one, shows_either, begun_appending}
use Rattle.update_log.proofs.region.Region.give_up.Goals as goal

pub returns-in-Ok-clause-any_moment : goal.returns-in-Ok-clause-any_moment
returns-in-Ok-clause-any_moment g c =
    let m = g.M.Media in
    let s = c.self.inside in
    let d = c.fence_closed.ensures in
    let seen = m.seen s.media Fast in
    let left : List ℕ → Type 0 = λ e. m.left s.media (m.moment s.media) Fast e in
    let closed = subst (λ (v : RegionView _). IsUnopened v.stage) (sym c.self.view_is) c.requires in
    let shows = λ (e : List ℕ) (b : BeforeOrAfter (take s.end seen) (payload_in c.as_slice.result.now) e).
    shows_either s.end s.stage s.body seen left c.self.invariant.0 (begun_appending s.stage (payload_in s.body) (unopened_appends s.stage closed)) e (subst (λ (bs : List ℕ). BeforeOrAfter (take s.end seen) (payload_in bs) e) c.as_slice.ensures b) in
    subst (λ (v : RegionView _). (e : List ℕ) → LeftSince (m.left c.fence_closed.new.media) (m.moment c.fence_closed.new.media) (m.moment v.media) Fast e → WithOrWithout (header_of m v) (records_of m v) (begun_of v) e)
    c.self.view_is (since_one _ _ _ _ _ d.past (λ e l. shows e (d.before e l)) (λ e l. shows e (d.after e l)))

pub returns-in-Err-clause-any_moment : goal.returns-in-Err-clause-any_moment
returns-in-Err-clause-any_moment g c =
    let m = g.M.Media in
    let s = c.self.inside in
    let d = c.fence_closed.ensures in
    let seen = m.seen s.media Fast in
    let left : List ℕ → Type 0 = λ e. m.left s.media (m.moment s.media) Fast e in
    let closed = subst (λ (v : RegionView _). IsUnopened v.stage) (sym c.self.view_is) c.requires in
    let shows = λ (e : List ℕ) (b : BeforeOrAfter (take s.end seen) (payload_in c.as_slice.result.now) e).
    shows_either s.end s.stage s.body seen left c.self.invariant.0 (begun_appending s.stage (payload_in s.body) (unopened_appends s.stage closed)) e (subst (λ (bs : List ℕ). BeforeOrAfter (take s.end seen) (payload_in bs) e) c.as_slice.ensures b) in
    subst (λ (v : RegionView _). (e : List ℕ) → LeftSince (m.left c.fence_closed.new.media) (m.moment c.fence_closed.new.media) (m.moment v.media) Fast e → WithOrWithout (header_of m v) (records_of m v) (begun_of v) e)
    c.self.view_is (since_one _ _ _ _ _ d.past (λ e l. shows e (d.before e l)) (λ e l. shows e (d.after e l)))
