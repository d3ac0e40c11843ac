use Rattle.std.proofs.Common.{◌≡◌, ◌≢◌, List, [], ℕ, subst}
use Rattle.tier_device.specs.declared.media.Tier.TheVariants.{Fast}
use Rattle.update_log.specs.Stage.{IsIdle, IsUnopened}
use Rattle.update_log.specs.Frames.{records, header, end_behind}
use Rattle.update_log.specs.View.{RegionView, WithOrWithout, header_of, records_of, begun_of}
use Rattle.update_log.proofs.Ends.{sound_ends}
use Rattle.update_log.specs.Wipe.{IsWiping}
use Rattle.update_log.specs.WipeStops.{LeftInWipe, records_behind_gate}
use Rattle.update_log.proofs.Views.{idle_now, either_now, unopened_now}
use Rattle.update_log.proofs.WipeViews.{wiping_shows, behind_records}
use Rattle.update_log.proofs.region.Region.left_now.Goals as goal

pub returns-clause-either : goal.returns-clause-either
returns-clause-either g c =
    let m = g.M.Media in
    let s = c.self.inside in
    subst (λ (v : RegionView _). (IsWiping v.stage → ⊥) → (d : List ℕ) → m.left v.media (m.moment v.media) Fast d → WithOrWithout (header_of m v) (records_of m v) (begun_of v) d)
    c.self.view_is (either_now s.end s.stage s.body (m.seen s.media Fast) (λ d. m.left s.media (m.moment s.media) Fast d) c.self.invariant.0)

pub returns-clause-idle : goal.returns-clause-idle
returns-clause-idle g c =
    let m = g.M.Media in
    let s = c.self.inside in
    subst (λ (v : RegionView _). IsIdle v.stage → (d : List ℕ) → m.left v.media (m.moment v.media) Fast d → (d ≡ m.seen v.media Fast) × (records d ≡ records_of m v))
    c.self.view_is (idle_now s.end s.stage s.body (m.seen s.media Fast) (λ d. m.left s.media (m.moment s.media) Fast d) c.self.invariant.0)

pub returns-clause-unopened : goal.returns-clause-unopened
returns-clause-unopened g c =
    let m = g.M.Media in
    let s = c.self.inside in
    subst (λ (v : RegionView _). IsUnopened v.stage → (d : List ℕ) → m.left v.media (m.moment v.media) Fast d → (header d ≡ header_of m v) × (records d ≡ records_of m v))
    c.self.view_is (unopened_now s.end s.stage s.body (m.seen s.media Fast) (λ d. m.left s.media (m.moment s.media) Fast d) c.self.invariant.0)

pub returns-clause-end : goal.returns-clause-end
returns-clause-end g c =
    let m = g.M.Media in
    let s = c.self.inside in
    subst (λ (v : RegionView _). v.end ≡ end_behind (records_of m v))
    c.self.view_is (sound_ends c.records_are_as_long.ensures s.end s.stage s.body (m.seen s.media Fast) (λ d. m.left s.media (m.moment s.media) Fast d) c.self.invariant.0)

pub returns-clause-wiping : goal.returns-clause-wiping
returns-clause-wiping g c =
    let m = g.M.Media in
    let s = c.self.inside in
    subst (λ (v : RegionView _). IsWiping v.stage → (d : List ℕ) → m.left v.media (m.moment v.media) Fast d → LeftInWipe (header_of m v) (records_behind_gate (m.seen v.media Fast)) d)
    c.self.view_is (wiping_shows s.end s.stage s.body (m.seen s.media Fast) (λ d. m.left s.media (m.moment s.media) Fast d) c.self.invariant.0)

pub returns-clause-behind : goal.returns-clause-behind
returns-clause-behind g c =
    let m = g.M.Media in
    let s = c.self.inside in
    subst (λ (v : RegionView _). IsIdle v.stage → records_of m v ≢ [] → records_behind_gate (m.seen v.media Fast) ≡ records_of m v)
    c.self.view_is (behind_records s.end s.stage s.body (m.seen s.media Fast) (λ d. m.left s.media (m.moment s.media) Fast d) (g.met.M.Media.seen_now s.media Fast) c.self.invariant.0)
