use Rattle.std.proofs.Common.{◌≡◌, ◌∙◌, List, ℕ, take, get_or, sym, ap, subst, arith}
use Rattle.std.proofs.lemmas.Bool.{false≢true, ltb-true}
use Rattle.std.proofs.lemmas.List.{take-take}
use Rattle.tier_device.specs.declared.media.Tier.TheVariants.{Fast}
use Rattle.tier_device.specs.StopsSince.{LeftSince}
use Rattle.update_log.specs.Frames.{header}
use Rattle.update_log.specs.View.{RegionView, header_of}
use Rattle.update_log.specs.Wipe.{CanWipe, LeftInCall, wipe_next, header_wiped}
use Rattle.update_log.specs.WipeStops.{records_behind_gate}
use Rattle.update_log.proofs.Moves.{stands_of}
use Rattle.update_log.proofs.Views.{header_front}
use Rattle.update_log.proofs.WipeViews.{first_is_open, may_wipe, wiped_fits, none_before}
use Rattle.update_log.proofs.region.Region.wipe_step.Goals as goal

pub wipe_call-requires-clause-may : goal.wipe_call-requires-clause-may
wipe_call-requires-clause-may g c =
    let m = g.M.Media in
    let s = c.self.inside in
    may_wipe s.end s.stage s.body (m.seen s.media Fast) (λ d. m.left s.media (m.moment s.media) Fast d) c.self.invariant.0 (subst (λ (v : RegionView _). CanWipe v.stage) (sym c.self.view_is) c.requires)

pub wipe_call-requires-clause-open : goal.wipe_call-requires-clause-open
wipe_call-requires-clause-open g c = λ behind idle.
    let m = g.M.Media in
    let s = c.self.inside in
    first_is_open s.end s.stage s.body (m.seen s.media Fast) (λ d. m.left s.media (m.moment s.media) Fast d) c.self.invariant.0 idle (ltb-true 16 s.end behind)

pub invariant_of-self : goal.invariant_of-self
invariant_of-self g c =
    let m = g.M.Media in
    let w = c.wipe_call.ensures in
    let media = c.wipe_call.new.media in
    (wiped_fits c.in-Ok.to c.self.inside.body (m.seen media Fast) (λ d. m.left media (m.moment media) Fast d) w.size c.in-Ok.ensures.done, (λ said. absurd (false≢true said)))

pub invariant_of-self-in-Err : goal.invariant_of-self-in-Err
invariant_of-self-in-Err g c =
    let w = c.wipe_call.ensures in
    (record { size = w.size; within = omega arith; at_stage = c.in-Err.ensures.failed; record_begun = tt }, (λ said. absurd (false≢true said)))

pub returns-in-Ok-clause-any_moment : goal.returns-in-Ok-clause-any_moment
returns-in-Ok-clause-any_moment g c =
    let m = g.M.Media in
    let s = c.self.inside in
    let seen = m.seen s.media Fast in
    let new = c.wipe_call.new.media in
    let same = header_front s.end seen (stands_of s.end s.stage s.body seen (λ d. m.left s.media (m.moment s.media) Fast d) c.self.invariant.0) in
    subst (λ (v : RegionView _). (e : List ℕ) → LeftSince (m.left new) (m.moment new) (m.moment v.media) Fast e → LeftInCall (wipe_next v.stage (get_or (m.seen v.media Fast) 16 0)) (header_of m v) (records_behind_gate (m.seen v.media Fast)) e)
    c.self.view_is (λ e l. subst (λ (h : List ℕ). LeftInCall (wipe_next s.stage (get_or seen 16 0)) h (records_behind_gate seen) e) (sym same) (c.wipe_call.ensures.any_moment e l))

pub returns-in-Err-clause-any_moment : goal.returns-in-Err-clause-any_moment
returns-in-Err-clause-any_moment g c =
    let m = g.M.Media in
    let s = c.self.inside in
    let seen = m.seen s.media Fast in
    let new = c.wipe_call.new.media in
    let same = header_front s.end seen (stands_of s.end s.stage s.body seen (λ d. m.left s.media (m.moment s.media) Fast d) c.self.invariant.0) in
    subst (λ (v : RegionView _). (e : List ℕ) → LeftSince (m.left new) (m.moment new) (m.moment v.media) Fast e → LeftInCall (wipe_next v.stage (get_or (m.seen v.media Fast) 16 0)) (header_of m v) (records_behind_gate (m.seen v.media Fast)) e)
    c.self.view_is (λ e l. subst (λ (h : List ℕ). LeftInCall (wipe_next s.stage (get_or seen 16 0)) h (records_behind_gate seen) e) (sym same) (c.wipe_call.ensures.any_moment e l))

pub returns-in-Ok-clause-header : goal.returns-in-Ok-clause-header
returns-in-Ok-clause-header g c =
    let m = g.M.Media in
    let s = c.self.inside in
    let seen = m.seen s.media Fast in
    let seen' = m.seen c.wipe_call.new.media Fast in
    let same = header_front s.end seen (stands_of s.end s.stage s.body seen (λ d. m.left s.media (m.moment s.media) Fast d) c.self.invariant.0) in
    subst (λ (v : RegionView _). header (take 16 seen') ≡ header_wiped c.in-Ok.to c.args.generation (header_of m v)) c.self.view_is
    (take-take 16 16 seen' (omega arith) ∙ c.in-Ok.ensures.header ∙ ap (header_wiped c.in-Ok.to c.args.generation) (sym same))

pub returns-in-Ok-clause-none : goal.returns-in-Ok-clause-none
returns-in-Ok-clause-none g c =
    let m = g.M.Media in
    none_before (m.seen c.wipe_call.new.media Fast) c.wipe_call.ensures.size
