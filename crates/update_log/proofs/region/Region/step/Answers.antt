use Rattle.std.proofs.Common.{◌≡◌, ◌≢◌, ◌∙◌, List, ℕ, ◌∷◌, [], ◌++◌, take, sym, ap, subst}
use Rattle.tier_device.specs.declared.media.Tier.TheVariants.{Fast}
use Rattle.tier_device.specs.Media.{Puts}
use Rattle.tier_device.specs.StopsSince.{LeftSince}
use Rattle.update_log.specs.declared.stage.Stage.TheVariants as stages
use Rattle.update_log.specs.Frames.{before_gate, spelled_records, with_record, behind_gate}
use Rattle.update_log.specs.Stage.{IsAppending, next, payload_in, BeforeOrAfter}
use Rattle.update_log.specs.Calls.{payloads_after, end_after, seen_after, ShowsCall}
use Rattle.update_log.specs.View.{RegionView, begun_in, WithOrWithout, header_of, records_of, begun_of}
use Rattle.update_log.proofs.Views.{whole_at, since_one, shows_either, begun_appending, next_resting, next_going, spelled_more}
use Rattle.update_log.proofs.region.Region.step.Goals as goal

pub returns-in-Ok-clause-any_moment : goal.returns-in-Ok-clause-any_moment
returns-in-Ok-clause-any_moment g c =
    let m = g.M.Media in
    let s = c.self.inside in
    let d = c.device_call.ensures in
    let seen = m.seen s.media Fast in
    let left : List ℕ → Type 0 = λ e. m.left s.media (m.moment s.media) Fast e in
    let appending = subst (λ (v : RegionView _). IsAppending v.stage) (sym c.self.view_is) c.requires in
    let shows = λ (e : List ℕ) (b : BeforeOrAfter (take s.end seen) (payload_in c.as_slice.result.now) e).
    shows_either s.end s.stage s.body seen left c.self.invariant.0 (begun_appending s.stage (payload_in s.body) appending) e (subst (λ (bs : List ℕ). BeforeOrAfter (take s.end seen) (payload_in bs) e) c.as_slice.ensures b) in
    subst (λ (v : RegionView _). (e : List ℕ) → LeftSince (m.left c.device_call.new.media) (m.moment c.device_call.new.media) (m.moment v.media) Fast e → WithOrWithout (header_of m v) (records_of m v) (begun_of v) e)
    c.self.view_is (since_one _ _ _ _ _ d.past (λ e l. shows e (d.before e l)) (λ e l. shows e (d.after e l)))

pub returns-in-Err-clause-any_moment : goal.returns-in-Err-clause-any_moment
returns-in-Err-clause-any_moment g c =
    let m = g.M.Media in
    let s = c.self.inside in
    let d = c.device_call.ensures in
    let seen = m.seen s.media Fast in
    let left : List ℕ → Type 0 = λ e. m.left s.media (m.moment s.media) Fast e in
    let appending = subst (λ (v : RegionView _). IsAppending v.stage) (sym c.self.view_is) c.requires in
    let shows = λ (e : List ℕ) (b : BeforeOrAfter (take s.end seen) (payload_in c.as_slice.result.now) e).
    shows_either s.end s.stage s.body seen left c.self.invariant.0 (begun_appending s.stage (payload_in s.body) appending) e (subst (λ (bs : List ℕ). BeforeOrAfter (take s.end seen) (payload_in bs) e) c.as_slice.ensures b) in
    subst (λ (v : RegionView _). (e : List ℕ) → LeftSince (m.left c.device_call.new.media) (m.moment c.device_call.new.media) (m.moment v.media) Fast e → WithOrWithout (header_of m v) (records_of m v) (begun_of v) e)
    c.self.view_is (since_one _ _ _ _ _ d.past (λ e l. shows e (d.before e l)) (λ e l. shows e (d.after e l)))

pub returns-in-Ok-clause-appended : goal.returns-in-Ok-clause-appended
returns-in-Ok-clause-appended g c done =
    let m = g.M.Media in
    let s = c.self.inside in
    let seen = m.seen s.media Fast in
    let seen' = m.seen c.device_call.new.media Fast in
    let payload = payload_in s.body in
    let ps = before_gate (take s.end seen) in
    let appending = subst (λ (v : RegionView _). IsAppending v.stage) (sym c.self.view_is) c.requires in
    let last : s.stage ≡ stages.Opened = next_resting s.stage appending (sym c.next-self-inside.ensures ∙ done) in
    let moved = c.in-Ok.ensures.done in
    let same = c.as_slice.ensures in
    let again = c.as_slice-in-Ok.ensures in
    let at_end : c.end_after-self-inside.result ≡ end_after s.stage s.end c.as_slice.result.now =
    c.end_after-self-inside.ensures ∙ ap (λ (b : List ℕ). end_after s.stage s.end b) (again ∙ sym same) in
    let more : payloads_after s.stage ps (payload_in c.as_slice.result.now) ≡ ps ++ payload ∷ [] =
    (λ k. payloads_after (last k) ps (payload_in (same k))) in
    let all : spelled_records (before_gate (take c.end_after-self-inside.result seen')) ≡ with_record (spelled_records ps) (begun_of (record { media = s.media; end = s.end; stage = s.stage; begun = begun_in s.stage payload })) =
    ap (λ n. spelled_records (before_gate (take n seen'))) at_end ∙ ap spelled_records (moved.payloads_are ∙ more) ∙ spelled_more ps payload ∙ ap (with_record (spelled_records ps)) (sym (begun_appending s.stage payload appending)) in
    subst (λ (v : RegionView _). spelled_records (before_gate (take c.end_after-self-inside.result seen')) ≡ with_record (records_of m v) (begun_of v)) c.self.view_is all

pub returns-in-Ok-clause-seen : goal.returns-in-Ok-clause-seen
returns-in-Ok-clause-seen g c =
    let m = g.M.Media in
    let s = c.self.inside in
    let old = m.seen s.media in
    let new = m.seen c.device_call.new.media in
    let payload = payload_in s.body in
    let appending = subst (λ (v : RegionView _). IsAppending v.stage) (sym c.self.view_is) c.requires in
    let whole = whole_at s.stage s.end s.body appending c.self.invariant.0.record_begun in
    let shows : Puts Fast (seen_after s.stage s.end (behind_gate payload) (old Fast)) old new =
    subst (λ (bs : List ℕ). Puts Fast (seen_after s.stage s.end bs (old Fast)) old new) (c.as_slice.ensures ∙ whole.bytes) c.in-Ok.ensures.seen in
    subst (λ (v : RegionView _). ShowsCall v.stage v.end (begun_of v) (m.seen v.media) new) c.self.view_is (record { payload = payload; spells = sym (begun_appending s.stage payload appending); shows = shows })

pub returns-in-Ok-clause-going : goal.returns-in-Ok-clause-going
returns-in-Ok-clause-going g c apart =
    let m = g.M.Media in
    let s = c.self.inside in
    let seen = m.seen s.media Fast in
    let seen' = m.seen c.device_call.new.media Fast in
    let payload = payload_in s.body in
    let ps = before_gate (take s.end seen) in
    let appending = subst (λ (v : RegionView _). IsAppending v.stage) (sym c.self.view_is) c.requires in
    let still : next s.stage ≢ stages.Resting = λ e. apart (c.next-self-inside.ensures ∙ e) in
    let at_end : c.end_after-self-inside.result ≡ end_after s.stage s.end c.as_slice.result.now =
    c.end_after-self-inside.ensures ∙ ap (λ (b : List ℕ). end_after s.stage s.end b) (c.as_slice-in-Ok.ensures ∙ sym c.as_slice.ensures) in
    let same : spelled_records (before_gate (take c.end_after-self-inside.result seen')) ≡ spelled_records ps =
    ap (λ n. spelled_records (before_gate (take n seen'))) at_end ∙ ap spelled_records (c.in-Ok.ensures.done.payloads_are ∙ (next_going s.stage appending still ps (payload_in c.as_slice.result.now)).0) in
    let begun : begun_in c.next-self-inside.result payload ≡ begun_in s.stage payload =
    ap (λ st. begun_in st payload) c.next-self-inside.ensures ∙ (next_going s.stage appending still ps payload).1 in
    subst (λ (v : RegionView _). (spelled_records (before_gate (take c.end_after-self-inside.result seen')) ≡ records_of m v) × (begun_in c.next-self-inside.result payload ≡ begun_of v)) c.self.view_is (same, begun)
