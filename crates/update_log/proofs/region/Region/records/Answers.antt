use Rattle.std.proofs.Common.{◌∙◌, ℕ, List, sym, ap, arith}
use Rattle.std.proofs.lemmas.List.{length-take}
use Rattle.tier_device.specs.declared.media.Tier.TheVariants.{Fast}
use Rattle.update_log.specs.Frames.{payloads_from, spelled_records}
use Rattle.update_log.specs.View.{RegionView, records_of}
use Rattle.update_log.proofs.Moves.{stands_of}
use Rattle.update_log.proofs.Reading.{payloads_behind_header}
use Rattle.update_log.proofs.Views.{sound_kept, same_left}
use Rattle.update_log.proofs.region.Region.records.Goals as goal

pub invariant_of-self : goal.invariant_of-self
invariant_of-self g c =
    let r = c.read_before_gate.ensures in
    (sound_kept _ _ _ _ _ _ _ (r.seen Fast) (same_left _ _ _ _ r.clock r.past) c.self.invariant.0, (λ said. c.self.invariant.1 said ∙ sym (r.seen Fast)))

pub invariant_of-self-2 : goal.invariant_of-self-2
invariant_of-self-2 g c =
    let r = c.read_before_gate.ensures in
    (sound_kept _ _ _ _ _ _ _ (r.seen Fast) (same_left _ _ _ _ r.clock r.past) c.self.invariant.0, (λ said. c.self.invariant.1 said ∙ sym (r.seen Fast)))

pub invariant_of-self-in_err-records_in : goal.invariant_of-self-in_err-records_in
invariant_of-self-in_err-records_in g c =
    let r = c.read_before_gate.ensures in
    (sound_kept _ _ _ _ _ _ _ (r.seen Fast) (same_left _ _ _ _ r.clock r.past) c.self.invariant.0, (λ said. c.self.invariant.1 said ∙ sym (r.seen Fast)))

pub read_before_gate-requires-clause-behind : goal.read_before_gate-requires-clause-behind
read_before_gate-requires-clause-behind g c =
    let m = g.M.Media in
    let s = c.self.inside in
    let seen = m.seen s.media Fast in
    omega (arith, (stands_of s.end s.stage s.body seen (λ d. m.left s.media (m.moment s.media) Fast d) c.self.invariant.0).long, length-take s.end seen)

pub returns-clause-found : goal.returns-clause-found
returns-clause-found g c =
    let m = g.M.Media in
    let s = c.self.inside in
    let seen = m.seen s.media Fast in
    let stands = stands_of s.end s.stage s.body seen (λ d. m.left s.media (m.moment s.media) Fast d) c.self.invariant.0 in
    c.in_ok-records_in.ensures ∙ ap (λ (l : List ℕ). spelled_records (payloads_from 0 l)) (c.deref.ensures.value ∙ c.in_ok-front.ensures.bytes)
    ∙ ap spelled_records (sym (payloads_behind_header s.end seen (omega (arith, stands.long, length-take s.end seen)) (omega (arith, c.self.invariant.0.size))))
    ∙ ap (λ (v : RegionView _). records_of m v) c.self.view_is
