-- From what holds of a region that is wiped to what its callers see.
use Rattle.std.proofs.Common.{◌≡◌, ◌≢◌, inl, inr, ℕ, ◌≤◌, ◌<◌, List, [], length, take, drop, get_or, refl, sym, ◌∙◌, ap, subst, arith}
use Rattle.std.proofs.lemmas.Bool.{cases_eq}
use Rattle.std.proofs.lemmas.List.{take-take, length-take-le}
use Rattle.tier_device.specs.Media.{Torn}
use Rattle.update_log.specs.declared.stage.Stage.{Stage}
use Rattle.update_log.specs.declared.stage.Stage.TheVariants as stages
use Rattle.update_log.specs.Frames.{header, payloads, before_gate, framed_length, spelled_records}
use Rattle.update_log.specs.Stage.{FitsItsStage, AtStage, HasRecord, IsIdle, IsShut}
use Rattle.update_log.specs.WipeStops.{records_behind_gate, LeftInWipe}
use Rattle.update_log.specs.Wipe.{CanWipe, IsWiping, MayWipe, IsDoneWith}
use Rattle.update_log.proofs.Moves.{stands_of}
use Rattle.update_log.proofs.Reading.{payloads_closed, front_none, none_in_header}
use Rattle.update_log.proofs.Views.{idle_now}
use Rattle.update_log.proofs.Wiping.{split_gate, torn_not, wiping_now, behind_open}

-- a front that is the header of all is the header of its own
header_of_front : (end : ℕ) (seen : List ℕ) → take end seen ≡ header seen → header (take end seen) ≡ header seen
header_of_front end seen is = ap header is ∙ take-take 16 16 seen (omega arith)

-- what a stop may leave of a region that is wiped
pub wiping_shows : (end : ℕ) (stage : Stage) (body seen : List ℕ) (left : List ℕ → Type 0) → FitsItsStage end stage body seen left → IsWiping stage → (c : List ℕ) → left c → LeftInWipe (header (take end seen)) (records_behind_gate seen) c
wiping_shows end stage body seen left sound wiping c l = subst (λ (h : List ℕ). LeftInWipe h (records_behind_gate seen) c) (sym (shown stage sound.at_stage wiping).0) (shown stage sound.at_stage wiping).1
  where
    lt : 16 < length seen
    lt = omega (arith, sound.size)

    shown : (st : Stage) → AtStage st (take end seen) body seen left → IsWiping st → (header (take end seen) ≡ header seen) × LeftInWipe (header seen) (records_behind_gate seen) c
    shown stages.Resting a w = absurd w
    shown stages.Foreign a w = absurd w
    shown stages.Begun a w = absurd w
    shown stages.Written a w = absurd w
    shown stages.Kept a w = absurd w
    shown stages.Opened a w = absurd w
    shown stages.Failed a w = absurd w
    shown stages.Closing a w = (header_of_front end seen a.is_header, wiping_now seen c lt (inl (a.torn c l)))
    shown stages.Closed a w = (header_of_front end seen a.is_header, wiping_now seen c lt (inl (subst (λ (d : List ℕ). Torn 16 1 seen d) (sym (a.rest c l)) (torn_not seen))))
    shown stages.Naming a w = (header_of_front end seen a.is_header, wiping_now seen c lt (inr (subst (λ (f : List ℕ). IsShut f seen) a.is_header a.shut, a.torn c l)))
    shown stages.WipeFailed a w = (header_of_front end seen a.is_header, a.either c l)

-- what is known where a wipe begins or goes on
pub may_wipe : (end : ℕ) (stage : Stage) (body seen : List ℕ) (left : List ℕ → Type 0) → FitsItsStage end stage body seen left → CanWipe stage → MayWipe stage seen left
may_wipe end stages.Resting body seen left sound can = sound.at_stage.rest
may_wipe end stages.Foreign body seen left sound can = sound.at_stage.rest
may_wipe end stages.Begun body seen left sound can = absurd can
may_wipe end stages.Written body seen left sound can = absurd can
may_wipe end stages.Kept body seen left sound can = absurd can
may_wipe end stages.Opened body seen left sound can = absurd can
may_wipe end stages.Failed body seen left sound can = absurd can
may_wipe end stages.Closing body seen left sound can =
    let a = sound.at_stage in
    record { is_header = refl; shut = subst (λ (f : List ℕ). IsShut f seen) a.is_header a.shut; torn = a.torn }
may_wipe end stages.Closed body seen left sound can =
    let a = sound.at_stage in
    record { is_header = refl; shut = subst (λ (f : List ℕ). IsShut f seen) a.is_header a.shut; rest = a.rest }
may_wipe end stages.Naming body seen left sound can =
    let a = sound.at_stage in
    record { is_header = refl; shut = subst (λ (f : List ℕ). IsShut f seen) a.is_header a.shut; torn = a.torn }
may_wipe end stages.WipeFailed body seen left sound can = absurd can

-- and once a call succeeded
pub wiped_fits : (to : Stage) (body seen : List ℕ) (left : List ℕ → Type 0) → length seen ≡ 262144 → IsDoneWith to seen left → FitsItsStage 16 to body seen left
wiped_fits to body seen left size done = record { size = size; within = omega arith; at_stage = fits to done; record_begun = none to done }
  where
    fits : (st : Stage) → IsDoneWith st seen left → AtStage st (take 16 seen) body seen left
    fits stages.Resting d = record { stands = front_none seen (omega (arith, size)); shut = d.shut; rest = d.rest }
    fits stages.Foreign d = absurd d
    fits stages.Begun d = absurd d
    fits stages.Written d = absurd d
    fits stages.Kept d = absurd d
    fits stages.Opened d = absurd d
    fits stages.Failed d = absurd d
    fits stages.Closing d = d
    fits stages.Closed d = d
    fits stages.Naming d = d
    fits stages.WipeFailed d = absurd d

    none : (st : Stage) → IsDoneWith st seen left → HasRecord st 16 body
    none stages.Resting d = tt
    none stages.Foreign d = tt
    none stages.Begun d = absurd d
    none stages.Written d = absurd d
    none stages.Kept d = absurd d
    none stages.Opened d = absurd d
    none stages.Failed d = tt
    none stages.Closing d = tt
    none stages.Closed d = tt
    none stages.Naming d = tt
    none stages.WipeFailed d = tt

-- where there are records and nothing is begun, those behind the first gate are all
pub behind_records : (end : ℕ) (stage : Stage) (body seen : List ℕ) (left : List ℕ → Type 0) → left seen → FitsItsStage end stage body seen left → IsIdle stage → spelled_records (before_gate (take end seen)) ≢ [] → records_behind_gate seen ≡ spelled_records (before_gate (take end seen))
behind_records end stage body seen left now sound idle some =
    let same = (idle_now end stage body seen left sound idle seen now).1 in
    behind_open seen (omega (arith, sound.size)) (λ none. some (sym same ∙ none)) ∙ same

-- no record stands before the first gate
pub none_before : (seen : List ℕ) → length seen ≡ 262144 → spelled_records (before_gate (take 16 seen)) ≡ []
none_before seen size = ap spelled_records (none_in_header seen (omega (arith, size)))

-- where nothing is begun all payloads stand before the next gate
idle_payloads : (end : ℕ) (stage : Stage) (body seen : List ℕ) (left : List ℕ → Type 0) → FitsItsStage end stage body seen left → IsIdle stage → payloads seen ≡ before_gate (take end seen)
idle_payloads end stage body seen left sound (inl is) =
    let a = (subst (λ (st : Stage). FitsItsStage end st body seen left) is sound).at_stage in
    payloads_closed (take end seen) seen a.stands a.shut
idle_payloads end stage body seen left sound (inr is) = (subst (λ (st : Stage). FitsItsStage end st body seen left) is sound).at_stage.ends

-- where it stands behind the first one then, the first gate is open
pub first_is_open : (end : ℕ) (stage : Stage) (body seen : List ℕ) (left : List ℕ → Type 0) → FitsItsStage end stage body seen left → IsIdle stage → 16 < end → get_or seen 16 0 ≡ 165
first_is_open end stage body seen left sound idle behind = elim (cases_eq (get_or seen 16 0) 165) [
  | inl is_open ↦ is_open
  | inr shut ↦
      let le : 16 ≤ length seen = omega (arith, sound.size) in
      let closed : IsShut (header seen) seen = record { gate = get_or seen 16 0; rest = drop 17 seen; shut = shut; is = split_gate seen (omega (arith, sound.size)) } in
      let none : before_gate (take end seen) ≡ [] =
      sym (idle_payloads end stage body seen left sound idle) ∙ payloads_closed (header seen) seen (front_none seen le) closed ∙ none_in_header seen le in
      absurd (omega (arith, behind, (stands_of end stage body seen left sound).long, ap framed_length none, length-take-le end seen (omega (arith, sound.size, sound.within))))
]
