-- From what holds of a region's fields to what its callers see.
use Rattle.std.proofs.Common.{◌≡◌, ◌≢◌, ◌⊎◌, inl, inr, ℕ, ◌+◌, ◌-◌, ◌≤◌, ◌<◌, List, [], ◌∷◌, ◌++◌, length, take, drop, get_or, Some, None, true, refl, sym, ◌∙◌, ap, subst, arith, take-append-drop, append_assoc}
use Rattle.std.specs.Prelude.{Option}
use Rattle.std.specs.List.{cons_option}
use Rattle.std.proofs.lemmas.List.Elements.{filter_map-append}
use Rattle.std.proofs.lemmas.List.{append-nil, take_at, drop_at, drop_more, length-take, length-take-le, take-take}
use Rattle.std.proofs.lemmas.Bool.{cases_eq, cases_lt}
use Rattle.byteorder.specs.Endian.{little_bytes}
use Rattle.byteorder.specs.Numbers.{length-bytes_low_first}
use Rattle.log_record.specs.declared.format.Record.{Record}
use Rattle.log_record.specs.Grammar.{record_of}
use Rattle.tier_device.specs.declared.media.Tier.{Tier}
use Rattle.tier_device.specs.declared.media.Tier.TheVariants.{Fast}
use Rattle.tier_device.specs.Media.{Keeps}
use Rattle.tier_device.specs.StopsSince.{LeftSince}
use Rattle.update_log.specs.declared.stage.Stage.{Stage}
use Rattle.update_log.specs.declared.stage.Stage.TheVariants as stages
use Rattle.update_log.specs.Frames.{payloads, records, header, before_gate, spelled_records, with_record, behind_gate, is_payload}
use Rattle.update_log.specs.Stage.{IsFront, IsShut, IsWhole, HasRecord, BeforeOrAfter, IsResting, FitsItsStage, AtStage, IsAppending, IsIdle, IsUnopened, payload_in, next}
use Rattle.update_log.specs.Wipe.{IsWiping}
use Rattle.update_log.specs.View.{begun_in, WithOrWithout}
use Rattle.update_log.proofs.Reading.{is_before, payloads_closed}
use Rattle.update_log.specs.Calls.{payloads_after}
use Rattle.update_log.proofs.Moves.{length-body, either, stands_of}

-- At each moment of one call a stop leaves what it may leave at its start or at its end.
pub since_one : (before now : ℕ) (old new : ℕ → Tier → List ℕ → Type 0) (P : List ℕ → Type 0) → Keeps before now old new → ((c : List ℕ) → old before Fast c → P c) → ((c : List ℕ) → new now Fast c → P c)
    → (c : List ℕ) → LeftSince new now before Fast c → P c
since_one before now old new P keeps first last c since = elim (cases_eq since.0 before) [
  | inl is ↦ first c (subst (λ m. old m Fast c) is (keeps.nothing_else since.0 Fast c (omega (arith, is)) since.3))
  | inr apart ↦
      let is : since.0 ≡ now = omega (arith, apart, since.1, since.2, keeps.at_most_one) in last c (subst (λ m. new m Fast c) is since.3)
]

-- and since an earlier moment, over one call more
pub since_more : (first before now : ℕ) (old new : ℕ → Tier → List ℕ → Type 0) (P : List ℕ → Type 0) → Keeps before now old new → ((c : List ℕ) → LeftSince old before first Fast c → P c) → ((c : List ℕ) → LeftSince new now before Fast c → P c)
    → (c : List ℕ) → LeftSince new now first Fast c → P c
since_more first before now old new P keeps earlier last c since = elim (cases_lt before since.0) [
  | inl later ↦ last c (since.0, omega (arith, later), since.2, since.3)
  | inr le ↦ earlier c (since.0, since.1, le, keeps.nothing_else since.0 Fast c le since.3)
]

pub same_either : (h h' : List ℕ) (rs rs' : List Record) (o o' : Option Record) (c : List ℕ) → h ≡ h' → rs ≡ rs' → o ≡ o' → WithOrWithout h rs o c → WithOrWithout h' rs' o' c
same_either h h' rs rs' o o' c hs rss os was = record {
  header_is = was.header_is ∙ hs;
  records_are = elim (was.records_are) [ inl same ↦ inl (same ∙ rss) | inr more ↦ inr (more ∙ (λ i. with_record (rss i) (os i))) ];
}

-- the same for what an append promises
pub goes_on : (first before now : ℕ) (old new : ℕ → Tier → List ℕ → Type 0) (h h' : List ℕ) (rs rs' : List Record) (o o' : Option Record) → Keeps before now old new → h ≡ h' → rs ≡ rs' → o ≡ o'
    → ((c : List ℕ) → LeftSince old before first Fast c → WithOrWithout h' rs' o' c) → ((c : List ℕ) → LeftSince new now before Fast c → WithOrWithout h rs o c) → (c : List ℕ) → LeftSince new now first Fast c → WithOrWithout h' rs' o' c
goes_on first before now old new h h' rs rs' o o' keeps hs rss os earlier last =
    since_more first before now old new (WithOrWithout h' rs' o') keeps earlier (λ d since. same_either h h' rs rs' o o' d hs rss os (last d since))

pub begun_appending : (stage : Stage) (payload : List ℕ) → IsAppending stage → begun_in stage payload ≡ record_of payload
begun_appending stages.Resting payload h = absurd h
begun_appending stages.Foreign payload h = absurd h
begun_appending stages.Begun payload h = refl
begun_appending stages.Written payload h = refl
begun_appending stages.Kept payload h = refl
begun_appending stages.Opened payload h = refl
begun_appending stages.Failed payload h = absurd h
begun_appending stages.Closing payload h = absurd h
begun_appending stages.Closed payload h = absurd h
begun_appending stages.Naming payload h = absurd h
begun_appending stages.WipeFailed payload h = absurd h

-- where a record is being appended its bytes are whole
pub whole_at : (stage : Stage) (end : ℕ) (body : List ℕ) → IsAppending stage → HasRecord stage end body → IsWhole end body
whole_at stages.Resting end body h has = absurd h
whole_at stages.Foreign end body h has = absurd h
whole_at stages.Begun end body h has = has
whole_at stages.Written end body h has = has
whole_at stages.Kept end body h has = has
whole_at stages.Opened end body h has = has
whole_at stages.Failed end body h has = absurd h
whole_at stages.Closing end body h has = absurd h
whole_at stages.Closed end body h has = absurd h
whole_at stages.Naming end body h has = absurd h
whole_at stages.WipeFailed end body h has = absurd h

join_one : (rs : List Record) (o : Option Record) → rs ++ cons_option o [] ≡ with_record rs o
join_one rs None = append-nil rs
join_one rs (Some r) = refl

pub spelled_more : (ps : List (List ℕ)) (payload : List ℕ) → spelled_records (ps ++ payload ∷ []) ≡ with_record (spelled_records ps) (record_of payload)
spelled_more ps payload = filter_map-append record_of ps (payload ∷ []) ∙ join_one (spelled_records ps) (record_of payload)

pub with_or_without : (front payload c : List ℕ) → IsFront front → BeforeOrAfter front payload c → WithOrWithout (header front) (spelled_records (before_gate front)) (record_of payload) c
with_or_without front payload c stands either = record {
  header_is = sym (ap header (sym (either.front_stands)) ∙ take-take 16 (length front) c (omega (arith, stands.long)));
  records_are = elim (either.payloads_are) [
    | inl same ↦ inl (ap spelled_records same)
    | inr more ↦ inr (ap spelled_records more ∙ spelled_more (before_gate front) payload)
  ];
}

-- what a region at rest shows
pub rest_shown : (front seen c : List ℕ) (left : List ℕ → Type 0) → IsResting front seen left → left c → (c ≡ seen) × (records c ≡ spelled_records (before_gate front))
rest_shown front seen c left resting l = let same = resting.rest c l in (same, ap records same ∙ ap spelled_records (payloads_closed front seen resting.stands resting.shut))

-- what holds of a region holds of one that shows the same and of which a stop leaves no more
pub sound_kept : (end : ℕ) (stage : Stage) (body seen seen' : List ℕ) (left left' : List ℕ → Type 0) → seen' ≡ seen → ((c : List ℕ) → left' c → left c) → FitsItsStage end stage body seen left → FitsItsStage end stage body seen' left'
sound_kept end stage body seen seen' left left' same fewer sound =
    subst (λ (s : List ℕ). FitsItsStage end stage body s left') (sym same) (record {
      size = sound.size;
      within = sound.within;
      at_stage = fewer_at stage sound.at_stage;
      record_begun = sound.record_begun;
    })
  where
    fewer_at : (st : Stage) → AtStage st (take end seen) body seen left → AtStage st (take end seen) body seen left'
    fewer_at stages.Resting a = record { stands = a.stands; shut = a.shut; rest = λ c l. a.rest c (fewer c l) }
    fewer_at stages.Foreign a = record { stands = a.stands; ends = a.ends; rest = λ c l. a.rest c (fewer c l) }
    fewer_at stages.Begun a = record { stands = a.stands; shut = λ c l. a.shut c (fewer c l) }
    fewer_at stages.Written a = record { begun = record { stands = a.begun.stands; shut = λ c l. a.begun.shut c (fewer c l) }; staged = a.staged }
    fewer_at stages.Kept a = record { stands = a.stands; rest = a.rest; staged = λ c l. a.staged c (fewer c l) }
    fewer_at stages.Opened a = record { stands = a.stands; rest = a.rest; staged = λ c l. a.staged c (fewer c l); opened = a.opened }
    fewer_at stages.Failed a = record { stands = a.stands; either = λ c l. a.either c (fewer c l) }
    fewer_at stages.Closing a = record { is_header = a.is_header; shut = a.shut; torn = λ c l. a.torn c (fewer c l) }
    fewer_at stages.Closed a = record { is_header = a.is_header; shut = a.shut; rest = λ c l. a.rest c (fewer c l) }
    fewer_at stages.Naming a = record { is_header = a.is_header; shut = a.shut; torn = λ c l. a.torn c (fewer c l) }
    fewer_at stages.WipeFailed a = record { is_header = a.is_header; either = λ c l. a.either c (fewer c l) }

-- after a read a stop leaves what it left before
pub same_left : (before now : ℕ) (old new : ℕ → Tier → List ℕ → Type 0) → now ≡ before → Keeps before now old new → (c : List ℕ) → new now Fast c → old before Fast c
same_left before now old new same keeps c l = keeps.nothing_else before Fast c (omega arith) (subst (λ m. new m Fast c) same l)

-- a record is begun in a region at rest
pub payload_in_behind : (payload : List ℕ) → payload_in (behind_gate payload) ≡ payload
payload_in_behind payload =
    let size = little_bytes 4 (length payload) in
    let four : length size ≡ 4 = length-bytes_low_first 0 4 (length payload) in
    let split : behind_gate payload ≡ size ++ (payload ++ 0 ∷ []) = append_assoc size payload (0 ∷ []) in
    ap (take (length (behind_gate payload) - 5)) (ap (drop 4) split ∙ drop_at size (payload ++ 0 ∷ []) 4 four)
    ∙ take_at payload (0 ∷ []) (length (behind_gate payload) - 5) (omega (arith, length-body payload))

pub begins : (end : ℕ) (body' body seen payload : List ℕ) (left : List ℕ → Type 0) → body ≡ behind_gate payload → is_payload payload ≡ true → end + 5 + length payload + 1 ≤ 262144 → FitsItsStage end stages.Resting body' seen left → FitsItsStage end stages.Begun body seen left
begins end body' body seen payload left is spelled_is room sound =
    let same : payload_in body ≡ payload = ap payload_in is ∙ payload_in_behind payload in
    record {
      size = sound.size;
      within = sound.within;
      at_stage = record { stands = sound.at_stage.stands; shut = λ c l. subst (IsShut (take end seen)) (sym (sound.at_stage.rest c l)) sound.at_stage.shut };
      record_begun = record {
        bytes = is ∙ ap behind_gate (sym same);
        is_spelled = ap is_payload same ∙ spelled_is;
        room = omega (arith, ap length is, length-body payload, room);
      };
    }

-- a region as it stands in a content at rest
pub reopened : (end : ℕ) (stage : Stage) (body seen : List ℕ) (left : List ℕ → Type 0) → (stage ≡ stages.Resting → get_or seen end 0 ≢ 165) → (stage ≡ stages.Resting) ⊎ (stage ≡ stages.Foreign)
    → length seen ≡ 262144 → end < length seen → IsFront (take end seen) → payloads seen ≡ before_gate (take end seen) → ((c : List ℕ) → left c → c ≡ seen) → FitsItsStage end stage body seen left
reopened end stage body seen left shut (inl is) size within stands ends rest =
    subst (λ st. FitsItsStage end st body seen left) (sym is)
    (record {
      size = size;
      within = omega (arith, within, size);
      at_stage = record {
        stands = stands;
        shut = record {
          gate = get_or seen end 0;
          rest = drop (end + 1) seen;
          shut = shut is;
          is = sym (take-append-drop end seen) ∙ ap (λ (l : List ℕ). take end seen ++ l) (drop_more seen end 0 within);
        };
        rest = rest;
      };
      record_begun = tt;
    })
reopened end stage body seen left shut (inr is) size within stands ends rest =
    subst (λ st. FitsItsStage end st body seen left) (sym is)
    (record { size = size; within = omega (arith, within, size); at_stage = record { stands = stands; ends = ends; rest = rest }; record_begun = tt })

-- where nothing is begun the buffer may hold anything
pub idle_with : (end : ℕ) (stage : Stage) (body body' seen : List ℕ) (left : List ℕ → Type 0) → IsIdle stage → FitsItsStage end stage body seen left → FitsItsStage end stage body' seen left
idle_with end stage body body' seen left (inl is) sound =
    let here = subst (λ (st : Stage). FitsItsStage end st body seen left) is sound in
    subst (λ (st : Stage). FitsItsStage end st body' seen left) (sym is) (record { size = here.size; within = here.within; at_stage = here.at_stage; record_begun = tt })
idle_with end stage body body' seen left (inr is) sound =
    let here = subst (λ (st : Stage). FitsItsStage end st body seen left) is sound in
    subst (λ (st : Stage). FitsItsStage end st body' seen left) (sym is) (record { size = here.size; within = here.within; at_stage = here.at_stage; record_begun = tt })

pub idle_begins_none : (stage : Stage) (payload : List ℕ) → IsIdle stage → begun_in stage payload ≡ None
idle_begins_none stage payload (inl is) = ap (λ (st : Stage). begun_in st payload) is
idle_begins_none stage payload (inr is) = ap (λ (st : Stage). begun_in st payload) is

module _ (end : ℕ) (stage : Stage) (body seen : List ℕ) (left : List ℕ → Type 0) (sound : FitsItsStage end stage body seen left) where
  abbrev Either : List ℕ → Type 0
  Either c = WithOrWithout (header (take end seen)) (spelled_records (before_gate (take end seen))) (begun_in stage (payload_in body)) c

  pub shows_either : begun_in stage (payload_in body) ≡ record_of (payload_in body) → (c : List ℕ) → BeforeOrAfter (take end seen) (payload_in body) c → Either c
  shows_either begun c either =
      subst (λ (o : Option Record). WithOrWithout (header (take end seen)) (spelled_records (before_gate (take end seen))) o c) (sym begun)
      (with_or_without (take end seen) (payload_in body) c (stands_of end stage body seen left sound) either)

  -- what a stop may leave of a region where a record is begun
  pub begun_now : IsAppending stage ⊎ (stage ≡ stages.Failed) → (c : List ℕ) → left c → Either c
  begun_now (inl appending) c l = shows_either (begun_appending stage (payload_in body) appending) c (either end body seen left stage appending sound c l)
  begun_now (inr is) c l =
      shows_either (ap (λ (st : Stage). begun_in st (payload_in body)) is ∙ ap (λ (st : Stage). record_of (payload_in body)) is) c ((subst (λ (st : Stage). FitsItsStage end st body seen left) is sound).at_stage.either c l)

-- the header stands in the front
pub header_front : (end : ℕ) (seen : List ℕ) → IsFront (take end seen) → header (take end seen) ≡ header seen
header_front end seen stands = take-take 16 end seen (omega (arith, stands.long, length-take end seen))

-- what a stop may leave of a region where nothing is begun
pub idle_now : (end : ℕ) (stage : Stage) (body seen : List ℕ) (left : List ℕ → Type 0) → FitsItsStage end stage body seen left → IsIdle stage → (c : List ℕ) → left c → (c ≡ seen) × (records c ≡ spelled_records (before_gate (take end seen)))
idle_now end stage body seen left sound (inl is) c l = rest_shown (take end seen) seen c left (subst (λ (st : Stage). FitsItsStage end st body seen left) is sound).at_stage l
idle_now end stage body seen left sound (inr is) c l =
    let foreign = (subst (λ (st : Stage). FitsItsStage end st body seen left) is sound).at_stage in
    let same = foreign.rest c l in
    (same, ap records same ∙ ap spelled_records foreign.ends)

idle_either : (end : ℕ) (stage : Stage) (body seen : List ℕ) (left : List ℕ → Type 0) → FitsItsStage end stage body seen left → IsIdle stage → (o : Option Record) (c : List ℕ) → left c → WithOrWithout (header (take end seen)) (spelled_records (before_gate (take end seen))) o c
idle_either end stage body seen left sound idle o c l =
    let shown = idle_now end stage body seen left sound idle c l in
    record { header_is = ap header shown.0 ∙ sym (header_front end seen (stands_of end stage body seen left sound)); records_are = inl shown.1 }

-- and of any region that is not being wiped
pub either_now : (end : ℕ) (stage : Stage) (body seen : List ℕ) (left : List ℕ → Type 0) → FitsItsStage end stage body seen left → (IsWiping stage → ⊥) → (c : List ℕ) → left c → WithOrWithout (header (take end seen)) (spelled_records (before_gate (take end seen))) (begun_in stage (payload_in body)) c
either_now end stages.Resting body seen left sound still c l = idle_either end stages.Resting body seen left sound (inl refl) None c l
either_now end stages.Foreign body seen left sound still c l = idle_either end stages.Foreign body seen left sound (inr refl) None c l
either_now end stages.Begun body seen left sound still c l = begun_now end stages.Begun body seen left sound (inl tt) c l
either_now end stages.Written body seen left sound still c l = begun_now end stages.Written body seen left sound (inl tt) c l
either_now end stages.Kept body seen left sound still c l = begun_now end stages.Kept body seen left sound (inl tt) c l
either_now end stages.Opened body seen left sound still c l = begun_now end stages.Opened body seen left sound (inl tt) c l
either_now end stages.Failed body seen left sound still c l = begun_now end stages.Failed body seen left sound (inr refl) c l
either_now end stages.Closing body seen left sound still c l = absurd (still tt)
either_now end stages.Closed body seen left sound still c l = absurd (still tt)
either_now end stages.Naming body seen left sound still c l = absurd (still tt)
either_now end stages.WipeFailed body seen left sound still c l = absurd (still tt)

-- until the gate of a begun record is opened, a stop leaves a closed one behind the front
shut_now : (end : ℕ) (stage : Stage) (body seen : List ℕ) (left : List ℕ → Type 0) → FitsItsStage end stage body seen left → IsUnopened stage → (c : List ℕ) → left c → IsShut (take end seen) c
shut_now end stages.Resting body seen left sound closed c l = absurd closed
shut_now end stages.Foreign body seen left sound closed c l = absurd closed
shut_now end stages.Begun body seen left sound closed c l = sound.at_stage.shut c l
shut_now end stages.Written body seen left sound closed c l = sound.at_stage.begun.shut c l
shut_now end stages.Kept body seen left sound closed c l =
    let s = sound.at_stage.staged c l in
    record { gate = s.0; rest = body ++ sound.at_stage.rest; shut = s.1; is = s.2 }
shut_now end stages.Opened body seen left sound closed c l = absurd closed
shut_now end stages.Failed body seen left sound closed c l = absurd closed
shut_now end stages.Closing body seen left sound closed c l = absurd closed
shut_now end stages.Closed body seen left sound closed c l = absurd closed
shut_now end stages.Naming body seen left sound closed c l = absurd closed
shut_now end stages.WipeFailed body seen left sound closed c l = absurd closed

-- and so the header and the records from before
pub unopened_now : (end : ℕ) (stage : Stage) (body seen : List ℕ) (left : List ℕ → Type 0) → FitsItsStage end stage body seen left → IsUnopened stage → (c : List ℕ) → left c
    → (header c ≡ header (take end seen)) × (records c ≡ spelled_records (before_gate (take end seen)))
unopened_now end stage body seen left sound closed c l =
    let front = take end seen in
    let stands = stands_of end stage body seen left sound in
    let shut = shut_now end stage body seen left sound closed c l in
    ((with_or_without front (payload_in body) c stands (is_before front (payload_in body) c stands shut)).header_is, ap spelled_records (payloads_closed front c stands shut))

-- the stages that an append passes through, and its end
pub next_resting : (stage : Stage) → IsAppending stage → next stage ≡ stages.Resting → stage ≡ stages.Opened
next_resting stages.Resting h e = absurd h
next_resting stages.Foreign h e = absurd h
next_resting stages.Begun h e = cc
next_resting stages.Written h e = cc
next_resting stages.Kept h e = cc
next_resting stages.Opened h e = refl
next_resting stages.Failed h e = absurd h
next_resting stages.Closing h e = absurd h
next_resting stages.Closed h e = absurd h
next_resting stages.Naming h e = absurd h
next_resting stages.WipeFailed h e = absurd h

pub next_going : (stage : Stage) → IsAppending stage → next stage ≢ stages.Resting → (ps : List (List ℕ)) (payload : List ℕ) → (payloads_after stage ps payload ≡ ps) × (begun_in (next stage) payload ≡ begun_in stage payload)
next_going stages.Resting h apart ps payload = absurd h
next_going stages.Foreign h apart ps payload = absurd h
next_going stages.Begun h apart ps payload = (refl, refl)
next_going stages.Written h apart ps payload = (refl, refl)
next_going stages.Kept h apart ps payload = (refl, refl)
next_going stages.Opened h apart ps payload = absurd (apart refl)
next_going stages.Failed h apart ps payload = absurd h
next_going stages.Closing h apart ps payload = absurd h
next_going stages.Closed h apart ps payload = absurd h
next_going stages.Naming h apart ps payload = absurd h
next_going stages.WipeFailed h apart ps payload = absurd h

-- the byte behind a front
gate_at : (front rest : List ℕ) (gate : ℕ) → get_or (front ++ gate ∷ rest) (length front) 0 ≡ gate
gate_at [] rest gate = refl
gate_at (x ∷ front) rest gate = gate_at front rest gate

-- once the gate of a begun record is opened, a read gives it open
pub opened_now : (end : ℕ) (stage : Stage) (body seen : List ℕ) (left : List ℕ → Type 0) → FitsItsStage end stage body seen left → stage ≡ stages.Opened → get_or seen end 0 ≡ 165
opened_now end stage body seen left sound is =
    let opened = subst (λ (st : Stage). FitsItsStage end st body seen left) is sound in
    let long : length (take end seen) ≡ end = let size = sound.size in let within = sound.within in length-take-le end seen (omega (arith, size, within)) in
    ap (λ (l : List ℕ). get_or l end 0) opened.at_stage.opened ∙ ap (λ n. get_or (take end seen ++ 165 ∷ (body ++ opened.at_stage.rest)) n 0) (sym long) ∙ gate_at (take end seen) (body ++ opened.at_stage.rest) 165
