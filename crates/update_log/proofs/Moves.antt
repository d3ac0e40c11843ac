-- How each device call leads from one stage to the next.
use Rattle.std.proofs.Common.{◌≡◌, ℕ, ◌+◌, ◌<◌, ◌^◌, List, [], ◌∷◌, ◌++◌, length, take, sym, ◌∙◌, ap, subst, arith, append_assoc, length-append}
use Rattle.std.proofs.lemmas.List.{take_at, length-take-le, take-append-le}
use Rattle.byteorder.specs.Endian.{little_bytes}
use Rattle.byteorder.specs.Numbers.{length-bytes_low_first}
use Rattle.tier_device.specs.Media.{overwritten, Torn}
use Rattle.update_log.specs.declared.stage.Stage.{Stage}
use Rattle.update_log.specs.declared.stage.Stage.TheVariants as stages
use Rattle.update_log.specs.Frames.{header, before_gate, behind_gate}
use Rattle.update_log.specs.Stage.{IsFront, IsStaged, BeforeOrAfter, IsResting, IsBegun, IsWhole, FitsItsStage, IsAppending, IsUnopened, AtStage, HasRecord, payload_in}
use Rattle.update_log.specs.Calls.{HasMoved, HasFailed}
use Rattle.update_log.proofs.Reading.{is_before, is_either, front_push, front_none}
use Rattle.update_log.proofs.Writes.{torn_shut, written_staged, torn_gate, written_gate}

-- while a region is wiped the front is its header
stands_header : (end : ℕ) (seen : List ℕ) → length seen ≡ 262144 → take end seen ≡ header seen → IsFront (take end seen)
stands_header end seen size is = subst IsFront (sym is) (front_none seen (omega (arith, size)))

-- at every stage the front stands
pub stands_of : (end : ℕ) (stage : Stage) (body seen : List ℕ) (left : List ℕ → Type 0) → FitsItsStage end stage body seen left → IsFront (take end seen)
stands_of end stages.Resting body seen left sound = sound.at_stage.stands
stands_of end stages.Foreign body seen left sound = sound.at_stage.stands
stands_of end stages.Begun body seen left sound = sound.at_stage.stands
stands_of end stages.Written body seen left sound = sound.at_stage.begun.stands
stands_of end stages.Kept body seen left sound = sound.at_stage.stands
stands_of end stages.Opened body seen left sound = sound.at_stage.stands
stands_of end stages.Failed body seen left sound = sound.at_stage.stands
stands_of end stages.Closing body seen left sound = stands_header end seen sound.size sound.at_stage.is_header
stands_of end stages.Closed body seen left sound = stands_header end seen sound.size sound.at_stage.is_header
stands_of end stages.Naming body seen left sound = stands_header end seen sound.size sound.at_stage.is_header
stands_of end stages.WipeFailed body seen left sound = stands_header end seen sound.size sound.at_stage.is_header

-- a record whose gate is not open is being appended
pub unopened_appends : (stage : Stage) → IsUnopened stage → IsAppending stage
unopened_appends stages.Begun closed = tt
unopened_appends stages.Written closed = tt
unopened_appends stages.Kept closed = tt
unopened_appends stages.Resting closed = absurd closed
unopened_appends stages.Foreign closed = absurd closed
unopened_appends stages.Opened closed = absurd closed
unopened_appends stages.Failed closed = absurd closed
unopened_appends stages.Closing closed = absurd closed
unopened_appends stages.Closed closed = absurd closed
unopened_appends stages.Naming closed = absurd closed
unopened_appends stages.WipeFailed closed = absurd closed

pub length-body : (payload : List ℕ) → length (behind_gate payload) ≡ length payload + 5
length-body payload =
    omega (arith, length-append (little_bytes 4 (length payload) ++ payload) (0 ∷ []), length-append (little_bytes 4 (length payload)) payload, length-bytes_low_first 0 4 (length payload))

module _ (end : ℕ) (body seen : List ℕ) (left : List ℕ → Type 0) where
  abbrev front : List ℕ
  front = take end seen

  abbrev payload : List ℕ
  payload = payload_in body

  short : IsWhole end body → length payload < 2 ^ 32
  short whole = omega (arith, whole.room, ap length whole.bytes, length-body payload)

  either_of : IsFront front → IsWhole end body → (gate : ℕ) (rest c : List ℕ) → c ≡ front ++ gate ∷ (body ++ rest) → BeforeOrAfter front payload c
  either_of stands whole gate rest c is =
      is_either front payload rest gate c stands (short whole) whole.is_spelled (is ∙ ap (λ (b : List ℕ). front ++ gate ∷ (b ++ rest)) whole.bytes)

  -- whatever a stop leaves while a record is appended
  pub either : (stage : Stage) → IsAppending stage → FitsItsStage end stage body seen left → (c : List ℕ) → left c → BeforeOrAfter front payload c
  either stages.Resting begun sound c l = absurd begun
  either stages.Foreign begun sound c l = absurd begun
  either stages.Begun begun sound c l = is_before front payload c sound.at_stage.stands (sound.at_stage.shut c l)
  either stages.Written begun sound c l = is_before front payload c sound.at_stage.begun.stands (sound.at_stage.begun.shut c l)
  either stages.Kept begun sound c l =
      let s = sound.at_stage.staged c l in
      either_of sound.at_stage.stands sound.record_begun s.0 sound.at_stage.rest c s.2
  either stages.Opened begun sound c l =
      let s = sound.at_stage.staged c l in
      either_of sound.at_stage.stands sound.record_begun s.0 sound.at_stage.rest c s.1
  either stages.Failed begun sound c l = absurd begun
  either stages.Closing begun sound c l = absurd begun
  either stages.Closed begun sound c l = absurd begun
  either stages.Naming begun sound c l = absurd begun
  either stages.WipeFailed begun sound c l = absurd begun

  module _ (sized : (d : List ℕ) → left d → length d ≡ length seen) (now : left seen) (seen' : List ℕ) (left' : List ℕ → Type 0) (now' : left' seen') where
    long : end < 262144 → length seen ≡ 262144 → length front ≡ end
    long within size = length-take-le end seen (omega (arith, size, within))

    -- a call that fails
    pub fails : (stage : Stage) → FitsItsStage end stage body seen left → length seen' ≡ length seen → ((c : List ℕ) → left' c → BeforeOrAfter front payload c) → HasFailed end body seen seen' left'
    fails stage sound size each =
        let same : take end seen' ≡ front = subst (λ n. take n seen' ≡ front) (long sound.within sound.size) (each seen' now').front_stands in
        record {
          sound = record {
            size = size ∙ sound.size;
            within = sound.within;
            at_stage = record {
              stands = subst IsFront (sym same) (stands_of end stage body seen left sound);
              either = λ c l. subst (λ (f : List ℕ). BeforeOrAfter f payload c) (sym same) (each c l);
            };
            record_begun = tt;
          };
          same_front = same;
        }

    -- a call that leads on and keeps the front
    moves : (stage was : Stage) → FitsItsStage end was body seen left → length seen' ≡ length seen → AtStage stage front body seen' left' → HasRecord stage end body → take end seen' ≡ front → FitsItsStage end stage body seen' left'
    moves stage was sound size at_stage has same = record {
      size = size ∙ sound.size;
      within = sound.within;
      at_stage = subst (λ (f : List ℕ). AtStage stage f body seen' left') (sym same) at_stage;
      record_begun = has;
    }

    same_front : length front ≡ end → (rest : List ℕ) → seen' ≡ front ++ rest → take end seen' ≡ front
    same_front l rest is = ap (take end) is ∙ take_at front rest end l

    -- the write of the bytes behind the gate
    module _ (tears : (c : List ℕ) → left' c → (d : List ℕ) × left d × Torn (end + 1) (length body) d c) (sound : FitsItsStage end stages.Begun body seen left) where
      pub size1 : length seen' ≡ length seen
      size1 = let t = tears seen' now' in t.2.same_length ∙ sized t.0 t.1

      begun1 : IsBegun front left'
      begun1 = record {
        stands = sound.at_stage.stands;
        shut = λ c l. let t = tears c l in torn_shut front end (long sound.within sound.size) (length body) t.0 c (sound.at_stage.shut t.0 t.1) t.2;
      }

      pub either1 : (c : List ℕ) → left' c → BeforeOrAfter front payload c
      either1 c l = is_before front payload c sound.at_stage.stands (begun1.shut c l)

      pub written : seen' ≡ overwritten seen (end + 1) body → HasMoved end stages.Begun body seen seen' left'
      written is =
          let l1 = long sound.within sound.size in
          let staged = subst (IsStaged front body) (sym is) (written_staged front end l1 body seen (sound.at_stage.shut seen now)) in
          let same = same_front l1 (staged.gate ∷ (body ++ staged.rest)) staged.is in
          record {
            sound = moves stages.Written stages.Begun sound size1 (record { begun = begun1; staged = staged }) sound.record_begun same;
            same_header = ap header same;
            payloads_are = ap before_gate same;
          }

    -- the first fence
    module _ (fewer : (c : List ℕ) → left' c → left c) (sound : FitsItsStage end stages.Written body seen left) where
      pub size2 : length seen' ≡ length seen
      size2 = sized seen' (fewer seen' now')

      pub kept : ((c : List ℕ) → left' c → c ≡ seen) → HasMoved end stages.Written body seen seen' left'
      kept only =
          let s = sound.at_stage.staged in
          let same = ap (take end) (only seen' now') in
          record {
            sound = moves stages.Kept stages.Written sound size2
                (record { stands = sound.at_stage.begun.stands; rest = s.rest; staged = λ c l. (s.gate, s.shut, only c l ∙ s.is) })
                sound.record_begun same;
            same_header = ap header same;
            payloads_are = ap before_gate same;
          }

    -- the write of the gate
    module _ (tears : (c : List ℕ) → left' c → (d : List ℕ) × left d × Torn end 1 d c) (sound : FitsItsStage end stages.Kept body seen left) where
      pub size3 : length seen' ≡ length seen
      size3 = let t = tears seen' now' in t.2.same_length ∙ sized t.0 t.1

      torn3 : (c : List ℕ) → left' c → (gate : ℕ) × (c ≡ front ++ gate ∷ (body ++ sound.at_stage.rest))
      torn3 c l =
          let t = tears c l in
          let s = sound.at_stage.staged t.0 t.1 in
          torn_gate front end (long sound.within sound.size) s.0 (body ++ sound.at_stage.rest) t.0 c s.2 t.2

      pub either3 : (c : List ℕ) → left' c → BeforeOrAfter front payload c
      either3 c l = let s = torn3 c l in either_of sound.at_stage.stands sound.record_begun s.0 sound.at_stage.rest c s.1

      pub opened : seen' ≡ overwritten seen end (165 ∷ []) → HasMoved end stages.Kept body seen seen' left'
      opened is =
          let l3 = long sound.within sound.size in
          let s = sound.at_stage.staged seen now in
          let open_gate = is ∙ written_gate front end l3 s.0 (body ++ sound.at_stage.rest) seen s.2 in
          let same = same_front l3 (165 ∷ (body ++ sound.at_stage.rest)) open_gate in
          record {
            sound = moves stages.Opened stages.Kept sound size3 (record { stands = sound.at_stage.stands; rest = sound.at_stage.rest; staged = torn3; opened = open_gate }) sound.record_begun same;
            same_header = ap header same;
            payloads_are = ap before_gate same;
          }

    -- the last fence
    module _ (fewer : (c : List ℕ) → left' c → left c) (sound : FitsItsStage end stages.Opened body seen left) where
      pub size4 : length seen' ≡ length seen
      size4 = sized seen' (fewer seen' now')

      pub appended : ((c : List ℕ) → left' c → c ≡ seen) → seen' ≡ seen → HasMoved end stages.Opened body seen seen' left'
      appended only same =
          let was = sound.at_stage in
          let whole = sound.record_begun in
          let small = short whole in
          let more = little_bytes 4 (length payload) ++ payload in
          let front' = front ++ 165 ∷ more in
          let open_gate : seen' ≡ front ++ 165 ∷ (behind_gate payload ++ was.rest) =
          same ∙ sound.at_stage.opened ∙ ap (λ (b : List ℕ). front ++ 165 ∷ (b ++ was.rest)) whole.bytes in
          let is : seen' ≡ front' ++ 0 ∷ was.rest =
          open_gate ∙ ap (λ (l : List ℕ). front ++ 165 ∷ l) (append_assoc more (0 ∷ []) was.rest) ∙ sym (append_assoc front (165 ∷ more) (0 ∷ was.rest)) in
          let long' : length front' ≡ end + length body =
          omega (arith, length-append front (165 ∷ more), length-append (little_bytes 4 (length payload)) payload, length-bytes_low_first 0 4 (length payload), long sound.within sound.size, ap length whole.bytes, length-body payload) in
          let taken : take (end + length body) seen' ≡ front' = ap (take (end + length body)) is ∙ take_at front' (0 ∷ was.rest) (end + length body) long' in
          let grown = front_push front payload was.stands small whole.is_spelled in
          record {
            sound = record {
              size = size4 ∙ sound.size;
              within = omega (arith, whole.room);
              at_stage = subst (λ (f : List ℕ). IsResting f seen' left') (sym taken) (record {
                stands = grown.stands;
                shut = record { gate = 0; rest = was.rest; shut = λ e. omega (arith, e); is = is };
                rest = λ c l. only c l ∙ sym same;
              });
              record_begun = tt;
            };
            same_header = ap header taken ∙ take-append-le 16 front (165 ∷ more) (omega (arith, was.stands.long));
            payloads_are = ap before_gate taken ∙ grown.more;
          }
