-- How far an append has come, and what a read and a stop give of the region then.
use Rattle.std.specs.Prelude.{◌≡◌, ◌≢◌, ◌≤◌, ◌<◌, ◌⊎◌, ◌-◌, ℕ, ◌+◌, List, [], ◌∷◌, ◌++◌, length, take, drop, Bool, true}
use Rattle.tier_device.specs.Media.{Torn}
use Rattle.update_log.specs.declared.format.TheConstants.{HEADER, OPEN, REGION_SIZE, GENERATION_SIZE}
use Rattle.update_log.specs.declared.stage.Stage.{Stage}
use Rattle.update_log.specs.declared.stage.Stage.TheVariants as stages
use Rattle.update_log.specs.declared.stage.Progress.{Progress}
use Rattle.update_log.specs.declared.stage.Progress.TheVariants.{Going, Appended}
use Rattle.update_log.specs.Frames.{payloads, payloads_from, before_gate, framed_length, header, is_payload, behind_gate}
use Rattle.update_log.specs.WipeStops.{LeftInWipe, records_behind_gate}

-- A header and the bytes of whole records, whatever gate and bytes follow.
pub record IsFront (front : List ℕ) : Type 0 where
  pub long : length front ≡ HEADER + framed_length (before_gate front)
  pub ends : (gate : ℕ) (rest : List ℕ) → payloads (front ++ gate ∷ rest) ≡ before_gate front ++ payloads_from 0 (gate ∷ rest)

-- this front, and a gate behind it that is not open
pub record IsShut (front content : List ℕ) : Type 0 where
  pub gate : ℕ
  pub rest : List ℕ
  pub shut : gate ≢ OPEN
  pub is : content ≡ front ++ gate ∷ rest

-- this front, a gate that is not open, and the bytes of a begun record behind it
pub record IsStaged (front body content : List ℕ) : Type 0 where
  pub gate : ℕ
  pub rest : List ℕ
  pub shut : gate ≢ OPEN
  pub is : content ≡ front ++ gate ∷ (body ++ rest)

-- the front stands, and its payloads are followed by the begun one or by none
pub record BeforeOrAfter (front payload content : List ℕ) : Type 0 where
  pub front_stands : take (length front) content ≡ front
  pub payloads_are : (payloads content ≡ before_gate front) ⊎ (payloads content ≡ before_gate front ++ payload ∷ [])

-- Nothing is begun: the content is at rest, and a closed gate ends it.
pub record IsResting (front seen : List ℕ) (left : List ℕ → Type 0) : Type 0 where
  pub stands : IsFront front
  pub shut : IsShut front seen
  pub rest : (c : List ℕ) → left c → c ≡ seen

-- Nothing is begun, and nothing may be: an open gate ends it that no record follows.
pub record IsForeign (front seen : List ℕ) (left : List ℕ → Type 0) : Type 0 where
  pub stands : IsFront front
  pub ends : payloads seen ≡ before_gate front
  pub rest : (c : List ℕ) → left c → c ≡ seen

-- A record is begun: the gate is closed, whatever stands behind it.
pub record IsBegun (front : List ℕ) (left : List ℕ → Type 0) : Type 0 where
  pub stands : IsFront front
  pub shut : (c : List ℕ) → left c → IsShut front c

-- Its bytes are written.
pub record IsWritten (front body seen : List ℕ) (left : List ℕ → Type 0) : Type 0 where
  pub begun : IsBegun front left
  pub staged : IsStaged front body seen

-- Its bytes are kept, behind a gate that is not open.
pub record IsKept (front body : List ℕ) (left : List ℕ → Type 0) : Type 0 where
  pub stands : IsFront front
  pub rest : List ℕ
  pub staged : (c : List ℕ) → left c → (gate : ℕ) × (gate ≢ OPEN) × (c ≡ front ++ gate ∷ (body ++ rest))

-- And the gate is opened: a stop may leave any gate there.
pub record IsOpened (front body seen : List ℕ) (left : List ℕ → Type 0) : Type 0 where
  pub stands : IsFront front
  pub rest : List ℕ
  pub staged : (c : List ℕ) → left c → (gate : ℕ) × (c ≡ front ++ gate ∷ (body ++ rest))
  pub opened : seen ≡ front ++ OPEN ∷ (body ++ rest)

-- A device call failed: the record may stand there or not.
pub record IsFailed (front payload : List ℕ) (left : List ℕ → Type 0) : Type 0 where
  pub stands : IsFront front
  pub either : (c : List ℕ) → left c → BeforeOrAfter front payload c

-- A wipe has written the first gate closed: a stop may leave any byte there.
pub record IsGateWritten (front seen : List ℕ) (left : List ℕ → Type 0) : Type 0 where
  pub is_header : front ≡ header seen
  pub shut : IsShut front seen
  pub torn : (c : List ℕ) → left c → Torn HEADER 1 seen c

-- The first gate is kept closed.
pub record IsGateKept (front seen : List ℕ) (left : List ℕ → Type 0) : Type 0 where
  pub is_header : front ≡ header seen
  pub shut : IsShut front seen
  pub rest : (c : List ℕ) → left c → c ≡ seen

-- And the generation is written: a stop may leave any bytes in its place.
pub record IsNameWritten (front seen : List ℕ) (left : List ℕ → Type 0) : Type 0 where
  pub is_header : front ≡ header seen
  pub shut : IsShut front seen
  pub torn : (c : List ℕ) → left c → Torn 0 GENERATION_SIZE seen c

-- A device call of a wipe failed.
pub record IsUnwiped (front seen : List ℕ) (left : List ℕ → Type 0) : Type 0 where
  pub is_header : front ≡ header seen
  pub either : (c : List ℕ) → left c → LeftInWipe (header seen) (records_behind_gate seen) c

-- the payload in the bytes behind a gate
abbrev pub payload_in : List ℕ → List ℕ
payload_in body = take (length body - 5) (drop 4 body)

abbrev pub AtStage : Stage → List ℕ → List ℕ → List ℕ → (List ℕ → Type 0) → Type 0
AtStage stages.Resting front body seen left = IsResting front seen left
AtStage stages.Foreign front body seen left = IsForeign front seen left
AtStage stages.Begun front body seen left = IsBegun front left
AtStage stages.Written front body seen left = IsWritten front body seen left
AtStage stages.Kept front body seen left = IsKept front body left
AtStage stages.Opened front body seen left = IsOpened front body seen left
AtStage stages.Failed front body seen left = IsFailed front (payload_in body) left
AtStage stages.Closing front body seen left = IsGateWritten front seen left
AtStage stages.Closed front body seen left = IsGateKept front seen left
AtStage stages.Naming front body seen left = IsNameWritten front seen left
AtStage stages.WipeFailed front body seen left = IsUnwiped front seen left

-- a record that is begun, and has its place
pub record IsWhole (end : ℕ) (body : List ℕ) : Type 0 where
  pub bytes : body ≡ behind_gate (payload_in body)
  pub is_spelled : is_payload (payload_in body) ≡ true
  pub room : end + 1 + length body ≤ REGION_SIZE

abbrev pub HasRecord : Stage → ℕ → List ℕ → Type 0
HasRecord stages.Resting end body = Unit {0}
HasRecord stages.Foreign end body = Unit {0}
HasRecord stages.Begun end body = IsWhole end body
HasRecord stages.Written end body = IsWhole end body
HasRecord stages.Kept end body = IsWhole end body
HasRecord stages.Opened end body = IsWhole end body
HasRecord stages.Failed end body = Unit {0}
HasRecord stages.Closing end body = Unit {0}
HasRecord stages.Closed end body = Unit {0}
HasRecord stages.Naming end body = Unit {0}
HasRecord stages.WipeFailed end body = Unit {0}

-- What holds of a region: its next gate stands at `end`, and what a read and a stop give fits its stage.
pub record FitsItsStage (end : ℕ) (stage : Stage) (body seen : List ℕ) (left : List ℕ → Type 0) : Type 0 where
  pub size : length seen ≡ REGION_SIZE
  pub within : end < REGION_SIZE
  pub at_stage : AtStage stage (take end seen) body seen left
  pub record_begun : HasRecord stage end body

-- a buffer that is said to have what a read gives has it
abbrev pub HasIfSaid : Bool → List ℕ → List ℕ → Type 0
HasIfSaid said body seen = said ≡ true → body ≡ seen

-- the stage after a device call that succeeds
abbrev pub next : Stage → Stage
next stages.Resting = stages.Resting
next stages.Foreign = stages.Foreign
next stages.Begun = stages.Written
next stages.Written = stages.Kept
next stages.Kept = stages.Opened
next stages.Opened = stages.Resting
next stages.Failed = stages.Failed
next stages.Closing = stages.Closing
next stages.Closed = stages.Closed
next stages.Naming = stages.Naming
next stages.WipeFailed = stages.WipeFailed

-- how far a device call that succeeds has brought the append: the fourth is the last
abbrev pub progress : Stage → Progress
progress stages.Resting = Going
progress stages.Foreign = Going
progress stages.Begun = Going
progress stages.Written = Going
progress stages.Kept = Going
progress stages.Opened = Appended
progress stages.Failed = Going
progress stages.Closing = Going
progress stages.Closed = Going
progress stages.Naming = Going
progress stages.WipeFailed = Going

-- a device call of an append is to be made
abbrev pub IsAppending : Stage → Type 0
IsAppending stages.Resting = ⊥
IsAppending stages.Foreign = ⊥
IsAppending stages.Begun = Unit {0}
IsAppending stages.Written = Unit {0}
IsAppending stages.Kept = Unit {0}
IsAppending stages.Opened = Unit {0}
IsAppending stages.Failed = ⊥
IsAppending stages.Closing = ⊥
IsAppending stages.Closed = ⊥
IsAppending stages.Naming = ⊥
IsAppending stages.WipeFailed = ⊥

-- a record is begun, and no call has been made that opens its gate
abbrev pub IsUnopened : Stage → Type 0
IsUnopened stages.Resting = ⊥
IsUnopened stages.Foreign = ⊥
IsUnopened stages.Begun = Unit {0}
IsUnopened stages.Written = Unit {0}
IsUnopened stages.Kept = Unit {0}
IsUnopened stages.Opened = ⊥
IsUnopened stages.Failed = ⊥
IsUnopened stages.Closing = ⊥
IsUnopened stages.Closed = ⊥
IsUnopened stages.Naming = ⊥
IsUnopened stages.WipeFailed = ⊥

-- how many device calls of the append are still to be made
abbrev pub calls_left : Stage → ℕ
calls_left stages.Resting = 0
calls_left stages.Foreign = 0
calls_left stages.Begun = 4
calls_left stages.Written = 3
calls_left stages.Kept = 2
calls_left stages.Opened = 1
calls_left stages.Failed = 0
calls_left stages.Closing = 0
calls_left stages.Closed = 0
calls_left stages.Naming = 0
calls_left stages.WipeFailed = 0

-- nothing is begun, and no device call of an append is pending
abbrev pub IsIdle : Stage → Type 0
IsIdle stage = (stage ≡ stages.Resting) ⊎ (stage ≡ stages.Foreign)
