-- The device calls of a wipe, one after the other.
use Rattle.std.specs.Prelude.{◌≡◌, ℕ, ◌==◌, List, [], ◌∷◌, if◌then◌else◌}
use Rattle.byteorder.specs.Endian.{little_bytes}
use Rattle.tier_device.specs.Media.{overwritten}
use Rattle.log_record.specs.declared.format.Record.{Record}
use Rattle.update_log.specs.declared.format.TheConstants.{HEADER, CLOSED, GENERATION_SIZE}
use Rattle.update_log.specs.declared.stage.Stage.{Stage}
use Rattle.update_log.specs.declared.stage.Stage.TheVariants as stages
use Rattle.update_log.specs.declared.stage.WipeProgress.{WipeProgress}
use Rattle.update_log.specs.declared.stage.WipeProgress.TheVariants.{Going, Wiped}
use Rattle.update_log.specs.Frames.{header}
use Rattle.update_log.specs.Stage.{IsGateWritten, IsGateKept, IsNameWritten}
use Rattle.update_log.specs.WipeStops.{header_of, LeftInClosing, LeftInNaming}

-- a device call of a wipe is under way
abbrev pub IsWiping : Stage → Type 0
IsWiping stages.Resting = ⊥
IsWiping stages.Foreign = ⊥
IsWiping stages.Begun = ⊥
IsWiping stages.Written = ⊥
IsWiping stages.Kept = ⊥
IsWiping stages.Opened = ⊥
IsWiping stages.Failed = ⊥
IsWiping stages.Closing = Unit {0}
IsWiping stages.Closed = Unit {0}
IsWiping stages.Naming = Unit {0}
IsWiping stages.WipeFailed = Unit {0}

-- a wipe may begin or go on
abbrev pub CanWipe : Stage → Type 0
CanWipe stages.Resting = Unit {0}
CanWipe stages.Foreign = Unit {0}
CanWipe stages.Begun = ⊥
CanWipe stages.Written = ⊥
CanWipe stages.Kept = ⊥
CanWipe stages.Opened = ⊥
CanWipe stages.Failed = ⊥
CanWipe stages.Closing = Unit {0}
CanWipe stages.Closed = Unit {0}
CanWipe stages.Naming = Unit {0}
CanWipe stages.WipeFailed = ⊥

-- the stage after the first device call, by the byte at the first gate: where that is 0x00 already, the generation is written at once
abbrev pub first_stage : ℕ → Stage
first_stage gate = if gate == CLOSED then stages.Naming else stages.Closing

-- the stage after a device call that succeeds
abbrev pub wipe_next : Stage → ℕ → Stage
wipe_next stages.Resting gate = first_stage gate
wipe_next stages.Foreign gate = first_stage gate
wipe_next stages.Begun gate = stages.Begun
wipe_next stages.Written gate = stages.Written
wipe_next stages.Kept gate = stages.Kept
wipe_next stages.Opened gate = stages.Opened
wipe_next stages.Failed gate = stages.Failed
wipe_next stages.Closing gate = stages.Closed
wipe_next stages.Closed gate = stages.Naming
wipe_next stages.Naming gate = stages.Resting
wipe_next stages.WipeFailed gate = stages.WipeFailed

-- how far the call that leads to a stage has brought the wipe
abbrev pub wipe_progress : Stage → WipeProgress
wipe_progress stages.Resting = Wiped
wipe_progress _ = Going

-- what a read gives after the call that leads to a stage: the first closes the gate, the third writes the generation, and a fence leaves all as it was
abbrev pub seen_wiped : Stage → ℕ → List ℕ → List ℕ
seen_wiped stages.Closing g seen = overwritten seen HEADER (CLOSED ∷ [])
seen_wiped stages.Naming g seen = overwritten seen 0 (little_bytes GENERATION_SIZE g)
seen_wiped _ g seen = seen

-- the header after it
abbrev pub header_wiped : Stage → ℕ → List ℕ → List ℕ
header_wiped stages.Naming g head = header_of g head
header_wiped _ g head = head

-- what a stop leaves at each moment of the call that leads to a stage
abbrev pub LeftInCall : Stage → List ℕ → List Record → List ℕ → Type 0
LeftInCall stages.Closing head behind content = LeftInClosing head behind content
LeftInCall stages.Closed head behind content = LeftInClosing head behind content
LeftInCall _ head behind content = LeftInNaming head content

-- what has to hold before the call that leads to a stage
abbrev pub IsReadyFor : Stage → List ℕ → (List ℕ → Type 0) → Type 0
IsReadyFor stages.Closing seen left = (c : List ℕ) → left c → c ≡ seen
IsReadyFor stages.Closed seen left = IsGateWritten (header seen) seen left
IsReadyFor stages.Naming seen left = IsGateKept (header seen) seen left
IsReadyFor stages.Resting seen left = IsNameWritten (header seen) seen left
IsReadyFor _ seen left = ⊥

-- and what holds after it, where it succeeds
abbrev pub IsDoneWith : Stage → List ℕ → (List ℕ → Type 0) → Type 0
IsDoneWith stages.Closing seen left = IsGateWritten (header seen) seen left
IsDoneWith stages.Closed seen left = IsGateKept (header seen) seen left
IsDoneWith stages.Naming seen left = IsNameWritten (header seen) seen left
IsDoneWith stages.Resting seen left = IsGateKept (header seen) seen left
IsDoneWith _ seen left = ⊥

-- what is known of a region, at a stage from which a wipe begins or goes on
abbrev pub MayWipe : Stage → List ℕ → (List ℕ → Type 0) → Type 0
MayWipe stages.Resting seen left = (c : List ℕ) → left c → c ≡ seen
MayWipe stages.Foreign seen left = (c : List ℕ) → left c → c ≡ seen
MayWipe stages.Closing seen left = IsGateWritten (header seen) seen left
MayWipe stages.Closed seen left = IsGateKept (header seen) seen left
MayWipe stages.Naming seen left = IsNameWritten (header seen) seen left
MayWipe _ seen left = ⊥
