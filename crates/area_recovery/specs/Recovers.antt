-- What a recovery keeps while it goes on: whatever a stop leaves of the shared medium is recovered to the same state.
use Rattle.std.specs.Prelude.{◌≡◌, ℕ, zero, suc, ◌+◌, ◌/◌, ◌%◌, ◌≤◌, ◌<◌, List, [], true, Option, Some}
use Rattle.tier_device.specs.AfterStop.{Left}
use Rattle.tier_device.specs.declared.media.Tier.{Tier}
use Rattle.tier_device.specs.declared.media.Tier.TheVariants.{Fast, Block, Slow}
use Rattle.posix_calls.specs.Tree.{State}
use Rattle.posix_calls.specs.Operations.{is_client}
use Rattle.log_survey.specs.update_log.RecordCounts.{counted_records}
use Rattle.recovery_laws.specs.layout.declared.marks.Marks.{Marks}
use Rattle.recovery_laws.specs.layout.declared.marks.Mark.{Mark}
use Rattle.recovery_laws.specs.layout.Places.{Sizes}
use Rattle.event_lists.specs.Courses.{Content, WorldContent}
use Rattle.recovery_laws.specs.Contents.{CanRecover, mark_by, stored_state}

-- what stands in the regions of each client, by the remainder of their generations by two
abbrev pub Regions : Type 0
Regions = ℕ → ℕ → List ℕ

-- a region holds bytes in its fast tier alone
abbrev pub region_content : List ℕ → Content
region_content bytes Fast = bytes
region_content bytes Block = []
region_content bytes Slow = []

-- the contents of all parts, by that of the shared medium and of the regions
abbrev pub joined : Content → Regions → WorldContent
joined shared regions zero = shared
joined shared regions (suc k) = region_content (regions (k / 2 + 1) (k % 2))

-- in the clients' regions stands what stands in these
abbrev pub AreThese : Regions → Regions → Type 0
AreThese these regions = (client r : ℕ) → is_client client ≡ true → r < 2 → regions client r ≡ these client r

-- With these regions a recovery takes the content of the shared medium, and it stores this state.
pub record Recovers (g : Sizes) (regions : Regions) (state : State) (shared : Content) : Type 0 where
  pub can : CanRecover g (joined shared regions)
  pub stored : stored_state g (joined shared regions) ≡ state

-- Whatever a stop at some moment from the one reading to the other may have left of it is so recovered.
abbrev pub RecoversThrough : Sizes → Regions → State → ℕ → ℕ → (ℕ → Tier → List ℕ → Type 0) → Type 0
RecoversThrough g regions state from to left = (m : ℕ) (content : Content) → from ≤ m → m ≤ to → Left left m content → Recovers g regions state content

-- no record of any client counts under these marks
abbrev pub CountNone : Regions → Option Marks → Type 0
CountNone regions marks = (client : ℕ) → is_client client ≡ true → counted_records (mark_by marks client).generation (mark_by marks client).done (regions client) ≡ []

-- marks by which the clients stand so; how many digests there were makes no difference to what counts
abbrev pub marks_by : List Mark → Option Marks
marks_by clients = Some (record { clients = clients; digests = 0 })
