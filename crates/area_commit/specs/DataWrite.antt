-- What a journal is while data is written to free blocks.
use Rattle.std.specs.Prelude.{◌≡◌, ◌≤◌, ◌<◌, ◌+◌, ◌*◌, ℕ, List, [], ◌∷◌, take, drop, get_or, length, true, false, Result, OnOk, IfErr}
use Rattle.std.specs.List.{Contains, flat_map}
use Rattle.tier_device.specs.declared.media.Media.{Ghosts}
use Rattle.tier_device.specs.declared.media.Tier.{Tier}
use Rattle.tier_device.specs.declared.media.Tier.TheVariants.{Fast, Block, Slow}
use Rattle.tier_device.specs.Media.{Rose}
use Rattle.tier_device.specs.AfterStop.{AtRest}
use Rattle.area_reader.specs.layout.Places.{Sizes, data_first, tier_blocks}
use Rattle.block_alloc.specs.declared.runs.Run.{Run}
use Rattle.block_alloc.specs.Runs.{blocks_of, AreNormalRuns}
use Rattle.area_reader.specs.batch_journal.Images.{slice}
use Rattle.area_reader.specs.batch_journal.Blocks.{block_of}
use Rattle.area_reader.specs.batch_journal.Course.{Since}
use Rattle.area_reader.specs.batch_journal.View.{JournalView}
use Rattle.area_reader.specs.batch_journal.Volume.{IsJournal}
use Rattle.area_reader.specs.batch_journal.declared.error.JournalError.{JournalError}
use Rattle.area_reader.specs.batch_journal.declared.error.JournalError.TheVariants.{DeviceFault}
use Rattle.area_reader.specs.Store.{Store, content_blocks}
use Rattle.area_reader.specs.Reads.{Free, LooseIn}
use Rattle.area_commit.specs.declared.allocation.Allocation.{Allocation}
use Rattle.area_commit.specs.Allocations.{runs_of}

-- All blocks of the runs are free.
abbrev pub AreFreeIn : Sizes → Store → Tier → List Run → Type 0
AreFreeIn g s t runs = (k : ℕ) → Contains (blocks_of runs) k → Free g s t k

-- The runs of three tiers hold the data, one tier after the other.
pub record HoldParts (content : Tier → List ℕ) (fast block slow : List Run) (bytes : List ℕ) : Type 0 where
  pub fast_part : flat_map (block_of (content Fast)) (blocks_of fast) ≡ take (4096 * length (blocks_of fast)) bytes
  pub block_part : flat_map (block_of (content Block)) (blocks_of block) ≡ take (4096 * length (blocks_of block)) (drop (4096 * length (blocks_of fast)) bytes)
  pub slow_part : flat_map (block_of (content Slow)) (blocks_of slow) ≡ drop (4096 * length (blocks_of block)) (drop (4096 * length (blocks_of fast)) bytes)

-- the block at a place
abbrev pub block_at : Store → Tier × ℕ → List ℕ
block_at s place = s place.0 place.1

-- The block at each place holds its part of the data, in order.
abbrev pub HoldData : Store → List (Tier × ℕ) → List ℕ → Type 0
HoldData s places bytes = (n : ℕ) → n < length places → block_at s (get_or places n (Fast, 0)) ≡ slice (4096 * n) 4096 bytes

-- the fences of a tier in which these runs are written
abbrev pub fences_of : List Run → ℕ
fences_of [] = 0
fences_of (run ∷ runs) = 1

-- how many device calls it takes to write runs of a tier and to fence it
abbrev pub tier_calls : List Run → ℕ
tier_calls runs = length runs + fences_of runs

-- how many it takes for all that was taken
abbrev pub calls_for : Allocation → ℕ
calls_for taken = tier_calls taken.fast.items + tier_calls taken.block.items + tier_calls taken.slow.items

-- The runs rise among the data blocks of their tiers, and none touches the next.
abbrev pub RunsAreNormal : Sizes → Allocation → Type 0
RunsAreNormal g taken = (t : Tier) → AreNormalRuns (data_first g t) (tier_blocks g t) (runs_of taken t)

-- Whatever may be left of a tier differs from that store in blocks alone that are free in it.
abbrev pub IsLooseLeft : Sizes → Store → (Tier → List ℕ → Type 0) → Type 0
IsLooseLeft g s left = (t : Tier) (c : List ℕ) → left t c → LooseIn g s t (content_blocks t c)

-- Whatever may be left of the fast tier holds a journal of that geometry.
abbrev pub IsJournalLeft : Sizes → (Tier → List ℕ → Type 0) → Type 0
IsJournalLeft g left = (c : List ℕ) → left Fast c → IsJournal g c

-- The past stays. Where what may be left differs from that store in its free blocks alone, so it does at each moment from the old one to the new one; and where it holds a
-- journal, so it does.
pub record StaysLoose (g : Sizes) (s : Store) (before now : ℕ) (old new : ℕ → Tier → List ℕ → Type 0) : Type 0 where
  pub later : before ≤ now
  pub past : (m : ℕ) (t : Tier) (c : List ℕ) → m ≤ before → new m t c → old m t c
  pub kept : (m : ℕ) (t : Tier) (c : List ℕ) → m ≤ before → old m t c → new m t c
  pub any_moment : IsLooseLeft g s (old before) → (m : ℕ) → before ≤ m → m ≤ now → IsLooseLeft g s (new m)
  pub journal : IsJournalLeft g (old before) → (m : ℕ) → before ≤ m → m ≤ now → IsJournalLeft g (new m)

-- Each such tier that was at rest is so still.
abbrev pub RestsBut : (Tier → Type 0) → (seen seen' : Tier → List ℕ) → (left left' : Tier → List ℕ → Type 0) → Type 0
RestsBut these seen seen' left left' = (t : Tier) → these t → AtRest seen left t → AtRest seen' left' t

-- Only one content may be left of a tier.
abbrev pub IsKept : (Tier → List ℕ → Type 0) → Tier → Type 0
IsKept left t = (c d : List ℕ) → left t c → left t d → c ≡ d

-- The past stays. Tiers in which these runs are written are fenced in turn, fastest first: at each call behind the fence of one, only one content might be left of it when it was fenced.
pub record FencesInTurn (fast block : List Run) (before now : ℕ) (old new : ℕ → Tier → List ℕ → Type 0) : Type 0 where
  pub past : (m : ℕ) (t : Tier) (c : List ℕ) → m ≤ before → new m t c → old m t c
  pub fast_kept : (m : ℕ) → m ≡ before + 1 → m < now → 0 < length fast → IsKept (new m) Fast
  pub block_kept : (m : ℕ) → m ≡ before + fences_of fast + 1 → m < now → 0 < length block → IsKept (new m) Block

-- The past stays. Runs of three tiers are written in turn, fastest first, with one call for each: until those of the faster tiers are written, what may be left of a tier is what might be
-- left before. Then the tiers are fenced in the same order: at each call behind the fence of one, only one content might be left of it when it was fenced.
pub record GoesInTurn (fast block slow : List Run) (before now : ℕ) (old new : ℕ → Tier → List ℕ → Type 0) : Type 0 where
  pub past : (m : ℕ) (t : Tier) (c : List ℕ) → m ≤ before → new m t c → old m t c
  pub block_waits : (m : ℕ) (c : List ℕ) → before ≤ m → m ≤ now → m ≤ before + length fast → new m Block c → old before Block c
  pub slow_waits : (m : ℕ) (c : List ℕ) → before ≤ m → m ≤ now → m ≤ before + length fast + length block → new m Slow c → old before Slow c
  pub fast_kept : (m : ℕ) → m ≡ before + length fast + length block + length slow + 1 → m < now → 0 < length fast → IsKept (new m) Fast
  pub block_kept : (m : ℕ) → m ≡ before + length fast + length block + length slow + fences_of fast + 1 → m < now → 0 < length block → IsKept (new m) Block

-- So does the data for all that was taken.
abbrev pub TakenInTurn : Allocation → (before now : ℕ) → (old new : ℕ → Tier → List ℕ → Type 0) → Type 0
TakenInTurn taken = GoesInTurn taken.fast.items taken.block.items taken.slow.items

-- Nothing but reads, and writes of one tier: the past stays, and of the other tiers a stop leaves what it might before.
abbrev pub WritesIn : Tier → (before now : ℕ) → (old new : ℕ → Tier → List ℕ → Type 0) → Type 0
WritesIn tier = Since tier (λ _. Unit {0})

-- one of three, by its tier
abbrev pub part_in : List Run → List Run → List Run → Tier → List Run
part_in fast block slow Fast = fast
part_in fast block slow Block = block
part_in fast block slow Slow = slow

-- A tier that was at rest is so still.
abbrev pub KeepsRest : (seen seen' : Tier → List ℕ) → (left left' : Tier → List ℕ → Type 0) → Type 0
KeepsRest seen seen' left left' = (t : Tier) → AtRest seen left t → AtRest seen' left' t

-- The journal goes on, or a device has failed.
pub record Went {M T : Type 0} (device : Ghosts M) (old new : JournalView M) (result : Result T JournalError) : Type 0 where
  pub geometry : new.geometry ≡ old.geometry
  pub only : IfErr result (λ e. e ≡ DeviceFault)
  pub fault : IfErr result (λ e. (new.failed ≡ true) × Rose (device.faults old.media) (device.faults new.media))
  pub going : OnOk result (new.failed ≡ false)
  pub quiet : OnOk result (device.faults new.media ≡ device.faults old.media)
  pub more_faults : device.faults old.media ≤ device.faults new.media
  pub one_fault : device.faults new.media ≤ device.faults old.media + 1
