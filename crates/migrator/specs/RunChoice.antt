-- Which file is moved down next.
use Rattle.std.specs.Prelude.{◌≡◌, ◌⊎◌, ◌<◌, ◌≤◌, ℕ, Option, Some, None, IsSome}
use Rattle.tier_device.specs.declared.media.Tier.{Tier}
use Rattle.tier_device.specs.declared.media.Tier.TheVariants as tiers
use Rattle.shared_area.specs.layout.Places.{Sizes}
use Rattle.shared_area.specs.area_reader.Store.{Store, slot, touch_of}
use Rattle.shared_area.specs.relocation.TierMove.{CanMove}
use Rattle.shared_area.specs.FirstRun.{file_lies, IsFirstRun}
use Rattle.migrator.specs.declared.run_choice.FileRun.{FileRun}

-- Some block of the file at an inode lies in a tier.
abbrev pub LiesIn : Sizes → Store → Tier → ℕ → Type 0
LiesIn g s t i = (k : ℕ) × IsSome (file_lies g s i t k)

-- the number of the last digest that wrote an inode
abbrev pub last_digest : Sizes → Store → ℕ → ℕ
last_digest g s i = touch_of (slot g s i)

-- One inode was touched before another, or both at once and its number is not greater.
abbrev pub ComesBefore : Sizes → Store → ℕ → ℕ → Type 0
ComesBefore g s i j = (last_digest g s i < last_digest g s j) ⊎ ((last_digest g s i ≡ last_digest g s j) × (i ≤ j))

-- Of the files with a block in a tier, as far as they are among these, the one that comes first, with its first run there, of 256 blocks at most.
pub record IsFirst (g : Sizes) (s : Store) (t : Tier) (among : ℕ → Type 0) (x : FileRun) : Type 0 where
  pub inside : among x.inode
  pub run : IsFirstRun (file_lies g s x.inode t) 256 x.run
  pub least : (j : ℕ) → among j → LiesIn g s t j → ComesBefore g s x.inode j

-- That is the one; none where none of these has a block there.
abbrev pub IsPickedAmong : Sizes → Store → Tier → (ℕ → Type 0) → Option FileRun → Type 0
IsPickedAmong g s t among None = (j : ℕ) → among j → LiesIn g s t j → ⊥
IsPickedAmong g s t among (Some x) = IsFirst g s t among x

-- That is the one of all files.
abbrev pub IsPickedIn : Sizes → Store → Tier → Option FileRun → Type 0
IsPickedIn g s t x = IsPickedAmong g s t (λ j. Unit {0}) x

-- What is to be moved to a tier next, from the tier next above it: nothing to the fast one.
abbrev pub IsPicked : Sizes → Store → Tier → Option FileRun → Type 0
IsPicked g s tiers.Fast x = x ≡ None
IsPicked g s tiers.Block x = IsPickedIn g s tiers.Fast x
IsPicked g s tiers.Slow x = IsPickedIn g s tiers.Block x

-- The run may be moved to that tier.
abbrev pub MayBeMoved : Sizes → Store → Tier → FileRun → Type 0
MayBeMoved g s to x = CanMove g s x.inode x.run.first x.run.count to

-- ---- as it is looked for

-- a file that has a block in a tier, with the number of the last digest that wrote it
abbrev pub FoundFile : Type 0
FoundFile = ℕ × FileRun

-- the pick alone
abbrev pub pick_of : Option FoundFile → Option FileRun
pick_of None = None
pick_of (Some x) = Some x.1

-- The touch number is told as it is.
abbrev pub HasLastDigest : Sizes → Store → Option FoundFile → Type 0
HasLastDigest g s None = Unit {0}
HasLastDigest g s (Some x) = x.0 ≡ last_digest g s x.1.inode

-- The first one of the inodes below a number.
pub record IsBestBelow (g : Sizes) (s : Store) (t : Tier) (end : ℕ) (x : Option FoundFile) : Type 0 where
  pub picked : IsPickedAmong g s t (λ j. j < end) (pick_of x)
  pub touch : HasLastDigest g s x
