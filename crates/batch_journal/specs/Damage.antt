-- What is damaged on a medium that holds no journal.
use Rattle.std.specs.Prelude.{◌≡◌, ◌<◌, ◌≤◌, ◌⊎◌, ℕ, List, length, true, false, if◌then◌else◌}
use Rattle.tier_device.specs.declared.media.Tier.{Tier}
use Rattle.tier_device.specs.declared.media.Tier.TheVariants.{Fast}
use Rattle.layout.specs.declared.error.What.{What}
use Rattle.layout.specs.declared.error.What.TheVariants as what
use Rattle.batch_journal.specs.declared.error.JournalError.{JournalError}
use Rattle.batch_journal.specs.declared.error.JournalError.TheVariants as errors
use Rattle.layout.specs.Bytes.{are_zero}
use Rattle.layout.specs.Places.{Sizes}
use Rattle.batch_journal.specs.Images.{image_count}
use Rattle.batch_journal.specs.Blocks.{area_of, block_of, is_gate_open, rest_of_gate}
use Rattle.batch_journal.specs.Volume.{Spells, HasSizes, IsHead, IsVolume}
use Rattle.batch_journal.specs.BatchReads.{first_block}

-- a fact on the structure and the block that a refusal names, if it is for damage
abbrev pub OnJournalDamage : JournalError → (What → ℕ → Type 0) → Type 0
OnJournalDamage errors.DeviceFault P = Unit {0}
OnJournalDamage errors.BatchTooLarge P = Unit {0}
OnJournalDamage (errors.Damaged what block) P = P what block
OnJournalDamage errors.Memory P = Unit {0}

-- the block that tells the geometry: behind an open gate the first image, if that is for block 0, else block 0
abbrev pub super_block : List ℕ → List ℕ
super_block c = if is_gate_open c then first_block (area_of c) c else block_of c 0

-- the block is no superblock, or the tiers have other sizes than it tells
abbrev pub HasNoSuper : List ℕ → (Tier → List ℕ) → Type 0
HasNoSuper block seen = (g : Sizes) → Spells g block → HasSizes g seen → ⊥

-- behind an open gate stands a count that a head may have
abbrev pub CountsImages : List ℕ → Type 0
CountsImages c = is_gate_open c ≡ true → (1 ≤ image_count (area_of c)) × (image_count (area_of c) ≤ 256)

-- the superblock tells a geometry, by which there is no head
abbrev pub HasNoHead : (Tier → List ℕ) → Type 0
HasNoHead seen = (g : Sizes) × Spells g (super_block (seen Fast)) × HasSizes g seen × (IsHead g (area_of (seen Fast)) → ⊥)

-- the gate's block holds more than a gate byte
pub record IsGateDamage (c : List ℕ) (w : What) (block : ℕ) : Type 0 where
  pub structure : w ≡ what.JournalGate
  pub place : block ≡ 34
  pub size : 1196032 ≤ length c
  pub rest : are_zero (rest_of_gate c) ≡ false

-- Behind an open gate stands no head: no count of one, or no head by the geometry that is told.
pub record IsHeadDamage (seen : Tier → List ℕ) (w : What) (block : ℕ) : Type 0 where
  pub structure : w ≡ what.JournalHead
  pub place : block ≡ 35
  pub size : 1196032 ≤ length (seen Fast)
  pub rest : are_zero (rest_of_gate (seen Fast)) ≡ true
  pub opened : is_gate_open (seen Fast) ≡ true
  pub head : (image_count (area_of (seen Fast)) < 1) ⊎ (256 < image_count (area_of (seen Fast))) ⊎ HasNoHead seen

-- The medium is too short for a journal, or gate and count are sound and the superblock tells no geometry of these sizes.
pub record IsSuperDamage (seen : Tier → List ℕ) (w : What) (block : ℕ) : Type 0 where
  pub structure : w ≡ what.Super
  pub place : block ≡ 0
  pub none : (length (seen Fast) < 1196032) ⊎ ((are_zero (rest_of_gate (seen Fast)) ≡ true) × CountsImages (seen Fast) × HasNoSuper (super_block (seen Fast)) seen)

-- the structure that is damaged, and where it stands: one at most, and none on a medium that holds a journal
abbrev pub NamesDamage : (Tier → List ℕ) → What → ℕ → Type 0
NamesDamage seen w block = IsGateDamage (seen Fast) w block ⊎ IsHeadDamage seen w block ⊎ IsSuperDamage seen w block

-- an open journal that is to be replayed
abbrev pub AwaitsReplay : (Tier → List ℕ) → Type 0
AwaitsReplay seen = (is_gate_open (seen Fast) ≡ true) × ((g : Sizes) × IsVolume g seen)
