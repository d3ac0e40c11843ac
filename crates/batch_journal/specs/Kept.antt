-- Blocks that are kept of those that a fast tier stands for.
use Rattle.std.specs.Prelude.{◌≡◌, ◌<◌, ◌%◌, ℕ, List, length, true, get_or}
use Rattle.layout.specs.Places.{Sizes, is_journaled}
use Rattle.batch_journal.specs.declared.kept_blocks.KeptBlock.{KeptBlock}
use Rattle.tier_device.specs.declared.media.Tier.{Tier}
use Rattle.tier_device.specs.declared.media.Tier.TheVariants.{Fast}
use Rattle.batch_journal.specs.Blocks.{Blocks, home}
use Rattle.batch_journal.specs.View.{IsShut}

-- It stands at its own place of so many, and is what its block holds.
pub record IsKept (blocks : Blocks) (places p : ℕ) (kept : KeptBlock) : Type 0 where
  pub place : p ≡ kept.number % places
  pub bytes : kept.bytes ≡ blocks kept.number

-- what is kept of blocks that a batch may write is what they hold
abbrev pub Shows : Sizes → Blocks → List KeptBlock → Type 0
Shows g blocks places = (p : ℕ) (none : KeptBlock) → p < length places → is_journaled g (get_or places p none).number ≡ true → IsKept blocks (length places) p (get_or places p none)

-- A journal that has met no fault: what a stop may leave is shut, and what is kept of blocks is what they hold.
pub record IsGoing (g : Sizes) (seen : Tier → List ℕ) (left : List ℕ → Type 0) (places : List KeptBlock) : Type 0 where
  pub shut : IsShut g seen left
  pub kept : Shows g (home (seen Fast)) places
