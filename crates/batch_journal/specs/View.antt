-- A journal and a batch, as their callers see them.
use Rattle.std.specs.Prelude.{Bool, ℕ, List, ◌≡◌, ◌≤◌, ◌+◌, ◌*◌, length, true, false}
use Rattle.tier_device.specs.declared.media.Tier.{Tier}
use Rattle.layout.specs.Places.{Sizes}
use Rattle.batch_journal.specs.Images.{images_of, image_count, rest_of_head, Rises, next_of}
use Rattle.layout.specs.Bytes.{are_zero}
use Rattle.batch_journal.specs.Blocks.{is_gate_open}
use Rattle.batch_journal.specs.Volume.{IsJournal, HasSizes}

pub record JournalView (M : Type 0) : Type 0 where
  pub media : M
  pub geometry : Sizes
  -- a device failed: it answers so until it is opened again
  pub failed : Bool

-- the bytes are a head and its images
pub record IsBatch (count next : ℕ) (bytes : List ℕ) : Type 0 where
  pub counts : count ≡ image_count bytes
  pub long : 4096 * count + 4096 ≡ length bytes
  pub few : count ≤ 1023
  pub rises : Rises 0 (images_of bytes)
  pub next_is : next ≡ next_of (images_of bytes)
  pub rest : are_zero (rest_of_head bytes) ≡ true

-- Whatever a stop leaves is a journal of this geometry, with a closed gate.
pub record IsShut (g : Sizes) (seen : Tier → List ℕ) (left : List ℕ → Type 0) : Type 0 where
  pub sizes : HasSizes g seen
  pub closed : (c : List ℕ) → left c → is_gate_open c ≡ false
  pub journal : (c : List ℕ) → left c → IsJournal g c
