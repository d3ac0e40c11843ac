-- What holds at each moment of several device calls.
use Rattle.std.specs.Prelude.{◌≡◌, ◌≢◌, ℕ, ◌≤◌, ◌<◌, ◌+◌, ◌*◌, ◌⊎◌, List, length, true, None}
use Rattle.tier_device.specs.declared.media.Tier.{Tier}
use Rattle.tier_device.specs.Media.{Torn}
use Rattle.layout.specs.Places.{Sizes}
use Rattle.batch_journal.specs.Images.{images_of, images_from, image_for, with_images}
use Rattle.batch_journal.specs.Blocks.{block_of, is_home, gate_of, rest_of_gate, area_of, home, after_batch, Fit}
use Rattle.batch_journal.specs.Volume.{IsJournal, SameJournal, IsAfter}

-- From the old moment on a stop leaves P of the tier, and of the others what it might before; the past stays.
pub record Since (tier : Tier) (P : List ℕ → Type 0) (before now : ℕ) (old new : ℕ → Tier → List ℕ → Type 0) : Type 0 where
  pub later : before ≤ now
  pub past : (m : ℕ) (t : Tier) (c : List ℕ) → m ≤ before → new m t c → old m t c
  pub kept : (m : ℕ) (t : Tier) (c : List ℕ) → m ≤ before → old m t c → new m t c
  pub all : (m : ℕ) (c : List ℕ) → before ≤ m → m ≤ now → new m tier c → P c
  pub others : (m : ℕ) (t : Tier) (c : List ℕ) → t ≢ tier → before ≤ m → m ≤ now → new m t c → old before t c

-- Nothing but reads: the clock stands, and all is as it was.
pub record Unmoved (before now : ℕ) (seen seen' : Tier → List ℕ) (old new : ℕ → Tier → List ℕ → Type 0) : Type 0 where
  pub clock : now ≡ before
  pub reads : (t : Tier) → seen' t ≡ seen t
  pub past : (m : ℕ) (t : Tier) (c : List ℕ) → m ≤ before → new m t c → old m t c
  pub kept : (m : ℕ) (t : Tier) (c : List ℕ) → m ≤ before → old m t c → new m t c

-- each tier is as long as it was
abbrev pub SameLengths : (Tier → List ℕ) → (Tier → List ℕ) → Type 0
SameLengths old new = (t : Tier) → length (new t) ≡ length (old t)

-- what might be left, torn in a range
abbrev pub TornFrom : (List ℕ → Type 0) → ℕ → ℕ → List ℕ → Type 0
TornFrom left at n c = (d : List ℕ) × left d × Torn at n d c

-- Nothing changes but home blocks that these images are for.
pub record Beside (images : List (ℕ × List ℕ)) (d c : List ℕ) : Type 0 where
  pub gate : gate_of c ≡ gate_of d
  pub rest : rest_of_gate c ≡ rest_of_gate d
  pub area : area_of c ≡ area_of d
  pub blocks : (k : ℕ) → is_home k ≡ true → image_for k images ≡ None → block_of c k ≡ block_of d k
  pub same_length : length c ≡ length d

-- all images are in their places
pub record IsPut (images : List (ℕ × List ℕ)) (old new : List ℕ) : Type 0 where
  pub beside : Beside images old new
  pub put : (k : ℕ) → is_home k ≡ true → block_of new k ≡ with_images images (block_of old) k

-- what might be left, with some of these blocks torn
abbrev pub BesideFrom : (List ℕ → Type 0) → List (ℕ × List ℕ) → List ℕ → Type 0
BesideFrom left images c = (d : List ℕ) × left d × Beside images d c

-- The images from place p on that are left to do, and what is done.
pub record Doing (bytes : List ℕ) (p n : ℕ) (first seen : List ℕ) : Type 0 where
  pub beside : Beside (images_of bytes) first seen
  pub to_do : (k : ℕ) → is_home k ≡ true → with_images (images_from bytes p n) (block_of seen) k ≡ with_images (images_of bytes) (block_of first) k
  pub fit : Fit (length seen) (images_from bytes p n)

-- opened like something that might be left before, or like what the batch makes
abbrev pub SameOrAfter : (List ℕ → Type 0) → List ℕ → List ℕ → List ℕ → Type 0
SameOrAfter left bytes seen c = ((d : List ℕ) × left d × SameJournal d c) ⊎ IsAfter bytes seen c

-- A content of this geometry, with the blocks of something that might be left before, or with those after the batch.
pub record BeforeOrAfter (g : Sizes) (left : List ℕ → Type 0) (images : List (ℕ × List ℕ)) (seen c : List ℕ) : Type 0 where
  pub journal : IsJournal g c
  pub blocks : ((d : List ℕ) × left d × (home c ≡ home d)) ⊎ (home c ≡ after_batch images (home seen))

-- the blocks outside a run of so many bytes stay
abbrev pub OutsideRun : ℕ → ℕ → List ℕ → List ℕ → Type 0
OutsideRun first size d c = (k : ℕ) → (k < first) ⊎ (4096 * first + size ≤ 4096 * k) → home c k ≡ home d k

-- A content of this geometry, with the blocks of something that might be left before, but for a run.
pub record OutsideRunFrom (g : Sizes) (left : List ℕ → Type 0) (first size : ℕ) (c : List ℕ) : Type 0 where
  pub journal : IsJournal g c
  pub blocks : (d : List ℕ) × left d × OutsideRun first size d c
