-- What the bytes of a fast tier stand for, once an open journal is replayed.
use Rattle.std.specs.Prelude.{◌≡◌, ℕ, ◌+◌, ◌-◌, ◌*◌, ◌≤◌, List, length, [], ◌∷◌, get_or, None, Bool, true, nat_le, nat_lt, ◌||◌, ◌==◌, if◌then◌else◌}
use Rattle.layout.specs.Places.{Sizes, is_journaled}
use Rattle.batch_journal.specs.Images.{slice, image_count, images_of, image_for, with_images}

-- a block's bytes, by its number
abbrev pub Blocks : Type 0
Blocks = ℕ → List ℕ

-- the block at its place
abbrev pub block_of : List ℕ → Blocks
block_of c k = slice (4096 * k) 4096 c

-- byte 0 of block 34
abbrev pub gate_of : List ℕ → List ℕ
gate_of c = slice 139264 1 c

-- the other bytes of block 34
abbrev pub rest_of_gate : List ℕ → List ℕ
rest_of_gate c = slice 139265 4095 c

-- the gate is 0xA5
abbrev pub is_gate_open : List ℕ → Bool
is_gate_open c = get_or (gate_of c) 0 0 == 165

-- the gate is 0x00, as a batch leaves it
abbrev pub IsShutGate : List ℕ → Type 0
IsShutGate c = gate_of c ≡ 0 ∷ []

-- blocks 35 to 291: head and images
abbrev pub area_of : List ℕ → List ℕ
area_of c = slice 143360 1052672 c

-- all blocks but the journal's own, which are 34 to 291
abbrev pub is_home : ℕ → Bool
is_home k = nat_lt k 34 || nat_le 292 k

-- The blocks that a fast tier stands for: all but the journal's own; under an open gate with the images on top.
unfoldable pub home : List ℕ → Blocks
home c k = if is_home k then (if is_gate_open c then with_images (images_of (area_of c)) (block_of c) k else block_of c k) else []

-- Bytes that are read from a byte of a fast tier on: those of home blocks are the blocks'.
abbrev pub ShowsHome : ℕ → List ℕ → List ℕ → Type 0
ShowsHome at bytes c = (k o n : ℕ) → is_home k ≡ true → o + n ≤ 4096 → at ≤ 4096 * k + o → 4096 * k + o + n ≤ at + length bytes → slice (4096 * k + o - at) n bytes ≡ slice o n (home c k)

-- how many device calls it takes to open such a medium: those of a batch from its images on, where the gate is open
abbrev pub opening_calls : List ℕ → ℕ
opening_calls c = if is_gate_open c then image_count (area_of c) + 3 else 0

-- the blocks after a batch, from those before it
unfoldable pub after_batch : List (ℕ × List ℕ) → Blocks → Blocks
after_batch images blocks k = if is_home k then with_images images blocks k else []

-- A batch may write each of these blocks.
abbrev pub AreJournaled : Sizes → List (ℕ × List ℕ) → Type 0
AreJournaled g [] = Unit {0}
AreJournaled g (image ∷ images) = (is_journaled g image.0 ≡ true) × AreJournaled g images

-- The numbers rise strictly, from low on, and a batch may write each block.
abbrev pub RisesJournaled : Sizes → ℕ → List (ℕ × List ℕ) → Type 0
RisesJournaled g low [] = Unit {0}
RisesJournaled g low (image ∷ images) = (low ≤ image.0) × (is_journaled g image.0 ≡ true) × RisesJournaled g (image.0 + 1) images

-- Images that a tier of that size has a place for: each block is named once, and none is the journal's own.
abbrev pub Fit : ℕ → List (ℕ × List ℕ) → Type 0
Fit size [] = Unit {0}
Fit size (image ∷ images) = (is_home image.0 ≡ true) × (4096 * image.0 + 4096 ≤ size) × (image_for image.0 images ≡ None) × Fit size images
