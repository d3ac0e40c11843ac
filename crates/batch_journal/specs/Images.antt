-- A head and the images behind it, as bytes: those of a batch that is not written yet, and those that stand in a journal.
use Rattle.std.specs.Prelude.{ℕ, zero, suc, ◌+◌, ◌-◌, ◌*◌, ◌≤◌, List, [], ◌∷◌, take, drop, Option, Some, None, ◌==◌, if◌then◌else◌}
use Rattle.byteorder.specs.Endian.{little_number}

-- so many bytes from this one on
abbrev pub slice : ℕ → ℕ → List ℕ → List ℕ
slice at n c = take n (drop at c)

-- how many images there are: the head's first number
unfoldable pub image_count : List ℕ → ℕ
image_count bytes = little_number 4 bytes

-- the block that the image at a place is for
unfoldable pub target_at : List ℕ → ℕ → ℕ
target_at bytes p = little_number 4 (drop (4 + 4 * p) bytes)

-- the image at a place
abbrev pub image_at : List ℕ → ℕ → List ℕ
image_at bytes p = slice (4096 * p + 4096) 4096 bytes

-- n images from place p on, each with its block's number
abbrev pub images_from : List ℕ → ℕ → ℕ → List (ℕ × List ℕ)
images_from bytes p zero = []
images_from bytes p (suc n) = (target_at bytes p, image_at bytes p) ∷ images_from bytes (p + 1) n

-- all images, each with its block's number
abbrev pub images_of : List ℕ → List (ℕ × List ℕ)
images_of bytes = images_from bytes 0 (image_count bytes)

-- the head block's bytes behind the numbers
abbrev pub rest_of_head : List ℕ → List ℕ
rest_of_head bytes = slice (4 + 4 * image_count bytes) (4092 - 4 * image_count bytes) bytes

-- the image for a block, if there is one
abbrev pub image_for : ℕ → List (ℕ × List ℕ) → Option (List ℕ)
image_for k [] = None
image_for k (image ∷ images) = if k == image.0 then Some image.1 else image_for k images

-- what is there, or else this
abbrev pub or_else : Option (List ℕ) → List ℕ → List ℕ
or_else None x = x
or_else (Some y) x = y

-- blocks with images on top
abbrev pub with_images : List (ℕ × List ℕ) → (ℕ → List ℕ) → ℕ → List ℕ
with_images images blocks k = or_else (image_for k images) (blocks k)

-- The numbers rise strictly, from low on.
abbrev pub Rises : ℕ → List (ℕ × List ℕ) → Type 0
Rises low [] = Unit {0}
Rises low (image ∷ images) = (low ≤ image.0) × Rises (image.0 + 1) images

-- the least number that may follow these, and low where there are none
abbrev pub next_from : ℕ → List (ℕ × List ℕ) → ℕ
next_from low [] = low
next_from low (image ∷ images) = next_from (image.0 + 1) images

-- the least number that may follow these
abbrev pub next_of : List (ℕ × List ℕ) → ℕ
next_of images = next_from 0 images
