-- The media of a world and what a stop leaves in them, as the words of a line.
use Rattle.std.specs.Prelude.{ℕ, zero, suc, ◌+◌, ◌==◌, List, [], ◌∷◌, Option, Some, None, if◌then◌else◌, option_map, codes}
use Rattle.std.specs.Str.{bytes_eq}
use Rattle.tier_device.specs.declared.fill.Fill.{Fill}
use Rattle.tier_device.specs.declared.fill.Fill.TheVariants as fills
use Rattle.script.specs.Script.{◌>>=◌, parts, two, client, hex_byte}
use Rattle.script.specs.declared.fills.TheConstants.{MEDIA}

-- the fill of a byte by its two hexadecimal digits
abbrev pub byte_fill : List ℕ → Option Fill
byte_fill [] = None
byte_fill (h ∷ []) = None
byte_fill (h ∷ l ∷ []) = option_map fills.Byte (hex_byte h l)
byte_fill (h ∷ l ∷ b ∷ bs) = None

-- the fill that a word names: `old`, `new` or a byte
abbrev pub fill : List ℕ → Option Fill
fill w = if bytes_eq w (codes "old") then Some fills.Old else if bytes_eq w (codes "new") then Some fills.New else byte_fill w

-- the medium that a word names: 0 for `S`, the shared one, else a client
abbrev pub medium : List ℕ → Option ℕ
medium w = if bytes_eq w (codes "S") then Some 0 else client w

-- a medium and its fill, on both sides of a `:` (58)
abbrev pub medium_with_fill : List ℕ → Option (ℕ × Fill)
medium_with_fill w = two (parts 58 w) >>= λ p. medium p.0 >>= λ m. option_map (λ f. (m, f)) (fill p.1)

-- the media and fills of words
abbrev pub media_with_fills : List (List ℕ) → Option (List (ℕ × Fill))
media_with_fills [] = Some []
media_with_fills (w ∷ ws) = medium_with_fill w >>= λ n. option_map (λ ns. n ∷ ns) (media_with_fills ws)

-- the fills with which a medium is named
abbrev pub fills_of : ℕ → List (ℕ × Fill) → List Fill
fills_of m [] = []
fills_of m (n ∷ ns) = if n.0 == m then n.1 ∷ fills_of m ns else fills_of m ns

-- the one of a medium: new where it is not named; none where it is named twice
abbrev pub one_fill : List Fill → Option Fill
one_fill [] = Some fills.New
one_fill (f ∷ []) = Some f
one_fill (f ∷ g ∷ fs) = None

-- the fill that words give to a medium
abbrev pub medium_fill : List (List ℕ) → ℕ → Option Fill
medium_fill words m = media_with_fills words >>= λ ns. one_fill (fills_of m ns)

-- the fills that they give to this number of media, from medium m on
abbrev pub fills_from : List (List ℕ) → ℕ → ℕ → Option (List Fill)
fills_from words m zero = Some []
fills_from words m (suc n) = medium_fill words m >>= λ f. option_map (λ fs. f ∷ fs) (fills_from words (m + 1) n)

-- the fills that they give to all media: the shared one's first, then each client's
unfoldable pub all_fills : List (List ℕ) → Option (List Fill)
all_fills words = fills_from words 0 MEDIA
