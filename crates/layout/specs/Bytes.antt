-- Fields of a structure: the bytes of each, and how it is read at the front of bytes.
use Rattle.std.specs.Prelude.{ℕ, zero, suc, ◌-◌, ◌==◌, Bool, true, ◌&&◌, List, [], ◌∷◌, ◌++◌, length, replicate, Option, Some, None, if◌then◌else◌}
use Rattle.std.specs.List.{list_all}
pub use Rattle.file_graph.specs.Fields.{◌>>=◌, AreBytes, Field, byte_at, run_at, number_at}
unfoldable pub use Rattle.file_graph.specs.Fields.{u32, u64}
use Rattle.tier_device.specs.Media as media

-- n zero bytes
unfoldable pub zeros : ℕ → List ℕ
zeros n = replicate n 0

-- a text and zero bytes behind it, n bytes in all
unfoldable pub padded_text : ℕ → List ℕ → List ℕ
padded_text n text = text ++ zeros (n - length text)

-- bytes with a text over them from a place on
abbrev pub with_text : ℕ → List ℕ → List ℕ → List ℕ
with_text at text bytes = media.overwritten bytes at text

-- this number of fields of one kind, one after the other
unfoldable pub items_at : {A : Type 0} → Field A → ℕ → Field (List A)
items_at field zero bytes = Some ([], bytes)
items_at field (suc n) bytes = do
  first ← field bytes
  others ← items_at field n first.1
  Some (first.0 ∷ others.0, others.1)

-- what is behind a text
abbrev pub text_at : List ℕ → List ℕ → Option (List ℕ)
text_at [] bytes = Some bytes
text_at (t ∷ text) [] = None
text_at (t ∷ text) (b ∷ bytes) = if b == t then text_at text bytes else None

-- whether all bytes are zero
abbrev pub are_zero : List ℕ → Bool
are_zero bytes = list_all (λ b. b == 0) bytes

-- the value of a field in n bytes, where those behind it are zero
abbrev pub within : {A : Type 0} → ℕ → Field A → List ℕ → Option A
within n field bytes = if length bytes == n then (field bytes >>= λ x. if are_zero x.1 then Some x.0 else None) else None

-- whether a test holds of each element and each later one
abbrev pub all_pairs : {A : Type 0} → (A → A → Bool) → List A → Bool
all_pairs test [] = true
all_pairs test (x ∷ xs) = list_all (test x) xs && all_pairs test xs
