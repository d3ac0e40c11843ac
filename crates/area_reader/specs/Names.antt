-- Names that were met.
use Rattle.std.specs.Prelude.{◌≡◌, ◌⊎◌, ◌↔◌, ◌<◌, ℕ, List, [], ◌∷◌, length}
use Rattle.batch_journal.specs.layout.Directory.{block_entries, entry_of}

-- A name is one of these.
abbrev pub IsAmong : List (List ℕ) → List ℕ → Type 0
IsAmong [] name = ⊥
IsAmong (x ∷ xs) name = (name ≡ x) ⊎ IsAmong xs name

-- the name of an entry of a block
abbrev pub name_at : List ℕ → ℕ → List ℕ
name_at block e = (entry_of (block_entries block) e).name

-- Some entry of a block has one of these names.
pub record SharesName (block : List ℕ) (names : List (List ℕ)) : Type 0 where
  pub entry : ℕ
  pub inside : entry < length (block_entries block).entries
  pub among : IsAmong names (name_at block entry)

-- The names of before and those of the first so many entries of a block, which are others.
pub record AddsNames (block : List ℕ) (count : ℕ) (old new : List (List ℕ)) : Type 0 where
  pub fresh : (e : ℕ) → e < count → IsAmong old (name_at block e) → ⊥
  pub all : (name : List ℕ) → IsAmong new name ↔ (IsAmong old name ⊎ ((e : ℕ) × (e < count) × (name_at block e ≡ name)))
