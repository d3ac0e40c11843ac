-- What a stop leaves of a region that is wiped.
use Rattle.std.specs.Prelude.{◌≡◌, ◌⊎◌, ℕ, ◌+◌, List, [], ◌∷◌, ◌++◌, drop}
use Rattle.byteorder.specs.Endian.{little_number, little_bytes}
use Rattle.log_record.specs.declared.format.Record.{Record}
use Rattle.update_log.specs.declared.format.TheConstants.{HEADER, OPEN, GENERATION_SIZE}
use Rattle.update_log.specs.Frames.{records, header}

-- the generation that a header names
abbrev pub generation : List ℕ → ℕ
generation head = little_number GENERATION_SIZE head

-- what stands in a header behind the generation
abbrev pub behind_generation : List ℕ → List ℕ
behind_generation head = drop GENERATION_SIZE head

-- a header that names this generation
abbrev pub header_of : ℕ → List ℕ → List ℕ
header_of g head = little_bytes GENERATION_SIZE g ++ behind_generation head

-- a content, with the first gate open
abbrev pub with_open_gate : List ℕ → List ℕ
with_open_gate content = header content ++ OPEN ∷ drop (HEADER + 1) content

-- the records that stand behind the first gate, whether it is open or not
abbrev pub records_behind_gate : List ℕ → List Record
records_behind_gate content = records (with_open_gate content)

-- While the first gate is being closed: the header stands, and the records behind the gate count or none does.
pub record LeftInClosing (head : List ℕ) (behind : List Record) (content : List ℕ) : Type 0 where
  pub header_is : header content ≡ head
  pub records_are : (records content ≡ []) ⊎ (records content ≡ behind)

-- While the generation is being written: no record counts, and what stands in the header behind the generation stays.
pub record LeftInNaming (head content : List ℕ) : Type 0 where
  pub none : records content ≡ []
  pub rest_is : behind_generation (header content) ≡ behind_generation head

-- at any moment of a wipe
abbrev pub LeftInWipe : List ℕ → List Record → List ℕ → Type 0
LeftInWipe head behind content = LeftInClosing head behind content ⊎ LeftInNaming head content
