-- The marks: for each client how far its records are digested, and the number of digests.
use Rattle.std.specs.Prelude.{◌==◌, ◌^◌, ◌&&◌, nat_lt, Bool, List, ◌++◌, length, ℕ, Option, Some, None, if◌then◌else◌}
use Rattle.std.specs.List.{flat_map, list_all}
use Rattle.layout.specs.declared.places.TheConstants.{BLOCK}
use Rattle.layout.specs.declared.marks.Mark.{Mark}
use Rattle.layout.specs.declared.marks.Marks.{Marks}
use Rattle.layout.specs.declared.marks.TheConstants.{CLIENTS}
use Rattle.layout.specs.Bytes.{◌>>=◌, Field, u32, u64, padded_text, number_at, items_at, within}

-- the generation, the records that are done, and four zero bytes
abbrev pub mark_text : Mark → List ℕ
mark_text m = u64 m.generation ++ (u32 m.done ++ u32 0)

-- the marks of the clients, rising, and the number of digests
abbrev pub marks_text : Marks → List ℕ
marks_text m = flat_map mark_text m.clients ++ u64 m.digests

-- the block that marks are spelled as
abbrev pub marks_spelling : Marks → List ℕ
marks_spelling m = padded_text BLOCK (marks_text m)

abbrev pub fits_mark : Mark → Bool
fits_mark m = nat_lt m.generation (2 ^ 64) && nat_lt m.done (2 ^ 32)

-- whether these are marks of all clients, and the numbers fit into their fields
abbrev pub fits_marks : Marks → Bool
fits_marks m = (length m.clients == CLIENTS) && list_all fits_mark m.clients && nat_lt m.digests (2 ^ 64)

-- the mark of one client
unfoldable pub mark_at : Field Mark
mark_at bytes = do
  generation ← number_at 8 bytes
  done ← number_at 4 generation.1
  gap ← number_at 4 done.1
  if gap.0 == 0 then Some (record { generation = generation.0; done = done.0 }, gap.1) else None

-- the marks of the clients, and the number of digests
unfoldable pub marks_at : Field Marks
marks_at bytes = do
  clients ← items_at mark_at CLIENTS bytes
  digests ← number_at 8 clients.1
  Some (record { clients = clients.0; digests = digests.0 }, digests.1)

-- the marks that a block spells
unfoldable pub marks_of : List ℕ → Option Marks
marks_of bytes = within BLOCK marks_at bytes
