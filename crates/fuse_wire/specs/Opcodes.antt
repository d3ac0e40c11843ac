-- The numbers of the requests (enum fuse_opcode).
use Rattle.std.specs.Prelude.{ℕ, ◌==◌, List, [], ◌∷◌, if◌then◌else◌}
use Rattle.fuse_wire.specs.declared.opcode.Opcode.{Opcode}
use Rattle.fuse_wire.specs.declared.opcode.Opcode.TheVariants as opcode

abbrev pub numbered : List (ℕ × Opcode)
numbered =
    (1, opcode.Lookup)
    ∷ (2, opcode.Forget)
    ∷ (3, opcode.GetAttr)
    ∷ (4, opcode.SetAttr)
    ∷ (6, opcode.SymLink)
    ∷ (8, opcode.MkNod)
    ∷ (9, opcode.MkDir)
    ∷ (10, opcode.Unlink)
    ∷ (11, opcode.RmDir)
    ∷ (12, opcode.Rename)
    ∷ (13, opcode.Link)
    ∷ (14, opcode.Open)
    ∷ (15, opcode.Read)
    ∷ (16, opcode.Write)
    ∷ (17, opcode.StatFs)
    ∷ (18, opcode.Release)
    ∷ (20, opcode.Fsync)
    ∷ (25, opcode.Flush)
    ∷ (26, opcode.Init)
    ∷ (27, opcode.OpenDir)
    ∷ (28, opcode.ReadDir)
    ∷ (29, opcode.ReleaseDir)
    ∷ (30, opcode.FsyncDir)
    ∷ (34, opcode.Access)
    ∷ (35, opcode.Create)
    ∷ (36, opcode.Interrupt)
    ∷ (38, opcode.Destroy)
    ∷ (42, opcode.BatchForget)
    ∷ (45, opcode.Rename2)
    ∷ []

abbrev pub opcode_among : List (ℕ × Opcode) → ℕ → Opcode
opcode_among [] number = opcode.Other number
opcode_among (row ∷ rows) number = if number == row.0 then row.1 else opcode_among rows number

-- the opcode of a number; of one that is not in the table the number itself
unfoldable pub opcode_of : ℕ → Opcode
opcode_of number = opcode_among numbered number
