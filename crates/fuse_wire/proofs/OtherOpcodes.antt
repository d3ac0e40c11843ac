-- The number of a request that is not in the table.
use Rattle.std.proofs.Common.{◌≡◌, ℕ, List, [], ◌∷◌, refl}
use Rattle.std.proofs.lemmas.Bool.{ne_eqb}
use Rattle.fuse_wire.specs.declared.opcode.Opcode.{Opcode}
use Rattle.fuse_wire.specs.declared.opcode.Opcode.TheVariants as opcode
use Rattle.fuse_wire.specs.Opcodes.{numbered, opcode_among, opcode_of}

-- a number that is in no row
abbrev pub DiffersFrom : ℕ → List (ℕ × Opcode) → Type 0
DiffersFrom n [] = Unit {0}
DiffersFrom n (row ∷ rows) = (n ≡ row.0 → ⊥) × DiffersFrom n rows

among_none : (rows : List (ℕ × Opcode)) (n : ℕ) → DiffersFrom n rows → opcode_among rows n ≡ opcode.Other n
among_none [] n differs = refl
among_none (row ∷ rows) n differs = rw (ne_eqb n row.0 differs.0) (among_none rows n differs.1)

pub other_opcode : (n : ℕ) → DiffersFrom n numbered → opcode_of n ≡ opcode.Other n
unfolding opcode_of
other_opcode n differs = among_none numbered n differs
