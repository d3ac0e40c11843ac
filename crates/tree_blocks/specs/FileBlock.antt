-- A block of a file after a change of the file's bytes.
use Rattle.std.specs.Prelude.{◌≡◌, ℕ, ◌-◌, ◌*◌, ◌<◌, min, nat_le, Bool, true, false, List, map, get_or, Option, Some, None}
use Rattle.std.specs.List.{range_with_len}
use Rattle.layout.specs.declared.places.TheConstants.{BLOCK}
use Rattle.graph_change.specs.Bytes.{Length, Grown, Cut, BytesChange, byte_after}
use Rattle.graph_change.specs.Change.{Change, Patch, blank, patch_at, writes_block}
use Rattle.graph_change.specs.View.{patch_of}
use Rattle.tree_blocks.specs.Inode.{LogicalBlocks}

-- what is put into it, if anything is
abbrev pub put_in : Option (List ℕ × List Bool) → Patch
put_in None = blank
put_in (Some b) = patch_of b

-- how many of its bytes are kept
abbrev pub kept_length : Length → ℕ → ℕ
kept_length (Grown to) k = BLOCK
kept_length (Cut least to) k = min BLOCK (least - BLOCK * k)

-- the change of block k, as that of a file of its bytes alone
abbrev pub in_block : Length → Patch → ℕ → BytesChange
in_block len patch k = record { length = Cut (kept_length len k) BLOCK; new = patch }

-- the bytes of the block after it; one that no tier holds was zeros
abbrev pub block_after : Length → Patch → ℕ → List ℕ → List ℕ
block_after len patch k old = map (byte_after (in_block len patch k) old) (range_with_len 0 BLOCK)

-- two blocks read the same; what no tier holds reads as zeros
abbrev pub ReadSame : List ℕ → List ℕ → Type 0
ReadSame one other = (p : ℕ) → p < BLOCK → get_or one p 0 ≡ get_or other p 0

-- a block reads as the change makes it of the old one
abbrev pub ReadsAfter : Length → Patch → ℕ → List ℕ → List ℕ → Type 0
ReadsAfter len patch k old new = (p : ℕ) → p < BLOCK → get_or new p 0 ≡ byte_after (in_block len patch k) old p

-- whether a block begins where the file was cut off, or behind
abbrev pub is_cut_off : Length → ℕ → Bool
is_cut_off (Grown to) k = false
is_cut_off (Cut least to) k = nat_le least (BLOCK * k)

-- the blocks that are to be written read as the change makes them, those behind a cut as zero, and all others as they did; whether a tier holds them is not said
pub record AreWritten (c : Change) (old new : LogicalBlocks) : Type 0 where
  pub written : (k : ℕ) → writes_block c k ≡ true → ReadsAfter c.length (patch_at c.patches k) k (old k) (new k)
  pub gone : (k p : ℕ) → writes_block c k ≡ false → is_cut_off c.length k ≡ true → p < BLOCK → get_or (new k) p 0 ≡ 0
  pub others : (k p : ℕ) → writes_block c k ≡ false → is_cut_off c.length k ≡ false → p < BLOCK → get_or (new k) p 0 ≡ get_or (old k) p 0
