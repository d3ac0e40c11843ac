-- In which span the blocks of a file are kept.
use Rattle.std.specs.Prelude.{◌≤◌, ◌≡◌, ℕ, List, Option, Some, None, slice_get, ◌==◌, ◌&&◌, not, min, max}
use Rattle.std.specs.List.{AllByRecursion, filter}
use Rattle.block_cache.specs.declared.blocks.Place.{Place}
use Rattle.block_cache.specs.declared.span.Span.{Span}

-- a block of this number may be kept of a file with this span; a file without one may have any
abbrev pub IsIn : Option (Option Span) → ℕ → Type 0
IsIn None b = Unit {0}
IsIn (Some None) b = ⊥
IsIn (Some (Some s)) b = (s.first ≤ b) × (b ≤ s.last)

-- the least span of a file that has the blocks of its span and this one
abbrev pub wider_span : Option Span → ℕ → Span
wider_span None block = record { first = block; last = block }
wider_span (Some s) block = record { first = min s.first block; last = max s.last block }

-- each block that is kept lies in the span of its file
abbrev pub AreIn : List (Option Span) → List (Place × List ℕ) → Type 0
AreIn spans es = AllByRecursion (λ e. IsIn (slice_get spans e.0.inode) e.0.block) es

-- those of one file lie from a first block to the last
abbrev pub AreFromTo : ℕ → ℕ → ℕ → List (Place × List ℕ) → Type 0
AreFromTo inode first last es = AllByRecursion (λ e. e.0.inode ≡ inode → (first ≤ e.0.block) × (e.0.block ≤ last)) es

-- all but one block
abbrev pub others_at : ℕ → ℕ → List (Place × List ℕ) → List (Place × List ℕ)
others_at inode block es = filter (λ e. not ((inode == e.0.inode) && (block == e.0.block))) es
