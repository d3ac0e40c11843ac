-- Nodes, and the entries that cover them one level up.
use Rattle.std.specs.Prelude.{◌<◌, ◌≤◌, ◌+◌, ◌-◌, ℕ, List, [], ◌∷◌, ◌++◌, length}
use Rattle.std.specs.List.{AllByRecursion}
use Rattle.layout.specs.declared.extents.Extent.{Extent}

-- the entries of nodes, one node after the other
abbrev pub flat : List (List Extent) → List Extent
flat [] = []
flat (n ∷ ns) = n ++ flat ns

-- where the first of some entries begins, or 0
abbrev pub begin_of : List Extent → ℕ
begin_of [] = 0
begin_of (e ∷ es) = e.logical

-- where the last of some entries ends, or a number where there is none
abbrev pub last_end : ℕ → List Extent → ℕ
last_end low [] = low
last_end low (e ∷ es) = last_end (e.logical + e.length) es

-- the entry of a node: all blocks from its first to its last, and the node's number
abbrev pub summary : ℕ → List Extent → Extent
summary number [] = record { logical = 0; length = 0; place = number }
summary number (e ∷ es) = record { logical = e.logical; length = last_end (e.logical + e.length) es - e.logical; place = number }

-- the entries of nodes that are numbered from a number on
abbrev pub summaries : ℕ → List (List Extent) → List Extent
summaries number [] = []
summaries number (n ∷ ns) = summary number n ∷ summaries (number + 1) ns

-- each node has `least` entries at least, and `most` at most
abbrev pub HaveFrom : ℕ → ℕ → List (List Extent) → Type 0
HaveFrom least most ns = AllByRecursion (λ n. (least ≤ length n) × (length n ≤ most)) ns

-- no node is empty
abbrev pub AreFilled : List (List Extent) → Type 0
AreFilled ns = AllByRecursion (λ n. 0 < length n) ns
