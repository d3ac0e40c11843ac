-- Which blocks of a directory a change writes.
use Rattle.std.specs.Prelude.{◌≡◌, ◌⊎◌, ℕ, ◌+◌, ◌<◌, ◌≤◌, Bool, false, List, [], ◌∷◌, length, get_or, count_by, if◌then◌else◌}
use Rattle.std.specs.List.{All, Contains}
use Rattle.std.specs.List.Sorted.{IsStrictlySortedBy}
use Rattle.std.specs.Ordering.{nat_cmp}
use Rattle.tree_blocks.specs.Directory.{numbered_blocks}

-- the numbers of the marks that are set, of which the first one's is n
abbrev pub numbers_from : ℕ → List Bool → List ℕ
numbers_from n [] = []
numbers_from n (b ∷ marks) = if b then n ∷ numbers_from (n + 1) marks else numbers_from (n + 1) marks

-- these are the numbers of the blocks that are there and have been written; each other block is as it was
pub record ListsWritten (old new : List (List ℕ)) (written : List ℕ) : Type 0 where
  pub rising : IsStrictlySortedBy nat_cmp written
  pub inside : All (λ k. k < length new) written
  pub added : (k : ℕ) → length old ≤ k → k < length new → Contains written k
  pub others : (k : ℕ) → k < length new → Contains written k ⊎ (numbered_blocks new k ≡ numbered_blocks old k)

-- how many marks are set
abbrev pub count_set : List Bool → ℕ
count_set marks = count_by (λ b. b) marks

-- as blocks are written they are marked, `most` of them at most: one that is not marked in the end was not before, and is as it was
pub record WereMarked (most : ℕ) (old_marks new_marks : List Bool) (old new : List (List ℕ)) : Type 0 where
  pub long : length new_marks ≡ length old_marks
  pub few : count_set new_marks ≤ count_set old_marks + most
  pub stay : (k : ℕ) → get_or new_marks k false ≡ false → get_or old_marks k false ≡ false
  pub others : (k : ℕ) → k < length new_marks → get_or new_marks k false ≡ false → numbered_blocks new k ≡ numbered_blocks old k
