-- Runs of blocks, and rising lists of block numbers.
use Rattle.std.specs.Prelude.{◌≡◌, ◌<◌, ◌≤◌, ◌⊎◌, ◌+◌, ℕ, List, [], ◌∷◌, ◌++◌, Bool, true, false, take, drop, length}
use Rattle.std.specs.List.{flat_map, range_with_len, AllByRecursion}
use Rattle.block_alloc.specs.declared.runs.Run.{Run}

-- the blocks of a run
abbrev pub run_blocks : Run → List ℕ
run_blocks r = range_with_len r.first r.count

-- the blocks of runs, one run after the other
abbrev pub blocks_of : List Run → List ℕ
blocks_of runs = flat_map run_blocks runs

-- numbers that rise strictly, from low on and below end
abbrev pub Rising : ℕ → ℕ → List ℕ → Type 0
Rising low end [] = Unit {0}
Rising low end (k ∷ ks) = (low ≤ k) × (k < end) × Rising (k + 1) end ks

-- the blocks from a number on that are not marked as used
abbrev pub unmarked_blocks : ℕ → List Bool → List ℕ
unmarked_blocks first [] = []
unmarked_blocks first (true ∷ used) = unmarked_blocks (first + 1) used
unmarked_blocks first (false ∷ used) = first ∷ unmarked_blocks (first + 1) used

-- none of these blocks is of the run
abbrev pub Apart : Run → List ℕ → Type 0
Apart run blocks = AllByRecursion (λ k. (k < run.first) ⊎ (run.first + run.count ≤ k)) blocks

-- the new list is the old one with a piece put in at some place
abbrev pub PutIn : List ℕ → List ℕ → List ℕ → Type 0
PutIn old piece new = (n : ℕ) × (new ≡ take n old ++ piece ++ drop n old)

-- Runs that rise from low on and end by end; none is empty, and between two of them stands a block that is of neither.
abbrev pub AreNormalRuns : ℕ → ℕ → List Run → Type 0
AreNormalRuns low end [] = Unit {0}
AreNormalRuns low end (r ∷ rs) = (low ≤ r.first) × (0 < r.count) × (r.first + r.count ≤ end) × AreNormalRuns (r.first + r.count + 1) end rs

-- each of the runs ends before a block, with another between
abbrev pub EndsBefore : ℕ → List Run → Type 0
EndsBefore block runs = AllByRecursion (λ r. r.first + r.count < block) runs

-- Runs in normal form but for one place: behind the run there, the next one may follow at once.
pub record Seamed (low end place : ℕ) (runs : List Run) : Type 0 where
  pub front : List Run
  pub run : Run
  pub rest : List Run
  pub parts : runs ≡ front ++ run ∷ rest
  pub place_is : length front ≡ place
  pub before : AreNormalRuns low end (front ++ run ∷ [])
  pub after : AreNormalRuns (run.first + run.count) end rest

-- the largest bounds that runs of numbers of 32 bits have
abbrev pub IsSeamed : ℕ → List Run → Type 0
IsSeamed place runs = Seamed 0 4294967295 place runs
