-- What records, one after the other, make of a block of a file.
use Rattle.std.specs.Prelude.{ℕ, ◌+◌, List, [], ◌∷◌, Option, unwrap_or}
use Rattle.client_plan.specs.file_graph.Graph.{Graph, file_bytes}
use Rattle.client_plan.specs.file_graph.declared.effect.Effect.{Effect}
use Rattle.client_plan.specs.log_record.declared.format.Record.{Record}
use Rattle.client_plan.specs.call_effects.Blocks.{block_after}

-- a known block of a file after records
abbrev pub block_laid : List Record → ℕ → ℕ → Option (List ℕ) → Option (List ℕ)
block_laid [] i b block = block
block_laid (r ∷ rs) i b block = block_laid rs i b (block_after r.effects i b block)

-- the blocks of a file from a first one on after effects, and after records
abbrev pub run_after : List Effect → ℕ → ℕ → List (Option (List ℕ)) → List (Option (List ℕ))
run_after es i first [] = []
run_after es i first (block ∷ run) = block_after es i first block ∷ run_after es i (first + 1) run

abbrev pub run_laid : List Record → ℕ → ℕ → List (Option (List ℕ)) → List (Option (List ℕ))
run_laid [] i first run = run
run_laid (r ∷ rs) i first run = run_laid rs i first (run_after r.effects i first run)

-- the bytes of the file at an inode; what is no file has none
abbrev pub bytes_at : Graph → ℕ → List ℕ
bytes_at g i = unwrap_or (file_bytes (g i)) []
