-- The next records of a sealed log, prepared to be digested at once.
use Rattle.std.specs.Prelude.{◌≡◌, ◌<◌, ◌==◌, ◌&&◌, Bool, length, drop}
use Rattle.update_log.specs.file_graph.Graph.{Graph}
use Rattle.coalescer.specs.graph_change.Change.{Changes}
use Rattle.coalescer.specs.graph_change.Swaps.{told_change}
use Rattle.coalescer.specs.RunChange.{swapped_of}
use Rattle.digester.specs.Plan.{IsNextRun}
use Rattle.digester.specs.SealedLog.{SealedView}
use Rattle.digester.specs.declared.chunk.Chunk.{Chunk}

-- A chunk of a log, whatever was digested of the log since it was prepared: from its first record on it is the longest run that one batch takes, one record at least, and tells what they come to.
pub record IsChunkOf (x : SealedView) (c : Chunk) : Type 0 where
  pub client : c.client ≡ x.client
  pub generation : c.generation ≡ x.generation
  pub some : c.first < length x.records
  pub run : IsNextRun (drop c.first x.records) c.count (swapped_of c.change)

-- the change that a chunk comes to on a graph
abbrev pub chunk_change : Graph → Chunk → Changes
chunk_change g c = told_change g (swapped_of c.change)

-- whether a chunk begins where the log stands: with its first record that is not digested
abbrev pub is_next : SealedView → Chunk → Bool
is_next x c = c.client == x.client && c.generation == x.generation && c.first == x.done
