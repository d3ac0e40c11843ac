-- Sealed regions: when the kernel accepts one, when it digests a chunk of it, and which region of its machine that is.
use Rattle.std.specs.Prelude.{◌≡◌, ℕ, true, length}
use Rattle.world_invariant.specs.file_graph.Graph.{is_among}
use Rattle.migrator.specs.area_reader.Store.{Store}
use Rattle.digester.specs.Chunk.{is_next}
use Rattle.digester.specs.SealedLog.{SealedView, StandsAtMark, undone}
use Rattle.digester.specs.declared.chunk.Chunk.{Chunk}
use Rattle.kernel_fs.specs.Book.{Accounts, waiting_of}
use Rattle.kernel_fs.specs.Marks.{IsWaiting}
use Rattle.world_invariant.specs.Machine.{Sealed}

-- As many records of the log's client are waiting as the log has undigested: so it is of the one that was accepted, from there on until its last record is digested.
abbrev pub HasAsManyWaiting : Accounts → SealedView → Type 0
HasAsManyWaiting book x = waiting_of book x.client ≡ length (undone x)

-- A chunk of a log begins at the mark where both hold: it is not stale, but begins with the first record that the log has undigested; and the log stands at its client's mark.
abbrev pub BeginsAtMark : SealedView → Chunk → Store → Type 0
BeginsAtMark x chunk s = (is_next x chunk ≡ true) × StandsAtMark x s

-- That is the machine's sealed region, where so many records of the client were ever digested: it has the log's records, and its client holds for writing what the log tells.
pub record IsRegionOf (x : SealedView) (mark : ℕ) (s : Sealed) : Type 0 where
  pub records : s.records ≡ x.records
  pub writes : (i : ℕ) → s.writes i ≡ true → is_among i x.held ≡ true
  pub waits : IsWaiting s x.done (length (undone x)) mark
