use Rattle.std.proofs.Common.{◌≡◌, ℕ, Some, ap, sym, ◌∙◌}
use Rattle.lease_manager.specs.file_graph.Graph.{file_bytes}
use Rattle.client_log.specs.call_effects.Blocks.{block_of}
use Rattle.client_view.specs.After.{block_laid, bytes_at}
use Rattle.libfs.specs.ClientHoldings.{known_to}
use Rattle.libfs.specs.NeedService.{records_behind, shared_by}
use Rattle.libfs.proofs.laws.blocks_are_as_long_as_their_copy.Goals as goal

pub returns : goal.returns
returns g c = λ k v mark whole held i first count names size bytes is_mark agrees same file copy.
    let shared = shared_by g.S.Media k in
    let behind = records_behind g.M.Media v mark in
    let laid : (b : ℕ) → block_laid behind i b (Some (block_of b (bytes_at shared i))) ≡ Some (block_of b bytes) = λ b. c.records_are_laid_as_the_graph_has_them.ensures shared behind i b bytes (ap file_bytes (sym same) ∙ file) in
    record {
      mark = mark;
      is_mark = is_mark;
      block = λ b. block_of b bytes;
      told = λ b low high. laid b;
      long = λ b low high. record {
        names = names;
        size = size;
        copy = copy;
        long = c.laid_block_agrees.ensures.long (known_to v) shared whole held behind i b names size bytes (block_of b bytes) agrees same file copy (laid b);
      };
    }
