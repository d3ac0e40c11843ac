use Rattle.std.proofs.Common.{refl}
use Rattle.tree_blocks.proofs.Files.{length_file, byte_read}
use Rattle.tree_blocks.proofs.Directories.{get_there, get_missing, len_named}
use Rattle.tree_blocks.proofs.node_laws.nodes_are_read_by_place.Goals as goal

pub returns : goal.returns
returns = λ c. record {
  size = length_file;
  bytes = byte_read;
  found = λ entry n e distinct lt. get_there entry n e (entry e).0 distinct lt refl;
  absent = λ entry n name absent. get_missing entry n name absent;
  count = len_named;
}
