use Rattle.graph_change.specs.file_graph.Graph.{after_effects, swap_places}
use Rattle.graph_change.specs.Swaps.{kept_names}
use Rattle.coalescer.proofs.Images.{images_told}
use Rattle.coalescer.proofs.Told.{kept_swapped, inodes_told, blocks_told}
use Rattle.coalescer.proofs.Within.{inodes_within, entries_within}
use Rattle.coalescer.proofs.laws.change_is_within_its_weight.Goals as goal

pub returns : goal.returns
returns c = record {
  inodes = inodes_within;
  entries = entries_within;
  swapped_inodes = λ g es. inodes_told es (after_effects g (kept_names es)) (swap_places (kept_names es)) (kept_swapped es);
  blocks = λ g es. blocks_told es (after_effects g (kept_names es)) (swap_places (kept_names es));
  images = images_told;
}
