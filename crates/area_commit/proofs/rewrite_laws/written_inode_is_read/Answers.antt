use Rattle.std.proofs.Common.{◌≡◌, ℕ, true}
use Rattle.area_reader.specs.layout.declared.slot.Slot.{Slot}
use Rattle.area_reader.specs.layout.Places.{Sizes, IsAllowed, is_inode}
use Rattle.area_reader.specs.extent_tree.Map.{TierRuns, runs_in}
use Rattle.area_reader.specs.Store.{space_of, length_of}
use Rattle.area_commit.specs.InodeRewrite.{list_of, IsFit}
use Rattle.area_commit.proofs.Reading.{AreSpelled, below_length, slot_again, extents_again, place_again, blocks_again, inode_again, use_again}
use Rattle.area_commit.proofs.rewrite_laws.written_inode_is_read.Goals as goal

pub returns : goal.returns
returns c =
    let spelled : (g : Sizes) (i : ℕ) (x : Slot) (m : TierRuns) → IsAllowed g → is_inode i ≡ true → IsFit g x m → AreSpelled g i x m = λ g i x m allowed number fit. record {
      slot_is = c.slot_is_read.ensures g x allowed fit.limits;
      lists = λ t. c.extents_are_read.ensures g (space_of x t) (list_of i (runs_in m t)) allowed (c.whole_map_fits_a_block.ensures g (space_of x t) i (runs_in m t) number (fit.normal t) (fit.within t) (fit.apart t));
      ends = λ t. c.few_blocks_are_few_runs.ensures.end (length_of x) (runs_in m t) (fit.normal t) (below_length (length_of x) m t fit.below);
    } in
    record {
      slot_is = λ g s i x m allowed number fit written. slot_again g s i x m (spelled g i x m allowed number fit) number written;
      extents = λ g s i x m allowed number fit written. extents_again g s i x m (spelled g i x m allowed number fit) number written;
      places = λ g s i x m allowed number fit written. place_again g s i x m (spelled g i x m allowed number fit) number written;
      blocks = λ g s i x m allowed number fit written. blocks_again g s i x m (spelled g i x m allowed number fit) number written;
      inodes = λ g s i x m allowed number fit written. inode_again g s i x m (spelled g i x m allowed number fit) number written;
      uses = λ g s i x m allowed number fit written. use_again g s i x m (spelled g i x m allowed number fit) number written;
    }
