use Rattle.std.proofs.Common.{◌≤◌, ◌+◌, length}
use Rattle.area_commit.specs.layout.Places.{Sizes}
use Rattle.area_commit.specs.Batches.{AreNodes}
use Rattle.inode_plan.specs.Blocks.{AreNodeBlocks}
use Rattle.inode_plan.proofs.Imaging.{ImagesTo}
use Rattle.inode_plan.proofs.images.put_written.Given as goal

abbrev pub invariant-each : goal.invariant-each
invariant-each l =
    record {
      images : ImagesTo l.blocks l.places l.written l.index l.fn.images l.images;
      nodes : (g : Sizes) → AreNodeBlocks g l.places → AreNodes g l.fn.images → AreNodes g l.images;
      few : length l.images ≤ length l.fn.images + l.index;
    }
