use Rattle.std.proofs.Common.{◌≤◌, ◌-◌}
use Rattle.layout.specs.Places.{Sizes}
use Rattle.batch_journal.specs.Images.{images_from, with_images}
use Rattle.batch_journal.specs.Blocks.{Blocks}
use Rattle.batch_journal.specs.Kept.{Shows}
use Rattle.batch_journal.proofs.kept_blocks.KeptBlocks.keep_images.Given as goal

-- the images from the place on are kept
abbrev pub invariant-images : goal.invariant-images
invariant-images l = record {
  within : l.place ≤ l.count;
  shown : (g : Sizes) (blocks : Blocks) → Shows g blocks l.fn.self.places.items → Shows g (with_images (images_from l.bytes l.place (l.count - l.place)) blocks) l.self.places.items;
}

abbrev pub decreases-images : goal.decreases-images
decreases-images l = l.place
