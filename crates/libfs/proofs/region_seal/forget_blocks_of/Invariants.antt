use Rattle.std.proofs.Common.{◌≡◌, take}
use Rattle.client_view.specs.KnowledgeTables.{knows}
use Rattle.libfs.specs.RegionSeal.{without_blocks_of, without_named}
use Rattle.libfs.proofs.region_seal.forget_blocks_of.Given as goal

abbrev pub invariant-loop-entry : goal.invariant-loop-entry
invariant-loop-entry l = record {
  known : knows l.copies ≡ without_blocks_of (knows l.fn.copies) (take l.entry-index l.records);
  order : l.copies.blocks ≡ without_named l.fn.copies.blocks (take l.entry-index l.records);
  rest : l.copies ≡ record l.fn.copies { blocks = l.copies.blocks };
}
