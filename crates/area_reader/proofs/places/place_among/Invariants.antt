use Rattle.std.proofs.Common.{◌≡◌, drop}
use Rattle.extent_tree.specs.Places.{place_of}
use Rattle.area_reader.proofs.places.place_among.Given as goal

abbrev pub invariant-loop-index : goal.invariant-loop-index
invariant-loop-index l = place_of (drop l.index l.extents) l.block ≡ place_of l.extents l.block
