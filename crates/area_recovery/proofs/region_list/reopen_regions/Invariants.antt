use Rattle.std.proofs.Common.{◌≤◌, ◌+◌}
use Rattle.std.specs.Vec.{vec_len, vec_capacity}
use Rattle.area_recovery.proofs.OpenedLists.{IsOpening}
use Rattle.area_recovery.proofs.region_list.reopen_regions.Given as goal

abbrev pub invariant-media : goal.invariant-media
invariant-media g l = record {
  opening : IsOpening g.M.Media l.fn.media.items l.media.items l.regions.items;
  room : vec_len l.media + vec_len l.regions ≤ vec_capacity l.media;
  capacity : vec_capacity l.fn.media ≤ vec_capacity l.media;
  regions_room : vec_len l.media + vec_len l.regions ≤ vec_capacity l.regions;
}

abbrev pub decreases-media : goal.decreases-media
decreases-media g l = vec_len l.media
