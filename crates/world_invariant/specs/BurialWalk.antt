-- A small world's walk: a client dies while its call is begun and a file is open, is buried, and a new one joins under its number.
use Rattle.std.specs.Prelude.{[], ◌∷◌}
use Rattle.world_invariant.specs.World.{World}
use Rattle.world_invariant.specs.ClientSteps.{after_death, after_reply}
use Rattle.world_invariant.specs.RegionSteps.{region_sealed, taken_back, other_wiped}
use Rattle.world_invariant.specs.KernelSteps.{records_digested, after_reclaim}
use Rattle.world_invariant.specs.Burial.{after_departure, client_buried, client_joined}
use Rattle.world_invariant.specs.UnlinkWalk.{open_a, unlink_a, unlink_world}

-- client 1 dies in its `unlink /a`, while it has `/a` open
abbrev pub dead : World
dead = after_death unlink_world 1

-- the record is found whole, and the client departs
abbrev pub found_world : World
found_world = after_reply dead 1 unlink_a

abbrev pub gone_world : World
gone_world = after_departure found_world 1

-- both records are digested, and the region is back
abbrev pub kept_world : World
kept_world = records_digested (region_sealed gone_world 1) 1 (open_a.change ∷ unlink_a.change ∷ [])

abbrev pub back : World
back = taken_back kept_world 1

-- with the client the pin of the file goes, and so does the file
abbrev pub buried_world : World
buried_world = client_buried back 1

abbrev pub emptied_world : World
emptied_world = after_reclaim buried_world 2

abbrev pub wiped_world : World
wiped_world = other_wiped emptied_world 1

abbrev pub renewed_world : World
renewed_world = client_joined wiped_world 1
