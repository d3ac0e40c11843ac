-- An event moves one part at most.
use Rattle.std.proofs.Common.{◌≡◌, ℕ, ◌≤◌, arith}
use Rattle.system_laws.specs.event_lists.Courses.{MovesOne, Reading, part_of}
use Rattle.system_laws.specs.event_steps.declared.event.Event.{Event}
use Rattle.system_laws.specs.event_steps.declared.event.Event.TheVariants as event
use Rattle.system_laws.specs.Moves.{EventMoves, MovesRegion, Stand}

none_moves : (old new : Reading) → Stand old new → MovesOne old new
none_moves old new stand = record { part = 0; only = record { later = same (stand 0 (omega arith)); others = λ p low off. stand p low } }
  where
    same : new 0 ≡ old 0 → old 0 ≤ new 0
    same is = omega (arith, is)

region_moves : (c : ℕ) (old new : Reading) → MovesRegion c old new → MovesOne old new
region_moves c old new m = record { part = part_of c m.region; only = m.moves }

pub one_moves : (e : Event) (old new : Reading) → EventMoves e old new → MovesOne old new
one_moves (event.Start c call) old new m = none_moves old new m
one_moves (event.Step c) old new m = region_moves c old new m
one_moves (event.Lease c i mode) old new m = none_moves old new m
one_moves (event.Raise c i) old new m = none_moves old new m
one_moves (event.Give c i) old new m = none_moves old new m
one_moves (event.AskBack c i of) old new m = none_moves old new m
one_moves (event.Fetch c i) old new m = none_moves old new m
one_moves (event.Blocks c i first count) old new m = none_moves old new m
one_moves (event.Refill c units inodes) old new m = none_moves old new m
one_moves (event.GiveBack c) old new m = none_moves old new m
one_moves (event.Pin c i) old new m = none_moves old new m
one_moves (event.Unpin c i) old new m = none_moves old new m
one_moves (event.Seal c) old new m = none_moves old new m
one_moves (event.Digest c) old new m = record { part = 0; only = m }
one_moves (event.WipeStep c) old new m = region_moves c old new m
one_moves (event.Reclaim i) old new m = record { part = 0; only = m }
one_moves (event.Migrate i first count to) old new m = record { part = 0; only = m }
one_moves (event.Deny c call why) old new m = none_moves old new m
one_moves (event.Die c) old new m = none_moves old new m
one_moves (event.Settle c) old new m = region_moves c old new m
one_moves (event.Bury c) old new m = none_moves old new m
one_moves (event.Join c) old new m = none_moves old new m
