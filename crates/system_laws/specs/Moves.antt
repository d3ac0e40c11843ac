-- Trusted: headline
-- Which clocks an event moves.
use Rattle.std.specs.Prelude.{◌≡◌, ℕ, ◌+◌, ◌≤◌, ◌<◌}
use Rattle.event_steps.specs.declared.event.Event.{Event}
use Rattle.event_steps.specs.declared.event.Event.TheVariants as event
use Rattle.event_lists.specs.Courses.{PARTS, MovesOnly, Reading, part_of}

-- none
abbrev pub Stand : Reading → Reading → Type 0
Stand old new = (p : ℕ) → p < PARTS → new p ≡ old p

-- that of one region of a client, by one device call at most
pub record MovesRegion (client : ℕ) (old new : Reading) : Type 0 where
  pub region : ℕ
  pub which : region < 2
  pub moves : MovesOnly (part_of client region) old new
  pub one : new (part_of client region) ≤ old (part_of client region) + 1

-- A step, a wipe step and a settling move a region of their client; a digest, a reclaim and a migration the shared medium; no other event moves a part.
abbrev pub EventMoves : Event → Reading → Reading → Type 0
EventMoves (event.Step c) old new = MovesRegion c old new
EventMoves (event.WipeStep c) old new = MovesRegion c old new
EventMoves (event.Settle c) old new = MovesRegion c old new
EventMoves (event.Digest c) old new = MovesOnly 0 old new
EventMoves (event.Reclaim i) old new = MovesOnly 0 old new
EventMoves (event.Migrate i first count to) old new = MovesOnly 0 old new
EventMoves _ old new = Stand old new
