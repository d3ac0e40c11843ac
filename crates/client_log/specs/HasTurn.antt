-- A client of the world that has a log.
use Rattle.std.specs.Prelude.{◌≡◌, Option, Some, None}
use Rattle.update_log.specs.log_record.declared.format.Record.{Record}
use Rattle.world_invariant.specs.World.{Begun, Client, Region}
use Rattle.world_invariant.specs.World as world
use Rattle.client_log.specs.Turns.{Place, Turn}
use Rattle.client_log.specs.Turns as log

-- where the other region is
abbrev pub region_at : Place → Region
region_at log.Wiped = world.Wiped
region_at log.Away = world.Away
region_at log.Back = world.Back

-- the record that a call has begun
abbrev pub change_in : Option Begun → Option Record
change_in None = None
change_in (Some b) = Some b.change

-- In the world a client has what its log has: the records of the current region, where the other one is, whether the first is wiped, and the record that is begun.
pub record HasTurn (t : Turn) (p : Client) : Type 0 where
  pub current : p.current ≡ t.current
  pub other : p.other ≡ region_at t.other
  pub is_ready : p.ready ≡ t.ready
  pub begun : change_in p.begun ≡ t.begun
