-- What holds of a system between two events.
use Rattle.std.specs.Prelude.{◌≡◌, ◌+◌, ◌<◌, ℕ, List, [], ◌∷◌, true, false, length, Option, Some, None, is_some}
use Rattle.atomic_table.specs.Seated.{TableId}
use Rattle.tier_device.specs.declared.media.Media.{Ghosts}
use Rattle.libfs.specs.update_log.RecordCounts.{next_generation}
use Rattle.libfs.specs.update_log.View.{records_of}
use Rattle.libfs.specs.lease_manager.Passes.{client_of}
use Rattle.libfs.specs.SealedRegion.{SealedRegionView}
use Rattle.libfs.specs.View.{ClientView}
use Rattle.libfs.specs.declared.life.Life.TheVariants as lives
use Rattle.event_steps.specs.Refusals.{no_refusals}
use Rattle.event_steps.specs.View.{SeatView}

-- It is the region that this client sealed last, and its records are those that the client keeps of it.
pub record IsAwayFrom {M : Type 0} (device : Ghosts M) (v : ClientView M) (a : SealedRegionView M) : Type 0 where
  pub client : a.client ≡ client_of v.pass
  pub gone : v.log.other ≡ None
  pub before : next_generation a.generation ≡ v.log.generation
  pub records : records_of device a.region ≡ v.sealed
  -- as long as it is away some of them are not digested, and until the kernel has accepted it none is
  pub some : a.done < length v.sealed
  pub none : a.accepted ≡ false → a.done ≡ 0

-- The region that a client lacks is the one that it handed over.
abbrev pub IsSeated : {M : Type 0} → Ghosts M → ClientView M → Option (SealedRegionView M) → Type 0
IsSeated device v None = is_some v.log.other ≡ true
IsSeated device v (Some a) = IsAwayFrom device v a

-- whose pass it is: the client's number, and the table of leases
abbrev pub owner_of : {M : Type 0} → ClientView M → ℕ × TableId
owner_of v = (client_of v.pass, v.pass.table)

-- the number of a seat's client
abbrev pub number_of : {M : Type 0} → SeatView M → ℕ
number_of s = client_of s.client.pass

-- They are of the clients from a number on, in the order of their numbers.
abbrev pub AreFrom : {M : Type 0} → ℕ → List (SeatView M) → Type 0
AreFrom n [] = Unit {0}
AreFrom n (s ∷ ss) = (number_of s ≡ n) × AreFrom (n + 1) ss

-- Their passes are of one table of leases.
abbrev pub AreOfTable : {M : Type 0} → TableId → List (SeatView M) → Type 0
AreOfTable table [] = Unit {0}
AreOfTable table (s ∷ ss) = (s.client.pass.table ≡ table) × AreOfTable table ss

-- There are eight, of clients 1 to 8, which share a table of leases.
pub record AreSeats {M : Type 0} (seats : List (SeatView M)) : Type 0 where
  pub eight : length seats ≡ 8
  pub numbers : AreFrom 1 seats
  pub table : TableId
  pub shared : AreOfTable table seats

-- a living client that has all its regions
abbrev pub fresh_seat : {M : Type 0} → ClientView M → SeatView M
fresh_seat v = record { client = v; away = None; refused = no_refusals; life = lives.Alive }
