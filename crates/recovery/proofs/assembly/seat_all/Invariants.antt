use Rattle.std.proofs.Common.{◌≡◌, ◌≤◌, ◌+◌, ◌*◌, ℕ}
use Rattle.std.specs.List.{All}
use Rattle.std.specs.Vec.{vec_len, vec_capacity}
use Rattle.recovery.specs.Assembly.{AreFresh}
use Rattle.recovery.proofs.OpenedSeats.{AreSeating}
use Rattle.recovery.proofs.assembly.seat_all.Given as goal

-- the handles and passes of the first clients are left, and their regions; the others are seated
abbrev pub invariant-loop-count : goal.invariant-loop-count
invariant-loop-count g l = record {
  handles : All (λ h. h ≡ l.fn.leases) l.handles.items;
  handle_count : vec_len l.handles + l.count ≡ 8;
  passes : AreFresh l.fn.leases l.passes.items;
  pass_count : vec_len l.passes + l.count ≡ 8;
  region_count : vec_len l.regions + 2 * l.count ≡ 16;
  seat_count : vec_len l.seats ≡ l.count;
  room : 8 ≤ vec_capacity l.seats;
  regions_room : 16 ≤ vec_capacity l.regions;
  seating : (place : ℕ) → place + l.count ≡ 8 → AreSeating g.M.Media l.fn.leases l.fn.marks place l.fn.regions.items l.regions.items l.seats.items;
}
