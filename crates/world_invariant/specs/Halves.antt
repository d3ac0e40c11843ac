-- The two halves of a grant and of what is given back: the kernel's book changes, and the client's part, in steps of their own.
use Rattle.std.specs.Prelude.{◌≡◌, ℕ, ◌+◌, ◌-◌, ◌≤◌, true, false}
use Rattle.posix_calls.specs.Operations.{is_client}
use Rattle.world_invariant.specs.Logs.{is_made_in, units_in}
use Rattle.world_invariant.specs.World.{World, log_of, all_of, moved_world}
use Rattle.world_invariant.specs.ClientSteps.{with_client}
use Rattle.world_invariant.specs.LeaseSteps.{also, without}

-- ---- units

-- `units` units are in the book and not the client's: they are on their way to it, or back
pub record AreOnTheirWay (w : World) (c units : ℕ) : Type 0 where
  pub client : is_client c ≡ true
  pub booked : (w.clients c).spare + units_in (all_of w c) + units ≤ (w.kernel.accounts c).units

abbrev pub units_booked : World → ℕ → ℕ → World
units_booked w c units = moved_world w c w.kernel.shared (record (w.kernel.accounts c) { units = (w.kernel.accounts c).units + units }) (w.clients c)

abbrev pub units_unbooked : World → ℕ → ℕ → World
units_unbooked w c units = moved_world w c w.kernel.shared (record (w.kernel.accounts c) { units = (w.kernel.accounts c).units - units }) (w.clients c)

abbrev pub units_received : World → ℕ → ℕ → World
units_received w c units = with_client w c (record (w.clients c) { spare = (w.clients c).spare + units })

abbrev pub units_sent : World → ℕ → ℕ → World
units_sent w c units = with_client w c (record (w.clients c) { spare = (w.clients c).spare - units })

-- ---- numbers

-- a number is in the book, and the client neither has it nor has used it
pub record IsOnItsWay (w : World) (c i : ℕ) : Type 0 where
  pub client : is_client c ≡ true
  pub booked : (w.kernel.accounts c).numbers i ≡ true
  pub absent : (w.clients c).knows.granted i ≡ false
  pub unused : is_made_in i (log_of w c) ≡ false

abbrev pub number_booked : World → ℕ → ℕ → World
number_booked w c i = moved_world w c w.kernel.shared (record (w.kernel.accounts c) { numbers = also (w.kernel.accounts c).numbers i }) (w.clients c)

abbrev pub number_unbooked : World → ℕ → ℕ → World
number_unbooked w c i = moved_world w c w.kernel.shared (record (w.kernel.accounts c) { numbers = without (w.kernel.accounts c).numbers i }) (w.clients c)

abbrev pub number_received : World → ℕ → ℕ → World
number_received w c i = with_client w c (record (w.clients c) { knows = record (w.clients c).knows { granted = also (w.clients c).knows.granted i } })

abbrev pub number_sent : World → ℕ → ℕ → World
number_sent w c i = with_client w c (record (w.clients c) { knows = record (w.clients c).knows { granted = without (w.clients c).knows.granted i } })

-- ---- pins

-- an inode is pinned in the book, and the client doesn't count on it
pub record IsPinnedAlone (w : World) (c i : ℕ) : Type 0 where
  pub client : is_client c ≡ true
  pub booked : (w.kernel.accounts c).pins i ≡ true
  pub absent : (w.clients c).pins i ≡ false

abbrev pub pin_booked : World → ℕ → ℕ → World
pin_booked w c i = moved_world w c w.kernel.shared (record (w.kernel.accounts c) { pins = also (w.kernel.accounts c).pins i }) (w.clients c)

abbrev pub pin_unbooked : World → ℕ → ℕ → World
pin_unbooked w c i = moved_world w c w.kernel.shared (record (w.kernel.accounts c) { pins = without (w.kernel.accounts c).pins i }) (w.clients c)

abbrev pub pin_received : World → ℕ → ℕ → World
pin_received w c i = with_client w c (record (w.clients c) { pins = also (w.clients c).pins i })

abbrev pub pin_sent : World → ℕ → ℕ → World
pin_sent w c i = with_client w c (record (w.clients c) { pins = without (w.clients c).pins i })
