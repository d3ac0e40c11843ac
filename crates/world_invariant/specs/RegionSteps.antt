-- The steps of a client's two regions, each with when it may be taken.
use Rattle.std.specs.Prelude.{◌≡◌, ◌≢◌, ℕ, ◌+◌, [], length, Bool, true, false, None}
use Rattle.posix_calls.specs.Operations.{is_client}
use Rattle.world_invariant.specs.World.{Region, Wiped, Away, Back, World}
use Rattle.world_invariant.specs.ClientSteps.{with_client}

-- whether a region may take records
abbrev pub is_wiped : Region → Bool
is_wiped Wiped = true
is_wiped _ = false

-- the region that is written, and has a record, is sealed and handed over, and the other one is written from now on: it may still have to be wiped
pub record CanSeal (w : World) (c : ℕ) : Type 0 where
  pub client : is_client c ≡ true
  pub idle : (w.clients c).begun ≡ None
  pub some : (w.clients c).current ≢ []
  pub back : (w.clients c).other ≢ Away

abbrev pub region_sealed : World → ℕ → World
region_sealed w c = with_client w c (record (w.clients c) { sealed = (w.clients c).current; current = []; other = Away; ready = is_wiped (w.clients c).other })

-- all its records are digested
pub record CanTakeBack (w : World) (c : ℕ) : Type 0 where
  pub client : is_client c ≡ true
  pub away : (w.clients c).other ≡ Away
  pub digested : (w.kernel.accounts c).mark ≡ (w.clients c).past + length (w.clients c).sealed

abbrev pub taken_back : World → ℕ → World
taken_back w c = with_client w c (record (w.clients c) { past = (w.kernel.accounts c).mark; sealed = []; other = Back })

-- it is wiped beside the region that is written; no region has its records after a wipe
pub record CanWipeOther (w : World) (c : ℕ) : Type 0 where
  pub client : is_client c ≡ true
  pub back : (w.clients c).other ≡ Back

abbrev pub other_wiped : World → ℕ → World
other_wiped w c = with_client w c (record (w.clients c) { sealed = []; other = Wiped })

-- or once it is the one to be written
pub record CanWipeCurrent (w : World) (c : ℕ) : Type 0 where
  pub client : is_client c ≡ true
  pub stale : (w.clients c).ready ≡ false

abbrev pub current_wiped : World → ℕ → World
current_wiped w c = with_client w c (record (w.clients c) { current = []; ready = true })
