-- What becomes of a client that died, and of its number, each step with when it may be taken.
use Rattle.std.specs.Prelude.{◌≡◌, ◌≢◌, ℕ, [], true, Some, None}
use Rattle.posix_calls.specs.Operations.{is_client}
use Rattle.world_invariant.specs.World.{Begun, Dead, Settled, Buried, Wiped, Away, World, log_of, moved_world}
use Rattle.world_invariant.specs.ClientSteps.{with_client, after_reply, given_up}
use Rattle.world_invariant.specs.Halves.{units_sent}
use Rattle.world_invariant.specs.FormatWorld.{idle_client, idle_account}

-- its begun call, if there was one, was found whole or gone; what it had open is closed
pub record CanDepart (w : World) (c : ℕ) : Type 0 where
  pub client : is_client c ≡ true
  pub dead : (w.clients c).status ≡ Dead
  pub idle : (w.clients c).begun ≡ None

abbrev pub after_departure : World → ℕ → World
after_departure w c = with_client w c (record (w.clients c) { knows = record (w.clients c).knows { own = λ n. None }; status = Settled })

-- a dead client's call is begun
pub record IsDying (w : World) (c : ℕ) (b : Begun) : Type 0 where
  pub client : is_client c ≡ true
  pub dead : (w.clients c).status ≡ Dead
  pub there : (w.clients c).begun ≡ Some b

-- its record is found whole, and the client departs
abbrev pub settled_whole : World → ℕ → Begun → World
settled_whole w c b = after_departure (after_reply w c b) c

-- or it is not found: its units stay in the book, and are the client's no more
abbrev pub settled_gone : World → ℕ → Begun → World
settled_gone w c b = after_departure (units_sent (given_up w c b) c b.change.units) c

-- its records are digested, and no region of it is away
pub record CanBury (w : World) (c : ℕ) : Type 0 where
  pub client : is_client c ≡ true
  pub settled : (w.clients c).status ≡ Settled
  pub digested : log_of w c ≡ []
  pub back : (w.clients c).other ≢ Away

-- nothing is left of it but its mark and its regions
abbrev pub client_buried : World → ℕ → World
client_buried w c = moved_world w c w.kernel.shared (idle_account (w.kernel.accounts c).mark) (record (idle_client c (w.kernel.accounts c).mark) { other = (w.clients c).other; ready = (w.clients c).ready; status = Buried })

-- a new client takes its seat, once no region of it holds a record or has a wipe to come
pub record CanJoin (w : World) (c : ℕ) : Type 0 where
  pub client : is_client c ≡ true
  pub buried : (w.clients c).status ≡ Buried
  pub digested : log_of w c ≡ []
  pub other : (w.clients c).other ≡ Wiped
  pub ready : (w.clients c).ready ≡ true

-- it begins with nothing but its mark, as a client does at a format
abbrev pub client_joined : World → ℕ → World
client_joined w c = moved_world w c w.kernel.shared (idle_account (w.kernel.accounts c).mark) (idle_client c (w.kernel.accounts c).mark)
