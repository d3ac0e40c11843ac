-- All that holds of a world between two steps.
use Rattle.std.specs.Prelude.{◌≡◌, ◌≢◌, ℕ, true}
use Rattle.posix_calls.specs.Operations.{is_client}
use Rattle.call_effects.specs.Wholes.{IsSound}
use Rattle.call_effects.specs.Knowledge.{Agrees}
use Rattle.world_invariant.specs.World.{World, whole_graph, held_descriptors}
use Rattle.world_invariant.specs.ClientParts.{IsSoundPart, IsBooked, IsBeside}

pub record IsCoherent (w : World) : Type 0 where
  pub booked : IsBooked w.kernel
  pub stands : (c : ℕ) → is_client c ≡ true → IsSoundPart w.kernel.shared (w.kernel.accounts c) c (w.clients c)
  -- leases are legal
  pub beside : (c d : ℕ) → is_client c ≡ true → is_client d ≡ true → d ≢ c → IsBeside (w.clients c) (w.clients d)
  -- the whole is sound, and as each client knows it
  pub sound : IsSound (whole_graph w) (held_descriptors w)
  pub agrees : (c : ℕ) → is_client c ≡ true → Agrees (w.clients c).knows (whole_graph w) (held_descriptors w)
