-- What a stop stores of small worlds that break one part of the invariant each: no recovery can go on from it.
use Rattle.std.proofs.Common.{◌≡◌, inl, ℕ, ◌+◌, ◌<◌, ◌≤◌, List, length, refl, ap, arith}
use Rattle.std.specs.Prelude.{is_some}
use Rattle.std.proofs.lemmas.Bool.{false≢true}
use Rattle.posix_calls.specs.Tree.{sum_up_to}
use Rattle.posix_calls.specs.declared.limits.TheConstants.{MAX_FILE}
use Rattle.call_effects.specs.file_graph.Graph.{fresh, after_effects}
use Rattle.call_effects.specs.file_graph.Units.{charge}
use Rattle.call_effects.specs.Wholes.{IsSound}
use Rattle.world_invariant.specs.Limits.{AreWithin}
use Rattle.world_invariant.specs.Logs.{after_clients, units_in}
use Rattle.world_invariant.specs.World.{World, whole_graph, held_descriptors, log_of}
use Rattle.world_invariant.specs.Stop.{Leaves, Stores}
use Rattle.world_invariant.specs.BrokenWorlds.{unpaid_record, rootless, with_bytes, large_file, overfull}
use Rattle.world_invariant.proofs.BrokenWorlds.{one_more}

-- nothing is begun
pub leaves : (w : World) → Leaves w (log_of w)
leaves w c is_c = inl refl

-- ---- no root

pub rootless_broken : IsSound (whole_graph rootless) (held_descriptors rootless) → ⊥
unfolding after_clients
rootless_broken sound = false≢true (ap is_some sound.typed.root)

pub rootless_stored : Stores rootless (log_of rootless) → ⊥
unfolding after_clients
rootless_stored stored = false≢true (ap is_some stored.recoverable.sound.typed.root)

-- ---- a file with too many bytes

many : (bytes : List ℕ) → MAX_FILE < length bytes → AreWithin (with_bytes bytes) → ⊥
many bytes more within = let few : length bytes ≤ MAX_FILE = (within 2).body in absurd (omega (arith, more, few))

pub large_stored : (bytes : List ℕ) → MAX_FILE < length bytes → Stores (large_file bytes) (log_of (large_file bytes)) → ⊥
large_stored bytes more stored = many bytes more stored.recoverable.limits

-- ---- more than the capacity

pub overfull_stored : Stores overfull (log_of overfull) → ⊥
overfull_stored stored =
    let fits : charge (after_effects fresh unpaid_record.effects) + sum_up_to 8 (λ c. units_in (log_of overfull c)) ≤ charge fresh = stored.recoverable.fits in
    let more : charge (after_effects fresh unpaid_record.effects) ≡ charge fresh + 1 = one_more in
    absurd (omega (arith, fits, more))
