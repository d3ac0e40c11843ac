-- A root alone, of which nobody has anything but leases that are legal.
use Rattle.std.proofs.Common.{◌≡◌, ◌≢◌, inl, ℕ, true, refl, arith}
use Rattle.std.proofs.lemmas.Bool.{false≢true}
use Rattle.posix_calls.specs.Operations.{is_client}
use Rattle.world_invariant.specs.file_graph.Graph.{fresh}
use Rattle.world_invariant.specs.file_graph.Units.{charge}
use Rattle.world_invariant.specs.ClientParts.{IsBeside}
use Rattle.world_invariant.specs.FormatWorld.{idle_world}
use Rattle.world_invariant.specs.Invariant.{IsCoherent}
use Rattle.world_invariant.specs.World.{Client}
use Rattle.world_invariant.proofs.call_effects_lemmas.Fresh.{fresh_sound}
use Rattle.world_invariant.proofs.Fresh.{fresh_within}
use Rattle.world_invariant.proofs.Idle.{idle_holds, idle_stands, none_some}
use Rattle.world_history.specs.Configuration.{IsConsistent, plain, plain_client, plain_kernel, world_of}

idle : IsCoherent (idle_world (charge fresh) fresh)
idle = idle_holds (charge fresh) fresh (omega arith) fresh_sound fresh_within

pub plain_holds : (clients : ℕ → Client) → ((c d : ℕ) → is_client c ≡ true → is_client d ≡ true → d ≢ c → IsBeside (clients c) (clients d)) → IsCoherent (world_of (record { kernel = plain_kernel; clients = λ c. plain_client c (clients c) }))
plain_holds clients beside = record {
  booked = idle.booked;
  stands = λ c is_c. let x = idle_stands fresh c 0 in record {
    number = x.number;
    marked = x.marked;
    starts = x.starts;
    logged = record { leased = λ i e. absurd (false≢true (x.logged.leased i e)); paid = x.logged.paid; unnamed = x.logged.unnamed; limits = x.logged.limits };
    units = x.units;
    numbered = x.numbered;
    leased = record { copies = λ i copy e. none_some copy e; blocks = λ i b bytes e. none_some bytes e };
    pinned = x.pinned;
    pending = λ b e. none_some b e;
    rests = x.rests;
  };
  beside = beside;
  sound = idle.sound;
  agrees = idle.agrees;
}

pub plain_consistent : (clients : ℕ → Client) → ((c d : ℕ) → is_client c ≡ true → is_client d ≡ true → d ≢ c → IsBeside (clients c) (clients d)) → IsConsistent (record { kernel = plain_kernel; clients = λ c. plain_client c (clients c) })
plain_consistent clients beside = record {
  coherent = plain_holds clients beside;
  accepted = λ c is_c. inl refl;
  marks = λ c is_c. omega arith;
  failed = λ x e. none_some x e;
}

pub plain_is : IsConsistent plain
plain_is = plain_consistent plain.clients (λ c d is_c is_d off i e. refl)
