-- All that there is between two moves, as plain data: the kernel's part, and each client's.
use Rattle.std.specs.Prelude.{◌≡◌, ℕ, ◌-◌, ◌≤◌, List, true, false, Option, Some, None}
use Rattle.posix_calls.specs.Tree.{State}
use Rattle.posix_calls.specs.Operations.{is_client}
use Rattle.world_invariant.specs.file_graph.Graph.{fresh}
use Rattle.world_invariant.specs.file_graph.Units.{charge}
use Rattle.world_invariant.specs.log_record.declared.format.Record.{Record}
use Rattle.world_invariant.specs.World.{Region, Wiped, Away, Back, Client, World, world_state}
use Rattle.world_invariant.specs.FormatWorld.{idle_client, idle_account}
use Rattle.world_invariant.specs.Machine.{Machine, Sealed, sealed_of, AreAccepted, CanDigestNext}
use Rattle.world_invariant.specs.Invariant.{IsCoherent}

-- the kernel: its graph and its book, and how many records of each client it accepted
pub record KernelPart : Type 0 where
  pub machine : Machine
  -- the digest in which a device of it failed, by its client and the records: the shared medium may have them or not
  pub failed_digest : Option (ℕ × List Record)

pub record Configuration : Type 0 where
  pub kernel : KernelPart
  pub clients : ℕ → Client

-- the world that it is, and the file tree that this stands for
abbrev pub world_of : Configuration → World
world_of s = record { kernel = s.kernel.machine.kernel; clients = s.clients }

abbrev pub tree_of : Configuration → State
tree_of s = world_state (world_of s)

-- ---- a region that is away

-- how many records of its client came before it, its records, and how many of these are digested
pub record AwayRegion : Type 0 where
  pub past : ℕ
  pub records : List Record
  pub digested : ℕ

-- by where the region is that a client doesn't write, its records and the client's mark
abbrev pub away_by : Region → ℕ → List Record → ℕ → Option AwayRegion
away_by Away past records mark = Some (record { past = past; records = records; digested = mark - past })
away_by Wiped past records mark = None
away_by Back past records mark = None

abbrev pub mark_of : KernelPart → ℕ → ℕ
mark_of k c = (k.machine.kernel.accounts c).mark

-- the client's region that is away, if one is
abbrev pub away_in : Configuration → ℕ → Option AwayRegion
away_in s c = away_by (s.clients c).other (s.clients c).past (s.clients c).sealed (mark_of s.kernel c)

-- such a region as the kernel sees it, but for what its client holds
abbrev pub as_sealed : AwayRegion → Sealed
as_sealed a = record { past = a.past; records = a.records; writes = λ i. false }

-- ---- when it is one that there may be

-- these are the next records of a client's region that the kernel accepted
abbrev pub CanDigestOf : Configuration → ℕ → List Record → Type 0
CanDigestOf s c records = (rest : List Record) × CanDigestNext s.kernel.machine c (sealed_of (s.clients c)) records rest

pub record IsConsistent (s : Configuration) : Type 0 where
  pub coherent : IsCoherent (world_of s)
  -- what is accepted is the regions that are away, and what is digested was accepted
  pub accepted : AreAccepted s.kernel.machine.accepted s.clients
  pub marks : (c : ℕ) → is_client c ≡ true → mark_of s.kernel c ≤ s.kernel.machine.accepted c
  -- a digest that a device failed in may still be done
  pub failed : (x : ℕ × List Record) → s.kernel.failed_digest ≡ Some x → CanDigestOf s x.0 x.1

-- ---- where nothing has begun

-- a kernel that has a root alone
abbrev pub plain_kernel : KernelPart
plain_kernel = record { machine = record { kernel = record { shared = fresh; capacity = charge fresh; accounts = λ c. idle_account 0 }; accepted = λ c. 0 }; failed_digest = None }

-- a client that holds these leases, and has nothing else
abbrev pub plain_client : ℕ → Client → Client
plain_client c p = record (idle_client c 0) { reads = p.reads; writes = p.writes }

-- a root alone, and nobody holds anything
abbrev pub plain : Configuration
plain = record { kernel = plain_kernel; clients = λ c. idle_client c 0 }
