-- What there is between two steps, as plain data: the kernel's part, and each client's.
use Rattle.std.specs.Prelude.{ℕ, ◌-◌, List, [], ◌∷◌, ◌++◌, drop, Bool, ◌==◌, ◌||◌, Option, Some, None, if◌then◌else◌}
use Rattle.posix_calls.specs.Tree.{Descriptors, State}
use Rattle.posix_calls.specs.Operations.{is_client}
use Rattle.posix_calls.specs.declared.call.Call.{Call}
use Rattle.posix_calls.specs.declared.operation.Operation.{Operation}
use Rattle.posix_calls.specs.declared.limits.TheConstants.{MAX_CLIENTS}
use Rattle.call_effects.specs.file_graph.Graph.{Graph}
use Rattle.call_effects.specs.log_record.declared.format.Record.{Record}
use Rattle.call_effects.specs.Knowledge.{Knowledge}
use Rattle.call_effects.specs.Wholes.{state_of}
use Rattle.world_invariant.specs.Logs.{after_clients}

-- a call that has begun its record: its operation, the number of a node that it makes, and the record
pub record Begun : Type 0 where
  pub call : Call
  pub new : ℕ
  pub operation : Operation
  pub change : Record

-- where the region is that a client does not write: wiped, sealed and handed over, or back and not wiped yet
pub data Region : Type 0 where
  Wiped : Region
  Away : Region
  Back : Region

-- what has become of a client: its region's device failed, or it died, its begun call was settled, and it was buried
pub data Status : Type 0 where
  Alive : Status
  Failed : Status
  Dead : Status
  Settled : Status
  Buried : Status

-- a client's part
pub record Client : Type 0 where
  -- its descriptors, its copies of nodes and blocks, and the numbers that it may give to new nodes
  pub knows : Knowledge
  -- how many records stood in its regions that came back
  pub past : ℕ
  -- the records of the region that it sealed and that is not back, and of the one that it writes
  pub sealed : List Record
  pub current : List Record
  pub other : Region
  -- whether the region that it writes is wiped, as it has to be before a record
  pub ready : Bool
  -- its call that has begun a record and is not answered
  pub begun : Option Begun
  -- the inodes that it holds for reading and for writing
  pub reads : ℕ → Bool
  pub writes : ℕ → Bool
  -- the units that it has beside those of its records
  pub spare : ℕ
  -- the inodes that it has pinned
  pub pins : ℕ → Bool
  pub status : Status

-- what the kernel's book has of a client
pub record Account : Type 0 where
  -- how many of all its records are digested
  pub mark : ℕ
  -- the units that it was given and that are not digested
  pub units : ℕ
  -- the numbers that it was given, until the record that makes the node is digested
  pub numbers : ℕ → Bool
  pub pins : ℕ → Bool

-- the kernel's part
pub record Kernel : Type 0 where
  pub shared : Graph
  pub capacity : ℕ
  pub accounts : ℕ → Account

pub record World : Type 0 where
  pub kernel : Kernel
  pub clients : ℕ → Client

-- ---- a client's records

-- those that are answered and not digested
abbrev pub undigested_records : Account → Client → List Record
undigested_records a p = drop (a.mark - p.past) p.sealed ++ p.current

abbrev pub change_of : Option Begun → List Record
change_of None = []
change_of (Some b) = b.change ∷ []

-- those, and the one that is begun
abbrev pub records_of : Account → Client → List Record
records_of a p = undigested_records a p ++ change_of p.begun

-- whether a client holds an inode
abbrev pub has_lease : Client → ℕ → Bool
has_lease p i = p.reads i || p.writes i

-- ---- the whole

abbrev pub log_of : World → ℕ → List Record
log_of w c = undigested_records (w.kernel.accounts c) (w.clients c)

abbrev pub all_of : World → ℕ → List Record
all_of w c = records_of (w.kernel.accounts c) (w.clients c)

-- the shared graph after all answered records
abbrev pub whole_graph : World → Graph
whole_graph w = after_clients (log_of w) w.kernel.shared MAX_CLIENTS

-- what the clients have open
abbrev pub held_by : (ℕ → Client) → Descriptors
held_by clients c n = if is_client c then (clients c).knows.own n else None

abbrev pub held_descriptors : World → Descriptors
held_descriptors w = held_by w.clients

-- the one tree that the world stands for
abbrev pub world_state : World → State
world_state w = state_of (whole_graph w) (held_descriptors w)

-- ---- a world in which one client's part changes

abbrev pub at : {A : Type 0} → (ℕ → A) → ℕ → A → ℕ → A
at f c x d = if d == c then x else f d

-- the shared graph, the account and the part of client c are these now
abbrev pub moved_world : World → ℕ → Graph → Account → Client → World
moved_world w c g a p = record { kernel = record { shared = g; capacity = w.kernel.capacity; accounts = at w.kernel.accounts c a }; clients = at w.clients c p }
