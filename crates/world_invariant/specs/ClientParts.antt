-- What holds of one client's part beside the kernel's, and of two clients' parts.
use Rattle.std.specs.Prelude.{◌≡◌, ◌≢◌, ℕ, ◌+◌, ◌<◌, ◌≤◌, List, [], length, Bool, true, false, Option, Some, None}
use Rattle.posix_calls.specs.Tree.{Own, sum_up_to}
use Rattle.posix_calls.specs.Operations.{is_client}
use Rattle.posix_calls.specs.Kinds.{opens}
use Rattle.posix_calls.specs.declared.descriptor.Descriptor.{Descriptor}
use Rattle.posix_calls.specs.declared.operation.Operation.{Operation}
use Rattle.posix_calls.specs.declared.limits.TheConstants.{ROOT, MAX_INODE, MAX_CLIENTS}
use Rattle.call_effects.specs.file_graph.Graph.{Graph}
use Rattle.call_effects.specs.file_graph.Units.{charge}
use Rattle.call_effects.specs.log_record.declared.format.Record.{Record}
use Rattle.call_effects.specs.NodeView.{NodeView}
use Rattle.call_effects.specs.Knowledge.{Knowledge, IsPlanned}
use Rattle.world_invariant.specs.Logs.{is_written, is_made_in, IsMadeOnce, units_in, ArePaid, NameNone, KeepLimits}
use Rattle.world_invariant.specs.Limits.{AreWithin}
use Rattle.world_invariant.specs.World.{Begun, Region, Away, Status, Failed, Settled, Buried, Client, Account, Kernel, undigested_records, records_of, has_lease}

-- ---- one client's part beside the kernel's

-- the mark stands within the region that was sealed, if there is one: that is away, and has a record
pub record IsMarked (mark past : ℕ) (sealed : List Record) (other : Region) : Type 0 where
  pub low : past ≤ mark
  pub high : mark ≤ past + length sealed
  pub some : other ≡ Away → sealed ≢ []
  pub none : other ≢ Away → sealed ≡ []

-- a region that is not wiped has no record, and none is begun in it
pub record StartsWiped (ready : Bool) (current : List Record) (begun : Option Begun) : Type 0 where
  pub records : ready ≡ false → current ≡ []
  pub idle : ready ≡ false → begun ≡ None

-- every record touches only what the client holds for writing, has the units for what it raises, names no file that has no name, and takes
-- no node past the limits
pub record IsLogged (g : Graph) (writes : ℕ → Bool) (records : List Record) : Type 0 where
  pub leased : (i : ℕ) → is_written i records ≡ true → writes i ≡ true
  pub paid : ArePaid g records
  pub unnamed : NameNone g records
  pub limits : KeepLimits g records

-- a number is in the book until the record that makes its node is digested, and no two records make a node of it
pub record IsNumbered (book numbers : ℕ → Bool) (log : List Record) : Type 0 where
  pub made : (i : ℕ) → is_made_in i log ≡ true → book i ≡ true
  pub once : (i : ℕ) → IsMadeOnce i log
  pub granted : (i : ℕ) → numbers i ≡ true → book i ≡ true
  pub unused : (i : ℕ) → numbers i ≡ true → is_made_in i log ≡ false

-- what is copied is held
pub record IsLeased (has : ℕ → Bool) (k : Knowledge) : Type 0 where
  pub copies : (i : ℕ) (copy : Option NodeView) → k.copies i ≡ Some copy → has i ≡ true
  pub blocks : (i b : ℕ) (bytes : List ℕ) → k.blocks i b ≡ Some bytes → has i ≡ true

-- what is open is pinned, and what is pinned is in the book
pub record IsPinned (book pins : ℕ → Bool) (own : Own) : Type 0 where
  pub opened : (n : ℕ) (o : Descriptor) → own n ≡ Some o → pins o.inode ≡ true
  pub booked : (i : ℕ) → pins i ≡ true → book i ≡ true

-- what an operation opens is pinned
abbrev pub OpensPinned : (ℕ → Bool) → ℕ → Operation → Type 0
OpensPinned pins new operation = (what : ℕ × Descriptor) → opens new operation ≡ Some what → pins what.1.inode ≡ true

-- by what the client knows, the begun call has its operation, and its record the effects, which are not none; what it opens is
-- pinned, but where the client failed: that call is never answered
pub record IsPending (status : Status) (k : Knowledge) (pins : ℕ → Bool) (b : Begun) : Type 0 where
  pub planned : IsPlanned k b.call b.new b.operation b.change.effects
  pub some : b.change.effects ≢ []
  pub pinned : status ≢ Failed → OpensPinned pins b.new b.operation

-- whether a client's call is settled for good
abbrev pub is_settled : Status → Bool
is_settled Settled = true
is_settled Buried = true
is_settled _ = false

-- whose call is settled has nothing open, and no call begun
pub record RestsOnceSettled (status : Status) (own : Own) (begun : Option Begun) : Type 0 where
  pub closed : is_settled status ≡ true → (n : ℕ) → own n ≡ None
  pub idle : is_settled status ≡ true → begun ≡ None

-- all that holds of one client's part beside the kernel's
pub record IsSoundPart (g : Graph) (a : Account) (c : ℕ) (p : Client) : Type 0 where
  pub number : p.knows.client ≡ c
  pub marked : IsMarked a.mark p.past p.sealed p.other
  pub starts : StartsWiped p.ready p.current p.begun
  pub logged : IsLogged g p.writes (records_of a p)
  -- the book has the units of its records and the spare ones, and those that are on their way to it or back
  pub units : p.spare + units_in (records_of a p) ≤ a.units
  pub numbered : IsNumbered a.numbers p.knows.granted (undigested_records a p)
  pub leased : IsLeased (has_lease p) p.knows
  pub pinned : IsPinned a.pins p.pins p.knows.own
  pub pending : (b : Begun) → p.begun ≡ Some b → IsPending p.status p.knows p.pins b
  pub rests : RestsOnceSettled p.status p.knows.own p.begun

-- ---- the kernel's part

pub record IsBooked (k : Kernel) : Type 0 where
  -- a number in the book is one for a new node, and in one client's account
  pub free : (c i : ℕ) → is_client c ≡ true → (k.accounts c).numbers i ≡ true → k.shared i ≡ None
  pub range : (c i : ℕ) → is_client c ≡ true → (k.accounts c).numbers i ≡ true → (ROOT < i) × (i ≤ MAX_INODE)
  pub alone : (c d i : ℕ) → is_client c ≡ true → is_client d ≡ true → d ≢ c → (k.accounts c).numbers i ≡ true → (k.accounts d).numbers i ≡ false
  -- every node is within the limits
  pub limits : AreWithin k.shared
  -- what is charged and what is out fit together
  pub fits : charge k.shared + sum_up_to MAX_CLIENTS (λ c. (k.accounts c).units) ≤ k.capacity

-- ---- two clients' parts

-- what one holds for writing the other doesn't hold
abbrev pub IsBeside : Client → Client → Type 0
IsBeside p q = (i : ℕ) → p.writes i ≡ true → has_lease q i ≡ false
