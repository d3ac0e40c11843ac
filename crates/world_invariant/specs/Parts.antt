-- The parts of the invariant, each under a name, and when a world breaks one of them alone.
use Rattle.std.specs.Prelude.{◌≡◌, ◌≢◌, ℕ, ◌+◌, ◌<◌, ◌≤◌, List, [], length, true, false, Option, Some, None}
use Rattle.posix_calls.specs.Tree.{sum_up_to}
use Rattle.posix_calls.specs.Operations.{is_client}
use Rattle.posix_calls.specs.declared.descriptor.Descriptor.{Descriptor}
use Rattle.posix_calls.specs.declared.limits.TheConstants.{ROOT, MAX_INODE, MAX_CLIENTS}
use Rattle.call_effects.specs.file_graph.Graph.{Graph}
use Rattle.call_effects.specs.file_graph.Units.{charge}
use Rattle.call_effects.specs.NodeView.{NodeView, view_at}
use Rattle.call_effects.specs.Blocks.{block_at}
use Rattle.call_effects.specs.Wholes.{IsSound}
use Rattle.call_effects.specs.Knowledge.{Knowledge, IsPlanned, IsPutBack, Agrees}
use Rattle.world_invariant.specs.Limits.{AreWithin}
use Rattle.world_invariant.specs.Logs.{is_written, is_made_in, IsMadeOnce, units_in, ArePaid, NameNone, KeepLimits}
use Rattle.world_invariant.specs.World.{Begun, Away, Failed, Account, Client, Kernel, World, undigested_records, records_of, has_lease, whole_graph, held_descriptors}
use Rattle.world_invariant.specs.ClientParts.{OpensPinned, is_settled, IsBeside}

-- ---- of the kernel's book

pub data BookPart : Type 0 where
  NumbersFree : BookPart
  NumbersInRange : BookPart
  NumbersInOneHand : BookPart
  NodesWithin : BookPart
  UnitsFit : BookPart

abbrev pub HoldsIn : BookPart → Kernel → Type 0
HoldsIn NumbersFree k = (c i : ℕ) → is_client c ≡ true → (k.accounts c).numbers i ≡ true → k.shared i ≡ None
HoldsIn NumbersInRange k = (c i : ℕ) → is_client c ≡ true → (k.accounts c).numbers i ≡ true → (ROOT < i) × (i ≤ MAX_INODE)
HoldsIn NumbersInOneHand k = (c d i : ℕ) → is_client c ≡ true → is_client d ≡ true → d ≢ c → (k.accounts c).numbers i ≡ true → (k.accounts d).numbers i ≡ false
HoldsIn NodesWithin k = AreWithin k.shared
HoldsIn UnitsFit k = charge k.shared + sum_up_to MAX_CLIENTS (λ c. (k.accounts c).units) ≤ k.capacity

-- ---- of one client

pub data ClientPart : Type 0 where
  OwnNumber : ClientPart
  -- its regions
  MarkNotBefore : ClientPart
  MarkNotPast : ClientPart
  AwayHasRecords : ClientPart
  BackHasNone : ClientPart
  UnwipedHasNone : ClientPart
  UnwipedIsIdle : ClientPart
  -- its records
  RecordsLeased : ClientPart
  RecordsPaid : ClientPart
  RecordsNameNone : ClientPart
  RecordsKeepLimits : ClientPart
  -- its units, numbers, copies and pins
  UnitsBooked : ClientPart
  MadeBooked : ClientPart
  MadeOnce : ClientPart
  GrantedBooked : ClientPart
  GrantedUnused : ClientPart
  CopiesLeased : ClientPart
  BlocksLeased : ClientPart
  OpenPinned : ClientPart
  PinsBooked : ClientPart
  -- its begun call
  BegunPlanned : ClientPart
  BegunHasEffects : ClientPart
  BegunPinned : ClientPart
  -- once its call is settled
  SettledClosed : ClientPart
  SettledIdle : ClientPart

abbrev pub HoldsOf : ClientPart → Graph → Account → ℕ → Client → Type 0
HoldsOf OwnNumber g a c p = p.knows.client ≡ c
HoldsOf MarkNotBefore g a c p = p.past ≤ a.mark
HoldsOf MarkNotPast g a c p = a.mark ≤ p.past + length p.sealed
HoldsOf AwayHasRecords g a c p = p.other ≡ Away → p.sealed ≢ []
HoldsOf BackHasNone g a c p = p.other ≢ Away → p.sealed ≡ []
HoldsOf UnwipedHasNone g a c p = p.ready ≡ false → p.current ≡ []
HoldsOf UnwipedIsIdle g a c p = p.ready ≡ false → p.begun ≡ None
HoldsOf RecordsLeased g a c p = (i : ℕ) → is_written i (records_of a p) ≡ true → p.writes i ≡ true
HoldsOf RecordsPaid g a c p = ArePaid g (records_of a p)
HoldsOf RecordsNameNone g a c p = NameNone g (records_of a p)
HoldsOf RecordsKeepLimits g a c p = KeepLimits g (records_of a p)
HoldsOf UnitsBooked g a c p = p.spare + units_in (records_of a p) ≤ a.units
HoldsOf MadeBooked g a c p = (i : ℕ) → is_made_in i (undigested_records a p) ≡ true → a.numbers i ≡ true
HoldsOf MadeOnce g a c p = (i : ℕ) → IsMadeOnce i (undigested_records a p)
HoldsOf GrantedBooked g a c p = (i : ℕ) → p.knows.granted i ≡ true → a.numbers i ≡ true
HoldsOf GrantedUnused g a c p = (i : ℕ) → p.knows.granted i ≡ true → is_made_in i (undigested_records a p) ≡ false
HoldsOf CopiesLeased g a c p = (i : ℕ) (copy : Option NodeView) → p.knows.copies i ≡ Some copy → has_lease p i ≡ true
HoldsOf BlocksLeased g a c p = (i b : ℕ) (bytes : List ℕ) → p.knows.blocks i b ≡ Some bytes → has_lease p i ≡ true
HoldsOf OpenPinned g a c p = (n : ℕ) (o : Descriptor) → p.knows.own n ≡ Some o → p.pins o.inode ≡ true
HoldsOf PinsBooked g a c p = (i : ℕ) → p.pins i ≡ true → a.pins i ≡ true
HoldsOf BegunPlanned g a c p = (b : Begun) → p.begun ≡ Some b → IsPlanned p.knows b.call b.new b.operation b.change.effects
HoldsOf BegunHasEffects g a c p = (b : Begun) → p.begun ≡ Some b → b.change.effects ≢ []
HoldsOf BegunPinned g a c p = (b : Begun) → p.begun ≡ Some b → p.status ≢ Failed → OpensPinned p.pins b.new b.operation
HoldsOf SettledClosed g a c p = is_settled p.status ≡ true → (n : ℕ) → p.knows.own n ≡ None
HoldsOf SettledIdle g a c p = is_settled p.status ≡ true → p.begun ≡ None

-- ---- of the world

pub data WorldPart : Type 0 where
  Book : BookPart → WorldPart
  Each : ClientPart → WorldPart
  LeasesLegal : WorldPart
  WholeSound : WorldPart
  WholeKnown : WorldPart

abbrev pub HoldsOfWorld : WorldPart → World → Type 0
HoldsOfWorld (Book q) w = HoldsIn q w.kernel
HoldsOfWorld (Each q) w = (c : ℕ) → is_client c ≡ true → HoldsOf q w.kernel.shared (w.kernel.accounts c) c (w.clients c)
HoldsOfWorld LeasesLegal w = (c d : ℕ) → is_client c ≡ true → is_client d ≡ true → d ≢ c → IsBeside (w.clients c) (w.clients d)
HoldsOfWorld WholeSound w = IsSound (whole_graph w) (held_descriptors w)
HoldsOfWorld WholeKnown w = (c : ℕ) → is_client c ≡ true → Agrees (w.clients c).knows (whole_graph w) (held_descriptors w)

-- a world that lacks one part of the invariant, and has all others
pub record BreaksAlone (part : WorldPart) (w : World) : Type 0 where
  pub broken : HoldsOfWorld part w → ⊥
  pub others : (q : WorldPart) → q ≢ part → HoldsOfWorld q w

-- the copies and blocks that a client has are as the whole is, but for files that are gone
pub record HasTrueCopies (k : Knowledge) (g : Graph) : Type 0 where
  pub back : Graph
  pub put_back : IsPutBack g back
  pub copies : (i : ℕ) (copy : Option NodeView) → k.copies i ≡ Some copy → view_at back i ≡ copy
  pub blocks : (i b : ℕ) (bytes : List ℕ) → k.blocks i b ≡ Some bytes → block_at back i b ≡ Some bytes
