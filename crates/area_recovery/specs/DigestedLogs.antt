-- What digests of clients' logs make of the shared area.
use Rattle.std.specs.Prelude.{◌≡◌, ◌≢◌, ◌⊎◌, ℕ, ◌+◌, ◌-◌, ◌^◌, ◌<◌, ◌≤◌, List, [], length, take, true, Some}
use Rattle.tier_device.specs.declared.media.Media.{Ghosts}
use Rattle.recovery_laws.specs.batch_journal.View.{JournalView}
use Rattle.recovery_laws.specs.layout.Places.{Sizes}
use Rattle.recovery_laws.specs.area_reader.Store.{Store, disk, graph, marks, store_of}
use Rattle.recovery_laws.specs.digester.MarkMoves.{mark_of}
use Rattle.recovery_laws.specs.digester.Plan.{AreGood, IsFirstBad}
use Rattle.recovery_laws.specs.digester.SealedLog.{SealedView, done_to, mark_then, undone}
use Rattle.recovery_laws.specs.digester.declared.error.DigestError.{DigestError}
use Rattle.recovery_laws.specs.digester.declared.error.DigestError.TheVariants as digests
use Rattle.log_survey.specs.update_log.RecordCounts.{counted_records, records_in}
use Rattle.graph_check.specs.log_record.declared.format.Record.{Record}
use Rattle.recovery_laws.specs.layout.declared.marks.Mark.{Mark}
use Rattle.recovery_laws.specs.layout.declared.marks.Marks.{Marks}
use Rattle.graph_check.specs.file_graph.Graph.{Graph}
use Rattle.log_survey.specs.world_invariant.Logs.{after_clients, after_records}
use Rattle.posix_calls.specs.Operations.{is_client}
use Rattle.posix_calls.specs.Tree.{State}
use Rattle.event_lists.specs.Courses.{Content}
use Rattle.recovery_laws.specs.Inodes.{HasEveryInode}
use Rattle.area_recovery.specs.Errors.{OnBadLog}
use Rattle.area_recovery.specs.FoundLogs.{log_by}
use Rattle.area_recovery.specs.Recovers.{AreThese, Recovers, Regions}
use Rattle.area_recovery.specs.declared.error.RecoveryError.{RecoveryError}
use Rattle.area_recovery.specs.declared.error.RecoveryError.TheVariants as errors

-- a client's regions hold the records of a sealed log, under its generation
abbrev pub HaveRecords : SealedView → Regions → Type 0
HaveRecords x regions = records_in (regions x.client) x.generation ≡ x.records

-- a client's regions hold these records under a generation
abbrev pub HoldRecords : ℕ → ℕ → List Record → Regions → Type 0
HoldRecords client generation rs regions = records_in (regions client) generation ≡ rs

-- so do all regions that are as these
abbrev pub HoldAll : Regions → ℕ → ℕ → List Record → Type 0
HoldAll these client generation rs = (now : Regions) → AreThese these now → HoldRecords client generation rs now

-- A client's mark is this one now, and those of the others stay.
pub record MovesMark (client : ℕ) (mark : Mark) (old new : Store) : Type 0 where
  pub after : Marks
  pub is : marks new ≡ Some after
  pub own : mark_of after client ≡ mark
  pub others : (v : Marks) (d : ℕ) → marks old ≡ Some v → is_client d ≡ true → d ≢ client → mark_of after d ≡ mark_of v d

-- Where contents with such regions are recovered, a client's mark stands at the start of this generation.
abbrev pub StandsAtStart : (Regions → Type 0) → ℕ → ℕ → Content → Type 0
StandsAtStart AreSo client generation seen = (g : Sizes) (regions : Regions) (state : State) (v : Marks) → AreSo regions → Recovers g regions state seen → marks (store_of seen) ≡ Some v
    → mark_of v client ≡ record { generation = generation; done = 0 }

-- no record is refused for what it is
abbrev pub IsNoBadLog : DigestError → Type 0
IsNoBadLog digests.DeviceFault = Unit {0}
IsNoBadLog (digests.BadLog place) = ⊥
IsNoBadLog digests.Memory = Unit {0}

-- how a recovery is refused where a digest of a client's log is
abbrev pub IsRefusal : ℕ → DigestError → RecoveryError → Type 0
IsRefusal client digests.DeviceFault f = f ≡ errors.DeviceFault
IsRefusal client (digests.BadLog place) f = (k : ℕ) × (f ≡ errors.BadLog client k)
IsRefusal client digests.Memory f = f ≡ errors.Memory

-- Why the records of a client's region are not read: a device failed, there was no memory, or there are more than can be numbered.
abbrev pub IsRegionReadRefusal : ℕ → List Record → RecoveryError → Type 0
IsRegionReadRefusal client rs e = (e ≡ errors.DeviceFault) ⊎ (e ≡ errors.Memory) ⊎ (k : ℕ) × (e ≡ errors.BadLog client k) × (2 ^ 32 ≤ length rs)

-- ---- records that can't be digested

-- each of the records can be digested by one who holds every inode, into the graph as those before it leave it
abbrev pub CanDigest : ℕ → Graph → List Record → Type 0
CanDigest capacity g rs = (held : List ℕ) → HasEveryInode held → AreGood held capacity g rs

-- so can each of each client's, client after client
abbrev pub CanDigestAll : ℕ → Graph → (ℕ → List Record) → Type 0
CanDigestAll capacity g logs = (d : ℕ) → is_client d ≡ true → CanDigest capacity (after_clients logs g (d - 1)) (logs d)

-- the record at this place can't, and those before it can
abbrev pub IsFirstRefused : ℕ → Graph → List Record → ℕ → Type 0
IsFirstRefused capacity g rs place = (held : List ℕ) → HasEveryInode held → IsFirstBad held capacity g rs place

-- a refusal for a record names the first of these that can't be digested, which are that client's, behind `before` others of it
abbrev pub NamesRefused : ℕ → ℕ → ℕ → Graph → List Record → RecoveryError → Type 0
NamesRefused client before capacity g rs e = OnBadLog e (λ c place. (c ≡ client) × (k : ℕ) × (before + k < 18446744073709551616 → place ≡ before + k) × IsFirstRefused capacity g rs k)

-- so does that of the next digest of a sealed log, by its place in the region
abbrev pub NamesBad : Sizes → Store → SealedView → DigestError → Type 0
NamesBad g s x digests.DeviceFault = Unit {0}
NamesBad g s x (digests.BadLog place) = (k : ℕ) × (place ≡ x.done + k) × IsFirstBad x.held g.units (graph g s) (undone x) k
NamesBad g s x digests.Memory = Unit {0}

-- A sealed log of a client: these records of a generation, the first `done` of them digested, and every inode held for writing.
pub record IsLogOf (client generation done : ℕ) (rs : List Record) (x : SealedView) : Type 0 where
  pub is : x ≡ record { client = client; generation = generation; done = done; held = x.held; records = rs }
  pub every : HasEveryInode x.held

module _ {M : Type 0} (device : Ghosts M) where
  -- Some more records of a sealed log are digested: the graph is as they leave it, and the log stands at its client's mark again.
  pub record DigestsNext (x : SealedView) (old : JournalView M) (y : SealedView) (new : JournalView M) : Type 0 where
    pub count : ℕ
    pub some : 1 ≤ count
    pub within : x.done + count ≤ length x.records
    pub log : y ≡ done_to (x.done + count) x
    pub good : AreGood x.held old.geometry.units (graph old.geometry (disk device old)) (take count (undone x))
    pub graph_after : graph new.geometry (disk device new) ≡ after_records (graph old.geometry (disk device old)) (take count (undone x))
    pub moves : MovesMark x.client (mark_then x count) (disk device old) (disk device new)

  -- All of these records of a client are digested: the graph is as they leave it, and the client's mark is this one. Where there are none the area is as it was.
  pub record DigestsAll (client : ℕ) (mark : Mark) (rs : List Record) (old new : JournalView M) : Type 0 where
    pub graph_after : graph new.geometry (disk device new) ≡ after_records (graph old.geometry (disk device old)) rs
    pub moves : ((rs ≡ []) × (new ≡ old)) ⊎ ((rs ≢ []) × MovesMark client mark (disk device old) (disk device new))

  -- A client's log is digested, as the marks have it: the graph is as its records leave it, the marks of the others stay, and where the contents are recovered none of its records counts.
  pub record DigestsLog (client : ℕ) (these : Regions) (v : Marks) (old new : JournalView M) : Type 0 where
    pub graph_after : graph new.geometry (disk device new) ≡ after_records (graph old.geometry (disk device old)) (log_by v these client)
    pub after : Marks
    pub is : marks (disk device new) ≡ Some after
    pub others : (d : ℕ) → is_client d ≡ true → d ≢ client → mark_of after d ≡ mark_of v d
    pub none : (g : Sizes) (now : Regions) (state : State) → AreThese these now → Recovers g now state (device.seen old.media) → counted_records (mark_of after client).generation (mark_of after client).done (now client) ≡ []
