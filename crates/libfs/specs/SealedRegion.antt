-- A region that a client sealed, until it is taken back.
use Rattle.std.specs.Prelude.{◌≡◌, ◌≢◌, ◌↔◌, ◌≤◌, ◌+◌, ◌||◌, ℕ, Bool, List, true, false, length, take, Option, Some, None, Result, IfErr, IfOk, IsErrOf, OnErr, OnOk, is_some}
use Rattle.std.specs.List.{AllByRecursion}
use Rattle.std.specs.List.Sorted.{IsStrictlyIncreasing}
use Rattle.std.specs.Option.{ForSome}
use Rattle.tier_device.specs.declared.media.Media.{Ghosts}
use Rattle.client_log.specs.update_log.View.{RegionView, records_of}
use Rattle.client_log.specs.Regions.{IsSealedRegion}
use Rattle.posix_calls.specs.Operations.{is_client}
use Rattle.lease_manager.specs.file_graph.Graph.{is_among}
use Rattle.lease_manager.specs.log_record.Grammar.{IsRecord}
use Rattle.lease_manager.specs.log_record.declared.format.Record.{Record}
use Rattle.kernel_fs.specs.digester.SealedLog.{SealedView, IsDoneBy, StandsAtMark, undone}
use Rattle.kernel_fs.specs.digester.Chunk.{chunk_change}
use Rattle.kernel_fs.specs.digester.declared.chunk.Chunk.{Chunk}
use Rattle.kernel_fs.specs.digester.DigestStep.{IsDigested, NamesFirstBad, StaysOrDigests, DigestsOrStays}
use Rattle.kernel_fs.specs.digester.declared.error.DigestError.{DigestError}
use Rattle.kernel_fs.specs.digester.declared.error.DigestError.TheVariants as digests
use Rattle.kernel_fs.specs.area_reader.Store.{disk, graph}
use Rattle.kernel_fs.specs.shared_area.ChangeApply.{MakesFewCalls}
use Rattle.lease_manager.specs.file_graph.Units.{charge}
use Rattle.client_log.specs.world_invariant.Logs.{units_in}
use Rattle.client_log.specs.world_invariant.Machine.{Machine, Sealed, CanAccept, IsRunning, StandsSealed, accept, digest}
use Rattle.kernel_fs.specs.RegionAccept.{BeginsAtMark, HasAsManyWaiting, IsRegionOf}
use Rattle.kernel_fs.specs.KernelAnswers.{Answers, OnRefusal}
use Rattle.kernel_fs.specs.Book.{out_of, units_of, waiting_of}
use Rattle.kernel_fs.specs.KernelView.{KernelView}
use Rattle.kernel_fs.specs.MachineState.{IsKernelOf}
use Rattle.kernel_fs.specs.declared.chunk_digest.Digestion.{Digestion}
use Rattle.kernel_fs.specs.declared.chunk_digest.Digestion.TheVariants.{Digested, NotNext, NotAccepted}
use Rattle.kernel_fs.specs.declared.error.AcceptError.{AcceptError}
use Rattle.kernel_fs.specs.declared.error.AcceptError.TheVariants.{NotAtMark, AlreadyAccepted}
use Rattle.kernel_fs.specs.declared.error.KernelError.{KernelError}
use Rattle.kernel_fs.specs.declared.error.KernelError.TheVariants as kernel

pub record SealedRegionView (M : Type 0) : Type 0 where
  -- whose it is, from 1 to 8, and the generation of its records
  pub client : ℕ
  pub generation : ℕ
  pub region : RegionView M
  -- the inodes, rising and each once, that the client held for writing then
  pub held : List ℕ
  -- whether its records were read, and whether the kernel has accepted it
  pub read : Bool
  pub accepted : Bool
  -- how many of its records are digested
  pub done : ℕ

-- the log of a region: that is what `read_records` reads into memory
abbrev pub log_of : {M : Type 0} → Ghosts M → SealedRegionView M → SealedView
log_of device r = record { client = r.client; generation = r.generation; done = r.done; held = r.held; records = records_of device r.region }

-- Nothing was done yet with a region.
pub record IsUntouched {M : Type 0} (r : SealedRegionView M) : Type 0 where
  pub unread : r.read ≡ false
  pub unaccepted : r.accepted ≡ false
  pub none : r.done ≡ 0

-- ---- in memory

-- from the log in memory, if it is there, and from what was noted as its memory was freed: whether the records were read, and how many are digested
abbrev pub is_read_in : Option SealedView → Option ℕ → Bool
is_read_in log freed = is_some log || is_some freed

abbrev pub done_in : Option SealedView → Option ℕ → ℕ
done_in (Some x) freed = x.done
done_in None (Some n) = n
done_in None None = 0

-- A log in memory is that of a region.
pub record IsLogOf (client generation : ℕ) (held : List ℕ) (records : List Record) (x : SealedView) : Type 0 where
  pub client_is : x.client ≡ client
  pub generation_is : x.generation ≡ generation
  pub held_is : x.held ≡ held
  pub records_are : x.records ≡ records

-- What holds of a sealed region and of what is kept beside it: it is a client's, each record has a spelling, and its log in memory is its log. The memory of the records is freed only once
-- all are digested. What was accepted was read.
pub record IsKept {M : Type 0} (device : Ghosts M) (client generation : ℕ) (region : RegionView M) (held : List ℕ) (count : ℕ) (log : Option SealedView) (freed : Option ℕ) (accepted : Bool) : Type 0 where
  pub number : is_client client ≡ true
  pub sealed : IsSealedRegion device generation region
  pub rising : IsStrictlyIncreasing held
  pub spelled : AllByRecursion IsRecord (records_of device region)
  pub counted : count ≡ length (records_of device region)
  pub its_log : ForSome log (IsLogOf client generation held (records_of device region))
  pub whole : ForSome freed (λ n. n ≡ length (records_of device region))
  pub read : accepted ≡ true → is_read_in log freed ≡ true

-- ---- accepted and digested

-- The kernel was asked to accept a log: it has, or nothing has changed, for one of three reasons.
pub record AcceptsLog {M : Type 0} (device : Ghosts M) (k : KernelView M) (x : SealedView) (answer : Result (Unit {0}) (KernelError AcceptError)) (after : KernelView M) : Type 0 where
  pub accepted : OnOk answer (HasAsManyWaiting after.book x)
  pub can : OnOk answer ((m : Machine) (s : Sealed) → IsKernelOf device k m → m.accepted x.client ≡ s.past → s.records ≡ x.records → CanAccept m x.client s)
  pub step : OnOk answer ((m : Machine) (s : Sealed) → IsKernelOf device k m → m.accepted x.client ≡ s.past → s.records ≡ x.records → IsKernelOf device after (accept m x.client s))
  pub region : OnOk answer ((m : Machine) (s : Sealed) → IsKernelOf device k m → m.accepted x.client ≡ s.past → s.records ≡ x.records → ((i : ℕ) → s.writes i ≡ true → is_among i x.held ≡ true) → IsRegionOf x (m.kernel.accounts x.client).mark s)
  pub out : out_of after.book ≡ out_of k.book
  pub not_at_mark : IsErrOf answer (kernel.Refused NotAtMark) ↔ ((k.area.failed ≡ false) × (StandsAtMark x (disk device k.area) → ⊥))
  pub already_accepted : IsErrOf answer (kernel.Refused AlreadyAccepted) ↔ ((k.area.failed ≡ false) × StandsAtMark x (disk device k.area) × (waiting_of k.book x.client ≢ 0))
  pub failed : IsErrOf answer kernel.Failed ↔ (k.area.failed ≡ true)
  pub refused : OnErr answer (after ≡ k)
  pub area : after.area ≡ k.area
  pub opening : after.opening ≡ k.opening

-- The kernel was asked to digest a chunk of a log: graph, mark and account move together, or nothing does.
pub record DigestsChunk {M : Type 0} (device : Ghosts M) (k : KernelView M) (x : SealedView) (c : Chunk) (answer : Result Digestion (KernelError DigestError)) (y : SealedView) (after : KernelView M) : Type 0 where
  pub any_moment : k.area.failed ≡ false → BeginsAtMark x c (disk device k.area) → HasAsManyWaiting k.book x → StaysOrDigests k.area.geometry (disk device k.area) x c.count (device.moment k.area.media) (device.moment after.area.media) (device.left k.area.media) (device.left after.area.media)
  pub next : IfOk answer (λ a. (a ≡ Digested) ↔ (BeginsAtMark x c (disk device k.area) × HasAsManyWaiting k.book x))
  pub not_next : IfOk answer (λ a. (a ≡ NotNext) ↔ (BeginsAtMark x c (disk device k.area) → ⊥))
  pub not_accepted : IfOk answer (λ a. (a ≡ NotAccepted) ↔ (BeginsAtMark x c (disk device k.area) × (HasAsManyWaiting k.book x → ⊥)))
  pub not_digested : IfOk answer (λ a. a ≢ Digested → (after ≡ k) × (y ≡ x))
  pub digested : IfOk answer (λ a. a ≡ Digested → IsDigested k.area.geometry (disk device k.area) x c.count (disk device after.area))
  pub done : IfOk answer (λ a. a ≡ Digested → IsDoneBy x c.count y)
  pub at_mark : IfOk answer (λ a. a ≡ Digested → StandsAtMark y (disk device after.area))
  pub accepted : IfOk answer (λ a. a ≡ Digested → HasAsManyWaiting after.book y)
  pub step : IfOk answer (λ a. a ≡ Digested → (m : Machine) → IsKernelOf device k m → IsKernelOf device after (digest m x.client (take c.count (undone x))))
  -- what the records raise of the charge they have in units
  pub law : OnOk answer (units_in (undone x) ≤ units_of k.book x.client → charge (graph k.area.geometry (disk device k.area)) + out_of k.book ≤ k.area.geometry.units
      → charge (graph after.area.geometry (disk device after.area)) + out_of after.book ≤ after.area.geometry.units)
  pub only_next : IfErr answer (λ e. OnRefusal e (λ _. BeginsAtMark x c (disk device k.area) × HasAsManyWaiting k.book x))
  pub bad : IfErr answer (λ e. OnRefusal e (NamesFirstBad k.area.geometry (disk device k.area) x c.count))
  pub never_bad : (m : Machine) (s : Sealed) (place : ℕ) → IsKernelOf device k m → IsRunning m → IsRegionOf x (m.kernel.accounts x.client).mark s → StandsSealed m.kernel.shared (m.kernel.accounts x.client) s → IsErrOf answer (kernel.Refused (digests.BadLog place)) → ⊥
  pub refused : OnErr answer ((after.book ≡ k.book) × (y ≡ x))
  pub answers : Answers k.area.failed k after answer (DigestsOrStays device k.area after.area)
  -- as many writes and fences as the change of the chunk makes, and none where it is not made; what is read is not counted
  pub at_most : MakesFewCalls k.area.geometry (disk device k.area) (chunk_change (graph k.area.geometry (disk device k.area)) c) (device.moment k.area.media) (device.moment after.area.media) (device.left k.area.media) (device.left after.area.media)
  pub opening : after.opening ≡ k.opening
