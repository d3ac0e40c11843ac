-- What an event makes of client and kernel in which the client asks the kernel.
use Rattle.std.specs.Prelude.{◌≡◌, ◌⊎◌, ◌<◌, ◌≤◌, ◌+◌, ◌^◌, ℕ, true, false, None, Result, Ok, Err, OnOk, OnErr, IfErr, IsErrOf, is_some}
use Rattle.tier_device.specs.declared.media.Media.{Ghosts}
use Rattle.libfs.specs.area_reader.Map.{WantsMemory}
use Rattle.libfs.specs.area_reader.Store.{disk}
use Rattle.libfs.specs.file_graph.Units.{charge}
use Rattle.libfs.specs.kernel_fs.Book.{out_of, is_free}
use Rattle.libfs.specs.kernel_fs.Free.{count_of}
use Rattle.libfs.specs.kernel_fs.Nodes.{nodes_in}
use Rattle.libfs.specs.kernel_fs.KernelView.{KernelView}
use Rattle.libfs.specs.kernel_fs.MachineState.{IsKernelOf}
use Rattle.libfs.specs.lease_manager.Passes.{client_of}
use Rattle.libfs.specs.world_invariant.Machine.{Machine, book_pin, unbook_pin}
use Rattle.libfs.specs.ClientHoldings.{known_to}
use Rattle.libfs.specs.NeedService.{HasFetched, HasFetchedBlocks, HasThem, HasGivenBack, HasLooked, HasRefilled, with_pin, shared_by, without_pin}
use Rattle.libfs.specs.declared.denial.Denied.{Denied}
use Rattle.libfs.specs.declared.denial.Denied.TheVariants as denied
use Rattle.event_steps.specs.declared.outcome.Outcome.{Outcome}
use Rattle.event_steps.specs.Outcomes.{noted_refusals, request_outcome}
use Rattle.event_steps.specs.View.{SeatView}

-- The client got what the kernel answered, and a refusal is kept until its next reply.
pub record HasAsked {M : Type 0} (old : SeatView M) (answer : Result (Unit {0}) Denied) (o : Outcome) (new : SeatView M) : Type 0 where
  pub told : o ≡ request_outcome answer
  pub rest : new ≡ record old { client = new.client; refused = noted_refusals answer old.refused }

-- The client has begun a record: it has all that it needs, and gets no copy meanwhile.
pub record HasNoneMeanwhile {M : Type 0} (k : KernelView M) (old : SeatView M) (o : Outcome) (new : SeatView M) (after : KernelView M) : Type 0 where
  pub begun : is_some old.client.begun ≡ true
  pub told : o ≡ request_outcome (Ok tt)
  pub same : new ≡ old
  pub kernel : after ≡ k

-- why nothing is fetched: a device of the kernel failed before or fails now, or memory is wanting; never for units, numbers or what is in use
abbrev pub IsOfDevice : Denied → Type 0
IsOfDevice e = (e ≡ denied.KernelFailed) ⊎ (e ≡ denied.Device) ⊎ (e ≡ denied.Memory)

-- A copy that was there stays, and the kernel reads nothing; else the client gets one, or is told why not.
pub record AnswersFetch {M : Type 0} (device : Ghosts M) (k : KernelView M) (old : SeatView M) (i : ℕ) (o : Outcome) (new : SeatView M) (after : KernelView M) : Type 0 where
  pub idle : old.client.begun ≡ None
  pub answer : Result (Unit {0}) Denied
  pub asks : HasAsked old answer o new
  pub fetched : OnOk answer (HasFetched device device k old.client i new.client)
  pub there : k.area.failed ≡ false → is_some ((known_to old.client).copies i) ≡ true → (answer ≡ Ok tt) × (new.client ≡ old.client) × (after ≡ k)
  pub refused : OnErr answer (new.client ≡ old.client)
  pub failed : k.area.failed ≡ true → answer ≡ Err denied.KernelFailed
  pub untouched : k.area.failed ≡ true → after ≡ k
  pub only : IfErr answer IsOfDevice
  pub memory : IsErrOf answer denied.Memory → ((known_to old.client).copies i ≡ None) × WantsMemory k.area.geometry (disk device k.area) i
  pub going : IsErrOf answer denied.KernelFailed → k.area.failed ≡ true
  pub kernel : HasLooked device k after answer

abbrev pub IsFetched : {M : Type 0} → Ghosts M → KernelView M → SeatView M → ℕ → Outcome → SeatView M → KernelView M → Type 0
IsFetched device k old i o new after = HasNoneMeanwhile k old o new after ⊎ AnswersFetch device k old i o new after

-- Blocks of a file were fetched: where it was refused, those before stay that had come.
pub record GetsBlocks {M : Type 0} (device : Ghosts M) (k : KernelView M) (old : SeatView M) (i first count : ℕ) (o : Outcome) (new : SeatView M) (after : KernelView M) : Type 0 where
  pub answer : Result (Unit {0}) Denied
  pub asks : HasAsked old answer o new
  pub fetched : HasFetchedBlocks device device k old.client i first count new.client
  pub there : OnOk answer (HasThem device device k old.client i first count new.client)
  pub failed : k.area.failed ≡ true → (answer ≡ Err denied.KernelFailed) × (new.client ≡ old.client) × (after ≡ k)
  pub only : IfErr answer IsOfDevice
  pub going : IsErrOf answer denied.KernelFailed → k.area.failed ≡ true
  pub kernel : HasLooked device k after answer

-- A run that would end past all numbers of blocks has none.
pub record HasNoSuchBlocks {M : Type 0} (k : KernelView M) (old : SeatView M) (first count : ℕ) (o : Outcome) (new : SeatView M) (after : KernelView M) : Type 0 where
  pub past : 2 ^ 32 ≤ first + count
  pub told : o ≡ request_outcome (Ok tt)
  pub same : new ≡ old
  pub kernel : after ≡ k

abbrev pub AreFetched : {M : Type 0} → Ghosts M → KernelView M → SeatView M → ℕ → ℕ → ℕ → Outcome → SeatView M → KernelView M → Type 0
AreFetched device k old i first count o new after = HasNoSuchBlocks k old first count o new after ⊎ GetsBlocks device k old i first count o new after

-- what a kernel that has failed answers: just that, where there is memory
abbrev pub IsStopped : Denied → Type 0
IsStopped e = (e ≡ denied.KernelFailed) ⊎ (e ≡ denied.Memory)

-- What only the kernel's book has to do with: no device is asked, and what is refused changes nothing.
pub record IsBooked {M : Type 0} (k : KernelView M) (old : SeatView M) (answer : Result (Unit {0}) Denied) (o : Outcome) (new : SeatView M) (after : KernelView M) : Type 0 where
  pub asks : HasAsked old answer o new
  pub going : OnOk answer (k.area.failed ≡ false)
  pub failed : IsErrOf answer denied.KernelFailed → k.area.failed ≡ true
  pub stopped : k.area.failed ≡ true → IfErr answer IsStopped
  pub refused : OnErr answer ((new.client ≡ old.client) × (after ≡ k))
  pub area : after.area ≡ k.area
  pub opening : after.opening ≡ k.opening

-- Units and numbers were granted. Want of units comes first.
pub record IsRefilled {M : Type 0} (device : Ghosts M) (k : KernelView M) (old : SeatView M) (units inodes : ℕ) (o : Outcome) (new : SeatView M) (after : KernelView M) : Type 0 where
  pub answer : Result (Unit {0}) Denied
  pub booked : IsBooked k old answer o new after
  pub granted : OnOk answer (HasRefilled device k old.client units inodes new.client after)
  pub law : OnOk answer (charge (shared_by device k) + out_of after.book ≤ k.area.geometry.units)
  -- beside what passes the capacity, no client can have so many that they have no number
  pub no_units : IsErrOf answer denied.NoUnits → (k.area.geometry.units < charge (shared_by device k) + out_of k.book + units) ⊎ (2 ^ 32 ≤ old.client.spare + units)
  pub no_inode : IsErrOf answer denied.NoInode → (charge (shared_by device k) + out_of k.book + units ≤ k.area.geometry.units) × (count_of (is_free k.book (nodes_in (shared_by device k))) < inodes)
  pub only : IfErr answer (λ e. (e ≡ denied.Memory) ⊎ (e ≡ denied.KernelFailed) ⊎ (e ≡ denied.NoUnits) ⊎ (e ≡ denied.NoInode))

pub record IsGivenBack {M : Type 0} (device : Ghosts M) (k : KernelView M) (old : SeatView M) (o : Outcome) (new : SeatView M) (after : KernelView M) : Type 0 where
  pub answer : Result (Unit {0}) Denied
  pub booked : IsBooked k old answer o new after
  pub given : OnOk answer (HasGivenBack device k old.client new.client after)
  pub only : IfErr answer (λ e. e ≡ denied.KernelFailed)

pub record IsPinned {M : Type 0} (device : Ghosts M) (k : KernelView M) (old : SeatView M) (i : ℕ) (o : Outcome) (new : SeatView M) (after : KernelView M) : Type 0 where
  pub answer : Result (Unit {0}) Denied
  pub booked : IsBooked k old answer o new after
  pub pins : OnOk answer (new.client ≡ record old.client { pins = with_pin old.client.pins i })
  pub step : OnOk answer ((m : Machine) → IsKernelOf device k m → IsKernelOf device after (book_pin m (client_of old.client.pass) i))
  pub out : out_of after.book ≡ out_of k.book
  pub only : IfErr answer (λ e. (e ≡ denied.KernelFailed) ⊎ (e ≡ denied.Memory))

pub record IsUnpinned {M : Type 0} (device : Ghosts M) (k : KernelView M) (old : SeatView M) (i : ℕ) (o : Outcome) (new : SeatView M) (after : KernelView M) : Type 0 where
  pub answer : Result (Unit {0}) Denied
  pub booked : IsBooked k old answer o new after
  pub pins : OnOk answer (new.client ≡ record old.client { pins = without_pin old.client.pins i })
  pub step : OnOk answer ((m : Machine) → IsKernelOf device k m → IsKernelOf device after (unbook_pin m (client_of old.client.pass) i))
  pub out : out_of after.book ≡ out_of k.book
  pub only : IfErr answer (λ e. e ≡ denied.KernelFailed)
