-- What a client has once the kernel served it.
use Rattle.std.specs.Prelude.{◌≡◌, ◌≢◌, ◌⊎◌, ℕ, ◌+◌, ◌<◌, ◌≤◌, ◌==◌, ◌&&◌, ◌||◌, ◌++◌, not, drop, min, take, length, get_or, Bool, true, false, List, [], ◌∷◌, Option, Some, None, Result, Ok, Err, IsSome, OnErr, if◌then◌else◌}
use Rattle.std.specs.List.{filter}
use Rattle.tier_device.specs.declared.media.Media.{Ghosts}
use Rattle.posix_calls.specs.Content.{with_length}
use Rattle.lease_manager.specs.file_graph.Graph.{Graph, is_among}
use Rattle.lease_manager.specs.file_graph.Numbers.{is_inode}
use Rattle.lease_manager.specs.file_graph.Units.{charge}
use Rattle.block_cache.specs.CacheList.{bytes_at as kept_bytes, put_block, without_file}
use Rattle.block_cache.specs.declared.bytes.TheConstants.{BLOCK_SIZE}
use Rattle.block_cache.specs.declared.blocks.TheConstants.{MOST_BLOCKS}
use Rattle.lease_manager.specs.log_record.declared.format.Record.{Record}
use Rattle.client_log.specs.call_effects.Blocks.{block_of}
use Rattle.client_log.specs.call_effects.Knowledge.{Knowledge, with_copy}
use Rattle.client_log.specs.call_effects.NodeView.{view_at}
use Rattle.kernel_fs.specs.layout.declared.marks.Mark.{Mark}
use Rattle.lease_manager.specs.RecordCounts.{touch_count}
use Rattle.lease_manager.specs.Words.{HasWord}
use Rattle.lease_manager.specs.Passes.{client_of, lease_of}
use Rattle.lease_manager.specs.declared.view.LeaseMode.TheVariants.{Free}
use Rattle.posix_calls.specs.Tree.{has_open}
use Rattle.kernel_fs.specs.Book.{is_free, out_of, units_of}
use Rattle.kernel_fs.specs.Free.{AreLowest}
use Rattle.kernel_fs.specs.Inodes.{IsInode}
use Rattle.kernel_fs.specs.Nodes.{nodes_in}
use Rattle.kernel_fs.specs.Steps.{grant as granted, take_back as taken_back}
use Rattle.kernel_fs.specs.declared.book_error.RefillError.{RefillError}
use Rattle.kernel_fs.specs.declared.book_error.RefillError.TheVariants as refills
use Rattle.client_view.specs.After.{block_laid, bytes_at}
use Rattle.client_log.specs.View.{current_records}
use Rattle.client_view.specs.BlockPut.{IsBlockLong}
use Rattle.client_view.specs.client_plan.declared.need.Need.{Need}
use Rattle.client_view.specs.client_plan.declared.need.Need.TheVariants as needs
use Rattle.client_log.specs.world_invariant.Machine.{Machine, book_pin, unbook_pin}
use Rattle.kernel_fs.specs.KernelView.{KernelView}
use Rattle.kernel_fs.specs.MachineState.{IsKernelOf, IsMarkIn}
use Rattle.kernel_fs.specs.declared.error.KernelError.{KernelError}
use Rattle.kernel_fs.specs.declared.error.KernelError.TheVariants as kernel
use Rattle.kernel_fs.specs.area_reader.Looks.{Looks}
use Rattle.kernel_fs.specs.area_reader.Store.{disk, graph}
use Rattle.kernel_fs.specs.area_reader.declared.error.AreaError.{AreaError}
use Rattle.kernel_fs.specs.area_reader.declared.error.AreaError.TheVariants as area
use Rattle.libfs.specs.declared.denial.Denied.{Denied}
use Rattle.libfs.specs.declared.denial.Denied.TheVariants as denied
use Rattle.libfs.specs.View.{ClientView, own_records}
use Rattle.libfs.specs.ClientHoldings.{known_to}

-- ---- what is asked of the kernel

-- The kernel serves all that a client may lack but a lease, which the client takes itself, and room in its region. A copy comes only while no record is begun, and a copy that is there stays.
abbrev pub IsServable : {M : Type 0} → ClientView M → Need → Type 0
IsServable v (needs.View i) = HasWord i × (lease_of v.pass i ≢ Free) × (v.begun ≡ None)
IsServable v (needs.Blocks i first count) = HasWord i × (lease_of v.pass i ≢ Free) × (first + count < 4294967296)
IsServable v (needs.Inodes n) = Unit {0}
IsServable v (needs.Units n) = v.spare + n < 4294967296
IsServable v (needs.Pin i) = IsInode i
IsServable v (needs.Unpin i) = has_open (known_to v).own i ≡ false
IsServable v (needs.Lease i mode) = ⊥
IsServable v needs.Room = ⊥

-- what was asked of the kernel's area, as the client answers it
abbrev pub area_answer : {T : Type 0} → Result T Denied → Result (Unit {0}) AreaError
area_answer (Ok x) = Ok tt
area_answer (Err denied.Memory) = Err area.Memory
area_answer (Err _) = Err area.DeviceFault

-- why the kernel told nothing, as a client tells it; what no reader is refused for stands as a fault
abbrev pub area_denied : KernelError AreaError → Denied
area_denied kernel.Failed = denied.KernelFailed
area_denied (kernel.Refused area.DeviceFault) = denied.Device
area_denied (kernel.Refused area.Memory) = denied.Memory
area_denied (kernel.Refused (area.Damaged tier block)) = denied.Device
area_denied (kernel.Refused area.NoBlock) = denied.Device
area_denied (kernel.Refused area.NotMapped) = denied.Device

-- The kernel's area was looked at, if no device of it had failed before, and nothing else has changed of the kernel.
pub record HasLooked {T S : Type 0} (device : Ghosts S) (old new : KernelView S) (result : Result T Denied) : Type 0 where
  pub looks : old.area.failed ≡ false → Looks device old.area new.area (area_answer result)
  pub book : new.book ≡ old.book
  pub opening : new.opening ≡ old.opening

-- ---- copies

-- the client's records behind a mark: that is in the generation of the region that it writes, or in the one before
abbrev pub records_behind : {M : Type 0} → Ghosts M → ClientView M → Mark → List Record
records_behind device v mark = if mark.generation == v.log.generation then drop mark.done (current_records device v.log) else drop mark.done v.sealed ++ current_records device v.log

-- the kernel's graph
abbrev pub shared_by : {S : Type 0} → Ghosts S → KernelView S → Graph
shared_by device k = graph k.area.geometry (disk device k.area)

-- It has a copy of an inode, and keeps it and all else.
pub record KeepsCopy {M : Type 0} (old : ClientView M) (i : ℕ) (new : ClientView M) : Type 0 where
  pub some : IsSome ((known_to old).copies i)
  pub same : new ≡ old

-- It had no copy of an inode, and so no record of its own that is not digested touches it: it has a copy of what stands there in the kernel's graph. The blocks of other files stay in their order.
pub record GetsNode {M S : Type 0} (device : Ghosts M) (shared : Ghosts S) (k : KernelView S) (old : ClientView M) (i : ℕ) (new : ClientView M) : Type 0 where
  pub none : (known_to old).copies i ≡ None
  pub untouched : touch_count (own_records device old) i ≡ 0
  pub knows_then : known_to new ≡ with_copy (known_to old) i (view_at (shared_by shared k) i)
  pub numbers : new.copies.numbers ≡ old.copies.numbers
  pub order : new.copies.blocks ≡ without_file i old.copies.blocks
  pub rest : new ≡ record old { copies = new.copies }

-- It has a copy of an inode.
abbrev pub HasFetched : {M S : Type 0} → Ghosts M → Ghosts S → KernelView S → ClientView M → ℕ → ClientView M → Type 0
HasFetched device shared k old i new = KeepsCopy old i new ⊎ GetsNode device shared k old i new

-- a block of a file, as the client has it behind a mark: that of the kernel's graph, with its own records laid over it; none where no file stands then
abbrev pub block_behind : {M S : Type 0} → Ghosts M → Ghosts S → KernelView S → ClientView M → Mark → ℕ → ℕ → Option (List ℕ)
block_behind device shared k v mark i b = block_laid (records_behind device v mark) i b (Some (block_of b (bytes_at (shared_by shared k) i)))

-- so many blocks of a file with these bytes, from a first one on
pub record IsRunOf (bytes : List ℕ) (first count : ℕ) (run : List (Option (List ℕ))) : Type 0 where
  pub long : length run ≡ count
  pub told : (n : ℕ) → n < count → get_or run n None ≡ Some (block_of (first + n) bytes)

-- so many blocks of a file from a first one on, each as the client has it behind its mark
pub record IsRunBehind {M S : Type 0} (device : Ghosts M) (shared : Ghosts S) (k : KernelView S) (v : ClientView M) (i first count : ℕ) (run : List (Option (List ℕ))) : Type 0 where
  pub long : length run ≡ count
  pub told : (mark : Mark) → IsMarkIn (disk shared k.area) (client_of v.pass) mark → (n : ℕ) → n < count → get_or run n None ≡ block_behind device shared k v mark i (first + n)

-- It has no block that it had not before but some of these of a file, each as long as its copy of the file tells; and of all others those stay that are among the ones used last, as many as there is room for beside these.
pub record HasFetchedBlocks {M S : Type 0} (device : Ghosts M) (shared : Ghosts S) (k : KernelView S) (old : ClientView M) (i first count : ℕ) (new : ClientView M) : Type 0 where
  pub no_more : (mark : Mark) → IsMarkIn (disk shared k.area) (client_of old.pass) mark → (j b : ℕ) (bytes : List ℕ) → (known_to new).blocks j b ≡ Some bytes
      → ((known_to old).blocks j b ≡ Some bytes) ⊎ ((j ≡ i) × (first ≤ b) × (b < first + count) × (block_behind device shared k old mark i b ≡ Some bytes) × IsBlockLong (known_to old) i b bytes)
  pub others_stay : (j b n : ℕ) (bytes : List ℕ) → n + count ≤ MOST_BLOCKS → (j ≡ i → first ≤ b → b < first + count → ⊥) → kept_bytes j b (take n old.copies.blocks) ≡ Some bytes → kept_bytes j b (take (n + count) new.copies.blocks) ≡ Some bytes
  pub rest : new ≡ record old { copies = record old.copies { blocks = new.copies.blocks } }

-- It has each of them that is as long as its copy of the file tells, where they are no more than it keeps; and they are the ones used last.
abbrev pub HasThem : {M S : Type 0} → Ghosts M → Ghosts S → KernelView S → ClientView M → ℕ → ℕ → ℕ → ClientView M → Type 0
HasThem device shared k old i first count new = count ≤ MOST_BLOCKS → (b : ℕ) (bytes : List ℕ) (mark : Mark) → first ≤ b → b < first + count → IsMarkIn (disk shared k.area) (client_of old.pass) mark
    → block_behind device shared k old mark i b ≡ Some bytes → IsBlockLong (known_to old) i b bytes → ((known_to new).blocks i b ≡ Some bytes) × (kept_bytes i b (take count new.copies.blocks) ≡ Some (with_length BLOCK_SIZE bytes))

-- Each of these blocks stands in the file, as long as the client's copy of it tells.
pub record AreAsLong {M S : Type 0} (device : Ghosts M) (shared : Ghosts S) (k : KernelView S) (v : ClientView M) (i first count : ℕ) : Type 0 where
  pub mark : Mark
  pub is_mark : IsMarkIn (disk shared k.area) (client_of v.pass) mark
  pub block : ℕ → List ℕ
  pub told : (b : ℕ) → first ≤ b → b < first + count → block_behind device shared k v mark i b ≡ Some (block b)
  pub long : (b : ℕ) → first ≤ b → b < first + count → IsBlockLong (known_to v) i b (block b)

-- It has put a block of a file that is as long as its copy of the file tells; any other it has not.
abbrev pub HasPut : {M : Type 0} → ClientView M → ℕ → ℕ → List ℕ → ClientView M → Type 0
HasPut old i b bytes new = (IsBlockLong (known_to old) i b bytes × (new ≡ record old { copies = record old.copies { blocks = put_block i b (with_length BLOCK_SIZE bytes) old.copies.blocks } })) ⊎ ((IsBlockLong (known_to old) i b bytes → ⊥) × (new ≡ old))

-- the same of a block over which its records are laid, if a file stands there
abbrev pub HasPutLaid : {M : Type 0} → ClientView M → ℕ → ℕ → Option (List ℕ) → ClientView M → Type 0
HasPutLaid old i b None new = new ≡ old
HasPutLaid old i b (Some bytes) new = HasPut old i b bytes new

-- ---- units, numbers and pins

-- why the kernel grants nothing, as a client tells it
abbrev pub refill_denied : KernelError RefillError → Denied
refill_denied kernel.Failed = denied.KernelFailed
refill_denied (kernel.Refused refills.NoUnits) = denied.NoUnits
refill_denied (kernel.Refused refills.NoInode) = denied.NoInode

abbrev pub with_numbers : Knowledge → (ℕ → Bool) → Knowledge
with_numbers k more = record k { granted = λ i. k.granted i || more i }

-- It was granted these units, and so many of the lowest numbers that are free.
pub record HasRefilled {M S : Type 0} (device : Ghosts S) (k : KernelView S) (old : ClientView M) (units inodes : ℕ) (new : ClientView M) (after : KernelView S) : Type 0 where
  pub numbers : ℕ → Bool
  pub lowest : AreLowest (is_free k.book (nodes_in (shared_by device k))) numbers inodes
  pub spare : new.spare ≡ old.spare + units
  pub knows_then : known_to new ≡ with_numbers (known_to old) numbers
  pub rest : new ≡ record old { spare = new.spare; copies = record old.copies { numbers = new.copies.numbers } }
  pub step : (m : Machine) → IsKernelOf device k m → IsKernelOf device after (granted m (client_of old.pass) units numbers)

-- the pins with one more
abbrev pub with_pin : List ℕ → ℕ → List ℕ
with_pin pins i = if is_among i pins then pins else pins ++ i ∷ []

abbrev pub without_pin : List ℕ → ℕ → List ℕ
without_pin pins i = filter (λ j. not (j == i)) pins

-- the inodes among the numbers that it was granted
abbrev pub inodes_granted : Knowledge → ℕ → Bool
inodes_granted k i = is_inode i && k.granted i

-- It has given back its spare units and all numbers.
pub record HasGivenBack {M S : Type 0} (device : Ghosts S) (k : KernelView S) (old new : ClientView M) (after : KernelView S) : Type 0 where
  pub spare : new.spare ≡ 0
  pub numbers : new.copies.numbers ≡ []
  pub rest : new ≡ record old { spare = new.spare; copies = record old.copies { numbers = new.copies.numbers } }
  pub step : (m : Machine) → IsKernelOf device k m → IsKernelOf device after (taken_back m (client_of old.pass) old.spare (inodes_granted (known_to old)))
  pub out : out_of after.book + min old.spare (units_of k.book (client_of old.pass)) ≡ out_of k.book

-- ---- any need

-- the inode of which it asks for a copy
abbrev pub copy_needed : Need → Option ℕ
copy_needed (needs.View i) = Some i
copy_needed _ = None

-- whether the kernel only reads for it
abbrev pub is_read : Need → Bool
is_read (needs.View i) = true
is_read (needs.Blocks i first count) = true
is_read _ = false

-- how many units it asks for, and how many numbers
abbrev pub units_needed : Need → ℕ
units_needed (needs.Units n) = n
units_needed _ = 0

abbrev pub inodes_needed : Need → ℕ
inodes_needed (needs.Inodes n) = n
inodes_needed _ = 0

-- It was granted these units and so many numbers, and what is used and what is out fit the media together.
pub record HasBeenGranted {M S : Type 0} (device : Ghosts S) (k : KernelView S) (old : ClientView M) (units inodes : ℕ) (new : ClientView M) (after : KernelView S) : Type 0 where
  pub refilled : HasRefilled device k old units inodes new after
  pub law : charge (shared_by device k) + out_of after.book ≤ k.area.geometry.units

-- It was served what it needed.
abbrev pub HasServed : {M S : Type 0} → Ghosts M → Ghosts S → KernelView S → ClientView M → Need → ClientView M → KernelView S → Type 0
HasServed device shared k old (needs.View i) new after = HasFetched device shared k old i new
HasServed device shared k old (needs.Blocks i first count) new after = HasFetchedBlocks device shared k old i first count new × HasThem device shared k old i first count new
HasServed device shared k old (needs.Inodes n) new after = HasBeenGranted shared k old 0 n new after
HasServed device shared k old (needs.Units n) new after = HasBeenGranted shared k old n 0 new after
HasServed device shared k old (needs.Pin i) new after = (new ≡ record old { pins = with_pin old.pins i }) × ((m : Machine) → IsKernelOf shared k m → IsKernelOf shared after (book_pin m (client_of old.pass) i))
HasServed device shared k old (needs.Unpin i) new after = (new ≡ record old { pins = without_pin old.pins i }) × ((m : Machine) → IsKernelOf shared k m → IsKernelOf shared after (unbook_pin m (client_of old.pass) i))
HasServed device shared k old (needs.Lease i mode) new after = ⊥
HasServed device shared k old needs.Room new after = ⊥

-- It was not: nothing has changed of it, but for blocks that had come.
abbrev pub HasNotServed : {M S : Type 0} → Ghosts M → Ghosts S → KernelView S → ClientView M → Need → ClientView M → Type 0
HasNotServed device shared k old (needs.Blocks i first count) new = HasFetchedBlocks device shared k old i first count new
HasNotServed device shared k old _ new = new ≡ old

-- What is left of the kernel: for copies its area was looked at; what is granted, pinned or no longer pinned changes its book alone, and what is refused nothing.
abbrev pub LeavesKernel : {S : Type 0} → Ghosts S → Need → KernelView S → KernelView S → Result (Unit {0}) Denied → Type 0
LeavesKernel device (needs.View i) k after result = HasLooked device k after result
LeavesKernel device (needs.Blocks i first count) k after result = HasLooked device k after result
LeavesKernel device _ k after result = (after.area ≡ k.area) × (after.opening ≡ k.opening) × OnErr result (after ≡ k)

-- why a need is not served
abbrev pub MayBeDenied : Need → Denied → Type 0
MayBeDenied (needs.View i) e = (e ≡ denied.KernelFailed) ⊎ (e ≡ denied.Device) ⊎ (e ≡ denied.Memory)
MayBeDenied (needs.Blocks i first count) e = (e ≡ denied.KernelFailed) ⊎ (e ≡ denied.Device) ⊎ (e ≡ denied.Memory)
MayBeDenied (needs.Inodes n) e = (e ≡ denied.Memory) ⊎ (e ≡ denied.KernelFailed) ⊎ (e ≡ denied.NoUnits) ⊎ (e ≡ denied.NoInode)
MayBeDenied (needs.Units n) e = (e ≡ denied.Memory) ⊎ (e ≡ denied.KernelFailed) ⊎ (e ≡ denied.NoUnits)
MayBeDenied (needs.Pin i) e = (e ≡ denied.KernelFailed) ⊎ (e ≡ denied.Memory)
MayBeDenied (needs.Unpin i) e = e ≡ denied.KernelFailed
MayBeDenied (needs.Lease i mode) e = ⊥
MayBeDenied needs.Room e = ⊥
