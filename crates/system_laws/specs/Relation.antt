-- When a running system stands for a world over plain data.
use Rattle.std.specs.Prelude.{◌≡◌, ◌⊎◌, ℕ, ◌+◌, ◌<◌, Bool, true, false, List, [], length, Option, Some, None, if◌then◌else◌}
use Rattle.tier_device.specs.declared.media.Media.{Ghosts}
use Rattle.tier_device.specs.AfterStop.{Left}
use Rattle.posix_calls.specs.Operations.{is_client, reply_of}
use Rattle.posix_calls.specs.declared.call.Call.{Call}
use Rattle.posix_calls.specs.declared.limits.TheConstants.{MAX_CLIENTS}
use Rattle.event_steps.specs.file_graph.Graph.{Graph, is_among, set_node}
use Rattle.event_steps.specs.log_record.declared.format.Record.{Record}
use Rattle.event_steps.specs.layout.Places.{Sizes}
use Rattle.event_steps.specs.layout.declared.marks.Mark.{Mark}
use Rattle.event_steps.specs.layout.declared.marks.Marks.{Marks}
use Rattle.event_steps.specs.batch_journal.Volume.{IsVolume}
use Rattle.event_steps.specs.area_reader.Format.{IsOpenable}
use Rattle.event_steps.specs.area_reader.Store.{disk, graph, marks, store_of}
use Rattle.event_steps.specs.update_log.View.{HasSize}
use Rattle.event_steps.specs.client_log.HasTurn.{HasTurn}
use Rattle.event_steps.specs.client_log.Turns.{turn_of}
use Rattle.event_steps.specs.client_plan.CallPlan.{change_of, made_by}
use Rattle.event_steps.specs.lease_manager.PassLeases.{reads, writes}
use Rattle.event_steps.specs.digester.MarkMoves.{mark_after, mark_of, marks_after}
use Rattle.event_steps.specs.kernel_fs.Book.{IsBookOf}
use Rattle.event_steps.specs.kernel_fs.MachineState.{IsKernelOf}
use Rattle.event_steps.specs.libfs.ClientHoldings.{known_to}
use Rattle.event_steps.specs.libfs.declared.begun_record.Begun.{Begun}
use Rattle.event_steps.specs.libfs.declared.life.Life.{Life}
use Rattle.event_steps.specs.libfs.declared.life.Life.TheVariants as lives
use Rattle.event_steps.specs.world_invariant.Invariant.{IsCoherent}
use Rattle.event_steps.specs.world_invariant.KernelSteps.{CanDigest, CanReclaim, records_digested}
use Rattle.event_steps.specs.world_invariant.Logs.{is_written}
use Rattle.event_steps.specs.world_invariant.Machine.{Machine}
use Rattle.event_steps.specs.world_invariant.World.{Account, Client, Status, World}
use Rattle.event_steps.specs.world_invariant.World as world
use Rattle.event_steps.specs.libfs.SealedRegion.{SealedRegionView}
use Rattle.event_steps.specs.View.{HasSeat, SeatView, done_of}
use Rattle.event_lists.specs.Courses.{Content}
use Rattle.system_laws.specs.Parts.{region_of}
use Rattle.recovery_laws.specs.Contents.{mark_by}
use Rattle.system_laws.specs.WorldView.{WorldView, calls_of}

-- ---- a client

-- by how far its life has come, and whether a device of it has failed; once its call is settled a failure changes no more
abbrev pub status_of : Life → Bool → Status
status_of lives.Alive failed = if failed then world.Failed else world.Alive
status_of lives.Dead failed = if failed then world.Failed else world.Dead
status_of (lives.Settled found) failed = world.Settled
status_of (lives.Buried found) failed = world.Buried

-- The call whose record is begun, with its operation, and the number of a node that it makes.
pub record IsBegunBy (call : Option Call) (b : Begun) (x : world.Begun) : Type 0 where
  pub call_is : call ≡ Some x.call
  pub change : b.change.logged ≡ x.change
  pub reply : b.reply ≡ reply_of x.operation
  pub makes : b.change.made ≡ made_by x.new x.operation
  pub opens : b.change.descriptor ≡ change_of x.new x.operation

abbrev pub IsBegunAs : Option Call → Option Begun → Option world.Begun → Type 0
IsBegunAs call None p = (p ≡ None) × (call ≡ None)
IsBegunAs call (Some b) p = (x : world.Begun) × (p ≡ Some x) × IsBegunBy call b x

-- A seat's client, with its call that is not answered, is this client of the world.
pub record IsClientOf {M : Type 0} (device : Ghosts M) (s : SeatView M) (call : Option Call) (p : Client) : Type 0 where
  pub knows : p.knows ≡ known_to s.client
  pub turn : HasTurn (turn_of device s.client.log) p
  pub sealed : p.sealed ≡ s.client.sealed
  pub begun : IsBegunAs call s.client.begun p.begun
  pub reads_are : (i : ℕ) → p.reads i ≡ reads s.client.pass i
  pub writes_are : (i : ℕ) → p.writes i ≡ writes s.client.pass i
  pub spare : p.spare ≡ s.client.spare
  pub pins : (i : ℕ) → p.pins i ≡ is_among i s.client.pins
  pub status : p.status ≡ status_of s.life s.client.log.failed

-- ---- where its mark stands

-- the generation of its first records that are not digested
abbrev pub first_generation : {M : Type 0} → ℕ → Option (SealedRegionView M) → ℕ
first_generation g None = g
first_generation g (Some a) = a.generation

-- how many records of the region that is away the kernel has accepted: none, or all
abbrev pub accepted_of : {M : Type 0} → Option (SealedRegionView M) → List Record → ℕ
accepted_of None sealed = 0
accepted_of (Some a) sealed = if a.accepted then length sealed else 0

-- the inodes that it held for writing as it handed the region over
abbrev pub held_of : {M : Type 0} → Option (SealedRegionView M) → List ℕ
held_of None = []
held_of (Some a) = a.held

-- The media's mark of a client names the generation of its first records that are not digested, and how many of that are; the world's account and the accepted records count on from all that came back.
pub record StandsMarked {M : Type 0} (m : Mark) (s : SeatView M) (a : Account) (accepted : ℕ) (p : Client) : Type 0 where
  pub mark : m ≡ record { generation = first_generation s.client.log.generation s.away; done = done_of s.away }
  pub digested : a.mark ≡ p.past + done_of s.away
  pub accepts : accepted ≡ p.past + accepted_of s.away p.sealed
  -- what the records of the region touch was held for writing as it was handed over
  pub held : (i : ℕ) → is_written i p.sealed ≡ true → is_among i (held_of s.away) ≡ true

-- ---- what is left of the shared medium once a device of the kernel has failed

-- The shared medium opens, with this graph and these marks.
pub record SpellsShared (g : Sizes) (shared : Graph) (v : Marks) (content : Content) : Type 0 where
  pub volume : IsVolume g content
  pub opens : IsOpenable g (store_of content)
  pub graph_is : graph g (store_of content) ≡ shared
  pub marks_are : marks (store_of content) ≡ Some v

-- what the kernel was doing to the shared medium as its device failed
pub data Cut : Type 0 where
  Nothing : Cut
  Digest : (client : ℕ) → (first rest : List Record) → Cut
  Reclaim : (inode : ℕ) → Cut

-- the marks once n more records of a client's sealed region are digested
abbrev pub marks_digested : Marks → ℕ → ℕ → List Record → Marks
marks_digested v c n sealed = marks_after v c (mark_after (mark_of v c).generation ((mark_of v c).done + n) (length sealed))

-- It may still be done, and a content has it done.
abbrev pub SpellsAfter : Sizes → World → Marks → Cut → Content → Type 0
SpellsAfter g w v Nothing content = ⊥
SpellsAfter g w v (Digest c first rest) content = CanDigest w c first rest × SpellsShared g (records_digested w c first).kernel.shared (marks_digested v c (length first) (w.clients c).sealed) content
SpellsAfter g w v (Reclaim i) content = CanReclaim w.kernel i × SpellsShared g (set_node w.kernel.shared i None) v content

-- ---- the whole

abbrev pub machine_of : World → (ℕ → ℕ) → Machine
machine_of w accepted = record { kernel = w.kernel; accepted = accepted }

-- The system stands for the world, of which the accepted records are counted, with these marks on the shared medium, and this cut once a device of the kernel has failed. What a stop leaves of the parts beside that is a fact of the system itself (`System::left_now`).
pub record IsWorldOf {M : Type 0} (device : Ghosts M) (v : WorldView M) (w : World) (accepted : ℕ → ℕ) (shared_marks : Marks) (cut : Cut) : Type 0 where
  pub coherent : IsCoherent w
  pub eight : length v.calls ≡ MAX_CLIENTS
  -- the kernel: by its book always; by what it reads until a device has failed, and by what is left then
  pub book : IsBookOf v.system.kernel.book (machine_of w accepted)
  pub capacity : w.kernel.capacity ≡ v.system.kernel.area.geometry.units
  pub going : v.system.kernel.area.failed ≡ false → IsKernelOf device v.system.kernel (machine_of w accepted) × (marks (disk device v.system.kernel.area) ≡ Some shared_marks)
  pub stopped : v.system.kernel.area.failed ≡ true → (content : Content) → Left (device.left v.system.kernel.area.media) (device.moment v.system.kernel.area.media) content
      → SpellsShared v.system.kernel.area.geometry w.kernel.shared shared_marks content ⊎ SpellsAfter v.system.kernel.area.geometry w shared_marks cut content
  -- the clients
  pub sizes : (c r : ℕ) → is_client c ≡ true → r < 2 → HasSeat v.system c (λ s. HasSize (device.seen (region_of s r).media))
  pub clients : (c : ℕ) → is_client c ≡ true → HasSeat v.system c (λ s. IsClientOf device s (calls_of v c) (w.clients c))
  pub marked : (c : ℕ) → is_client c ≡ true → HasSeat v.system c (λ s. StandsMarked (mark_by (Some shared_marks) c) s (w.kernel.accounts c) (accepted c) (w.clients c))

-- What holds of a system and its calls between two events: it stands for some world.
pub record IsWorld {M : Type 0} (device : Ghosts M) (v : WorldView M) : Type 0 where
  pub world : World
  pub accepted : ℕ → ℕ
  pub shared_marks : Marks
  pub cut : Cut
  pub is : IsWorldOf device v world accepted shared_marks cut
