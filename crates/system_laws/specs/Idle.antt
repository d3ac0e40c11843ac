-- A system of which nobody uses anything.
use Rattle.std.specs.Prelude.{◌≡◌, ℕ, ◌≤◌, true, false, Some, None}
use Rattle.tier_device.specs.declared.media.Media.{Ghosts}
use Rattle.posix_calls.specs.Operations.{is_client}
use Rattle.event_steps.specs.file_graph.Units.{charge}
use Rattle.event_steps.specs.layout.declared.marks.Mark.{Mark}
use Rattle.event_steps.specs.layout.declared.marks.Marks.{Marks}
use Rattle.event_steps.specs.area_reader.Store.{disk, graph, marks}
use Rattle.event_steps.specs.call_effects.ClosedGraph.{nobody}
use Rattle.event_steps.specs.call_effects.Wholes.{IsSound}
use Rattle.event_steps.specs.lease_manager.Passes.{client_of, lease_of}
use Rattle.event_steps.specs.lease_manager.Words.{HasWord}
use Rattle.event_steps.specs.lease_manager.declared.view.LeaseMode.TheVariants.{Free}
use Rattle.event_steps.specs.kernel_fs.KernelView.{KernelView}
use Rattle.event_steps.specs.kernel_fs.MachineState.{IsKernelOf, StandBeforeRegions}
use Rattle.event_steps.specs.kernel_fs.Steps.{opened_machine}
use Rattle.event_steps.specs.update_log.View.{HasSize, RegionView}
use Rattle.event_steps.specs.client_log.Steps.{IsOpened}
use Rattle.event_steps.specs.world_invariant.Limits.{AreWithin}
use Rattle.event_steps.specs.libfs.NewClient.{IsBlank, IsNew}
use Rattle.event_steps.specs.libfs.declared.life.Life.TheVariants as lives
use Rattle.event_steps.specs.Refusals.{no_refusals}
use Rattle.event_steps.specs.View.{HasSeat, SeatView, SystemView}
use Rattle.recovery_laws.specs.Contents.{mark_by}

module _ {M : Type 0} (device : Ghosts M) where
  -- A kernel as it is opened over shared media with these marks, whose graph is sound where nobody has a file open, within the limits, and costs no more units than there are.
  pub record IsIdleKernel (k : KernelView M) (shared_marks : Marks) : Type 0 where
    pub going : k.area.failed ≡ false
    pub marks_are : marks (disk device k.area) ≡ Some shared_marks
    pub sound : IsSound (graph k.area.geometry (disk device k.area)) nobody
    pub within : AreWithin (graph k.area.geometry (disk device k.area))
    pub paid : charge (graph k.area.geometry (disk device k.area)) ≤ k.area.geometry.units
    -- as `Kernel::open` leaves it: nothing is granted, pinned or accepted
    pub opened : (digested : ℕ → ℕ) → StandBeforeRegions (disk device k.area) → IsKernelOf device k (opened_machine (graph k.area.geometry (disk device k.area)) k.area.geometry.units digested)

  -- A client's seat as it is opened at a mark before a region: all its regions are here and wiped, it has logged nothing, holds and knows nothing, and was granted nothing.
  pub record IsIdleSeat (m : Mark) (c : ℕ) (s : SeatView M) : Type 0 where
    pub before : m.done ≡ 0
    pub home : s.away ≡ None
    pub alive : s.life ≡ lives.Alive
    -- it was refused nothing yet
    pub unrefused : s.refused ≡ no_refusals
    pub number : client_of s.client.pass ≡ c
    pub free : (i : ℕ) → HasWord i → lease_of s.client.pass i ≡ Free
    -- as `Client::open` leaves it
    pub new : IsNew s.client.pass s.client.log s.client
    -- its log, as `ClientLog::open` leaves it at the mark's generation, over regions of their size
    pub blank : IsBlank device s.client.log
    pub regions : RegionView M × RegionView M
    pub opened : IsOpened device m.generation regions s.client.log
    pub even_size : HasSize (device.seen regions.0.media)
    pub odd_size : HasSize (device.seen regions.1.media)

  -- A system that nobody uses: its kernel and its eight clients are as they are opened, at these marks.
  pub record IsIdleSystem (v : SystemView M) (shared_marks : Marks) : Type 0 where
    pub kernel : IsIdleKernel v.kernel shared_marks
    pub seats : (c : ℕ) → is_client c ≡ true → HasSeat v c (IsIdleSeat (mark_by (Some shared_marks) c) c)
