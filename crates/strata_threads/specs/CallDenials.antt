-- Why a call is denied before all its turns are waited: what it needs is not to be had.
use Rattle.std.specs.Prelude.{◌≡◌, ◌⊎◌, ◌<◌, ◌+◌, Bool, true, false, Result, Ok, Err}
use Rattle.tier_device.specs.declared.media.Media.{Ghosts}
use Rattle.posix_calls.specs.declared.call.Call.{Call}
use Rattle.posix_calls.specs.declared.call.Reply.{Reply}
use Rattle.libfs.specs.client_log.Steps.{CanBeSealed}
use Rattle.libfs.specs.client_plan.declared.need.Need.{Need}
use Rattle.libfs.specs.client_plan.declared.need.Need.TheVariants as needs
use Rattle.libfs.specs.client_plan.declared.outcome.Outcome.TheVariants as outcomes
use Rattle.libfs.specs.kernel_fs.Book.{is_free, out_of}
use Rattle.libfs.specs.kernel_fs.Free.{count_of}
use Rattle.libfs.specs.kernel_fs.KernelView.{KernelView}
use Rattle.libfs.specs.kernel_fs.Nodes.{nodes_in}
use Rattle.libfs.specs.file_graph.Units.{charge}
use Rattle.libfs.specs.ClientHoldings.{outcome_for}
use Rattle.libfs.specs.NeedService.{HasNotServed, IsServable, LeavesKernel, MayBeDenied, inodes_needed, shared_by, units_needed}
use Rattle.libfs.specs.View.{ClientView}
use Rattle.libfs.specs.declared.denial.Denied.{Denied}
use Rattle.libfs.specs.declared.denial.Denied.TheVariants as denied
use Rattle.strata_threads.specs.ClientCalls.{IsAnswered}
use Rattle.strata_threads.specs.WaitedTurns.{IsTurnFor, WaitedView}

-- whether it is for the kernel to serve: all but a lease and room in the region
abbrev pub is_for_kernel : Need → Bool
is_for_kernel (needs.Lease i mode) = false
is_for_kernel needs.Room = false
is_for_kernel _ = true

module _ {M : Type 0} (device : Ghosts M) where
  -- A call needs this first; no device of the client has failed.
  abbrev pub NeedsFirst : ClientView M → Call → Need → Type 0
  NeedsFirst v call need = (v.log.failed ≡ false) × (outcome_for device v call ≡ outcomes.Need need)

  -- A call that was started came to a need, and a turn was waited for that; or none was waited.
  abbrev pub HasTakenTurn : Call → WaitedView → WaitedView → Type 0
  HasTakenTurn call old new = (new.turns ≡ old.turns) × ((new ≡ old) ⊎ ((v : ClientView M) × (need : Need) × NeedsFirst v call need × IsTurnFor need old new))

  -- There was no memory to seal the region, in which the call needs room.
  abbrev pub LacksMemoryToSeal : ClientView M → Need → Denied → ClientView M → Type 0
  LacksMemoryToSeal v need why new = (need ≡ needs.Room) × (why ≡ denied.Memory) × CanBeSealed device v.log × (new ≡ v)

  -- No kernel can serve it by its numbers.
  abbrev pub IsBeyondKernels : ClientView M → Need → Denied → ClientView M → Type 0
  IsBeyondKernels v need why new = (is_for_kernel need ≡ true) × (IsServable v need → ⊥) × (why ≡ denied.NoUnits) × (new ≡ v)

  -- The kernel, as it stood under its lock, did not serve it: for a reason for which it may refuse such a need, and by its own state where that reason is one of its own.
  pub record IsRefused (v : ClientView M) (need : Need) (why : Denied) (new : ClientView M) : Type 0 where
    pub kernel : KernelView M
    pub after : KernelView M
    pub unserved : HasNotServed device device kernel v need new
    pub may : MayBeDenied need why
    pub leaves : LeavesKernel device need kernel after (Err why)
    pub failed : why ≡ denied.KernelFailed → kernel.area.failed ≡ true
    pub no_units : why ≡ denied.NoUnits → kernel.area.geometry.units < charge (shared_by device kernel) + out_of kernel.book + units_needed need
    pub no_inode : why ≡ denied.NoInode → count_of (is_free kernel.book (nodes_in (shared_by device kernel))) < inodes_needed need

  -- What it needs was not to be had.
  abbrev pub IsUnmet : ClientView M → Need → Denied → ClientView M → Type 0
  IsUnmet v need why new = LacksMemoryToSeal v need why new ⊎ (IsBeyondKernels v need why new ⊎ IsRefused v need why new)

  -- A call that was started came to a need that was not to be had.
  abbrev pub HasUnmetNeed : Call → Denied → ClientView M → Type 0
  HasUnmetNeed call why new = (v : ClientView M) × (need : Need) × NeedsFirst v call need × IsUnmet v need why new

  -- A call is answered, or it is denied for what it needs, or for its turns.
  abbrev pub IsAnsweredOrDenied : Call → Result Reply Denied → ClientView M → Type 0
  IsAnsweredOrDenied call (Ok reply) new = IsAnswered device call reply new
  IsAnsweredOrDenied call (Err why) new = (why ≡ denied.Turns) ⊎ HasUnmetNeed call why new
