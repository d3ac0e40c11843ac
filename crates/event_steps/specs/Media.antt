-- What an event makes of the shared media that is of no client.
use Rattle.std.specs.Prelude.{◌≡◌, ◌≤◌, ◌+◌, ℕ, [], ◌∷◌, true, false, Result, Ok, Err, OnOk, IfErr, IsErrOf}
use Rattle.tier_device.specs.declared.media.Media.{Ghosts}
use Rattle.tier_device.specs.declared.media.Tier.{Tier}
use Rattle.libfs.specs.file_graph.declared.effect.Effect.TheVariants as effect
use Rattle.libfs.specs.graph_change.Change.{coalesced_changes}
use Rattle.libfs.specs.shared_area.ChangeApply.{MakesFewCalls}
use Rattle.libfs.specs.relocation.MovableFile.{HasFileRun}
use Rattle.libfs.specs.area_reader.Refusals.{IsMoveRefusal}
use Rattle.libfs.specs.batch_journal.Course.{Unmoved}
use Rattle.libfs.specs.shared_area.TierMoves.{HasTooFew, HasEnough, StaysOpen, MovesOrStays}
use Rattle.libfs.specs.area_reader.declared.error.AreaError.{AreaError}
use Rattle.libfs.specs.area_reader.declared.error.AreaError.TheVariants as moves
use Rattle.libfs.specs.relocation.TierMove.{CanMove, IsMoved}
use Rattle.libfs.specs.area_reader.Store.{disk, graph}
use Rattle.libfs.specs.kernel_fs.Book.{is_pinned}
use Rattle.libfs.specs.world_invariant.KernelSteps.{CanReclaim}
use Rattle.libfs.specs.world_invariant.Logs.{IsNameless}
use Rattle.libfs.specs.world_invariant.Machine.{Machine, reclaim as reclaimed}
use Rattle.libfs.specs.kernel_fs.KernelAnswers.{Answers, OnRefusal}
use Rattle.libfs.specs.kernel_fs.KernelView.{KernelView}
use Rattle.libfs.specs.kernel_fs.Reclaim.{IsReclaimed, IsUnused, ReclaimsOrStays, StaysOrReclaims}
use Rattle.libfs.specs.kernel_fs.MachineState.{IsKernelOf}
use Rattle.libfs.specs.kernel_fs.declared.error.KernelError.{KernelError}
use Rattle.libfs.specs.kernel_fs.declared.error.KernelError.TheVariants as kernel
use Rattle.libfs.specs.kernel_fs.declared.error.ReclaimError.{ReclaimError}
use Rattle.libfs.specs.kernel_fs.declared.error.ReclaimError.TheVariants as reclaims
use Rattle.event_steps.specs.declared.outcome.Outcome.{Outcome}
use Rattle.event_steps.specs.declared.outcome.Outcome.TheVariants as outcomes
use Rattle.event_steps.specs.declared.outcome.Refusal.TheVariants as refusals

abbrev pub reclaim_outcome : Result (Unit {0}) (KernelError ReclaimError) → Outcome
reclaim_outcome (Ok x) = outcomes.Stepped
reclaim_outcome (Err kernel.Failed) = outcomes.Refused refusals.KernelFailed
reclaim_outcome (Err (kernel.Refused reclaims.DeviceFault)) = outcomes.Refused refusals.DeviceFault
reclaim_outcome (Err (kernel.Refused reclaims.InUse)) = outcomes.Refused refusals.InUse
reclaim_outcome (Err (kernel.Refused reclaims.Memory)) = outcomes.Refused refusals.Memory

-- A file without a name and a pin was dropped, or there was none.
pub record IsReclaimedIn {M : Type 0} (device : Ghosts M) (k : KernelView M) (i : ℕ) (o : Outcome) (after : KernelView M) : Type 0 where
  pub answer : Result (Unit {0}) (KernelError ReclaimError)
  pub told : o ≡ reclaim_outcome answer
  pub any_moment : k.area.failed ≡ false → StaysOrReclaims k.area.geometry (disk device k.area) i (device.moment k.area.media) (device.moment after.area.media) (device.left k.area.media) (device.left after.area.media)
  pub unused : OnOk answer (IsUnused (graph k.area.geometry (disk device k.area)) k.book i)
  pub dropped : OnOk answer (IsReclaimed k.area.geometry (disk device k.area) i (disk device after.area))
  pub can : OnOk answer ((m : Machine) → IsKernelOf device k m → CanReclaim m.kernel i)
  pub step : OnOk answer ((m : Machine) → IsKernelOf device k m → IsKernelOf device after (reclaimed m i))
  pub in_use : IsErrOf answer (kernel.Refused reclaims.InUse) → IsUnused (graph k.area.geometry (disk device k.area)) k.book i → ⊥
  -- what is no such file is not touched, whatever fails
  pub untouched : (IsUnused (graph k.area.geometry (disk device k.area)) k.book i → ⊥) → Unmoved (device.moment k.area.media) (device.moment after.area.media) (device.seen k.area.media) (device.seen after.area.media) (device.left k.area.media) (device.left after.area.media)
  -- a pin is reported before any device is asked
  pub pinned : k.area.failed ≡ false → is_pinned k.book i ≡ true → IsErrOf answer (kernel.Refused reclaims.InUse) × (after ≡ k)
  pub memory : IsErrOf answer (kernel.Refused reclaims.Memory) → IsNameless (graph k.area.geometry (disk device k.area) i)
  pub book : after.book ≡ k.book
  pub opening : after.opening ≡ k.opening
  pub answers : Answers k.area.failed k after answer (ReclaimsOrStays device k.area after.area)
  pub at_most : MakesFewCalls k.area.geometry (disk device k.area) (coalesced_changes (effect.Drop i ∷ [])) (device.moment k.area.media) (device.moment after.area.media) (device.left k.area.media) (device.left after.area.media)

abbrev pub move_outcome : Result (Unit {0}) (KernelError AreaError) → Outcome
move_outcome (Ok x) = outcomes.Stepped
move_outcome (Err kernel.Failed) = outcomes.Refused refusals.KernelFailed
move_outcome (Err (kernel.Refused moves.DeviceFault)) = outcomes.Refused refusals.DeviceFault
move_outcome (Err (kernel.Refused (moves.Damaged what block))) = outcomes.Refused refusals.DeviceFault
move_outcome (Err (kernel.Refused moves.NotMapped)) = outcomes.Refused refusals.NotMapped
move_outcome (Err (kernel.Refused moves.NoBlock)) = outcomes.Refused refusals.NoBlock
move_outcome (Err (kernel.Refused moves.Memory)) = outcomes.Refused refusals.Memory

-- A run of a file's blocks went down to a slower tier, or could not; graph and marks stay.
pub record IsMovedIn {M : Type 0} (device : Ghosts M) (k : KernelView M) (i first count : ℕ) (to : Tier) (o : Outcome) (after : KernelView M) : Type 0 where
  pub answer : Result (Unit {0}) (KernelError AreaError)
  pub told : o ≡ move_outcome answer
  pub any_moment : k.area.failed ≡ false → StaysOpen k.area.geometry (disk device k.area) i first count to (device.moment k.area.media) (device.moment after.area.media) (device.left k.area.media) (device.left after.area.media)
  pub moved : OnOk answer (IsMoved k.area.geometry (disk device k.area) (disk device after.area) i first count to)
  pub step : OnOk answer ((m : Machine) → IsKernelOf device k m → IsKernelOf device after m)
  pub not_mapped : IsErrOf answer (kernel.Refused moves.NotMapped) → CanMove k.area.geometry (disk device k.area) i first count to → ⊥
  pub no_block : IsErrOf answer (kernel.Refused moves.NoBlock) → CanMove k.area.geometry (disk device k.area) i first count to × HasTooFew k.area.geometry (disk device k.area) to count
  pub can : OnOk answer (CanMove k.area.geometry (disk device k.area) i first count to × HasEnough k.area.geometry (disk device k.area) to count)
  pub memory : IsErrOf answer (kernel.Refused moves.Memory) → HasFileRun k.area.geometry (disk device k.area) i first count
  pub only : IfErr answer (λ e. OnRefusal e IsMoveRefusal)
  pub book : after.book ≡ k.book
  pub opening : after.opening ≡ k.opening
  pub answers : Answers k.area.failed k after answer (MovesOrStays device k.area after.area)
  pub at_most : device.moment after.area.media ≤ device.moment k.area.media + count + 12
