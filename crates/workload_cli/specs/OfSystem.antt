-- What a system in memory answers of its shared area.
use Rattle.std.specs.Prelude.{◌≡◌, ℕ, Option, Some, None, if◌then◌else◌}
use Rattle.tier_device.specs.declared.media.Media.{Ghosts}
use Rattle.tier_device.specs.declared.media.Tier.{Tier}
use Rattle.posix_calls.specs.Tree.{Tree}
use Rattle.call_driver.specs.call_effects.Wholes.{tree_of}
use Rattle.script.specs.file_graph.Units.{charge}
use Rattle.call_driver.specs.batch_journal.Course.{Unmoved}
use Rattle.call_driver.specs.shared_area.Parts.{IsTierOf}
use Rattle.call_driver.specs.area_reader.Store.{graph, disk}
use Rattle.call_driver.specs.kernel_fs.Book.{out_of}
use Rattle.call_driver.specs.kernel_fs.KernelView.{KernelView}
use Rattle.call_driver.specs.kernel_fs.declared.kernel.Figures.{Figures}
use Rattle.call_driver.specs.kernel_fs.declared.error.KernelError.{KernelError}
use Rattle.call_driver.specs.kernel_fs.declared.error.KernelError.TheVariants as why
use Rattle.call_driver.specs.area_reader.declared.error.AreaError.{AreaError}
use Rattle.call_driver.specs.area_reader.declared.error.AreaError.TheVariants as errors
use Rattle.call_driver.specs.event_steps.View.{SystemView}
use Rattle.call_driver.specs.event_steps.declared.outcome.Refusal.TheVariants as refusals
use Rattle.workload_cli.specs.declared.answer.Answer.{Answer}
use Rattle.workload_cli.specs.declared.answer.Answer.TheVariants as answers

-- the file tree that the shared media of a kernel spell
abbrev pub tree_in : {M : Type 0} → Ghosts M → KernelView M → Tree
tree_in device k = tree_of (graph k.area.geometry (disk device k.area))

-- the tier that has a logical block of an inode there, if one does
abbrev pub LiesIn : {M : Type 0} → Ghosts M → KernelView M → ℕ → ℕ → Option Tier → Type 0
LiesIn device k i block tier = IsTierOf k.area.geometry (disk device k.area) i block tier

-- how the units stand; none where a device has failed
abbrev pub figures_of : {M : Type 0} → Ghosts M → KernelView M → Option Figures
figures_of device k = if k.area.failed then None else Some (record { charge = charge (graph k.area.geometry (disk device k.area)); out = out_of k.book; capacity = k.area.geometry.units })

-- The shared media were only read: they have what they had, and a stop leaves of them what it did. A device may have failed.
pub record HasLooked {M : Type 0} (device : Ghosts M) (old new : SystemView M) : Type 0 where
  pub seats : new.seats ≡ old.seats
  pub book : new.kernel.book ≡ old.kernel.book
  pub geometry : new.kernel.area.geometry ≡ old.kernel.area.geometry
  pub opening : new.kernel.opening ≡ old.kernel.opening
  pub unmoved : Unmoved (device.moment old.kernel.area.media) (device.moment new.kernel.area.media) (device.seen old.kernel.area.media) (device.seen new.kernel.area.media) (device.left old.kernel.area.media) (device.left new.kernel.area.media)

-- The answer that the shared media could not be read, which is never for damage.
abbrev pub IsUnreadAnswer : KernelError AreaError → Answer → Type 0
IsUnreadAnswer why.Failed answer = answer ≡ answers.Refused refusals.KernelFailed
IsUnreadAnswer (why.Refused errors.DeviceFault) answer = answer ≡ answers.Refused refusals.DeviceFault
IsUnreadAnswer (why.Refused errors.Memory) answer = answer ≡ answers.Refused refusals.Memory
IsUnreadAnswer (why.Refused (errors.Damaged what block)) answer = ⊥
IsUnreadAnswer (why.Refused errors.NoBlock) answer = ⊥
IsUnreadAnswer (why.Refused errors.NotMapped) answer = ⊥
