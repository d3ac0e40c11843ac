-- Where a kernel stands: at the end of a run of its machine, from the opening on.
use Rattle.std.specs.Prelude.{ℕ, List}
use Rattle.tier_device.specs.declared.media.Media.{Ghosts}
use Rattle.migrator.specs.layout.Places.{Sizes}
use Rattle.migrator.specs.area_reader.Store.{Store, disk, graph}
use Rattle.kernel_fs.specs.Run.{Entry, RunState, IsRun}
use Rattle.kernel_fs.specs.Steps.{opened_machine}
use Rattle.kernel_fs.specs.KernelView.{KernelView}
use Rattle.kernel_fs.specs.MachineState.{HasGenerations, IsKernelOf, StandBeforeRegions, generation_in}

-- where a run begins that is opened over a store: with the machine that was just opened over its graph, where so many records of each client were ever digested, and the generations that its marks name
abbrev pub opened_run : Sizes → Store → (ℕ → ℕ) → RunState
opened_run g s marks = record { machine = opened_machine (graph g s) g.units marks; generations = generation_in s }

-- These entries lead from the opening over the media, where so many records of each client were ever digested, to a state whose machine the kernel stands for, and whose generations the marks of its media
-- name. The last entry stands first.
pub record EndsHistory {M : Type 0} (device : Ghosts M) (k : KernelView M) (marks : ℕ → ℕ) : Type 0 where
  pub entries : List Entry
  pub last : RunState
  pub run : IsRun (opened_run k.opening.geometry (disk device k.opening) marks) entries last
  pub is : IsKernelOf device k last.machine
  pub named : HasGenerations (disk device k.area) last.generations

-- Some run from the opening ends here, however many records were digested before it.
abbrev pub HasRun : {M : Type 0} → Ghosts M → KernelView M → Type 0
HasRun device k = (marks : ℕ → ℕ) → ∥ EndsHistory device k marks ∥₁

-- One does where each mark stood before a region when the media were opened.
abbrev pub EndsRun : {M : Type 0} → Ghosts M → KernelView M → Type 0
EndsRun device k = StandBeforeRegions (disk device k.opening) → HasRun device k
