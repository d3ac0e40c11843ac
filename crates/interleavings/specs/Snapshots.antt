-- What a world's tree is read from, and what reading leaves of the world.
use Rattle.std.specs.Prelude.{◌≡◌, ◌≤◌, ℕ, true, false, List, [], ◌∷◌, ◌++◌, drop, Option, Some, None, nat_le, ◌&&◌, if◌then◌else◌}
use Rattle.tier_device.specs.declared.media.Media.{Ghosts}
use Rattle.tier_device.specs.Media.{Rose}
use Rattle.system_laws.specs.batch_journal.Course.{Unmoved}
use Rattle.system_laws.specs.area_reader.Store.{disk, graph}
use Rattle.system_laws.specs.area_reader.declared.error.AreaError.{AreaError}
use Rattle.system_laws.specs.area_reader.declared.error.AreaError.TheVariants as errors
use Rattle.system_laws.specs.shared_area.Parts.{IsNoDamage}
use Rattle.system_laws.specs.call_effects.NodeView.{DirView, FileView, NodeView}
use Rattle.system_laws.specs.kernel_fs.KernelAnswers.{OnRefusal}
use Rattle.system_laws.specs.kernel_fs.declared.error.KernelError.{KernelError}
use Rattle.system_laws.specs.kernel_fs.declared.error.KernelError.TheVariants as why
use Rattle.system_laws.specs.file_graph.Graph.{Graph}
use Rattle.system_laws.specs.file_graph.declared.effect.Kind.{Kind}
use Rattle.system_laws.specs.file_graph.declared.effect.Effect.{Effect}
use Rattle.system_laws.specs.file_graph.declared.effect.Effect.TheVariants as effect
use Rattle.system_laws.specs.log_record.declared.format.Record.{Record}
use Rattle.system_laws.specs.client_log.View.{current_records}
use Rattle.system_laws.specs.event_steps.View.{SeatView, SystemView, done_of, seat_of}
use Rattle.system_laws.specs.WorldView.{WorldView}

-- a graph with the nodes of another at the inodes from 1 to n
abbrev pub with_nodes : Graph → Graph → ℕ → Graph
with_nodes g other n i = if nat_le 1 i && nat_le i n then other i else g i

-- the names of what stands at an inode, by its view
abbrev pub names_in : NodeView → ℕ
names_in (FileView names size) = names
names_in (DirView names entries) = names

-- the effects that enter these entries into a directory, the last one first
abbrev pub entries_put : ℕ → List (List ℕ × (ℕ × Kind)) → List Effect
entries_put d [] = []
entries_put d (e ∷ es) = entries_put d es ++ effect.Enter d e.1.0 e.1.1 e.0 ∷ []

module _ {M : Type 0} (device : Ghosts M) where
  -- the graph on the shared medium
  abbrev pub shared_graph : WorldView M → Graph
  shared_graph v = graph v.system.kernel.area.geometry (disk device v.system.kernel.area)

  -- the records that a client keeps in memory and that are not digested
  abbrev pub kept_records : SeatView M → List Record
  kept_records s = drop (done_of s.away) s.client.sealed ++ current_records device s.client.log

  abbrev pub kept_by : Option (SeatView M) → List Record
  kept_by None = []
  kept_by (Some s) = kept_records s

  abbrev pub kept_log : SystemView M → ℕ → List Record
  kept_log w c = kept_by (seat_of w c)

  -- The shared medium was read, and nothing else has changed: what a stop leaves of it is what it left.
  pub record IsRead (old new : WorldView M) : Type 0 where
    pub unmoved : Unmoved (device.moment old.system.kernel.area.media) (device.moment new.system.kernel.area.media) (device.seen old.system.kernel.area.media) (device.seen new.system.kernel.area.media) (device.left old.system.kernel.area.media) (device.left new.system.kernel.area.media)
    pub geometry : new.system.kernel.area.geometry ≡ old.system.kernel.area.geometry
    pub book : new.system.kernel.book ≡ old.system.kernel.book
    pub opening : new.system.kernel.opening ≡ old.system.kernel.opening
    pub seats : new.system.seats ≡ old.system.seats
    pub calls : new.calls ≡ old.calls
    pub more_faults : device.faults old.system.kernel.area.media ≤ device.faults new.system.kernel.area.media

  -- No device of the kernel had failed before a reading, and none has failed in it.
  pub record IsQuiet (old new : WorldView M) : Type 0 where
    pub before : old.system.kernel.area.failed ≡ false
    pub behind : new.system.kernel.area.failed ≡ false
    pub faults : device.faults new.system.kernel.area.media ≡ device.faults old.system.kernel.area.media

  -- A reading is refused for a device of the kernel that has failed before, or fails now, or for want of memory: then none fails.
  pub record IsRefusedReading (old new : WorldView M) (e : KernelError AreaError) : Type 0 where
    pub only : OnRefusal e IsNoDamage
    pub failed : e ≡ why.Failed → old.system.kernel.area.failed ≡ true
    pub fault : e ≡ why.Refused errors.DeviceFault → (new.system.kernel.area.failed ≡ true) × Rose (device.faults old.system.kernel.area.media) (device.faults new.system.kernel.area.media)
    pub memory : e ≡ why.Refused errors.Memory → IsQuiet old new
