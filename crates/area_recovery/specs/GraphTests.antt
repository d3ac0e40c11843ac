-- What a graph that has been tested is, and what it is without its files that have no name.
use Rattle.std.specs.Prelude.{◌≡◌, ℕ, ◌&&◌, List, None, if◌then◌else◌}
use Rattle.recovery_laws.specs.layout.declared.error.What.{What}
use Rattle.recovery_laws.specs.layout.declared.error.What.TheVariants.{Slot}
use Rattle.recovery_laws.specs.layout.Places.{slot_block}
use Rattle.graph_check.specs.file_graph.Graph.{Graph, is_among}
use Rattle.graph_check.specs.declared.defect.Defect.{Defect}
use Rattle.graph_check.specs.Defects.{HasDefect}
use Rattle.graph_check.specs.declared.defect.GraphError.{GraphError}
use Rattle.graph_check.specs.declared.defect.GraphError.TheVariants as why
use Rattle.graph_check.specs.Nameless.{is_nameless}
use Rattle.recovery_laws.specs.area_reader.declared.error.AreaError.{AreaError}
use Rattle.recovery_laws.specs.shared_area.Parts.{IsNoDamage}
use Rattle.area_recovery.specs.declared.error.RecoveryError.{RecoveryError}
use Rattle.area_recovery.specs.declared.error.RecoveryError.TheVariants as errors
use Rattle.area_recovery.specs.Errors.{IsAreaFault}

-- The damage is named by the slot of an inode that has a defect.
pub record IsGraphDamage (g : Graph) (structure : What) (block : ℕ) : Type 0 where
  pub is_slot : structure ≡ Slot
  pub inode : ℕ
  pub defect : Defect
  pub has : HasDefect g inode defect
  pub at : block ≡ slot_block inode

-- the graph without those of these files that have no name
abbrev pub without_nameless : List ℕ → Graph → Graph
without_nameless inodes g i = if is_among i inodes && is_nameless (g i) then None else g i

-- If the nodes were not read, that is for no damage.
abbrev pub FindsNoDamage : GraphError AreaError → Type 0
FindsNoDamage why.Memory = Unit {0}
FindsNoDamage (why.Nodes e) = IsNoDamage e
FindsNoDamage (why.Unsound inode defect) = Unit {0}

-- why the graph was not found sound
abbrev pub IsGraphFault : GraphError AreaError → RecoveryError → Type 0
IsGraphFault why.Memory f = f ≡ errors.Memory
IsGraphFault (why.Nodes e) f = IsAreaFault e f
IsGraphFault (why.Unsound inode defect) f = f ≡ errors.Damaged Slot (slot_block inode)
