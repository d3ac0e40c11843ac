-- The world that a recovery makes of parts.
use Rattle.std.specs.Prelude.{◌≡◌, ℕ}
use Rattle.tier_device.specs.declared.media.Media.{Ghosts}
use Rattle.interleavings.specs.event_steps.View.{SystemView}
use Rattle.interleavings.specs.layout.declared.marks.Marks.{Marks}
use Rattle.interleavings.specs.system_laws.Idle.{IsIdleSystem}
use Rattle.interleavings.specs.system_laws.KeptCalls.{no_calls}
use Rattle.interleavings.specs.system_laws.Parts.{medium_of}
use Rattle.interleavings.specs.system_laws.WorldTree.{world_tree}
use Rattle.interleavings.specs.system_laws.WorldView.{WorldView}
use Rattle.area_recovery.specs.recovery_laws.Contents.{stored_state}
use Rattle.area_recovery.specs.Parts.{AreAtRest, contents_of}
use Rattle.area_recovery.specs.RecoveryStops.{StaysStored, StoresTree}

module _ {M : Type 0} (device : Ghosts M) where
  -- nobody uses the system: its kernel and its eight clients are as they are opened, at some marks
  abbrev pub IsIdle : SystemView M → Type 0
  IsIdle system = (v : Marks) × IsIdleSystem device system v

  -- The world of what the parts store, settled: nobody uses it, nothing is pending on its parts, and a stop on the way lost nothing.
  pub record IsRecoveredWorld (old : ℕ → M) (w : WorldView M) : Type 0 where
    pub tree : world_tree device w ≡ stored_state w.system.kernel.area.geometry (contents_of device old)
    pub stores : StoresTree w.system.kernel.area.geometry (contents_of device old)
    pub calls : w.calls ≡ no_calls
    pub idle : IsIdle w.system
    pub rest : AreAtRest device (medium_of w.system)
    pub stop : StaysStored device old (medium_of w.system)
