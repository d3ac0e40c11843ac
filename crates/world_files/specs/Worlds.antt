-- What is known of a world that was made, or recovered.
use Rattle.std.specs.Prelude.{◌≡◌, ℕ}
use Rattle.tier_device.specs.declared.media.Media.{Ghosts}
use Rattle.recovery.specs.area_recovery.Parts.{AreAtRest, contents_of}
use Rattle.recovery.specs.area_recovery.RecoveryStops.{AreGivenBack}
use Rattle.recovery.specs.area_recovery.Refusals.{IsCause}
use Rattle.recovery.specs.area_recovery.declared.error.RecoveryError.{RecoveryError}
use Rattle.recovery.specs.layout.Places.{Sizes}
use Rattle.recovery.specs.system_laws.KeptCalls.{no_calls}
use Rattle.recovery.specs.system_laws.Parts.{medium_of}
use Rattle.recovery.specs.system_laws.WorldTree.{world_tree}
use Rattle.recovery.specs.system_laws.WorldView.{WorldView}
use Rattle.posix_calls.specs.EmptyTree.{empty_state}

-- The world with the empty tree, of this geometry, with nothing pending on its media.
pub record IsEmptyWorld {M : Type 0} (device : Ghosts M) (g : Sizes) (w : WorldView M) : Type 0 where
  pub tree : world_tree device w ≡ empty_state
  pub geometry : w.system.kernel.area.geometry ≡ g
  pub calls : w.calls ≡ no_calls
  pub rest : AreAtRest device (medium_of w.system)

-- No world is recovered of media: the refusal names its cause, what a stop leaves meanwhile is recovered as they are, and they are given back so.
pub record IsUnrecovered {M : Type 0} (device : Ghosts M) (old : ℕ → M) (e : RecoveryError) : Type 0 where
  pub cause : IsCause (contents_of device old) e
  pub media : ℕ → M
  pub back : AreGivenBack device old media e
