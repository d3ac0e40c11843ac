-- What the image of a script's world has.
use Rattle.std.proofs.Common.{◌≡◌, List, ℕ, subst}
use Rattle.std.specs.Io.KnownBytes.{IsAtEnd}
use Rattle.std.specs.Prelude.{Option, Result, Ok, Err, IfOk, OnOk}
use Rattle.tier_device.specs.declared.fill.Fill.{Fill}
use Rattle.tier_device.specs.declared.media.Media.{Ghosts}
use Rattle.world_files.specs.Images.{parts_image}
use Rattle.world_files.specs.declared.image_file.ImageFile.{ImageFile}
use Rattle.world_files.specs.declared.sizes.WorldSizes.{WorldSizes}
use Rattle.world_files.specs.area_recovery.Parts.{PartsView}
use Rattle.workload_cli.specs.declared.script_world.ScriptWorld.{ScriptWorld}
use Rattle.workload_cli.specs.declared.session.Session.{Ghosts as Answers}
use Rattle.workload_cli.specs.FreshWorlds.{IsFileWorld, IsImageOf}
use Rattle.workload_cli.specs.ImageRuns.{IsImageRun, IsKeptBehind, KeepsImageOf}
use Rattle.workload_cli.specs.Script.{IsAnsweredTo}
use Rattle.workload_cli.specs.Stops.{AreRestIn, fills_behind, media_of}

pub image_of_rested : {M X E : Type 0} (device : Ghosts M) (holds : Fill → M → M → Type 0) (s : ScriptWorld M) (items : X → List ℕ) (r : Result X E) (parts : PartsView M) → AreRestIn device holds (fills_behind s) (media_of s) parts → IfOk r (λ x. items x ≡ parts_image device parts) → IfOk r (λ x. IsImageOf device holds s (items x))
image_of_rested device holds s items (Ok x) parts rest is = record { rested = parts; rest = rest; image = is }
image_of_rested device holds s items (Err e) parts rest is = tt

module _ {M E : Type 0} (device : Ghosts M) (holds : Fill → M → M → Type 0) (keeps : List ℕ → Type 0) where
  -- what is given to be kept is an image
  pub keeps_image : (s : ScriptWorld M) (image given : List ℕ) → IsImageOf device holds s image → given ≡ image → (r : Result (Unit {0}) E) → OnOk r (keeps given) → OnOk r (KeepsImageOf device holds keeps s)
  keeps_image s image given is same (Ok x) kept = record { image = image; is = is; kept = subst keeps same kept }
  keeps_image s image given is same (Err e) kept = tt

  module _ (session : Answers (ScriptWorld M)) (before : Option (List ℕ)) (first : ScriptWorld M) where
    -- that of the world that the lines of a script left
    pub kept_behind : (behind : Option (List ℕ)) (last : ScriptWorld M) → IsAnsweredTo session.answers session.takes before first behind last → IsAtEnd behind → (r : Result (Unit {0}) E) → OnOk r (KeepsImageOf device holds keeps last) → OnOk r (IsKeptBehind device holds session keeps before first)
    kept_behind behind last answered ended (Ok x) kept = record { behind = behind; last = last; answered = answered; ended = ended; kept = kept }
    kept_behind behind last answered ended (Err e) kept = tt

    -- from the world on that a file held
    pub image_run : (file : ImageFile) (asked : WorldSizes) → IsFileWorld device file asked first → (r : Result (Unit {0}) E) → OnOk r (IsKeptBehind device holds session keeps before first) → OnOk r (IsImageRun device holds session keeps file asked before)
    image_run file asked begun (Ok x) kept = record { first = first; begun = begun; kept = kept }
    image_run file asked begun (Err e) kept = tt
