-- A run over an image: it begins with what a file holds, and keeps what it ends with.
use Rattle.std.specs.Prelude.{ℕ, List, Option}
use Rattle.std.specs.Io.KnownBytes.{IsAtEnd}
use Rattle.tier_device.specs.declared.fill.Fill.{Fill}
use Rattle.tier_device.specs.declared.media.Media.{Ghosts}
use Rattle.world_files.specs.declared.image_file.ImageFile.{ImageFile}
use Rattle.world_files.specs.declared.sizes.WorldSizes.{WorldSizes}
use Rattle.workload_cli.specs.declared.script_world.ScriptWorld.{ScriptWorld}
use Rattle.workload_cli.specs.declared.session.Session.{Ghosts as Answers}
use Rattle.workload_cli.specs.FreshWorlds.{IsFileWorld, IsImageOf}
use Rattle.workload_cli.specs.Script.{IsAnsweredTo}

module _ {M : Type 0} (device : Ghosts M) (holds : Fill → M → M → Type 0) where
  -- The image of a world is kept.
  pub record KeepsImageOf (keeps : List ℕ → Type 0) (s : ScriptWorld M) : Type 0 where
    pub image : List ℕ
    pub is : IsImageOf device holds s image
    pub kept : keeps image

  module _ (session : Answers (ScriptWorld M)) (keeps : List ℕ → Type 0) where
    -- The lines of a script were answered up to its end, and the image of the world is kept that they left.
    pub record IsKeptBehind (before : Option (List ℕ)) (old : ScriptWorld M) : Type 0 where
      pub behind : Option (List ℕ)
      pub last : ScriptWorld M
      pub answered : IsAnsweredTo session.answers session.takes before old behind last
      pub ended : IsAtEnd behind
      pub kept : KeepsImageOf keeps last

    -- So it is, from the world on that a file held.
    pub record IsImageRun (file : ImageFile) (asked : WorldSizes) (before : Option (List ℕ)) : Type 0 where
      pub first : ScriptWorld M
      pub begun : IsFileWorld device file asked first
      pub kept : IsKeptBehind before first
