-- What becomes of an image, and why it gives no world.
use Rattle.std.proofs.Common.{◌≡◌, List, ℕ, inr, sym, subst}
use Rattle.std.specs.Prelude.{Option, Result, Ok, Err, IfErr, IfOk, None, Some}
use Rattle.program_runs.specs.declared.patch.Patch.{Patch}
use Rattle.tier_device.specs.declared.fill.Fill.{Fill}
use Rattle.tier_device.specs.declared.media.Media.{Ghosts}
use Rattle.world_files.specs.FileErrors.{IsFormatRefused}
use Rattle.world_files.specs.ImageFiles.{MayHold}
use Rattle.world_files.specs.Images.{IsReadRefused}
use Rattle.world_files.specs.declared.error.WorldFileError.{WorldFileError}
use Rattle.world_files.specs.declared.error.WorldFileError.TheVariants as errors
use Rattle.world_files.specs.declared.image_file.ImageFile.{ImageFile}
use Rattle.world_files.specs.declared.sizes.WorldSizes.{WorldSizes}
use Rattle.workload_cli.specs.declared.script_world.ScriptWorld.{ScriptWorld}
use Rattle.workload_cli.specs.FreshWorlds.{IsBeginRefused, IsFileWorld, IsFreshImage, IsFreshWorld, IsImageOf, IsImageRefused, IsImageWorld, IsPatchRefused, IsPatchedWorld, IsPutRefused}
use Rattle.workload_cli.specs.Patches.{patched}

module _ {M : Type 0} (device : Ghosts M) where
  -- bytes that are not read give no world
  pub read_refused : (image : List ℕ) (e : WorldFileError) → IsReadRefused image e → IsImageRefused device image e
  read_refused image errors.NoWorld lacks = lacks
  read_refused image (errors.File problem) held = tt
  read_refused image (errors.Sizes rule) is = absurd is
  read_refused image (errors.Recovery cause) is = absurd is
  read_refused image errors.DraftName is = absurd is
  read_refused image errors.Memory is = absurd is

  -- nor do media over which none are made, for want of memory
  pub memory_refused : {A : Type 0} (image : List ℕ) (r : Result A WorldFileError) → IfErr r (λ e. e ≡ errors.Memory) → IfErr r (IsImageRefused device image)
  memory_refused image (Ok x) is = tt
  memory_refused image (Err e) is = subst (IsImageRefused device image) (sym is) tt

  -- what a file held, and why that gives none
  pub held_world : (file : ImageFile) (asked : WorldSizes) (bytes image : List ℕ) → MayHold file (Some bytes) → image ≡ bytes → (r : Result (ScriptWorld M) WorldFileError) → IfOk r (IsImageWorld device image) → IfOk r (IsFileWorld device file asked)
  held_world file asked bytes image may is (Ok s) world = (Some bytes, may, subst (λ (b : List ℕ). IsImageWorld device b s) is world)
  held_world file asked bytes image may is (Err e) world = tt

  pub held_refused : (file : ImageFile) (bytes image : List ℕ) → MayHold file (Some bytes) → image ≡ bytes → (r : Result (ScriptWorld M) WorldFileError) → IfErr r (IsImageRefused device image) → IfErr r (IsBeginRefused device file)
  held_refused file bytes image may is (Ok s) refused = tt
  held_refused file bytes image may is (Err e) refused = inr (Some bytes, may, subst (λ (b : List ℕ). IsImageRefused device b e) is refused)

  -- a world that is made where there was no file, and why none is
  pub fresh_world : (file : ImageFile) (asked : WorldSizes) → MayHold file None → (r : Result (ScriptWorld M) WorldFileError) → IfOk r (IsFreshWorld device asked) → IfOk r (IsFileWorld device file asked)
  fresh_world file asked may (Ok s) fresh = (None, may, fresh)
  fresh_world file asked may (Err e) fresh = tt

  pub fresh_refused : (file : ImageFile) → MayHold file None → (r : Result (ScriptWorld M) WorldFileError) → IfErr r IsFormatRefused → IfErr r (IsBeginRefused device file)
  fresh_refused file may (Ok s) only = tt
  fresh_refused file may (Err e) only = inr (None, may, only)

  module _ (holds : Fill → M → M → Type 0) (asked : WorldSizes) where
    -- the image of a world that was made anew
    pub fresh_image : {X E : Type 0} (items : X → List ℕ) (s : ScriptWorld M) → IsFreshWorld device asked s → (r : Result X E) → IfOk r (λ x. IsImageOf device holds s (items x)) → IfOk r (λ x. IsFreshImage device holds asked (items x))
    fresh_image items s fresh (Ok x) image = record { session = s; fresh = fresh; image = image }
    fresh_image items s fresh (Err e) image = tt

    module _ (patches : List Patch) (image : List ℕ) (fresh : IsFreshImage device holds asked image) where
      -- what it stores with bytes put in, and why that gives none
      pub patched_world : (bytes given : List ℕ) → patched image patches ≡ Some bytes → given ≡ bytes → (r : Result (ScriptWorld M) WorldFileError) → IfOk r (IsImageWorld device given) → IfOk r (IsPatchedWorld device holds asked patches)
      patched_world bytes given put is (Ok s) world = record { image = image; fresh = fresh; bytes = bytes; put = put; world = subst (λ (b : List ℕ). IsImageWorld device b s) is world }
      patched_world bytes given put is (Err e) world = tt

      pub patched_refused : (bytes given : List ℕ) → patched image patches ≡ Some bytes → given ≡ bytes → (r : Result (ScriptWorld M) WorldFileError) → IfErr r (IsImageRefused device given) → IfErr r (IsPatchRefused device holds asked patches)
      patched_refused bytes given put is (Ok s) refused = tt
      patched_refused bytes given put is (Err e) refused = inr (image, fresh, subst (λ (o : Option (List ℕ)). IsPutRefused device holds o e) (sym put) (subst (λ (b : List ℕ). IsImageRefused device b e) is refused))

      -- bytes that go past its end
      pub past_refused : (e : WorldFileError) → e ≡ errors.NoWorld → patched image patches ≡ None → IsPatchRefused device holds asked patches e
      past_refused e is past = inr (image, fresh, subst (λ (o : Option (List ℕ)). IsPutRefused device holds o e) (sym past) is)
