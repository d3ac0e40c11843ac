-- What a read of a file's front comes to.
use Rattle.std.proofs.Common.{◌≡◌, List, ℕ, inr, length, sym, subst}
use Rattle.std.specs.Prelude.{Result, Ok, Err, IfErr, IfOk, None}
use Rattle.recovery.specs.layout.Places.{Sizes}
use Rattle.recovery.specs.layout.declared.places.TheConstants.{BLOCK}
use Rattle.world_files.specs.Fronts.{IsAtFront, IsFrontRefused}
use Rattle.world_files.specs.PartSizes.{IsGeometryIn, geometry_in}
use Rattle.world_files.specs.declared.error.WorldFileError.{WorldFileError}
use Rattle.world_files.specs.declared.error.WorldFileError.TheVariants.{NoWorld}
use Rattle.world_files.specs.declared.read_at.ReadAt.{Ghosts}

module _ {F : Type 0} (read : Ghosts F) (file : F) (block : List ℕ) (given : read.gives file 0 block) (whole : length block ≡ BLOCK) where
  pub front_found : (r : Result Sizes WorldFileError) → IfOk r (IsGeometryIn block) → IfOk r (IsAtFront read file)
  front_found (Ok g) found = record { block = block; given = given; whole = whole; found = found }
  front_found (Err e) found = tt

  pub front_refused : (r : Result Sizes WorldFileError) → IfErr r (λ e. (geometry_in block ≡ None) × (e ≡ NoWorld)) → IfErr r (IsFrontRefused read file)
  front_refused (Ok g) none = tt
  front_refused (Err e) none = subst (IsFrontRefused read file) (sym none.1) (inr (record { block = block; given = given; whole = whole; none = none.0 }))
