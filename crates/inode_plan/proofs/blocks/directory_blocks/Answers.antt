use Rattle.std.proofs.Common.{ℕ, refl, sym, subst}
use Rattle.inode_plan.specs.DirectoryStart.{ArePlacesOf, LieInPool}
use Rattle.inode_plan.specs.declared.blocks.DirectoryBlocks.{DirectoryBlocks}
use Rattle.inode_plan.proofs.Parts.{lie_in_pool, sound, uses_of}
use Rattle.inode_plan.proofs.blocks.directory_blocks.Goals as goal

pub places_of-requires : goal.places_of-requires
places_of-requires c = subst (LieInPool c.args.geometry.now c.args.parts.now.extents) (sym c.length_of.ensures) (lie_in_pool c.args.geometry.now c.requires.0 c.requires.1 c.args.parts.now c.requires.2)

pub returns-clause-sound : goal.returns-clause-sound
returns-clause-sound c s i are =
    let x = c.args.parts.now in
    let made : DirectoryBlocks = record { root = c.root_of-root.result; places = c.in_ok-places.places } in
    let is = subst (λ (n : ℕ). ArePlacesOf x.extents n c.in_ok-places.places.items) c.length_of.ensures c.in_ok-places.ensures.places in
    sound c.args.geometry.now s i x are c.in_ok-places.places.items is made c.root_of-root.ensures refl

pub returns-clause-uses : goal.returns-clause-uses
returns-clause-uses c s i are =
    let x = c.args.parts.now in
    let made : DirectoryBlocks = record { root = c.root_of-root.result; places = c.in_ok-places.places } in
    let is = subst (λ (n : ℕ). ArePlacesOf x.extents n c.in_ok-places.places.items) c.length_of.ensures c.in_ok-places.ensures.places in
    uses_of c.args.geometry.now s i x are c.in_ok-places.places.items is made c.root_of-root.ensures refl
