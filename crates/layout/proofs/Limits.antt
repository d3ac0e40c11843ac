-- The limits of a geometry, as a test and as facts.
use Rattle.std.proofs.Common.{◌≡◌, ◌≤◌, Bool, true, false, ◌&&◌, refl, arith}
use Rattle.std.proofs.lemmas.Bool.{leb-true}
use Rattle.layout.specs.declared.geometry.Space.{Space}
use Rattle.layout.specs.declared.geometry.Space.TheVariants as space
use Rattle.layout.specs.declared.places.TheConstants.{FILE_BLOCKS}
use Rattle.layout.specs.Places.{Sizes, allows, IsAllowed, blocks_in}

pub and_parts : (a b : Bool) → (a && b) ≡ true → (a ≡ true) × (b ≡ true)
and_parts true b e = (refl, e)
and_parts false b e = absurd cc

pub allowed_from : (s : Sizes) → allows s ≡ true → IsAllowed s
allowed_from s e =
    let p = and_parts _ _ e in
    let q = and_parts _ _ p.0 in
    let r = and_parts _ _ q.0 in
    let t = and_parts _ _ r.0 in
    let u = and_parts _ _ t.0 in
    record {
      some_units = leb-true _ _ u.0;
      few_units = leb-true _ _ u.1;
      fast = leb-true _ _ t.1;
      block = leb-true _ _ r.1;
      slow = leb-true _ _ q.1;
      enough = leb-true _ _ p.1;
    }

-- no node has more blocks than a file
pub few_blocks : (s : Space) → blocks_in s ≤ FILE_BLOCKS
few_blocks space.Nodes = omega arith
few_blocks (space.Data tier) = omega arith
