use Rattle.std.proofs.Common.{rules, ◌≡◌, ℕ, ◌<◌, List, length, None, false, refl, arith, nat_eq}
use Rattle.std.proofs.lemmas.Bool.{ne_eqb}
use Rattle.std.proofs.lemmas.List.{take_all}
use Rattle.recovery.specs.layout.Super.{super_of}
use Rattle.world_files.specs.PartSizes.{geometry_in}
use Rattle.world_files.proofs.geometry.read_geometry.Goals as goal

-- fewer bytes than a block spell no superblock
few_spell_none : (bytes : List ℕ) → length bytes < 4096 → geometry_in bytes ≡ None
unfolding super_of
few_spell_none bytes few =
    let other : nat_eq (length bytes) 4096 ≡ false = ne_eqb (length bytes) 4096 (λ e. omega (arith, e, few)) in
    rw (take_all 4096 bytes (omega (arith, few)), other) refl

pub returns-in_default-clause-none : goal.returns-in_default-clause-none
returns-in_default-clause-none c = (few_spell_none c.args.bytes.now (search rules), refl)
