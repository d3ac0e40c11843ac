use Rattle.std.proofs.Common.{◌∙◌, subst, sym}
use Rattle.tier_device.specs.contracts.memory.MemMediaMedia.TheImpl.{ghosts as memory}
use Rattle.recovery.proofs.area_recovery_lemmas.SettlementPhases.{passed_on}
use Rattle.world_files.proofs.Exits.{err_of, ok_at_exit}
use Rattle.world_files.proofs.PartsEach.{as_many, parts_are_read}
use Rattle.world_files.specs.Images.{HoldsNoWorld, IsReadRefused}
use Rattle.world_files.proofs.image.read_parts.Goals as goal

pub parts_of-requires : goal.parts_of-requires
parts_of-requires c = as_many _ c.in-Ok.media.items c.in_ok-geometry.geometry (c.in-Ok.ensures.sizes ∙ c.part_sizes.ensures)

pub returns-in_err-geometry : goal.returns-in_err-geometry
returns-in_err-geometry c =
    let r = c.from_residual.result in
    let is = c.from_residual.ensures.1 in
    let none = c.in_err-geometry.ensures.none in
    record {
      read = ok_at_exit r _ _ is;
      refused = passed_on r (IsReadRefused c.args.image.now) _ is (subst (IsReadRefused c.args.image.now) (sym none.0) none.1);
      none = λ no. err_of r _ _ is none.0;
    }

pub returns-in-Ok : goal.returns-in-Ok
returns-in-Ok c =
    let found = c.in_ok-geometry.ensures.found in
    let long = c.in_ok-geometry.ensures.long in
    record {
      read = parts_are_read memory c.args.image.now c.in_ok-geometry.geometry c.in-Ok.media.items found long (c.in-Ok.ensures.sizes ∙ c.part_sizes.ensures) c.in-Ok.ensures.bytes c.in-Ok.ensures.rest c.parts_of.result c.parts_of.ensures.media c.parts_of.ensures.sixteen;
      refused = tt;
      none = λ no. absurd (no c.in_ok-geometry.geometry found long);
    }

pub returns-in-Err : goal.returns-in-Err
returns-in-Err c =
    let held : HoldsNoWorld c.args.image.now → ⊥ = λ no. no c.in_ok-geometry.geometry c.in_ok-geometry.ensures.found c.in_ok-geometry.ensures.long in
    record { read = tt; refused = held; none = λ no. absurd (held no) }
