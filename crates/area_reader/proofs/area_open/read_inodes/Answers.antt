use Rattle.std.proofs.Common.{refl, inl, inr, ap, arith}
use Rattle.tier_device.specs.declared.media.Tier.TheVariants.{Fast}
use Rattle.batch_journal.specs.layout.Places.{Sizes}
use Rattle.area_reader.proofs.Damages.{is_some_at}
use Rattle.area_reader.proofs.Looked.{looks_answer}
use Rattle.area_reader.proofs.area_open.read_inodes.Goals as goal

pub returns-clause-openable : goal.returns-clause-openable
returns-clause-openable g c =
    let old = c.args.journal.now in
    let seen = g.M.Media.seen old.media Fast in
    record {
      spelled = record {
        superblock = (c.left_now.ensures.journal c.requires.going seen (g.met.M.Media.seen_now old.media Fast)).superblock;
        marks = is_some_at _ c.args.marks c.requires.marks;
        inodes = c.in_ok-charge.ensures.inodes;
        apart = c.in_ok-charge.ensures.apart;
      };
      units = (
          let over = c.if-units-charge.false in
          let told = c.units.ensures.units in
          let same = ap (λ (x : Sizes). x.units) c.geometry-geometry.ensures in
          let here = c.in_ok-charge.ensures.units in
          omega (arith, over, told, same, here)
          );
    }

pub returns-clause-looks : goal.returns-clause-looks
returns-clause-looks g c = looks_answer g.M.Media c.args.journal.now c.read_area.new.journal c.in_ok-charge.charge _ c.in_ok-charge.ensures.looks

pub returns-then-units-charge-clause-damaged : goal.returns-then-units-charge-clause-damaged
returns-then-units-charge-clause-damaged g c =
    let over = c.if-units-charge.true in
    let told = c.units.ensures.units in
    let same = ap (λ (x : Sizes). x.units) c.geometry-geometry.ensures in
    let here = c.in_ok-charge.ensures.units in
    inr (inr (inr (inr (inr (inl (record { structure = refl; at = refl; more = omega (arith, over, told, same, here) }))))))
