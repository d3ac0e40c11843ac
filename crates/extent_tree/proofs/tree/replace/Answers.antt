use Rattle.std.proofs.Common.{◌-◌, ◌∙◌, length, sym, ap, subst, take, drop, arith}
use Rattle.extent_tree.specs.Places.{place_of}
use Rattle.extent_tree.specs.Normal.{IsRising, IsNormal}
use Rattle.extent_tree.specs.Nodes.{flat}
use Rattle.extent_tree.specs.Tree.{IsLevel, IsNeeded, IsTree, IsExtentTree}
use Rattle.extent_tree.specs.Value.{OthersStay}
use Rattle.extent_tree.proofs.Trees.{grown-by-need, stays-one, grown-same, one-same}
use Rattle.extent_tree.proofs.Rewrites.{told, slices, flat-three, rewritten-normal, rewritten-at, rewritten-level, rewritten-needed}
use Rattle.extent_tree.proofs.Choices.{all-stay, others-stay}
use Rattle.extent_tree.proofs.tree.replace.Goals as goal

pub levels_above-requires-clause-rising : goal.levels_above-requires-clause-rising
levels_above-requires-clause-rising g c =
    let chosen = c.in_ok-chosen.chosen in
    let packed = c.in_ok-packed.packed.items in
    let old = c.args.leaves.now.items in
    let r = told g.row.N c.args.run.first c.args.run.count c.args.place chosen.span.from chosen.span.to old c.deref.result.now packed chosen.entries.items c.deref-2.result.now c.deref.ensures.value c.deref-2.ensures.value c.requires.fits c.in_ok-chosen.ensures.touched c.in_ok-chosen.ensures.made c.in_ok-chosen.ensures.enough c.in_ok-packed.ensures.entries c.in_ok-packed.ensures.one c.in_ok-packed.ensures.some c.in_ok-packed.ensures.most c.in_ok-packed.ensures.quarter in
    let normal = rewritten-normal g.row.N c.args.run.first c.args.run.count c.args.place chosen.span.from chosen.span.to old packed chosen.entries.items c.requires.sound.normal r in
    let same = slices chosen.span.from chosen.span.to old packed c.deref-3.result.now c.deref-4.result.now c.deref-5.result.now c.deref-3.ensures.value c.deref-4.ensures.value c.deref-5.ensures.value in
    let from = chosen.span.from in
    let to = chosen.span.to in
    let seen = c.deref-5.result.now in
    subst (IsRising 0 4294967295) (ap flat (sym same) ∙ flat-three (take from c.deref-3.result.now) c.deref-4.result.now (take (length seen - to) (drop to seen))) normal.rising

pub returns-clause-sound : goal.returns-clause-sound
returns-clause-sound g c =
    let chosen = c.in_ok-chosen.chosen in
    let packed = c.in_ok-packed.packed.items in
    let old = c.args.leaves.now.items in
    let r = told g.row.N c.args.run.first c.args.run.count c.args.place chosen.span.from chosen.span.to old c.deref.result.now packed chosen.entries.items c.deref-2.result.now c.deref.ensures.value c.deref-2.ensures.value c.requires.fits c.in_ok-chosen.ensures.touched c.in_ok-chosen.ensures.made c.in_ok-chosen.ensures.enough c.in_ok-packed.ensures.entries c.in_ok-packed.ensures.one c.in_ok-packed.ensures.some c.in_ok-packed.ensures.most c.in_ok-packed.ensures.quarter in
    let same = slices chosen.span.from chosen.span.to old packed c.deref-3.result.now c.deref-4.result.now c.deref-5.result.now c.deref-3.ensures.value c.deref-4.ensures.value c.deref-5.ensures.value in
    let new = sym c.in_ok-splice.ensures.ok in
    record {
      width_is = c.requires.sound.width_is;
      normal = subst (λ l. IsNormal (flat l)) new (rewritten-normal g.row.N c.args.run.first c.args.run.count c.args.place chosen.span.from chosen.span.to old packed chosen.entries.items c.requires.sound.normal r);
      level = subst (IsLevel g.row.N) new (rewritten-level g.row.N c.args.run.first c.args.run.count c.args.place chosen.span.from chosen.span.to old packed chosen.entries.items c.requires.sound.level r);
      tree = subst (λ l. IsTree g.row.N l c.in_ok-above.above.items) (same ∙ new) c.in_ok-above.ensures;
    }

pub returns-clause-mapped : goal.returns-clause-mapped
returns-clause-mapped g c b =
    let chosen = c.in_ok-chosen.chosen in
    let packed = c.in_ok-packed.packed.items in
    let old = c.args.leaves.now.items in
    let r = told g.row.N c.args.run.first c.args.run.count c.args.place chosen.span.from chosen.span.to old c.deref.result.now packed chosen.entries.items c.deref-2.result.now c.deref.ensures.value c.deref-2.ensures.value c.requires.fits c.in_ok-chosen.ensures.touched c.in_ok-chosen.ensures.made c.in_ok-chosen.ensures.enough c.in_ok-packed.ensures.entries c.in_ok-packed.ensures.one c.in_ok-packed.ensures.some c.in_ok-packed.ensures.most c.in_ok-packed.ensures.quarter in
    ap (λ l. place_of (flat l) b) c.in_ok-splice.ensures.ok
    ∙ rewritten-at g.row.N c.args.run.first c.args.run.count c.args.place chosen.span.from chosen.span.to old packed chosen.entries.items c.requires.sound.normal r b

pub returns-clause-grown : goal.returns-clause-grown
returns-clause-grown g c =
    let chosen = c.in_ok-chosen.chosen in
    let packed = c.in_ok-packed.packed.items in
    let old = c.args.leaves.now.items in
    let r = told g.row.N c.args.run.first c.args.run.count c.args.place chosen.span.from chosen.span.to old c.deref.result.now packed chosen.entries.items c.deref-2.result.now c.deref.ensures.value c.deref-2.ensures.value c.requires.fits c.in_ok-chosen.ensures.touched c.in_ok-chosen.ensures.made c.in_ok-chosen.ensures.enough c.in_ok-packed.ensures.entries c.in_ok-packed.ensures.one c.in_ok-packed.ensures.some c.in_ok-packed.ensures.most c.in_ok-packed.ensures.quarter in
    let same = slices chosen.span.from chosen.span.to old packed c.deref-3.result.now c.deref-4.result.now c.deref-5.result.now c.deref-3.ensures.value c.deref-4.ensures.value c.deref-5.ensures.value in
    let new = sym c.in_ok-splice.ensures.ok in
    let tree = subst (λ l. IsTree g.row.N l c.in_ok-above.above.items) (same ∙ new) c.in_ok-above.ensures in
    grown-by-need g.row.N old c.splice.new.leaves.items c.args.inner.now.items c.in_ok-above.above.items c.requires.sound.tree tree
    (λ single. subst (IsNeeded g.row.N) new (rewritten-needed g.row.N c.args.run.first c.args.run.count c.args.place chosen.span.from chosen.span.to old packed chosen.entries.items r single))

pub returns-clause-one : goal.returns-clause-one
returns-clause-one g c =
    let chosen = c.in_ok-chosen.chosen in
    let packed = c.in_ok-packed.packed.items in
    let old = c.args.leaves.now.items in
    let r = told g.row.N c.args.run.first c.args.run.count c.args.place chosen.span.from chosen.span.to old c.deref.result.now packed chosen.entries.items c.deref-2.result.now c.deref.ensures.value c.deref-2.ensures.value c.requires.fits c.in_ok-chosen.ensures.touched c.in_ok-chosen.ensures.made c.in_ok-chosen.ensures.enough c.in_ok-packed.ensures.entries c.in_ok-packed.ensures.one c.in_ok-packed.ensures.some c.in_ok-packed.ensures.most c.in_ok-packed.ensures.quarter in
    let same = slices chosen.span.from chosen.span.to old packed c.deref-3.result.now c.deref-4.result.now c.deref-5.result.now c.deref-3.ensures.value c.deref-4.ensures.value c.deref-5.ensures.value in
    let new = sym c.in_ok-splice.ensures.ok in
    let tree = subst (λ l. IsTree g.row.N l c.in_ok-above.above.items) (same ∙ new) c.in_ok-above.ensures in
    let grown = grown-by-need g.row.N old c.splice.new.leaves.items c.args.inner.now.items c.in_ok-above.above.items c.requires.sound.tree tree
    (λ single. subst (IsNeeded g.row.N) new (rewritten-needed g.row.N c.args.run.first c.args.run.count c.args.place chosen.span.from chosen.span.to old packed chosen.entries.items r single)) in
    stays-one g.row.N old c.splice.new.leaves.items c.args.inner.now.items c.in_ok-above.above.items grown

pub returns-clause-others : goal.returns-clause-others
returns-clause-others g c =
    let chosen = c.in_ok-chosen.chosen in
    others-stay c.args.run.first c.args.run.count chosen.span.from chosen.span.to c.args.leaves.now.items c.deref.result.now c.in_ok-packed.packed.items c.splice.new.leaves.items c.deref.ensures.value c.in_ok-chosen.ensures.touched c.in_ok-chosen.ensures.met c.in_ok-splice.ensures.ok

pub returns-then-run-eq0-clause-others : goal.returns-then-run-eq0-clause-others
returns-then-run-eq0-clause-others g c = all-stay c.args.run.first c.args.run.count c.args.leaves.now.items

pub returns-in_err-chosen-clause-others : goal.returns-in_err-chosen-clause-others
returns-in_err-chosen-clause-others g c = all-stay c.args.run.first c.args.run.count c.args.leaves.now.items

pub returns-in_err-packed-clause-others : goal.returns-in_err-packed-clause-others
returns-in_err-packed-clause-others g c = all-stay c.args.run.first c.args.run.count c.args.leaves.now.items

pub returns-in_err-above-clause-others : goal.returns-in_err-above-clause-others
returns-in_err-above-clause-others g c = all-stay c.args.run.first c.args.run.count c.args.leaves.now.items

pub returns-in_err-splice-clause-others : goal.returns-in_err-splice-clause-others
returns-in_err-splice-clause-others g c =
    let old = c.args.leaves.now.items in
    subst (λ l. OthersStay c.args.run.first c.args.run.count old l) (sym c.in_err-splice.ensures.err) (all-stay c.args.run.first c.args.run.count old)

pub returns-in_err-splice-clause-sound : goal.returns-in_err-splice-clause-sound
returns-in_err-splice-clause-sound g c = subst (λ l. IsExtentTree g.row.N l c.args.inner.now.items) (sym c.in_err-splice.ensures.err) c.requires.sound

pub returns-in_err-splice-clause-grown : goal.returns-in_err-splice-clause-grown
returns-in_err-splice-clause-grown g c = grown-same g.row.N c.args.leaves.now.items c.splice.new.leaves.items c.args.inner.now.items

pub returns-in_err-splice-clause-one : goal.returns-in_err-splice-clause-one
returns-in_err-splice-clause-one g c = one-same g.row.N c.args.leaves.now.items c.splice.new.leaves.items c.args.inner.now.items

pub returns-then-run-eq0-clause-grown : goal.returns-then-run-eq0-clause-grown
returns-then-run-eq0-clause-grown g c = grown-same g.row.N c.args.leaves.now.items c.args.leaves.now.items c.args.inner.now.items

pub returns-in_err-chosen-clause-grown : goal.returns-in_err-chosen-clause-grown
returns-in_err-chosen-clause-grown g c = grown-same g.row.N c.args.leaves.now.items c.args.leaves.now.items c.args.inner.now.items

pub returns-in_err-packed-clause-grown : goal.returns-in_err-packed-clause-grown
returns-in_err-packed-clause-grown g c = grown-same g.row.N c.args.leaves.now.items c.args.leaves.now.items c.args.inner.now.items

pub returns-in_err-above-clause-grown : goal.returns-in_err-above-clause-grown
returns-in_err-above-clause-grown g c = grown-same g.row.N c.args.leaves.now.items c.args.leaves.now.items c.args.inner.now.items

pub returns-then-run-eq0-clause-one : goal.returns-then-run-eq0-clause-one
returns-then-run-eq0-clause-one g c one few = one

pub returns-in_err-chosen-clause-one : goal.returns-in_err-chosen-clause-one
returns-in_err-chosen-clause-one g c one few = one

pub returns-in_err-packed-clause-one : goal.returns-in_err-packed-clause-one
returns-in_err-packed-clause-one g c one few = one

pub returns-in_err-above-clause-one : goal.returns-in_err-above-clause-one
returns-in_err-above-clause-one g c one few = one

pub choose-requires : goal.choose-requires
choose-requires g c =
    let sound = subst (λ l. IsExtentTree g.row.N l c.args.inner.now.items) (sym c.deref.ensures.value) c.requires.sound in
    record {
      some = (let some = c.if-run-eq0.false in omega (arith, some));
      fits = c.requires.fits;
      places = c.requires.places;
      normal = sound.normal;
      filled = sound.level.filled;
      quarter = sound.level.quarter;
    }
