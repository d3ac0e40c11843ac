use Rattle.std.proofs.Common.{◌<◌, ◌+◌, ◌-◌, ◌/◌, arith, length, get_or, sym}
use Rattle.layout.specs.declared.extents.Extent.{Extent}
use Rattle.extent_tree.proofs.Maps.{has-in}
use Rattle.extent_tree.proofs.Rising.{before-more, behind-more, extent_with-place, none-between}
use Rattle.extent_tree.proofs.node.find.Goals as goal

pub bisect-preserved-then-block-entry : goal.bisect-preserved-then-block-entry
bisect-preserved-then-block-entry c =
    let i = c.bisect.low + (c.bisect.high - c.bisect.low) / 2 in
    let lt : i < length c.args.entries.now = omega (arith, c.bisect-test.true, c.bisect.invariant.within) in
    record {
      in_order = omega arith;
      within = omega (arith, lt);
      count = omega (arith, c.bisect.invariant.count, c.bisect-test.true);
      untouched = λ none. omega (arith, none);
      before = c.bisect.invariant.before;
      behind = behind-more c.args.block 0 4294967295 i c.args.entries.now (record { logical = 0; length = 0; place = 0 }) c.requires lt c.if-block-entry.true;
    }

pub returns-then-block-entry-2-clause-extent : goal.returns-then-block-entry-2-clause-extent
returns-then-block-entry-2-clause-extent c =
    let i = c.bisect.low + (c.bisect.high - c.bisect.low) / 2 in
    let lt : i < length c.args.entries.now = omega (arith, c.bisect-test.true, c.bisect.invariant.within) in
    let d : Extent = record { logical = 0; length = 0; place = 0 } in
    sym (extent_with-place c.args.block 0 4294967295 i c.args.entries.now d c.requires lt (has-in c.args.block (get_or c.args.entries.now i d) (omega (arith, c.if-block-entry.false)) (omega (arith, c.if-block-entry.false, c.if-block-entry-2.true))) (omega (arith, c.if-block-entry.false)))

pub bisect-preserved : goal.bisect-preserved
bisect-preserved c =
    let i = c.bisect.low + (c.bisect.high - c.bisect.low) / 2 in
    let lt : i < length c.args.entries.now = omega (arith, c.bisect-test.true, c.bisect.invariant.within) in
    record {
      in_order = omega (arith, c.bisect-test.true);
      within = c.bisect.invariant.within;
      count = omega (arith, c.bisect.invariant.count);
      untouched = λ none. omega (arith, none);
      before = before-more c.args.block 0 4294967295 i c.args.entries.now (record { logical = 0; length = 0; place = 0 }) c.requires lt (omega (arith, c.if-block-entry.false, c.if-block-entry-2.false));
      behind = c.bisect.invariant.behind;
    }

pub returns-clause-extent : goal.returns-clause-extent
returns-clause-extent c = sym (none-between c.args.block c.bisect.low c.args.entries.now c.bisect.invariant.before (λ k d le within. c.bisect.invariant.behind k d (omega (arith, le, c.bisect-test.false)) within))
