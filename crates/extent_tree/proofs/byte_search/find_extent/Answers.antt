use Rattle.std.proofs.Common.{◌≡◌, ◌≤◌, ◌<◌, ◌+◌, ◌*◌, ◌-◌, ◌/◌, arith, Some, None, length, get_or, true, sym, ap, subst, ◌∙◌}
use Rattle.std.proofs.lemmas.Option.{none-some, same_Some}
use Rattle.layout.specs.declared.extents.Extent.{Extent}
use Rattle.extent_tree.specs.Places.{has}
use Rattle.extent_tree.proofs.Maps.{has-in}
use Rattle.extent_tree.proofs.Rising.{before-more, behind-more, extent_with-place, none-between}
use Rattle.extent_tree.proofs.EntryReads.{block_read, stands_behind, read_there}
use Rattle.extent_tree.proofs.byte_search.find_extent.Goals as goal

pub returns-in_err-count-clause-extent : goal.returns-in_err-count-clause-extent
returns-in_err-count-clause-extent c g s v is = absurd (none-some (length v.extents) (c.in_err-count.ensures ∙ (block_read g s c.args.bytes.now v is).count))

pub bisect-init : goal.bisect-init
bisect-init c = record {
  in_order = omega arith;
  small = omega arith;
  within = λ g s v is. let same = same_Some c.in_ok-count.count (length v.extents) (c.in_ok-count.ensures ∙ (block_read g s c.args.bytes.now v is).count) in omega (arith, same);
  before = λ g s v is k d lt _. absurd (omega (arith, lt));
  behind = λ g s v is k d le lt. let same = same_Some c.in_ok-count.count (length v.extents) (c.in_ok-count.ensures ∙ (block_read g s c.args.bytes.now v is).count) in absurd (omega (arith, le, lt, same));
}

pub returns-then-bytes-at-clause-extent : goal.returns-then-bytes-at-clause-extent
returns-then-bytes-at-clause-extent c g s v is =
    let i = c.bisect.low + (c.bisect.high - c.bisect.low) / 2 in
    let lt : i < length v.extents = omega (arith, c.bisect-test.true, c.bisect.invariant.within g s v is) in
    let there = stands_behind (16 + 12 * i) c.args.bytes.now (get_or v.extents i (record { logical = 0; length = 0; place = 0 })) ((block_read g s c.args.bytes.now v is).each i (record { logical = 0; length = 0; place = 0 }) lt) in
    absurd (omega (arith, there, c.if-bytes-at.true))

pub returns-in_err-entry-clause-extent : goal.returns-in_err-entry-clause-extent
returns-in_err-entry-clause-extent c g s v is =
    let i = c.bisect.low + (c.bisect.high - c.bisect.low) / 2 in
    let d : Extent = record { logical = 0; length = 0; place = 0 } in
    let lt : i < length v.extents = omega (arith, c.bisect-test.true, c.bisect.invariant.within g s v is) in
    absurd (none-some (get_or v.extents i d) (read_there (16 + 12 * i) c.args.bytes.now None (get_or v.extents i d) c.in_err-entry.ensures ((block_read g s c.args.bytes.now v is).each i d lt)))

pub bisect-preserved-then-block-entry : goal.bisect-preserved-then-block-entry
bisect-preserved-then-block-entry c =
    let i = c.bisect.low + (c.bisect.high - c.bisect.low) / 2 in
    let d : Extent = record { logical = 0; length = 0; place = 0 } in
    record {
      in_order = omega arith;
      small = omega (arith, c.bisect-test.true, c.bisect.invariant.small);
      within = λ g s v is. let old = c.bisect.invariant.within g s v is in omega (arith, old, c.bisect-test.true);
      before = c.bisect.invariant.before;
      behind = λ g s v is.
          let r = block_read g s c.args.bytes.now v is in
          let lt : i < length v.extents = omega (arith, c.bisect-test.true, c.bisect.invariant.within g s v is) in
          let e : c.in_ok-entry.entry ≡ get_or v.extents i d = same_Some c.in_ok-entry.entry (get_or v.extents i d) (read_there (16 + 12 * i) c.args.bytes.now (Some c.in_ok-entry.entry) (get_or v.extents i d) c.in_ok-entry.ensures (r.each i d lt)) in
          behind-more c.args.block 0 4294967295 i v.extents d r.rising lt (subst (λ (x : Extent). c.args.block < x.logical) e c.if-block-entry.true);
    }

pub returns-then-block-entry-2-clause-extent : goal.returns-then-block-entry-2-clause-extent
returns-then-block-entry-2-clause-extent c g s v is =
    let i = c.bisect.low + (c.bisect.high - c.bisect.low) / 2 in
    let d : Extent = record { logical = 0; length = 0; place = 0 } in
    let r = block_read g s c.args.bytes.now v is in
    let lt : i < length v.extents = omega (arith, c.bisect-test.true, c.bisect.invariant.within g s v is) in
    let e : c.in_ok-entry.entry ≡ get_or v.extents i d = same_Some c.in_ok-entry.entry (get_or v.extents i d) (read_there (16 + 12 * i) c.args.bytes.now (Some c.in_ok-entry.entry) (get_or v.extents i d) c.in_ok-entry.ensures (r.each i d lt)) in
    let begun : c.in_ok-entry.entry.logical ≤ c.args.block = omega (arith, c.if-block-entry.false) in
    let it = subst (λ (x : Extent). has c.args.block x ≡ true) e (has-in c.args.block c.in_ok-entry.entry begun (omega (arith, begun, c.if-block-entry-2.true))) in
    ap Some e ∙ sym (extent_with-place c.args.block 0 4294967295 i v.extents d r.rising lt it (subst (λ (x : Extent). x.logical ≤ c.args.block) e begun))

pub bisect-preserved : goal.bisect-preserved
bisect-preserved c =
    let i = c.bisect.low + (c.bisect.high - c.bisect.low) / 2 in
    let d : Extent = record { logical = 0; length = 0; place = 0 } in
    record {
      in_order = omega (arith, c.bisect-test.true);
      small = c.bisect.invariant.small;
      within = c.bisect.invariant.within;
      before = λ g s v is.
          let r = block_read g s c.args.bytes.now v is in
          let lt : i < length v.extents = omega (arith, c.bisect-test.true, c.bisect.invariant.within g s v is) in
          let e : c.in_ok-entry.entry ≡ get_or v.extents i d = same_Some c.in_ok-entry.entry (get_or v.extents i d) (read_there (16 + 12 * i) c.args.bytes.now (Some c.in_ok-entry.entry) (get_or v.extents i d) c.in_ok-entry.ensures (r.each i d lt)) in
          let past : c.in_ok-entry.entry.logical + c.in_ok-entry.entry.length ≤ c.args.block = omega (arith, c.if-block-entry.false, c.if-block-entry-2.false) in
          before-more c.args.block 0 4294967295 i v.extents d r.rising lt (subst (λ (x : Extent). x.logical + x.length ≤ c.args.block) e past);
      behind = c.bisect.invariant.behind;
    }

pub returns-clause-extent : goal.returns-clause-extent
returns-clause-extent c g s v is = sym (none-between c.args.block c.bisect.low v.extents (c.bisect.invariant.before g s v is) (λ k d le lt. c.bisect.invariant.behind g s v is k d (omega (arith, le, c.bisect-test.false)) lt))

pub returns-then-block-entry-2-clause-has : goal.returns-then-block-entry-2-clause-has
returns-then-block-entry-2-clause-has c =
    let begun : c.in_ok-entry.entry.logical ≤ c.args.block = omega (arith, c.if-block-entry.false) in
    has-in c.args.block c.in_ok-entry.entry begun (omega (arith, begun, c.if-block-entry-2.true))
