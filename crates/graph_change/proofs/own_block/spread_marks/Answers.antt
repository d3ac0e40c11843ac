use Rattle.std.proofs.Common.{◌∙◌, sym, ap, arith, refl}
use Rattle.posix_calls.specs.declared.limits.TheConstants.{UNIT_BYTES}
use Rattle.graph_change.specs.KeptBytes.{kept_marks, marks_in}
use Rattle.graph_change.proofs.Marks.{each_there, marks_all, spread_alike, spread_bytes, spread_long}
use Rattle.graph_change.proofs.own_block.spread_marks.Goals as goal

pub returns-then-count-eq0-clause-marks : goal.returns-then-count-eq0-clause-marks
returns-then-count-eq0-clause-marks c =
    let old = c.args.slots.now.items in
    spread_alike old c.fill_from.new.slots.items 0 0 (omega arith) (omega arith) c.fill_from.ensures.items ∙ sym (ap (λ n. marks_in n (kept_marks old)) c.if-count-eq0.true)

pub returns-then-count-clause-marks : goal.returns-then-count-clause-marks
returns-then-count-clause-marks c =
    let old = c.args.slots.now.items in
    let is = c.if-count.true in
    spread_alike old c.fill_from-then-count.new.slots.items UNIT_BYTES 1 (omega arith) (c.requires.bytes_long (omega (arith, is))) c.fill_from-then-count.ensures.items ∙ sym (marks_all c.args.count (kept_marks old) is)

pub returns-then-count-clause-long : goal.returns-then-count-clause-long
returns-then-count-clause-long c =
    let is = c.if-count.true in
    spread_long c.args.slots.now.items c.fill_from-then-count.new.slots.items UNIT_BYTES 1 (omega arith) (c.requires.bytes_long (omega (arith, is))) c.fill_from-then-count.ensures.items

pub returns-then-count-clause-same : goal.returns-then-count-clause-same
returns-then-count-clause-same c some =
    let is = c.if-count.true in
    spread_bytes c.args.slots.now.items c.fill_from-then-count.new.slots.items UNIT_BYTES (c.requires.bytes_long (omega (arith, is))) c.fill_from-then-count.ensures.items refl

pub returns-else-count-clause-long : goal.returns-else-count-clause-long
returns-else-count-clause-long c = each_there c.args.slots.now c.args.count c.requires c.if-count-eq0.false c.if-count.false
