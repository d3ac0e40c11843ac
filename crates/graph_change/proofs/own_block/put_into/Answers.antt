use Rattle.std.proofs.Common.{◌∙◌, arith, length, ap}
use Rattle.std.proofs.lemmas.List.{take_all}
use Rattle.posix_calls.specs.declared.limits.TheConstants.{UNIT_BYTES}
use Rattle.graph_change.specs.KeptBytes.{bytes_in, kept_marks}
use Rattle.graph_change.proofs.Marks.{all_settled, kept_all}
use Rattle.graph_change.proofs.own_block.put_into.Goals as goal

pub returns-then-part-clause-kept : goal.returns-then-part-clause-kept
returns-then-part-clause-kept c =
    let long = ap length c.put_all.ensures.items in
    let whole = c.if-part.true in
    kept_all c.put_all.new.slots c.put_all.result c.put_all.ensures.count c.put_all.ensures.room (omega (arith, long, whole))

pub returns-then-part-clause-put : goal.returns-then-part-clause-put
returns-then-part-clause-put c =
    let new = c.put_all.new.slots.items in
    let old = c.args.slots.now.items in
    let part = c.args.part.now in
    all_settled c.args.count c.put_all.result c.args.at (bytes_in old) (bytes_in new) part (kept_marks old) (kept_marks new) c.requires.kept.long c.put_all.ensures.count c.if-part.true c.requires.within
    (ap bytes_in c.put_all.ensures.items ∙ take_all UNIT_BYTES part (omega (arith, c.if-part.true)))
