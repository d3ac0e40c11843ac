use Rattle.std.proofs.Common.{◌∙◌, ◌+◌, length, drop, ap, sym}
use Rattle.std.specs.List.{count_by}
use Rattle.std.specs.Vec.{with_items}
use Rattle.posix_calls.specs.declared.limits.TheConstants.{UNIT_BYTES}
use Rattle.graph_change.specs.KeptBytes.{bytes_in, is_set, kept_marks, marks_in}
use Rattle.graph_change.specs.View.{patch_of}
use Rattle.graph_change.proofs.Marks.{kept_some, marks_counted, put_kept, written_back}
use Rattle.graph_change.proofs.own_block.put_part.Goals as goal

pub returns-clause-kept : goal.returns-clause-kept
returns-clause-kept c =
    let slots = c.spread_marks.new.slots in
    let new = c.put_marking.new.slots in
    let lent = c.deref_mut.ensures.value in
    let new_long = c.put_marking.auto.slots ∙ ap length lent in
    let back = written_back slots.len new slots.items slots.ok.0 new_long in
    let before = ap (λ xs. count_by is_set (drop UNIT_BYTES xs)) lent ∙ sym (marks_counted (drop UNIT_BYTES slots.items)) ∙ ap (count_by (λ b. b)) c.spread_marks.ensures.marks ∙ c.requires.kept.counted in
    kept_some (with_items slots new) (c.args.count + c.put_marking.result) c.spread_marks.ensures.room (ap length back ∙ new_long ∙ c.spread_marks.ensures.long)
    (ap (λ xs. count_by is_set (drop UNIT_BYTES xs)) back ∙ sym c.put_marking.ensures.more ∙ ap (λ k. k + c.put_marking.result) before)

pub returns-clause-put : goal.returns-clause-put
returns-clause-put c p =
    let slots = c.spread_marks.new.slots.items in
    let new = c.put_marking.new.slots in
    let count = c.args.count in
    let more = c.put_marking.result in
    let lent = c.deref_mut.ensures.value in
    let new_long = c.put_marking.auto.slots in
    ap (λ xs. patch_of (bytes_in xs, marks_in (count + more) (kept_marks xs)) p) (written_back c.spread_marks.new.slots.len new slots c.spread_marks.new.slots.ok.0 (new_long ∙ ap length lent))
    ∙ put_kept count more c.args.at c.args.slots.now.items slots c.deref_mut.result.now new c.args.part.now c.spread_marks.ensures.marks c.spread_marks.ensures.same c.spread_marks.ensures.long c.requires.kept.counted c.requires.within lent
    c.put_marking.ensures.bytes c.put_marking.ensures.marks c.put_marking.ensures.more new_long p
