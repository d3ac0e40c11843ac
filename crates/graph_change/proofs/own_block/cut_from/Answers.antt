use Rattle.std.proofs.Common.{◌≡◌, ◌∙◌, ◌-◌, arith, length, drop, ap, sym}
use Rattle.std.specs.List.{count_by}
use Rattle.std.specs.Vec.{with_items}
use Rattle.posix_calls.specs.declared.limits.TheConstants.{UNIT_BYTES}
use Rattle.graph_change.specs.KeptBytes.{bytes_in, is_set, kept_marks, marks_in}
use Rattle.graph_change.specs.View.{patch_of}
use Rattle.graph_change.proofs.Marks.{cut_kept, kept_some, marks_counted, written_back}
use Rattle.graph_change.proofs.own_block.cut_from.Goals as goal

pub returns-clause-kept : goal.returns-clause-kept
returns-clause-kept c =
    let slots = c.spread_marks.new.slots in
    let new = c.cut_marking.new.slots in
    let lent = c.deref_mut.ensures.value in
    let new_long = c.cut_marking.auto.slots ∙ ap length lent in
    let back = written_back slots.len new slots.items slots.ok.0 new_long in
    let before = ap (λ xs. count_by is_set (drop UNIT_BYTES xs)) lent ∙ sym (marks_counted (drop UNIT_BYTES slots.items)) ∙ ap (count_by (λ b. b)) c.spread_marks.ensures.marks ∙ c.requires.kept.counted in
    let fewer = c.cut_marking.ensures.fewer in
    let left : count_by is_set (drop UNIT_BYTES new) ≡ c.args.count - c.cut_marking.result = omega (arith, fewer, before) in
    kept_some (with_items slots new) (c.args.count - c.cut_marking.result) c.spread_marks.ensures.room (ap length back ∙ new_long ∙ c.spread_marks.ensures.long)
    (ap (λ xs. count_by is_set (drop UNIT_BYTES xs)) back ∙ left)

pub returns-clause-cut : goal.returns-clause-cut
returns-clause-cut c p =
    let slots = c.spread_marks.new.slots.items in
    let new = c.cut_marking.new.slots in
    let count = c.args.count in
    let less = c.cut_marking.result in
    let lent = c.deref_mut.ensures.value in
    let new_long = c.cut_marking.auto.slots in
    ap (λ xs. patch_of (bytes_in xs, marks_in (count - less) (kept_marks xs)) p) (written_back c.spread_marks.new.slots.len new slots c.spread_marks.new.slots.ok.0 (new_long ∙ ap length lent))
    ∙ cut_kept count less c.args.place c.args.slots.now.items slots c.deref_mut.result.now new c.spread_marks.ensures.marks c.spread_marks.ensures.same c.spread_marks.ensures.long c.requires.kept.counted c.requires.within lent
    c.cut_marking.ensures.bytes c.cut_marking.ensures.marks c.cut_marking.ensures.fewer new_long p
