use Rattle.std.proofs.Common.{◌≡◌, ◌<◌, ◌∙◌, ◌+◌, ◌-◌, ◌/◌, arith, length, ap, sym, subst}
use Rattle.std.specs.List.{range_with_len}
use Rattle.posix_calls.specs.declared.limits.TheConstants.{UNIT_BYTES}
use Rattle.graph_change.specs.Memory.{AddsBlanks}
use Rattle.graph_change.specs.View.{patches_of}
use Rattle.graph_change.proofs.Blocks.{any_range}
use Rattle.graph_change.proofs.Changed.{all_changed, span_some}
use Rattle.graph_change.proofs.node_change.put_in_several.Goals as goal

pub set_blocks-requires-clause-there : goal.set_blocks-requires-clause-there
set_blocks-requires-clause-there c b low high =
    let first = c.args.at / UNIT_BYTES in
    c.in_ok-make_blocks.ensures.made.there b (any_range _ first b low (subst (λ n. b < first + n) c.in_ok-changed.ensures.count high))

pub returns-clause-put : goal.returns-clause-put
returns-clause-put c =
    let at = c.args.at in
    let first = at / UNIT_BYTES in
    let bytes = c.args.bytes.now in
    let old = patches_of c.args.blocks.now in
    let blanks = patches_of c.make_blocks.new.blocks in
    let count = c.in_ok-changed.ensures.count in
    let len = c.len.ensures in
    let last : at + length bytes - 1 ≡ at + (c.len.result - 1) = omega (arith, len, c.requires.some) in
    let is = span_some at (length bytes) c.requires.some ∙ ap (λ k. range_with_len first (k / UNIT_BYTES + 1 - first)) last ∙ ap (range_with_len first) (sym count) in
    all_changed at first bytes c.in_ok-changed.changed.items old blanks (patches_of c.set_blocks.new.blocks) is c.in_ok-changed.ensures.changed
    (subst (λ n. AddsBlanks (range_with_len first n) old blanks) (sym count) c.in_ok-make_blocks.ensures.made)
    c.set_blocks.ensures
