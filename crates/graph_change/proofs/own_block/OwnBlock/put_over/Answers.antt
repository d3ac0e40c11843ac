use Rattle.std.proofs.Common.{◌≡◌, ◌∙◌, arith, ap, length, sym, take, subst}
use Rattle.std.proofs.lemmas.List.{length-take-le}
use Rattle.posix_calls.specs.declared.limits.TheConstants.{UNIT_BYTES}
use Rattle.graph_change.specs.Change.{patched_bytes}
use Rattle.graph_change.specs.KeptBytes.{bytes_in, kept_marks}
use Rattle.graph_change.specs.View.{patch_of}
use Rattle.graph_change.proofs.Marks.{all_put_over, none_put_over}
use Rattle.graph_change.proofs.own_block.OwnBlock.put_over.Goals as goal

pub slice_bounds-copy-end : goal.slice_bounds-copy-end
slice_bounds-copy-end c =
    let all = c.if-self.true in
    let there = c.self.invariant.bytes_long (omega (arith, all)) in
    let long = ap length c.deref.ensures.value in
    let part = length-take-le UNIT_BYTES c.deref.result.now (omega (arith, there, long)) in
    omega (arith, there, long, part)

pub copy-requires : goal.copy-requires
copy-requires c =
    let all = c.if-self.true in
    ap (λ bytes. length (take UNIT_BYTES bytes)) c.deref.ensures.value ∙ length-take-le UNIT_BYTES c.self.inside.slots.items (c.self.invariant.bytes_long (omega (arith, all))) ∙ sym c.requires

pub returns-then-self : goal.returns-then-self
returns-then-self c =
    let b = c.self.inside in
    let all = c.if-self.true in
    let old = c.args.block.now in
    let long = length-take-le UNIT_BYTES b.slots.items (c.self.invariant.bytes_long (omega (arith, all))) in
    c.copy.ensures ∙ ap (take UNIT_BYTES) c.deref.ensures.value ∙ subst (λ v. bytes_in b.slots.items ≡ patched_bytes (patch_of v) old) c.self.view_is (all_put_over (bytes_in b.slots.items) (kept_marks b.slots.items) b.count old all long c.requires)

pub returns-else-self-ne0 : goal.returns-else-self-ne0
returns-else-self-ne0 c =
    let b = c.self.inside in
    let old = c.args.block.now in
    subst (λ v. old ≡ patched_bytes (patch_of v) old) c.self.view_is (none_put_over (bytes_in b.slots.items) (kept_marks b.slots.items) b.count old c.if-self-ne0.false)
