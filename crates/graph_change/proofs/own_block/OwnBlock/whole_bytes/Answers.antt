use Rattle.std.proofs.Common.{◌≡◌, ◌∙◌, length, get_or, Some, ap, sym, arith, take, subst}
use Rattle.std.proofs.lemmas.List.{length-take-le}
use Rattle.posix_calls.specs.declared.limits.TheConstants.{UNIT_BYTES}
use Rattle.graph_change.specs.Change.{IsWhole}
use Rattle.graph_change.specs.KeptBytes.{bytes_in, kept_marks}
use Rattle.graph_change.specs.View.{patch_of}
use Rattle.graph_change.proofs.Marks.{whole_byte, whole_by_count}
use Rattle.graph_change.proofs.own_block.OwnBlock.whole_bytes.Goals as goal

pub slice_bounds-result-end : goal.slice_bounds-result-end
slice_bounds-result-end c =
    let all = c.if-self.true in
    let there = c.self.invariant.bytes_long (omega (arith, all)) in
    let long = ap length c.deref.ensures.value in
    let part = length-take-le UNIT_BYTES c.deref.result.now (omega (arith, there, long)) in
    omega (arith, there, long, part)

pub returns-then-self-clause-some : goal.returns-then-self-clause-some
returns-then-self-clause-some c =
    let b = c.self.inside in
    let all = c.if-self.true in
    let is = ap (take UNIT_BYTES) c.deref.ensures.value in (
      ap length is ∙ length-take-le UNIT_BYTES b.slots.items (c.self.invariant.bytes_long (omega (arith, all))),
      λ p lt. subst (λ v. patch_of v p ≡ Some (get_or (take UNIT_BYTES c.deref.result.now) p 0)) c.self.view_is (whole_byte (bytes_in b.slots.items) (kept_marks b.slots.items) b.count p all lt ∙ ap (λ bs. Some (get_or bs p 0)) (sym is)),
    )

pub returns-else-self-clause-none : goal.returns-else-self-clause-none
returns-else-self-clause-none c _ whole =
    let b = c.self.inside in
    c.if-self.false ((whole_by_count b.slots b.count c.self.invariant).1 (subst (λ v. IsWhole (patch_of v)) (sym c.self.view_is) whole))
