use Rattle.std.proofs.Common.{◌∙◌, sym}
use Rattle.layout.proofs.DirPlaces.{no_head, no_items, no_end, list_there, counts_none, counts_some}
use Rattle.layout.proofs.dir_entries.head_of_list.Goals as goal

pub returns-in_err-owner-clause-head : goal.returns-in_err-owner-clause-head
returns-in_err-owner-clause-head c = c.from_residual.ensures ∙ sym (counts_none _ (no_head c.args.block.now c.if-block-ne-BLOCK.false (sym c.in_err-owner.ensures)))

pub returns-in_err-rest-clause-head : goal.returns-in_err-rest-clause-head
returns-in_err-rest-clause-head c =
    c.from_residual-in_err-rest.ensures
    ∙ sym (counts_none _ (no_items c.args.block.now c.in_ok-owner.owner c.in_ok-owner.count c.in_ok-owner.rest.now c.if-block-ne-BLOCK.false (sym c.in_ok-owner.ensures) (sym c.in_err-rest.ensures)))

pub returns-then-not-are_zero-clause-head : goal.returns-then-not-are_zero-clause-head
returns-then-not-are_zero-clause-head c =
    sym (counts_none _ (no_end c.args.block.now c.in_ok-owner.owner c.in_ok-owner.count c.in_ok-owner.rest.now c.in_ok-rest.rest.now c.if-block-ne-BLOCK.false (sym c.in_ok-owner.ensures) (sym c.in_ok-rest.ensures) (sym c.are_zero.ensures ∙ c.if-not-are_zero.true)))

pub returns-clause-listed : goal.returns-clause-listed
returns-clause-listed c =
    (list_there c.args.block.now c.in_ok-owner.owner c.in_ok-owner.count c.in_ok-owner.rest.now c.in_ok-rest.rest.now c.if-block-ne-BLOCK.false (sym c.in_ok-owner.ensures) (sym c.in_ok-rest.ensures) (sym c.are_zero.ensures ∙ c.if-not-are_zero.false)).list

pub returns-clause-head : goal.returns-clause-head
returns-clause-head c =
    counts_some c.args.block.now c.in_ok-owner.owner c.in_ok-owner.count
    (list_there c.args.block.now c.in_ok-owner.owner c.in_ok-owner.count c.in_ok-owner.rest.now c.in_ok-rest.rest.now c.if-block-ne-BLOCK.false (sym c.in_ok-owner.ensures) (sym c.in_ok-rest.ensures) (sym c.are_zero.ensures ∙ c.if-not-are_zero.false))
