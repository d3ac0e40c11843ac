use Rattle.std.proofs.Common.{◌∙◌, sym}
use Rattle.layout.proofs.DirPlaces.{names_meet, names_differ, no_counts, list_counted, counts_none, counts_more}
use Rattle.layout.proofs.dir_entries.head_of_entries.Goals as goal

pub returns-in_err-owner-clause-head : goal.returns-in_err-owner-clause-head
returns-in_err-owner-clause-head c = c.from_residual.ensures ∙ sym (counts_none _ (no_counts c.args.block.now c.in_err-owner.ensures.head))

pub returns-then-not-are_distinct-clause-head : goal.returns-then-not-are_distinct-clause-head
returns-then-not-are_distinct-clause-head c = sym (counts_none _ (names_meet c.args.block.now c.in_ok-owner.ensures.listed (sym c.are_distinct.ensures ∙ c.if-not-are_distinct.true)))

pub returns-clause-head : goal.returns-clause-head
returns-clause-head c =
    counts_more c.args.block.now _ _ (list_counted c.args.block.now c.in_ok-owner.owner c.in_ok-owner.count c.in_ok-owner.ensures.head c.in_ok-owner.ensures.listed) (names_differ c.args.block.now c.in_ok-owner.ensures.listed (sym c.are_distinct.ensures ∙ c.if-not-are_distinct.false))
