use Rattle.std.proofs.Common.{◌∙◌, inl, inr, sym}
use Rattle.mount_nodes.proofs.tables.Tables.resize.Goals as goal

pub returns-then-is_unnamed-clause-asked : goal.returns-then-is_unnamed-clause-asked
returns-then-is_unnamed-clause-asked g c = inr (c.in_ok-kept.kept, c.in_ok-kept.ensures.known, inr (sym c.is_unnamed.ensures ∙ c.if-is_unnamed.true, c.resize_unnamed.ensures.asked))

pub returns-clause-asked : goal.returns-clause-asked
returns-clause-asked g c = inr (c.in_ok-kept.kept, c.in_ok-kept.ensures.known, inl (sym c.is_unnamed.ensures ∙ c.if-is_unnamed.false, c.resize_named.ensures.asked))
