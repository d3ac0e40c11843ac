use Rattle.std.proofs.Common.{◌∙◌, inl, inr, refl, sym}
use Rattle.mount_nodes.proofs.tables.Tables.describe.Goals as goal

pub returns-then-is_unnamed-clause-describes : goal.returns-then-is_unnamed-clause-describes
returns-then-is_unnamed-clause-describes g c = inr (c.in_ok-kept.kept, c.in_ok-kept.ensures.known, inl (sym c.is_unnamed.ensures ∙ c.if-is_unnamed.true, (refl, refl)))

pub returns-clause-describes : goal.returns-clause-describes
returns-clause-describes g c = inr (c.in_ok-kept.kept, c.in_ok-kept.ensures.known, inr (sym c.is_unnamed.ensures ∙ c.if-is_unnamed.false, c.describe_named.ensures.describes))
