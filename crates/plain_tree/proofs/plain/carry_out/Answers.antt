use Rattle.std.proofs.Common.{inl, sym, ◌∙◌}
use Rattle.plain_tree.proofs.Carried.{told, tells_none, tells_some, tells_not}
use Rattle.plain_tree.proofs.plain.carry_out.Goals as goal

pub returns-in-None-clause-done : goal.returns-in-None-clause-done
returns-in-None-clause-done c = inl (told c.args.nodes.now c.args.rows.now.items c.args.client c.args.operation c.into_reply.result (tells_none c.args.operation (sym c.reply.ensures ∙ c.in-None.is)) c.into_reply.ensures)

pub change-requires-clause-reply : goal.change-requires-clause-reply
change-requires-clause-reply c = tells_some c.args.operation c.in-Some.reply (sym c.reply.ensures ∙ c.in-Some.is)

pub change-requires-clause-changes : goal.change-requires-clause-changes
change-requires-clause-changes c = tells_not c.args.operation c.in-Some.reply (sym c.reply.ensures ∙ c.in-Some.is)
