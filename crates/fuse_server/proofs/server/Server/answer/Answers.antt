use Rattle.std.proofs.Common.{vec_capacity}
use Rattle.fuse_server.proofs.ServedLemmas.{served}
use Rattle.fuse_server.proofs.server.Server.answer.Goals as goal

pub returns-clause-served : goal.returns-clause-served
returns-clause-served g c =
    served g.T.Tree c.args.self.now c.serve_message-answer.new.self c.args.message.now (vec_capacity c.args.reply.now) (vec_capacity c.clear.new.self) c.reply_to.new.reply.items c.args.tree.now c.serve_message-answer.new.tree c.in-Ok.header c.serve_message-answer.result c.reply_to.result c.in-Ok.ensures.header c.clear.ensures.capacity c.serve_message-answer.ensures.answers c.reply_to.ensures.carried
