use Rattle.record_validation.proofs.Row.{put_in, learned, learned_first}
use Rattle.record_validation.proofs.record_validation.RecordCheck.learn.Goals as goal

pub returns-clause-known : goal.returns-clause-known
returns-clause-known c = put_in c.args.self.now.known c.insert.new.self c.args.inode c.args.node c.in_ok-insert.ensures.updates

pub returns-clause-stands : goal.returns-clause-stands
returns-clause-stands c g over is =
    let known = put_in c.args.self.now.known c.insert.new.self c.args.inode c.args.node c.in_ok-insert.ensures.updates in
    (learned c.args.self.now.known c.insert.new.self g c.args.inode c.args.node known is over.0, over.1)

pub returns-clause-first : goal.returns-clause-first
returns-clause-first c g h come unknown is =
    let known = put_in c.args.self.now.known c.insert.new.self c.args.inode c.args.node c.in_ok-insert.ensures.updates in
    let now = learned_first c.args.self.now.known c.insert.new.self g h c.args.inode c.args.node known unknown is come.0.0 come.1 in
    ((now.0, come.0.1), now.1)
