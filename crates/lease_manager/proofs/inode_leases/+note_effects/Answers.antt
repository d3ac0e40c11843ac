use Rattle.lease_manager.proofs.OneEffect.{two_noted}
use Rattle.lease_manager.proofs.inode_leases.+note_effects.Goals as goal

pub returns-in-Some : goal.returns-in-Some
returns-in-Some t c =
    let first = c.subjects-inode.result in
    two_noted c.args.effects.now c.first-item.result c.in-len1-up.len_at_least c.first-item.is first.0 first.1 c.subjects-inode.ensures.is c.in-Some.other c.in-Some.is c.is_counted.result c.is_touched-in-Some.result c.is_touched-in-Some.ensures c.is_counted.ensures
    c.args.pass.now c.note_effects.new.pass c.note_once-in-Some.new.pass c.note_once-in-Some-2.new.pass c.note_effects.ensures c.note_once-in-Some.ensures c.note_once-in-Some-2.ensures
