use Rattle.std.proofs.Common.{◌<◌, length, get_or, None, sym, arith}
use Rattle.std.proofs.lemmas.Bool.Decides.{nat_tests}
use Rattle.std.proofs.lemmas.List.{get_or_default}
use Rattle.record_validation.proofs.Taken.{alone_subject}
use Rattle.client_view.proofs.Alone.{slot_acted}
use Rattle.client_view.proofs.Inodes.{inode_touched}
use Rattle.client_view.proofs.slot_effects.act_on_one.Goals as goal

pub returns : goal.returns
returns c =
    let e = c.args.effect.now in
    let inode = c.subjects-inode.result.0 in
    let any = c.index-slots-inode.result in
    let low = inode_touched e inode (sym c.subjects-inode.ensures.first) c.requires.fits in
    let inside : inode < length c.args.slots.now = grind (arith, nat_tests, low, c.requires.all) in
    slot_acted e inode (alone_subject e inode c.requires.alone c.subjects-inode.ensures.first) c.args.slots.now (get_or c.args.slots.now inode any) c.act_on.new.slot inside (get_or_default c.args.slots.now inode any None inside) c.act_on.ensures
