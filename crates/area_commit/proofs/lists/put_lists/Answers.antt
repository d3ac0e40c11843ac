use Rattle.std.proofs.Common.{subst}
use Rattle.tier_device.specs.declared.media.Tier.TheVariants as tiers
use Rattle.area_reader.specs.Store.{root_of}
use Rattle.area_commit.specs.Lists.{PutsList, PutsLists}
use Rattle.area_commit.proofs.Listed.{ok_then, puts_lists}
use Rattle.area_commit.proofs.lists.put_lists.Goals as goal

pub put_list-requires : goal.put_list-requires
put_list-requires c = c.requires tiers.Fast

pub put_list-requires-2 : goal.put_list-requires-2
put_list-requires-2 c = c.requires tiers.Block

pub put_list-requires-3 : goal.put_list-requires-3
put_list-requires-3 c = c.requires tiers.Slow

pub returns-clause-put : goal.returns-clause-put
returns-clause-put c =
    let x = c.args.slot.now in
    let lists = c.args.lists.now in
    let old = c.args.images.now in
    let a = c.put_list.new.images in
    let b = c.put_list-2.new.images in
    let d = c.put_list-3.new.images in
    let fast : PutsList (root_of x tiers.Fast) lists.fast old a = subst (λ n. PutsList n lists.fast old a) c.root_of.ensures c.in_ok-put_list.ensures.put in
    let block : PutsList (root_of x tiers.Block) lists.block a b = subst (λ n. PutsList n lists.block a b) c.root_of-2.ensures c.in_ok-put_list-2.ensures.put in
    ok_then c.put_list-3.result (PutsList c.root_of-3.result lists.slow b d) (PutsLists x lists old d) (λ put. puts_lists x lists old a b d fast block (subst (λ n. PutsList n lists.slow b d) c.root_of-3.ensures put)) c.put_list-3.ensures.put
