use Rattle.std.proofs.Common.{sym, subst}
use Rattle.tier_device.specs.declared.media.Tier.TheVariants.{Fast, Block, Slow}
use Rattle.inode_plan.specs.RunPlaces.{EndsFit}
use Rattle.inode_plan.proofs.place_list.taken_places.Goals as goal

pub push_runs-requires : goal.push_runs-requires
push_runs-requires c = subst EndsFit (sym c.deref.ensures.value) (c.requires Fast)

pub push_runs-requires-2 : goal.push_runs-requires-2
push_runs-requires-2 c = subst EndsFit (sym c.deref-2.ensures.value) (c.requires Block)

pub push_runs-requires-3 : goal.push_runs-requires-3
push_runs-requires-3 c = subst EndsFit (sym c.deref-3.ensures.value) (c.requires Slow)
