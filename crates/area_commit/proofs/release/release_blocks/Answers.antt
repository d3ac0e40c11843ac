use Rattle.std.proofs.Common.{◌≡◌, ◌≢◌, ◌≤◌, ◌∙◌, List, length, sym, subst}
use Rattle.tier_device.specs.declared.media.Tier.TheVariants.{Fast, Block, Slow}
use Rattle.block_alloc.specs.declared.runs.Run.{Run}
use Rattle.block_alloc.specs.Value.{FreeBlocks}
use Rattle.area_commit.specs.Release.{AreUsed}
use Rattle.area_commit.proofs.release.release_blocks.Goals as goal

used_still : (p q : FreeBlocks) (xs ys : List Run) → q ≡ p → ys ≡ xs → AreUsed p xs → AreUsed q ys
used_still p q xs ys same runs used = subst (λ (v : FreeBlocks). AreUsed v ys) (sym same) (subst (λ (zs : List Run). AreUsed p zs) (sym runs) used)

room_still : (p q : FreeBlocks) (xs ys : List Run) → q ≡ p → ys ≡ xs → length xs ≤ p.room → length ys ≤ q.room
room_still p q xs ys same runs room = subst (λ (v : FreeBlocks). length ys ≤ v.room) (sym same) (subst (λ (zs : List Run). length zs ≤ p.room) (sym runs) room)

block_fast : Block ≢ Fast
block_fast e = cc

slow_fast : Slow ≢ Fast
slow_fast e = cc

slow_block : Slow ≢ Block
slow_block e = cc

pub give_data-requires-clause-used : goal.give_data-requires-clause-used
give_data-requires-clause-used c = used_still _ _ _ _ (c.give_nodes.ensures.others Fast) c.deref-2.ensures.value (c.requires.per_tier Fast)

pub give_data-requires-clause-room : goal.give_data-requires-clause-room
give_data-requires-clause-room c = room_still _ _ _ _ (c.give_nodes.ensures.others Fast) c.deref-2.ensures.value (c.requires.room Fast)

pub give_data-requires-2-clause-used : goal.give_data-requires-2-clause-used
give_data-requires-2-clause-used c = used_still _ _ _ _ (c.give_data.ensures.others Block block_fast ∙ c.give_nodes.ensures.others Block) c.deref-3.ensures.value (c.requires.per_tier Block)

pub give_data-requires-2-clause-room : goal.give_data-requires-2-clause-room
give_data-requires-2-clause-room c = room_still _ _ _ _ (c.give_data.ensures.others Block block_fast ∙ c.give_nodes.ensures.others Block) c.deref-3.ensures.value (c.requires.room Block)

pub give_data-requires-3-clause-used : goal.give_data-requires-3-clause-used
give_data-requires-3-clause-used c = used_still _ _ _ _ (c.give_data-2.ensures.others Slow slow_block ∙ (c.give_data.ensures.others Slow slow_fast ∙ c.give_nodes.ensures.others Slow)) c.deref-4.ensures.value (c.requires.per_tier Slow)

pub give_data-requires-3-clause-room : goal.give_data-requires-3-clause-room
give_data-requires-3-clause-room c = room_still _ _ _ _ (c.give_data-2.ensures.others Slow slow_block ∙ (c.give_data.ensures.others Slow slow_fast ∙ c.give_nodes.ensures.others Slow)) c.deref-4.ensures.value (c.requires.room Slow)
