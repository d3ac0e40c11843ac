use Rattle.std.proofs.Common.{ℕ, List, length, subst, sym, ◌∙◌}
use Rattle.tier_device.specs.declared.media.Tier.{Tier}
use Rattle.tier_device.specs.declared.memory.Inside.{Inside}
use Rattle.tier_device.specs.Media.{Settles}
use Rattle.tier_device.specs.Rows.{row}
use Rattle.tier_device.proofs.Grow.{LeftAt, fence_shows, fence_leaves, fence_settles}
use Rattle.tier_device.proofs.memory.MemMediaMedia.fence.Goals as goal

pub invariant_of-inside : goal.invariant_of-inside
invariant_of-inside c =
    let m = c.deref_mut-inside.result.now in
    record {
      few = m.few;
      replays = λ t. m.replays t ∙ sym (fence_shows (row m.first) m.calls _ c.args.tier c.in-Ok.ensures.grown t);
    }

pub returns-in-Ok-clause-left : goal.returns-in-Ok-clause-left
returns-in-Ok-clause-left c =
    let m = c.deref_mut-inside.result.now in
    subst (λ (was : Inside). (u : Tier) (held : List ℕ) → LeftAt (row m.first) c.push_fence.new.self (length c.push_fence.new.self) u held → LeftAt (row was.first) was.calls (length was.calls) u held)
    c.deref_mut-inside.ensures.value (fence_leaves (row m.first) _ _ c.args.tier c.in-Ok.ensures.grown)

pub returns-in-Ok-clause-settled : goal.returns-in-Ok-clause-settled
returns-in-Ok-clause-settled c =
    let m = c.deref_mut-inside.result.now in
    subst (λ (was : Inside). Settles c.args.tier (row was.tiers) (LeftAt (row was.first) was.calls (length was.calls)) (LeftAt (row m.first) c.push_fence.new.self (length c.push_fence.new.self)))
    c.deref_mut-inside.ensures.value (fence_settles (row m.first) _ _ c.args.tier c.in-Ok.ensures.grown (row m.tiers) (m.replays c.args.tier))
