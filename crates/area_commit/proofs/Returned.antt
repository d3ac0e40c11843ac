-- What the pools have once a plan is carried out, and where it is given up.
use Rattle.std.proofs.Common.{◌≤◌, ◌<◌, ◌⊎◌, inl, inr, ℕ, Bool, List, [], ◌∷◌, sym, ◌∙◌, subst, arith}
use Rattle.std.specs.Prelude.{◌↔◌}
use Rattle.std.specs.List.{Contains}
use Rattle.std.proofs.lemmas.List.Elements.{Contains-append_left, Contains-append_right}
use Rattle.tier_device.specs.declared.media.Tier.{Tier}
use Rattle.tier_device.specs.declared.media.Tier.TheVariants.{Fast, Block, Slow}
use Rattle.area_reader.specs.layout.declared.slot.Slot.{Slot}
use Rattle.area_reader.specs.layout.Places.{Sizes, node_end, data_first, tier_blocks}
use Rattle.block_alloc.specs.declared.runs.Run.{Run}
use Rattle.block_alloc.specs.Runs.{run_blocks, blocks_of}
use Rattle.block_alloc.specs.Value.{FreeBlocks, InOrder}
use Rattle.area_reader.specs.extent_tree.Map.{TierRuns}
use Rattle.area_reader.specs.Store.{Store}
use Rattle.area_reader.specs.Reads.{IsRoom, Free}
use Rattle.area_reader.specs.Format.{IsSpelled}
use Rattle.area_commit.specs.Value.{PoolsView, data_pool, AreInOrder, HasRanges, AreFree}
use Rattle.area_commit.specs.declared.allocation.Allocation.{Allocation}
use Rattle.area_commit.specs.Allocations.{WasTaken, WereTaken, WasGiven, WasReleased, SameBlocks, SameFree, runs_of}
use Rattle.area_commit.proofs.Departed.{taken_free, taken_apart, taken_left}
use Rattle.area_commit.proofs.Members.{each_tier}
use Rattle.area_commit.specs.BlockExchange.{Exchanges, BlockIsGivenUp, BlockIsTaken, WereGiven}
use Rattle.area_commit.specs.Release.{AreUsed, IsInUse, WereAdded}
use Rattle.area_commit.proofs.GivenUp.{run_used}
use Rattle.area_commit.specs.declared.plan.Rewrite.{Rewrite}
use Rattle.area_commit.specs.Plan.{WereFree, LieApart, IsLost, lost_in, is_rewritten, IsPlanned}
use Rattle.area_commit.specs.Room.{AreReadyFor}
use Rattle.area_commit.proofs.Chosen.{no_use}
use Rattle.area_commit.proofs.Swapped.{used_room}

pub were_free : (g : Sizes) (s : Store) (before left : PoolsView) (taken : Allocation) → HasRanges g before → AreFree g s before → WereTaken before left taken → WereFree g s taken
were_free g s before left taken ranges free took = record {
  nodes = λ k at. (free.nodes k).0 (subst (λ (xs : List ℕ). Contains xs k) took.nodes.front (Contains-append_left (blocks_of taken.nodes.items) left.nodes.free k at));
  per_tier = taken_free g s before left taken free took;
  apart = taken_apart g before left taken ranges took;
}

-- ---- runs that may be given

runs_used : (p : FreeBlocks) (runs : List Run) → LieApart runs → ((k : ℕ) → Contains (blocks_of runs) k → IsInUse p k) → AreUsed p runs
runs_used p [] apart each = tt
runs_used p (r ∷ rs) apart each = (
  run_used p r apart.0 (λ k at. each k (Contains-append_left (run_blocks r) (blocks_of rs) k at)),
  apart.1,
  runs_used p rs apart.2 (λ k at. each k (Contains-append_right (run_blocks r) (blocks_of rs) k at)),
)

module _ (g : Sizes) (s : Store) (x : ℕ → Slot) (m : ℕ → TierRuns) (plan : Rewrite) (left : PoolsView) (planned : IsPlanned g s x m plan) (ready : AreReadyFor g s left plan) where
  lost_room : (t : Tier) (k : ℕ) → IsLost g (is_rewritten plan) s x m t k → IsRoom g t k
  lost_room t k (i, its, loses) = used_room g s (record { inode = i; tier = loses.tier; logical = loses.logical }) t k loses.was

  not_free : (t : Tier) (k : ℕ) → IsLost g (is_rewritten plan) s x m t k → Free g s t k → ⊥
  not_free t k (i, its, loses) free = no_use g s t k free (record { inode = i; tier = loses.tier; logical = loses.logical }) loses.was

  data_order : (t : Tier) → InOrder (data_pool ready.before t)
  data_order t = each_tier (λ u. InOrder (data_pool ready.before u)) ready.order.fast ready.order.block ready.order.slow t

  node_in_use : (k : ℕ) → Contains (blocks_of plan.lost.nodes.items) k → IsInUse left.nodes k
  node_in_use k at =
      let l = (planned.lost.nodes k).0 at in
      let low : 292 ≤ k = (lost_room Fast k l.0).first in
      let high : k < node_end g = l.1 in
      let first = ready.took.nodes.pool.first in
      let end = ready.took.nodes.pool.end in
      record {
        low = omega (arith, low, first, ready.ranges.nodes_first);
        high = omega (arith, high, end, ready.ranges.nodes_end);
        used = λ there. not_free Fast k l.0 ((ready.free.nodes k).0 ((taken_left ready.before.nodes left.nodes plan.taken.nodes.items ready.order.nodes ready.took.nodes k).0 there).0).0;
      }

  data_in_use : (t : Tier) (k : ℕ) → Contains (blocks_of (lost_in plan.lost t)) k → IsInUse (data_pool left t) k
  data_in_use t k at =
      let l = (planned.lost.per_tier t k).0 at in
      let low : data_first g t ≤ k = l.1 in
      let high : k < tier_blocks g t = (lost_room t k l.0).last in
      let first = (ready.took.per_tier t).pool.first in
      let end = (ready.took.per_tier t).pool.end in
      record {
        low = omega (arith, low, first, ready.ranges.first t);
        high = omega (arith, high, end, ready.ranges.end t);
        used = λ there. not_free t k l.0 ((ready.free.per_tier t k).0 ((taken_left (data_pool ready.before t) (data_pool left t) (runs_of plan.taken t) (data_order t) (ready.took.per_tier t) k).0 there).0).0;
      }

  pub nodes_given : AreUsed left.nodes plan.lost.nodes.items
  nodes_given = runs_used left.nodes plan.lost.nodes.items planned.lost.nodes_apart node_in_use

  pub data_given : (t : Tier) → AreUsed (data_pool left t) (lost_in plan.lost t)
  data_given t = runs_used (data_pool left t) (lost_in plan.lost t) (planned.lost.apart t) (data_in_use t)

-- ---- the pools then

-- What is known of the pools after a change.
abbrev pub PoolsAfter : Type 0
PoolsAfter = (g : Sizes) (rewritten : ℕ → Bool) (old new : Store) (before left after : PoolsView) (taken : Allocation) → IsSpelled g old → AreInOrder before → AreFree g old before → WereTaken before left taken → Exchanges g rewritten old new (BlockIsTaken taken)
    → WereGiven g left after (BlockIsGivenUp g rewritten old new) → AreFree g new after

joined : {A B C D E F : Type 0} → A ↔ (B ⊎ C) → C ↔ (D × E) → D ↔ F → A ↔ (B ⊎ (F × E))
joined whole part same = (
  λ a. elim (whole.0 a) [ inl b ↦ inl b | inr c ↦ (let p = part.0 c in inr (same.0 p.0, p.1)) ],
  λ e. elim e [ inl b ↦ whole.1 (inl b) | inr f ↦ whole.1 (inr (part.1 (same.1 f.0, f.1))) ],
)

module _ (g : Sizes) (s : Store) (plan : Rewrite) (left after : PoolsView) (ready : AreReadyFor g s left plan) (nodes : WereAdded left.nodes after.nodes (blocks_of plan.lost.nodes.items))
    (data' : (t : Tier) → WereAdded (data_pool left t) (data_pool after t) (blocks_of (lost_in plan.lost t))) where
  pub ranges_then : HasRanges g after
  ranges_then = record {
    nodes_first = nodes.pool.first ∙ ready.took.nodes.pool.first ∙ ready.ranges.nodes_first;
    nodes_end = nodes.pool.end ∙ ready.took.nodes.pool.end ∙ ready.ranges.nodes_end;
    first = λ t. (data' t).pool.first ∙ (ready.took.per_tier t).pool.first ∙ ready.ranges.first t;
    end = λ t. (data' t).pool.end ∙ (ready.took.per_tier t).pool.end ∙ ready.ranges.end t;
  }

  pub free_then : PoolsAfter → (x : ℕ → Slot) (m : ℕ → TierRuns) (new : Store) → IsSpelled g s → IsPlanned g s x m plan → Exchanges g (is_rewritten plan) s new (BlockIsTaken plan.taken)
      → ((t : Tier) (k : ℕ) → IsLost g (is_rewritten plan) s x m t k ↔ BlockIsGivenUp g (is_rewritten plan) s new t k) → AreFree g new after
  free_then law x m new spelled planned exchanged lost =
      law g (is_rewritten plan) s new ready.before left after plan.taken spelled ready.order ready.free ready.took exchanged (record {
        nodes = λ k. joined (nodes.free k) (planned.lost.nodes k) (lost Fast k);
        per_tier = λ t k. joined ((data' t).free k) (planned.lost.per_tier t k) (lost t k);
      })

-- ---- where it is given up

same_again : (before left after : FreeBlocks) (runs : List Run) → WasTaken before left runs → WasGiven left after runs → SameBlocks before after
same_again before left after runs took gave = record { free = gave.free ∙ took.front; pool = record { first = gave.pool.first ∙ took.pool.first; end = gave.pool.end ∙ took.pool.end } }

module _ (before left after : PoolsView) (taken : Allocation) (took : WereTaken before left taken) (undone : WasReleased left after taken) where
  nodes_again : SameBlocks before.nodes after.nodes
  nodes_again = same_again before.nodes left.nodes after.nodes taken.nodes.items took.nodes undone.nodes

  data_again : (t : Tier) → SameBlocks (data_pool before t) (data_pool after t)
  data_again t = same_again (data_pool before t) (data_pool left t) (data_pool after t) (runs_of taken t) (took.per_tier t) (undone.per_tier t)

  pub same_free : SameFree before after
  same_free = record { nodes = nodes_again; fast = data_again Fast; block = data_again Block; slow = data_again Slow }

  pub free_again : (g : Sizes) (s : Store) → AreFree g s before → AreFree g s after
  free_again g s free = record {
    nodes = λ k. subst (λ (xs : List ℕ). Contains xs k ↔ (Free g s Fast k × (k < node_end g))) (sym nodes_again.free) (free.nodes k);
    per_tier = λ t k. subst (λ (xs : List ℕ). Contains xs k ↔ (Free g s t k × (data_first g t ≤ k))) (sym (data_again t).free) (free.per_tier t k);
  }

  pub ranges_again : (g : Sizes) → HasRanges g before → HasRanges g after
  ranges_again g ranges = record {
    nodes_first = nodes_again.pool.first ∙ ranges.nodes_first;
    nodes_end = nodes_again.pool.end ∙ ranges.nodes_end;
    first = λ t. (data_again t).pool.first ∙ ranges.first t;
    end = λ t. (data_again t).pool.end ∙ ranges.end t;
  }
