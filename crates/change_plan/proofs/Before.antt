-- Before the first inode nothing is planned.
use Rattle.std.proofs.Common.{◌≡◌, ◌≤◌, ◌<◌, inl, inr, ℕ, List, [], true, refl, sym, subst}
use Rattle.std.specs.Prelude.{◌↔◌}
use Rattle.std.specs.List.{Contains}
use Rattle.std.proofs.lemmas.Bool.{false≢true}
use Rattle.tier_device.specs.declared.media.Tier.{Tier}
use Rattle.tier_device.specs.declared.media.Tier.TheVariants.{Fast, Block, Slow}
use Rattle.inode_plan.specs.graph_change.Change.{Changes}
use Rattle.inode_plan.specs.layout.declared.slot.Slot.{Slot}
use Rattle.inode_plan.specs.layout.Places.{Sizes, node_end, data_first}
use Rattle.block_alloc.specs.declared.runs.Run.{Run}
use Rattle.block_alloc.specs.Runs.{blocks_of}
use Rattle.inode_plan.specs.extent_tree.Map.{TierRuns}
use Rattle.inode_plan.specs.area_reader.Store.{Store}
use Rattle.inode_plan.proofs.area_commit_lemmas.Members.{nothing}
use Rattle.inode_plan.specs.area_commit.declared.plan.FreedBlocks.{FreedBlocks}
use Rattle.inode_plan.specs.area_commit.Plan.{LieApart, IsLost, HoldLost, lost_in, is_changed}
use Rattle.change_plan.specs.Part.{Share, IsIn}
use Rattle.change_plan.specs.Parts.{AreParts}
use Rattle.change_plan.proofs.Laid.{none_laid}

-- a share without blocks
abbrev nothing_taken : Share
nothing_taken = record { nodes = []; «data» = [] }

no_block : (b : Tier × ℕ) → IsIn nothing_taken b → ⊥
no_block b (inl node) = nothing b.1 node.1
no_block b (inr place) = nothing b place

module _ (g : Sizes) (s : Store) (x : ℕ → Slot) (m : ℕ → TierRuns) (lost : FreedBlocks) (nodes : lost.nodes.items ≡ []) (fast : lost.fast.items ≡ []) (block : lost.block.items ≡ []) (slow : lost.slow.items ≡ []) where
  no_runs_in : (t : Tier) → lost_in lost t ≡ []
  no_runs_in Fast = fast
  no_runs_in Block = block
  no_runs_in Slow = slow

  none_lost : (t : Tier) (k : ℕ) → IsLost g (is_changed []) s x m t k → ⊥
  none_lost t k lose = false≢true lose.1

  pub holds_nothing : HoldLost g (is_changed []) s x m lost
  holds_nothing = record {
    nodes = λ k. subst (λ (rs : List Run). Contains (blocks_of rs) k ↔ (IsLost g (is_changed []) s x m Fast k × (k < node_end g))) (sym nodes) ((λ at. absurd (nothing k at)), (λ l. absurd (none_lost Fast k l.0)));
    per_tier = λ t k. subst (λ (rs : List Run). Contains (blocks_of rs) k ↔ (IsLost g (is_changed []) s x m t k × (data_first g t ≤ k))) (sym (no_runs_in t)) ((λ at. absurd (nothing k at)), (λ l. absurd (none_lost t k l.0)));
    nodes_apart = subst LieApart (sym nodes) tt;
    apart = λ t. subst LieApart (sym (no_runs_in t)) tt;
  }

pub before_the_first : (g : Sizes) (s : Store) (cs : Changes) (touch : ℕ) (x : ℕ → Slot) (m : ℕ → TierRuns) (lost : FreedBlocks) → lost.nodes.items ≡ [] → lost.fast.items ≡ [] → lost.block.items ≡ [] → lost.slow.items ≡ [] → AreParts g s cs touch x m [] nothing_taken [] [] lost
before_the_first g s cs touch x m lost nodes fast block slow = record {
  rise = tt;
  slots_are = λ c at. absurd (nothing c at);
  fit = λ i is. absurd (false≢true is);
  listed = λ i is. absurd (false≢true is);
  uses = λ i is. absurd (false≢true is);
  once = λ u v b at. absurd (no_block b at);
  all = λ b at. absurd (no_block b at);
  imaged = λ p at. absurd (nothing p at);
  images_are = λ p is. absurd (false≢true is);
  nodes = λ p is. absurd (false≢true is);
  size = refl;
  given_up = holds_nothing g s x m lost nodes fast block slow;
  touched = λ i is. absurd (false≢true is);
  laid = none_laid g s cs (λ i. is_changed [] i ≡ true) m (λ i is. false≢true is);
  written = λ after put i is. absurd (false≢true is);
}
