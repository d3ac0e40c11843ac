-- What a planned file gives up.
use Rattle.std.proofs.Common.{◌≡◌, ◌≢◌, ◌≤◌, ◌<◌, ◌∙◌, inl, inr, ℕ, List, Option, Some, None, refl, sym, ap, subst, arith, eq-eqb}
use Rattle.std.specs.List.{Contains}
use Rattle.std.proofs.lemmas.Bool.{eqb-true}
use Rattle.std.proofs.lemmas.Option.{none-some}
use Rattle.tier_device.specs.declared.media.Tier.{Tier}
use Rattle.tier_device.specs.declared.media.Tier.TheVariants as tiers
use Rattle.inode_plan.specs.file_graph.declared.effect.Kind.TheVariants as kind
use Rattle.inode_plan.specs.graph_change.Change.{Change}
use Rattle.inode_plan.specs.graph_change.Net.{Base, Kept, Made}
use Rattle.inode_plan.specs.layout.declared.slot.Slot.{Slot}
use Rattle.inode_plan.specs.layout.declared.slot.Slot.TheVariants as slots
use Rattle.inode_plan.specs.layout.Places.{Sizes, node_end, data_first}
use Rattle.block_alloc.specs.Runs.{blocks_of}
use Rattle.inode_plan.specs.extent_tree.Map.{TierRuns, lies_at}
use Rattle.inode_plan.specs.area_reader.Store.{Store, slot, root_of, place}
use Rattle.inode_plan.specs.area_reader.Format.{used_block}
use Rattle.inode_plan.proofs.area_reader_lemmas.Lists.{slot_here_fits}
use Rattle.inode_plan.proofs.area_reader_lemmas.Shown.{slot_limits}
use Rattle.inode_plan.specs.area_commit.InodeRewrite.{block_by}
use Rattle.inode_plan.specs.area_commit.InodeChange.{place_from}
use Rattle.inode_plan.specs.Lists.{roots_left}
use Rattle.inode_plan.proofs.area_commit_lemmas.GivenUp.{Once}
use Rattle.inode_plan.specs.area_commit.declared.plan.FreedBlocks.{FreedBlocks}
use Rattle.inode_plan.specs.area_commit.Plan.{Loses, IsLost, HoldLost, lost_in}
use Rattle.inode_plan.proofs.area_commit_lemmas.Chosen.{no_use}
use Rattle.inode_plan.specs.Roots.{HasRootsOf}
use Rattle.inode_plan.proofs.After.{left_is_lost, lost_is_left}
use Rattle.inode_plan.proofs.Vacant.{left_at, left_once, roots_lost}
use Rattle.change_plan.specs.Part.{Share, IsIn, is_one}
use Rattle.change_plan.specs.PlanAddition.{GivesAll, no_runs}
use Rattle.change_plan.specs.File.{slot_from, IsPlannedFile, GivesLeft}
use Rattle.change_plan.proofs.Blocked.{root_block, block_root, place_block, block_place, lie_apart, node_within}
use Rattle.change_plan.proofs.FileUses.{fresh, old_data, root_from, lies_from, were_free}

-- a free slot and no runs have no block
has_none : (t u : Tier) (l : Option ℕ) (k : ℕ) → block_by slots.Free no_runs u l ≡ Some (t, k) → ⊥
has_none t u None k at = (root_block 0 (t, k) at).0 refl
has_none t tiers.Fast (Some b) k at = let r = place_block tiers.Fast None (t, k) at in none-some r.0 r.1
has_none t tiers.Block (Some b) k at = let r = place_block tiers.Block None (t, k) at in none-some r.0 r.1
has_none t tiers.Slow (Some b) k at = let r = place_block tiers.Slow None (t, k) at in none-some r.0 r.1

module _ (g : Sizes) (s : Store) (c : Change) (touch i : ℕ) (x : Slot) (m : TierRuns) (share : Share) (bytes : List ℕ) (old new : List (ℕ × List ℕ)) (lost : FreedBlocks) (p : IsPlannedFile g s c touch i x m share bytes old new lost) where
  lost_one : (t : Tier) (k : ℕ) → Loses g s i x m t k → IsLost g (is_one i) s (λ _. x) (λ _. m) t k
  lost_one t k loses = (i, eq-eqb i i refl, loses)

  its : (t : Tier) (k : ℕ) → IsLost g (is_one i) s (λ _. x) (λ _. m) t k → Loses g s i x m t k
  its t k (j, is, loses) = subst (λ (n : ℕ). Loses g s n x m t k) (eqb-true j i is) loses

  -- ---- a file that stays

  module _ (kept : c.base ≡ Kept) (l : GivesLeft c p.before (slot g s i) x lost) where
    roots_of : HasRootsOf p.lists share.nodes (slot g s i) x
    roots_of = subst (λ (b : Base). HasRootsOf p.lists share.nodes (slot_from b (slot g s i)) x) kept p.roots

    lies_so : (t : Tier) (k : ℕ) → lies_at p.before t k ≡ place g s i t k
    lies_so t k = p.was.starts t k ∙ ap (λ (b : Base). place_from b (place g s i t k)) kept

    old_node : (t : Tier) → root_of (slot g s i) t ≢ 0 → root_of (slot g s i) t < node_end g
    old_node t some = (node_within g (root_of (slot g s i) t) ((slot_limits g (slot g s i) (slot_here_fits g s i)).roots t some)).1

    node_lost : (k : ℕ) → Contains (roots_left (slot g s i) x) k → IsLost g (is_one i) s (λ _. x) (λ _. m) tiers.Fast k × (k < node_end g)
    node_lost k at =
        let r = left_at (slot g s i) x k at in (
          lost_one tiers.Fast k (record {
            tier = r.0;
            logical = None;
            was = block_root (root_of (slot g s i) r.0) r.1 ∙ ap (λ n. Some (tiers.Fast, n)) r.3;
            none = λ again. (root_block (root_of x r.0) (tiers.Fast, k) again).0 r.2;
          }),
          subst (λ n. n < node_end g) r.3 (old_node r.0 r.1),
        )

    lost_root : (u : Tier) (t : Tier) (k : ℕ) → used_block g s (record { inode = i; tier = u; logical = None }) ≡ Some (t, k) → (block_by x m u None ≡ Some (t, k) → ⊥) → (t ≡ tiers.Fast) × (k < node_end g) × Contains (roots_left (slot g s i) x) k
    lost_root u t k was none =
        let r = root_block (root_of (slot g s i) u) (t, k) was in
        let fast : tiers.Fast ≡ t = ap (λ (e : Tier × ℕ). e.0) r.1 in
        let is : root_of (slot g s i) u ≡ k = ap (λ (e : Tier × ℕ). e.1) r.1 in
        let other : root_of x u ≢ k = λ same. none (block_root (root_of x u) (λ zero. r.0 (is ∙ sym same ∙ zero)) ∙ ap (λ n. Some (tiers.Fast, n)) (same ∙ sym is) ∙ ap Some r.1) in
        (sym fast, subst (λ n. n < node_end g) is (old_node u r.0), (roots_lost p.lists share.nodes (slot g s i) x k roots_of).1 (u, r.0, is, other))

    lost_place : (u : Tier) (b : ℕ) (t : Tier) (k : ℕ) → used_block g s (record { inode = i; tier = u; logical = Some b }) ≡ Some (t, k) → (block_by x m u (Some b) ≡ Some (t, k) → ⊥) → (data_first g t ≤ k) × Contains (blocks_of (lost_in lost t)) k
    lost_place u b t k was none =
        let r = place_block u (place g s i u b) (t, k) was in
        let tier : u ≡ t = ap (λ (e : Tier × ℕ). e.0) r.2 in
        let is : r.0 ≡ k = ap (λ (e : Tier × ℕ). e.1) r.2 in
        let lay : lies_at p.before t b ≡ Some k = subst (λ (a : Tier). lies_at p.before a b ≡ Some k) tier (lies_so u b ∙ r.1 ∙ ap Some is) in
        let gone : lies_at m t b ≡ Some k → ⊥ = λ still. none (ap (λ (a : Tier). block_by x m a (Some b)) tier ∙ block_place t (lies_at m t b) k still) in
        ((old_data g s c touch i x m share bytes old new lost p t b k lay).0, lost_is_left c p.numbers p.places p.before m p.numbers_are p.map t (blocks_of (lost_in lost t)) (l.per_tier t) k b lay gone)

    place_lost : (t : Tier) (k : ℕ) → Contains (blocks_of (lost_in lost t)) k → IsLost g (is_one i) s (λ _. x) (λ _. m) t k × (data_first g t ≤ k)
    place_lost t k at =
        let r = (l.per_tier t k).0 at in (
          lost_one t k (record {
            tier = t;
            logical = Some r.0;
            was = block_place t (place g s i t r.0) k (sym (lies_so t r.0) ∙ r.2);
            none = λ again.
                (let q = place_block t (lies_at m t r.0) (t, k) again in
                left_is_lost c p.numbers p.places p.before m p.numbers_are p.map (fresh g s c touch i x m share bytes old new lost p) t (blocks_of (lost_in lost t)) (p.was.apart t) (l.per_tier t) k at r.0 (q.1 ∙ ap Some (ap (λ (e : Tier × ℕ). e.1) q.2)));
          }),
          (old_data g s c touch i x m share bytes old new lost p t r.0 k r.2).0,
        )

    lost_node : (k : ℕ) (u : Tier) (o : Option ℕ) → used_block g s (record { inode = i; tier = u; logical = o }) ≡ Some (tiers.Fast, k) → (block_by x m u o ≡ Some (tiers.Fast, k) → ⊥) → k < node_end g → Contains (roots_left (slot g s i) x) k
    lost_node k u None was none low = (lost_root u tiers.Fast k was none).2
    lost_node k u (Some b) was none low = absurd (let high = (lost_place u b tiers.Fast k was none).0 in omega (arith, high, low))

    lost_data : (t : Tier) (k : ℕ) (u : Tier) (o : Option ℕ) → used_block g s (record { inode = i; tier = u; logical = o }) ≡ Some (t, k) → (block_by x m u o ≡ Some (t, k) → ⊥) → data_first g t ≤ k → Contains (blocks_of (lost_in lost t)) k
    lost_data t k u None was none high = absurd (let r = lost_root u t k was none in let low = r.1 in let there = subst (λ (a : Tier). data_first g a ≤ k) r.0 high in omega (arith, there, low))
    lost_data t k u (Some b) was none high = (lost_place u b t k was none).1

    hold_left : HoldLost g (is_one i) s (λ _. x) (λ _. m) lost
    hold_left = record {
      nodes = λ k. (
        λ at. node_lost k (subst (λ bs. Contains bs k) l.nodes at),
        λ r. (let loses = its tiers.Fast k r.0 in subst (λ bs. Contains bs k) (sym l.nodes) (lost_node k loses.tier loses.logical loses.was loses.none r.1)),
      );
      per_tier = λ t k. (
        λ at. place_lost t k at,
        λ r. (let loses = its t k r.0 in lost_data t k loses.tier loses.logical loses.was loses.none r.1),
      );
      nodes_apart = lie_apart lost.nodes.items l.some (subst Once (sym l.nodes) (left_once g (slot g s i) x (slot_here_fits g s i)));
      apart = l.apart;
    }

  -- ---- a file that is made

  module _ (made : c.base ≡ Made kind.File) (all : GivesAll g s i lost) where
    no_root : (t : Tier) → root_of (slot_from c.base (slot g s i)) t ≡ 0
    no_root t = ap (λ (b : Base). root_of (slot_from b (slot g s i)) t) made

    no_place : (t : Tier) (k b : ℕ) → lies_at p.before t k ≡ Some b → ⊥
    no_place t k b at = none-some b (ap (λ (q : Base). place_from q (place g s i t k)) (sym made) ∙ (sym (p.was.starts t k) ∙ at))

    all_new : (t : Tier) (o : Option ℕ) (b : Tier × ℕ) → block_by x m t o ≡ Some b → IsIn share b
    all_new t None b at =
        let r = root_block (root_of x t) b at in
        elim (root_from g s c touch i x m share bytes old new lost p t r.0) [
          | inl same ↦ absurd (r.0 (same ∙ no_root t))
          | inr there ↦ subst (λ (e : Tier × ℕ). IsIn share e) r.1 (inl (refl, there))
        ]
    all_new t (Some k) b at =
        let r = place_block t (lies_at m t k) b at in
        elim (lies_from g s c touch i x m share bytes old new lost p t k r.0 r.1) [
          | inl was ↦ absurd (no_place t k r.0 was)
          | inr there ↦ subst (λ (e : Tier × ℕ). IsIn share e) r.2 (inr there)
        ]

    -- no block that was in use has a use for the file
    lost_so : (t : Tier) (k : ℕ) → IsLost g (is_one i) s (λ _. slots.Free) (λ _. no_runs) t k → IsLost g (is_one i) s (λ _. x) (λ _. m) t k
    lost_so t k (j, is, loses) = (
      j,
      is,
      record {
        tier = loses.tier;
        logical = loses.logical;
        was = loses.was;
        none = λ at. no_use g s t k (were_free g s c touch i x m share bytes old new lost p (t, k) (all_new loses.tier loses.logical (t, k) at)) (record { inode = j; tier = loses.tier; logical = loses.logical }) loses.was;
      },
    )

    lost_as : (t : Tier) (k : ℕ) → IsLost g (is_one i) s (λ _. x) (λ _. m) t k → IsLost g (is_one i) s (λ _. slots.Free) (λ _. no_runs) t k
    lost_as t k (j, is, loses) = (j, is, record { tier = loses.tier; logical = loses.logical; was = loses.was; none = has_none t loses.tier loses.logical k })

    hold_all : HoldLost g (is_one i) s (λ _. x) (λ _. m) lost
    hold_all = record {
      nodes = λ k. (
        λ at. (let r = (all.nodes k).0 at in (lost_so tiers.Fast k r.0, r.1)),
        λ r. (all.nodes k).1 (lost_as tiers.Fast k r.0, r.1),
      );
      per_tier = λ t k. (
        λ at. (let r = (all.per_tier t k).0 at in (lost_so t k r.0, r.1)),
        λ r. (all.per_tier t k).1 (lost_as t k r.0, r.1),
      );
      nodes_apart = all.nodes_apart;
      apart = all.apart;
    }

  pub hold_lost : HoldLost g (is_one i) s (λ _. x) (λ _. m) lost
  hold_lost = elim p.gives [ inl r ↦ hold_left r.0 r.1 | inr r ↦ hold_all r.0 r.1 ]
