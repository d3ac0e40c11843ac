-- The plans of all inodes are one plan; and what stands where it is carried out.
use Rattle.std.proofs.Common.{◌≡◌, ◌≤◌, ◌<◌, ◌+◌, inl, inr, ℕ, List, [], ◌∷◌, ◌++◌, length, true, refl, sym, ap, ◌∙◌, subst, arith, Option, Some, None}
use Rattle.std.specs.Prelude.{min, nat_le, is_some, IfSome}
use Rattle.std.specs.List.{Contains}
use Rattle.std.proofs.lemmas.Bool.{and_parts, leb-true, false≢true}
use Rattle.std.proofs.lemmas.List.Elements.{Contains-append_left, Contains-append_right}
use Rattle.tier_device.specs.declared.media.Tier.{Tier}
use Rattle.tier_device.specs.declared.media.Tier.TheVariants.{Fast, Block, Slow}
use Rattle.inode_plan.specs.graph_change.Change.{Changes, change_at}
use Rattle.inode_plan.specs.layout.declared.slot.Slot.{Slot}
use Rattle.inode_plan.specs.layout.Marks.{fits_marks}
use Rattle.inode_plan.specs.layout.Places.{Sizes, is_node, is_data, data_first, tier_blocks}
use Rattle.block_alloc.specs.Runs.{blocks_of}
use Rattle.inode_plan.specs.batch_journal.Images.{image_for, or_else, with_images}
use Rattle.inode_plan.specs.extent_tree.Map.{TierRuns}
use Rattle.inode_plan.specs.area_reader.Store.{Store, place}
use Rattle.inode_plan.specs.area_reader.Reads.{first_room, Free}
use Rattle.inode_plan.specs.area_reader.Format.{Use}
use Rattle.inode_plan.specs.area_commit.StoreRewrite.{HasBlockFor}
use Rattle.inode_plan.specs.area_commit.Value.{on_tier}
use Rattle.inode_plan.specs.area_commit.declared.allocation.Allocation.{Allocation}
use Rattle.inode_plan.specs.area_commit.Allocations.{taken_data, runs_of}
use Rattle.inode_plan.proofs.area_commit_lemmas.Members.{cons_cases, cons_here, cons_there, nothing}
use Rattle.inode_plan.specs.area_commit.BlockExchange.{BlockIsTaken}
use Rattle.inode_plan.specs.area_commit.declared.plan.Rewrite.{Rewrite}
use Rattle.inode_plan.specs.area_commit.Plan.{WereFree, IsPlannedInode, IsPlanned, is_rewritten}
use Rattle.inode_plan.specs.area_commit.PlanOutcome.{IsCarriedOut}
use Rattle.inode_plan.proofs.area_commit_lemmas.Chosen.{no_use, node_range, node_room, data_has, data_range}
use Rattle.change_plan.specs.Part.{IsIn, IsWrittenFor}
use Rattle.change_plan.specs.Parts.{ArePut, AreParts, share_of}

-- ---- all that was taken, as a share

on_tier_in : (t : Tier) (ks : List ℕ) (k : ℕ) → Contains ks k → Contains (on_tier t ks) (t, k)
on_tier_in t [] k at = absurd (nothing k at)
on_tier_in t (j ∷ js) k at = elim (cons_cases j js k at) [
  | inl here ↦ cons_here (t, j) (on_tier t js) (t, k) (ap (λ (n : ℕ). (t, n)) here)
  | inr there ↦ cons_there (t, j) (on_tier t js) (t, k) (on_tier_in t js k there)
]

module _ (taken : Allocation) where
  abbrev on : Tier → List (Tier × ℕ)
  on t = on_tier t (blocks_of (runs_of taken t))

  data_in : (t : Tier) (k : ℕ) → Contains (blocks_of (runs_of taken t)) k → Contains (taken_data taken) (t, k)
  data_in Fast k at = Contains-append_left (on Fast) (on Block ++ on Slow) (Fast, k) (on_tier_in Fast (blocks_of taken.fast.items) k at)
  data_in Block k at = Contains-append_right (on Fast) (on Block ++ on Slow) (Block, k) (Contains-append_left (on Block) (on Slow) (Block, k) (on_tier_in Block (blocks_of taken.block.items) k at))
  data_in Slow k at = Contains-append_right (on Fast) (on Block ++ on Slow) (Slow, k) (Contains-append_right (on Block) (on Slow) (Slow, k) (on_tier_in Slow (blocks_of taken.slow.items) k at))

  taken_shared : (t : Tier) (k : ℕ) → BlockIsTaken taken t k → IsIn (share_of taken) (t, k)
  taken_shared t k (inl node) = inl node
  taken_shared t k (inr place) = inr (data_in t k place)

  shared_taken : (b : Tier × ℕ) → IsIn (share_of taken) b → BlockIsTaken taken b.0 b.1
  shared_taken b (inl node) = inl node
  shared_taken b (inr place) = inr (data_has taken b place)

module _ (g : Sizes) (s : Store) (cs : Changes) (touch : ℕ) (x : ℕ → Slot) (m : ℕ → TierRuns) (plan : Rewrite) (parts : AreParts g s cs touch x m plan.slots.items (share_of plan.taken) plan.bytes.items plan.nodes plan.lost) where
  planned_inode : (i : ℕ) → is_rewritten plan i ≡ true → IsPlannedInode g s plan.taken plan.nodes i (x i) (m i)
  planned_inode i its = record {
    fit = parts.fit i its;
    listed = parts.listed i its;
    uses = λ t k b at. elim (parts.uses i its t k b at) [ inl was ↦ inl was | inr took ↦ inr (shared_taken plan.taken b took) ];
  }

  pub are_planned : WereFree g s plan.taken → min (length plan.slots.items) 32 + length plan.nodes ≤ 255 → IfSome plan.marks (λ v. fits_marks v ≡ true) → IsPlanned g s x m plan
  are_planned free few marks = record {
    rise = parts.rise;
    slots = parts.slots_are;
    each = planned_inode;
    free = free;
    once = λ u v t k took. parts.once u v (t, k) (taken_shared plan.taken t k took);
    all = λ t k took. parts.all (t, k) (taken_shared plan.taken t k took);
    imaged = parts.imaged;
    images = parts.images_are;
    nodes = parts.nodes;
    few = few;
    marks = marks;
    bytes = parts.size;
    lost = parts.given_up;
  }

  -- ---- what stands in a store in which that is carried out

  module _ (planned : IsPlanned g s x m plan) (new : Store) (done : IsCarriedOut g s plan new) where
    -- a block of the node pool that has a use then and no image was in use
    bare_used : (u : Use) (p : ℕ) → HasBlockFor (is_rewritten plan) x m u (Fast, p) → is_node g p ≡ true → image_for p plan.nodes ≡ None → Free g s Fast p → ⊥
    bare_used u p has node bare free = elim ((planned.each u.inode has.0).uses u.tier u.logical (Fast, p) has.1) [
      | inl was ↦ no_use g s Fast p free u was
      | inr (inl took) ↦ false≢true (sym (ap is_some bare) ∙ planned.imaged p took.1)
      | inr (inr place) ↦ (let low = (data_range g s plan.taken planned.free Fast p place).0 in let high = (node_range g p node).1 in omega (arith, low, high))
    ]

    node_reads : (u : Use) (p : ℕ) → HasBlockFor (is_rewritten plan) x m u (Fast, p) → is_node g p ≡ true → new Fast p ≡ with_images plan.nodes (s Fast) p
    node_reads u p has node = by (image_for p plan.nodes) refl
      where
        by : (o : Option (List ℕ)) → image_for p plan.nodes ≡ o → new Fast p ≡ with_images plan.nodes (s Fast) p
        by (Some bytes) is = done.images p bytes is ∙ sym (ap (λ o. or_else o (s Fast p)) is)
        by None is = done.blocks_stay Fast p (node_room g p node) (bare_used u p has node is) (λ fast. is) ∙ sym (ap (λ o. or_else o (s Fast p)) is)

    data_low : (t : Tier) (p : ℕ) → is_data g t p 1 ≡ true → data_first g t ≤ p
    data_low t p is = leb-true (data_first g t) p (and_parts (nat_le (data_first g t) p) (nat_le (p + 1) (tier_blocks g t)) is).0

    data_high : (t : Tier) (p : ℕ) → is_data g t p 1 ≡ true → p < tier_blocks g t
    data_high t p is = let most = leb-true (p + 1) (tier_blocks g t) (and_parts (nat_le (data_first g t) p) (nat_le (p + 1) (tier_blocks g t)) is).1 in omega (arith, most)

    room_low : (t : Tier) (p : ℕ) → data_first g t ≤ p → first_room t ≤ p
    room_low Fast p low = omega (arith, low)
    room_low Block p low = low
    room_low Slow p low = low

    no_image : (p : ℕ) → is_data g Fast p 1 ≡ true → image_for p plan.nodes ≡ None
    no_image p is = by (image_for p plan.nodes) refl
      where
        by : (o : Option (List ℕ)) → image_for p plan.nodes ≡ o → image_for p plan.nodes ≡ None
        by None e = e
        by (Some bytes) e =
            let high = (node_range g p (planned.nodes p (ap is_some e))).1 in
            let low = data_low Fast p is in
            absurd (omega (arith, low, high))

    data_stays : (i : ℕ) → is_rewritten plan i ≡ true → (t : Tier) (k p : ℕ) → place g s i t k ≡ Some p → is_data g t p 1 ≡ true → new t p ≡ s t p
    data_stays i its t k p at is = done.blocks_stay t p (record { first = room_low t p (data_low t p is); last = data_high t p is }) (λ free. free.unread i (inr (inr (k, at)))) (λ fast. no_image p (subst (λ (u : Tier). is_data g u p 1 ≡ true) fast is))

    are_put : ArePut g s (is_rewritten plan) x m (share_of plan.taken) plan.bytes.items plan.nodes new
    are_put = record { node_blocks = node_reads; holds = done.holds; stays = data_stays }

    pub written_for : (i : ℕ) → is_rewritten plan i ≡ true → IsWrittenFor g (change_at cs i) s new i (x i) (m i)
    written_for = parts.written new are_put
