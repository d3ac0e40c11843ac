-- The images of the first inodes are for no block of the next one.
use Rattle.std.proofs.Common.{◌≡◌, ◌≢◌, ◌≤◌, ◌<◌, inl, inr, ℕ, List, take, subst, arith}
use Rattle.std.specs.Prelude.{IsSome}
use Rattle.std.specs.List.{Contains}
use Rattle.tier_device.specs.declared.media.Tier.{Tier}
use Rattle.tier_device.specs.declared.media.Tier.TheVariants as tiers
use Rattle.inode_plan.specs.graph_change.Change.{Changes}
use Rattle.inode_plan.specs.layout.Places.{Sizes, node_end}
use Rattle.inode_plan.specs.batch_journal.Images.{image_for}
use Rattle.inode_plan.specs.extent_tree.declared.map.Place.{Place}
use Rattle.inode_plan.specs.area_reader.Store.{Store}
use Rattle.inode_plan.specs.area_reader.Format.{Use}
use Rattle.inode_plan.specs.area_commit.declared.slots.ChangedSlot.{ChangedSlot}
use Rattle.inode_plan.specs.area_commit.declared.allocation.Allocation.{Allocation}
use Rattle.inode_plan.specs.area_commit.Allocations.{taken_data}
use Rattle.inode_plan.specs.PlannedFile.{pairs_of}
use Rattle.inode_plan.specs.area_commit.Plan.{WereFree}
use Rattle.inode_plan.proofs.area_commit_lemmas.Chosen.{data_has, data_range, node_range}
use Rattle.change_plan.specs.Directory.{AreOfOthers}
use Rattle.change_plan.specs.First.{PlansFirst}
use Rattle.change_plan.specs.declared.partial_plan.PartialPlan.{PartialPlan}
use Rattle.change_plan.proofs.Firsts.{in_take}
use Rattle.change_plan.proofs.Pieces.{below_changed}

module _ (g : Sizes) (s : Store) (cs : Changes) (touch i used : ℕ) (places : List Place) (taken : Allocation) (plan : PartialPlan) (free : WereFree g s taken) (all : pairs_of places ≡ taken_data taken) (first : PlansFirst g s cs touch places used taken plan)
    (below : (c : ChangedSlot) → Contains plan.slots.items c → c.inode < i) where
  -- no image is for a data block
  no_data : (p : ℕ) → IsSome (image_for p plan.nodes) → Contains (take used (pairs_of places)) (tiers.Fast, p) → ⊥
  no_data p some place =
      let high : p < node_end g = (node_range g p (first.parts.nodes p some)).1 in
      let at : Contains (taken_data taken) (tiers.Fast, p) = subst (λ (ps : List (Tier × ℕ)). Contains ps (tiers.Fast, p)) all (in_take used (pairs_of places) (tiers.Fast, p) place) in
      let low : node_end g ≤ p = (data_range g s taken free tiers.Fast p (data_has taken (tiers.Fast, p) at)).0 in
      omega (arith, high, low)

  pub of_others : AreOfOthers g s i taken plan.nodes
  of_others p some =
      let its = first.parts.images_are p some in
      let u : Use = its.0 in
      let other : u.inode ≢ i = (λ same. let less : u.inode < i = below_changed i plan.slots.items below u.inode its.1.0 in omega (arith, less, same)) in
      elim (first.parts.uses u.inode its.1.0 u.tier u.logical (tiers.Fast, p) its.1.1) [
        | inl was ↦ inl (u, other, was)
        | inr share ↦ elim share [ inl node ↦ inr node.1 | inr place ↦ absurd (no_data p some place) ]
      ]
