-- The part of an inode of which no node is left.
use Rattle.std.proofs.Common.{◌≡◌, ◌∙◌, inl, inr, ℕ, List, [], Option, Some, None, refl, sym, arith}
use Rattle.std.specs.Prelude.{IsSome}
use Rattle.std.specs.List.{Contains}
use Rattle.std.proofs.lemmas.Bool.{false≢true}
use Rattle.std.proofs.lemmas.Option.{none-some}
use Rattle.tier_device.specs.declared.media.Tier.{Tier}
use Rattle.tier_device.specs.declared.media.Tier.TheVariants as tiers
use Rattle.inode_plan.specs.file_graph.declared.effect.Kind.TheVariants as kind
use Rattle.inode_plan.specs.graph_change.Change.{Change}
use Rattle.inode_plan.specs.layout.declared.slot.Slot.TheVariants as slots
use Rattle.inode_plan.specs.layout.Places.{Sizes}
use Rattle.inode_plan.specs.tree_blocks.After.{start_node}
use Rattle.inode_plan.specs.extent_tree.Normal.{IsNormal}
use Rattle.inode_plan.specs.extent_tree.Map.{runs_in, lies_at}
use Rattle.inode_plan.specs.area_reader.Store.{Store, inode}
use Rattle.inode_plan.specs.area_commit.InodeRewrite.{IsFit, block_by}
use Rattle.inode_plan.specs.area_commit.declared.plan.FreedBlocks.{FreedBlocks}
use Rattle.change_plan.specs.Part.{IsPart, IsIn}
use Rattle.change_plan.specs.PlanAddition.{GivesAll, no_runs}
use Rattle.change_plan.specs.Directory.{of_nodes}
use Rattle.change_plan.proofs.Laid.{lays_none}

pub no_number : (p : ℕ) → Contains [] p → ⊥
no_number p (n, below, is) = omega (arith, below)

pub no_pair : (b : Tier × ℕ) → Contains [] b → ⊥
no_pair b (n, below, is) = omega (arith, below)

no_runs_in : (t : Tier) → runs_in no_runs t ≡ []
no_runs_in tiers.Fast = refl
no_runs_in tiers.Block = refl
no_runs_in tiers.Slow = refl

lies_nowhere : (t : Tier) (k : ℕ) → lies_at no_runs t k ≡ None
lies_nowhere tiers.Fast k = refl
lies_nowhere tiers.Block k = refl
lies_nowhere tiers.Slow k = refl

-- a free slot without runs has no block
pub no_block : (t : Tier) (k : Option ℕ) (b : Tier × ℕ) → block_by slots.Free no_runs t k ≡ Some b → ⊥
no_block t None b is = none-some b is
no_block tiers.Fast (Some k) b is = none-some b is
no_block tiers.Block (Some k) b is = none-some b is
no_block tiers.Slow (Some k) b is = none-some b is

no_place : (t : Tier) (k p : ℕ) → lies_at no_runs t k ≡ Some p → ⊥
no_place t k p at = none-some p (sym (lies_nowhere t k) ∙ at)

nowhere : (t : Tier) (k : ℕ) → IsSome (lies_at no_runs t k) → ⊥
nowhere tiers.Fast k some = false≢true some
nowhere tiers.Block k some = false≢true some
nowhere tiers.Slow k some = false≢true some

none_fit : (g : Sizes) → IsFit g slots.Free no_runs
none_fit g = record {
  limits = refl;
  normal = λ t. normal t;
  below = λ t k some. absurd (nowhere t k some);
  within = λ t k p at. absurd (no_place t k p at);
  apart = λ t j k p at_j at_k. absurd (no_place t j p at_j);
  once = λ t u k some also. absurd (nowhere t k some);
}
  where
    normal : (t : Tier) → IsNormal (runs_in no_runs t)
    normal tiers.Fast = record { rising = tt; apart = tt; places = tt }
    normal tiers.Block = record { rising = tt; apart = tt; places = tt }
    normal tiers.Slow = record { rising = tt; apart = tt; places = tt }

pub gone_part : (g : Sizes) (s : Store) (c : Change) (touch i : ℕ) (images : List (ℕ × List ℕ)) (lost : FreedBlocks) → (start_node c.base (inode g s i)).kind ≡ None → GivesAll g s i lost
    → IsPart g s c touch i slots.Free no_runs (of_nodes []) [] images images lost
gone_part g s c touch i images lost none all = record {
  fit = none_fit g;
  listed = λ t. inl (refl, no_runs_in t);
  uses = λ t k b is. absurd (no_block t k b is);
  once = λ t u j k b its is also. absurd (no_block t j b is);
  all = λ b its. absurd (not_in b its);
  imaged = λ p at. absurd (no_number p at);
  images = λ p not. refl;
  nodes = λ are. are;
  size = refl;
  given_up = all;
  touched = inl refl;
  laid = lays_none g s c i no_runs (λ file. none-some kind.File (sym none ∙ file));
  written = λ after put. inr (inr (record { none = none; slot_is = refl; runs = no_runs_in }));
}
  where
    not_in : (b : Tier × ℕ) → IsIn (of_nodes []) b → ⊥
    not_in b (inl fast) = no_number b.1 fast.1
    not_in b (inr other) = no_pair b other
