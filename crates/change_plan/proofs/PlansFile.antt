-- What the steps of the plan of a file want of one another.
use Rattle.std.proofs.Common.{◌≡◌, ◌≤◌, ◌<◌, ◌∙◌, ℕ, List, length, take, Some, refl, sym, ap, subst, arith, true}
use Rattle.std.specs.Global.{Vec}
use Rattle.std.proofs.lemmas.List.{get_or-take, length-take-le}
use Rattle.tier_device.specs.declared.media.Tier.TheVariants as tiers
use Rattle.inode_plan.specs.file_graph.declared.effect.Kind.{Kind}
use Rattle.inode_plan.specs.file_graph.declared.effect.Kind.TheVariants as kind
use Rattle.inode_plan.specs.graph_change.Change.{Change}
use Rattle.inode_plan.specs.graph_change.Net.{Base, Made}
use Rattle.inode_plan.specs.layout.declared.slot.Slot.{Slot}
use Rattle.inode_plan.specs.layout.declared.slot.Slot.TheVariants as slots
use Rattle.inode_plan.specs.layout.Places.{Sizes, is_data}
use Rattle.inode_plan.specs.extent_tree.Map.{lies_at}
use Rattle.inode_plan.specs.extent_tree.declared.map.Place.{Place}
use Rattle.inode_plan.specs.tree_blocks.After.{start_node}
use Rattle.inode_plan.specs.tree_blocks.Inode.{LogicalBlocks, Inode, inode_of}
use Rattle.inode_plan.specs.area_reader.Reads.{Free}
use Rattle.inode_plan.specs.area_reader.Store.{Store, slot_read, logical_block, inode}
use Rattle.inode_plan.proofs.area_reader_lemmas.Parts.{slot_as}
use Rattle.inode_plan.specs.area_commit.InodeChange.{places_from}
use Rattle.inode_plan.specs.BlockWrites.{AreNumbers}
use Rattle.inode_plan.specs.PlacedFile.{nth_place}
use Rattle.inode_plan.proofs.After.{numbers_as}
use Rattle.change_plan.specs.File.{AreFreePlaces}
use Rattle.change_plan.specs.FileStart.{IsStartedFile}
use Rattle.change_plan.specs.declared.file_start.StartedFile.{StartedFile}

-- ---- what the change starts from

the_kind : (a b : Kind) → Some a ≡ Some b → a ≡ b
the_kind a b e = cc

-- where a file is made, it is a file that is made
pub made_as_file : (base : Base) (k : Kind) (n : Inode) → base ≡ Made k → (start_node base n).kind ≡ Some kind.File → base ≡ Made kind.File
made_as_file base k n is file = is ∙ ap (λ (x : Kind). Made x) (the_kind k kind.File (sym (ap (λ (b : Base). (start_node b n).kind) is) ∙ file))

kind_same : (x : Slot) (a b : LogicalBlocks) → (inode_of x a).kind ≡ (inode_of x b).kind
kind_same slots.Free a b = refl
kind_same (slots.File names size touch fast block slow) a b = refl
kind_same (slots.Directory names entries touch root) a b = refl

-- the slot of a file tells that it is one, whatever its blocks hold
pub slot_tells_file : (g : Sizes) (s : Store) (i : ℕ) (x : Slot) (blocks : LogicalBlocks) → slot_read g s i ≡ Some x → (inode g s i).kind ≡ Some kind.File → (inode_of x blocks).kind ≡ Some kind.File
slot_tells_file g s i x blocks is file = kind_same x blocks (logical_block g s i) ∙ (ap (λ (y : Slot). (inode_of y (logical_block g s i)).kind) (sym (slot_as g s i x is)) ∙ file)

-- the blocks that are written over where they lay in memory are those that are written over what the inode was
pub started_numbers : (g : Sizes) (s : Store) (c : Change) (i : ℕ) (f : StartedFile) (numbers : List ℕ) → IsStartedFile g s c.base i f → AreNumbers (lies_at f.map) c numbers → AreNumbers (places_from g s i c.base) c numbers
started_numbers g s c i f numbers start are = numbers_as (lies_at f.map) c numbers are (places_from g s i c.base) start.map.starts

-- ---- the first of the places

nth_of_first : (places : List Place) (n : ℕ) → n ≤ length places → (k : ℕ) → k < length (take n places) → (nth_place (take n places) k ≡ nth_place places k) × (k < length places)
nth_of_first places n few k lt =
    let long = length-take-le n places few in
    let inside : k < n = omega (arith, lt, long) in
    (get_or-take n places k (record { tier = tiers.Fast; block = 0 }) inside, omega (arith, inside, few))

pub first_free : (g : Sizes) (s : Store) (places : List Place) (n : ℕ) → n ≤ length places → AreFreePlaces g s places → AreFreePlaces g s (take n places)
first_free g s places n few free = record {
  free = λ k lt. (let at = nth_of_first places n few k lt in subst (λ (q : Place). Free g s q.tier q.block) (sym at.0) (free.free k at.1));
  are_data = λ k lt. (let at = nth_of_first places n few k lt in subst (λ (q : Place). is_data g q.tier q.block 1 ≡ true) (sym at.0) (free.are_data k at.1));
  apart = λ j k lt_j lt_k same_tier same_block.
      (let a = nth_of_first places n few j lt_j in
      let b = nth_of_first places n few k lt_k in
      free.apart j k a.1 b.1
      (sym (ap (λ (q : Place). q.tier) a.0) ∙ (same_tier ∙ ap (λ (q : Place). q.tier) b.0))
      (sym (ap (λ (q : Place). q.block) a.0) ∙ (same_block ∙ ap (λ (q : Place). q.block) b.0)));
}

-- ---- lists

-- the two counts of a vector's elements
pub long : (v : Vec ℕ) → v.len ≡ length v.items
long v = v.ok.0
