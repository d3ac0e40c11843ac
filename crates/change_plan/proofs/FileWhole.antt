-- The pieces of a planned file make one.
use Rattle.std.proofs.Common.{◌≡◌, ◌∙◌, inl, inr, ℕ, List, length, sym, ap, subst, refl, true}
use Rattle.std.specs.List.{AllByRecursion}
use Rattle.inode_plan.specs.graph_change.Bounds.{IsBounded}
use Rattle.inode_plan.specs.graph_change.Bytes.{length_after}
use Rattle.inode_plan.specs.graph_change.Change.{Change}
use Rattle.inode_plan.specs.graph_change.Net.{Base, Kept, Made, Gone, names_after}
use Rattle.inode_plan.specs.graph_change.Tidy.{IsTidyChange}
use Rattle.inode_plan.specs.layout.declared.slot.Slot.{Slot}
use Rattle.inode_plan.specs.layout.Places.{Sizes}
use Rattle.inode_plan.specs.layout.Slot.{fits_slot}
use Rattle.block_alloc.specs.declared.runs.Run.{Run}
use Rattle.block_alloc.specs.Runs.{blocks_of}
use Rattle.inode_plan.specs.extent_tree.Map.{lies_at, HasBlock}
use Rattle.inode_plan.specs.extent_tree.declared.map.Place.{Place}
use Rattle.inode_plan.specs.tree_blocks.After.{start_node}
use Rattle.inode_plan.specs.tree_blocks.Inode.{LogicalBlocks, Inode, inode_of}
use Rattle.inode_plan.specs.area_reader.Store.{Store, slot, logical_block, inode}
use Rattle.inode_plan.specs.area_commit.InodeChange.{places_from, IsFileSlot}
use Rattle.inode_plan.specs.Lists.{roots_left}
use Rattle.inode_plan.specs.area_commit.declared.plan.FreedBlocks.{FreedBlocks}
use Rattle.inode_plan.specs.area_commit.Plan.{LieApart}
use Rattle.inode_plan.specs.BlockWrites.{AreNumbers}
use Rattle.inode_plan.specs.Bytes.{HoldsBlocks, blocks_from}
use Rattle.inode_plan.specs.MapChange.{AreLeft}
use Rattle.inode_plan.specs.PlannedFile.{pairs_of}
use Rattle.inode_plan.proofs.After.{numbers_as}
use Rattle.inode_plan.specs.Roots.{roots_wanted, HasRootsOf, SparesFit}
use Rattle.change_plan.specs.File.{slot_from, AreFreePlaces, AreFreeNodes, GivesLeft, GivesUp, IsPlannedFile}
use Rattle.change_plan.specs.FileStart.{IsPlacedFile, IsRootedFile, LosesOf, LosesFile}
use Rattle.change_plan.specs.declared.file_place.PlacedFile.{PlacedFile}

-- the slot from which a change starts tells what it starts from
same_start : (base : Base) (y : Slot) (blocks : LogicalBlocks) → start_node base (inode_of (slot_from base y) blocks) ≡ start_node base (inode_of y blocks)
same_start Kept y blocks = refl
same_start (Made kind) y blocks = refl
same_start Gone y blocks = refl

module _ (g : Sizes) (s : Store) (c : Change) (touch i : ℕ) (numbers : List ℕ) (places : List Place) (f : PlacedFile) (spare bytes : List ℕ) (old new : List (ℕ × List ℕ)) (x : Slot) (left : List Run) (lost : FreedBlocks) (placed : IsPlacedFile g s c i numbers places f) (rooted : IsRootedFile c touch f spare old new x left) where
  start_is : start_node c.base (inode_of f.slot (logical_block g s i)) ≡ start_node c.base (inode g s i)
  start_is = ap (λ (y : Slot). start_node c.base (inode_of y (logical_block g s i))) placed.slot_is ∙ same_start c.base (slot g s i) (logical_block g s i)

  slot_is : IsFileSlot (names_after c.names (start_node c.base (inode g s i)).names) (length_after c.length (start_node c.base (inode g s i)).size) x
  slot_is = subst (λ (n : Inode). IsFileSlot (names_after c.names n.names) (length_after c.length n.size) x) start_is (rooted.slot_is (logical_block g s i))

  gives_left : c.base ≡ Kept → LosesOf f left lost → GivesLeft c placed.before (slot g s i) x lost
  gives_left kept loses = record {
    nodes = ap blocks_of loses.nodes ∙ (rooted.left_is ∙ ap (λ (y : Slot). roots_left y x) (placed.slot_is ∙ ap (λ (b : Base). slot_from b (slot g s i)) kept));
    some = subst (λ (rs : List Run). AllByRecursion HasBlock rs) (sym loses.nodes) rooted.left_some;
    per_tier = λ t. subst (λ (rs : List Run). AreLeft c placed.before t (blocks_of rs)) (sym (loses.per_tier t)) (placed.left t);
    apart = λ t. subst LieApart (sym (loses.per_tier t)) (placed.apart t);
  }

  gives : LosesFile g s c.base i f left lost → GivesUp g s c i placed.before x lost
  gives loses = elim loses [ inl r ↦ inl (r.0, gives_left r.0 r.1) | inr r ↦ inr r ]

  pub planned : IsTidyChange c → IsBounded c → AreNumbers (places_from g s i c.base) c numbers → length places ≡ length numbers → AreFreePlaces g s places → AreFreeNodes g s spare → length spare ≡ roots_wanted f.slot f.plan.lists
      → HoldsBlocks c (blocks_from f.found (logical_block g s i)) numbers (length numbers) bytes → LosesFile g s c.base i f left lost → IsPlannedFile g s c touch i x f.plan.map (record { nodes = spare; «data» = pairs_of places }) bytes old new lost
  planned tidy bounded are many free spares wanted holds loses = record {
    changes = record { kind_is = placed.kind_is; tidy = tidy; bounded = bounded };
    before = placed.before;
    was = placed.was;
    numbers = numbers;
    numbers_are = numbers_as (places_from g s i c.base) c numbers are (lies_at placed.before) (λ t k. sym (placed.was.starts t k));
    places = places;
    many = many;
    places_are = free;
    stored = refl;
    bytes_are = subst (λ (b : LogicalBlocks). HoldsBlocks c b numbers (length numbers) bytes) (sym placed.blocks) holds;
    map = placed.map;
    normal = placed.normal;
    lists = f.plan.lists;
    lists_are = placed.lists;
    nodes_are = spares;
    wanted = subst (λ (y : Slot). length spare ≡ roots_wanted y f.plan.lists) placed.slot_is wanted;
    slot_is = slot_is;
    touch_is = rooted.touch_is;
    roots = subst (λ (y : Slot). HasRootsOf f.plan.lists spare y x) placed.slot_is rooted.roots;
    limits = subst (λ (y : Slot). fits_slot g y ≡ true → SparesFit g y spare → fits_slot g x ≡ true) placed.slot_is (rooted.limits g);
    images = rooted.images;
    gives = gives loses;
  }
