-- What is read of a directory is what a change of it starts from.
use Rattle.std.proofs.Common.{◌≡◌, ◌≢◌, ◌≤◌, ◌<◌, ◌∙◌, ℕ, List, [], length, Some, refl, sym, ap, subst}
use Rattle.tier_device.specs.declared.media.Tier.TheVariants.{Fast}
use Rattle.area_commit.specs.graph_change.Net.{Kept}
use Rattle.area_commit.specs.layout.declared.slot.Slot.{Slot}
use Rattle.area_commit.specs.layout.declared.slot.Slot.TheVariants as slots
use Rattle.area_commit.specs.layout.Places.{Sizes}
use Rattle.posix_calls.specs.declared.limits.TheConstants.{MAX_NAMES}
use Rattle.area_commit.specs.tree_blocks.InodeRewrite.{AreHeldOf}
use Rattle.area_commit.specs.tree_blocks.Inode.{LogicalBlocks, inode_of, AreDirectoryBlocks, blocks_for}
use Rattle.area_commit.specs.tree_blocks.Directory.{IsHeld, numbered_blocks}
use Rattle.area_commit.proofs.tree_blocks_lemmas.Alike.{consistent_by}
use Rattle.area_commit.specs.file_graph.declared.effect.Kind.TheVariants as kind
use Rattle.area_commit.specs.area_reader.Store.{Store, slot, root_of, length_of, logical_block, inode}
use Rattle.area_commit.specs.area_reader.declared.inode.InodeParts.{InodeParts}
use Rattle.area_commit.proofs.area_reader_lemmas.Damages.{at_fast, blocks_is}
use Rattle.inode_plan.specs.Blocks.{nth_block, AreSound, use_in}
use Rattle.inode_plan.specs.DirectoryStart.{AreDirectoryParts, ArePlacesOf, HoldPlaces, IsStarted, IsSoundStart}
use Rattle.inode_plan.specs.declared.blocks.DirectoryBlocks.{DirectoryBlocks}
use Rattle.inode_plan.specs.declared.directory_start.StartedDirectory.{StartedDirectory}
use Rattle.inode_plan.proofs.Parts as parts

sizes_same : (x : Slot) (b c : LogicalBlocks) → (inode_of x b).size ≡ (inode_of x c).size
sizes_same slots.Free b c = refl
sizes_same (slots.File names size touch fast block slow) b c = refl
sizes_same (slots.Directory names entries touch root) b c = refl

names_same : (x : Slot) (b c : LogicalBlocks) → (inode_of x b).names ≡ (inode_of x c).names
names_same slots.Free b c = refl
names_same (slots.File names size touch fast block slow) b c = refl
names_same (slots.Directory names entries touch root) b c = refl

module _ (g : Sizes) (s : Store) (i : ℕ) (x : InodeParts) (are : AreDirectoryParts g s i x) (places : List ℕ) (is : ArePlacesOf x.extents (length_of x.slot) places) (held : List (List ℕ)) (holds : HoldPlaces (s Fast) places (length places) held) where
  abbrev count : ℕ
  count = (inode_of x.slot (λ k. [])).size

  size_is : (inode g s i).size ≡ count
  size_is = ap (λ (y : Slot). (inode_of y (logical_block g s i)).size) (parts.slot_is g s i x are) ∙ sizes_same x.slot (logical_block g s i) (λ k. [])

  names_are : (inode g s i).names ≡ (inode_of x.slot (λ k. [])).names
  names_are = ap (λ (y : Slot). (inode_of y (logical_block g s i)).names) (parts.slot_is g s i x are) ∙ names_same x.slot (logical_block g s i) (λ k. [])

  long : length places ≡ blocks_for count
  long = is.long ∙ parts.long g s i x are ∙ ap blocks_for size_is

  -- what stands there are its logical blocks
  block_is : (k : ℕ) → k < blocks_for count → numbered_blocks held k ≡ logical_block g s i k
  block_is k lt =
      let inside : k < length places = subst (λ n. k < n) (sym long) lt in
      holds.each k inside ∙ sym (at_fast g s i k (nth_block places k) (parts.at_place g s i x are places is k inside))

  directory : AreDirectoryBlocks i count (numbered_blocks held)
  directory = consistent_by i (Some kind.Directory) count (logical_block g s i) (numbered_blocks held) block_is (subst (λ n. AreDirectoryBlocks i n (logical_block g s i)) size_is (parts.directory g s i x are))

  pub is_held : IsHeld (record { owner = i; count = count; blocks = held })
  is_held = record {
    number = are.number;
    few = (parts.slot_limits g x.slot (λ k. []) (parts.its_slot g s i x are) are.fits).entries;
    long = holds.long ∙ long;
    directory = directory;
  }

  module _ (blocks : DirectoryBlocks) (root_is : blocks.root ≡ root_of x.slot Fast) (places_are : blocks.places.items ≡ places) where
    module _ (start : StartedDirectory) (names : start.names ≡ (inode_of x.slot (λ k. [])).names) (entries : start.entries ≡ record { owner = i; count = count; blocks = held }) (blocks_are : start.blocks ≡ blocks) (list : start.blocks.root ≢ 0 → start.list ≡ s Fast start.blocks.root) where
      entries_of : AreHeldOf start.entries (inode g s i)
      entries_of = subst (λ d. AreHeldOf d (inode g s i)) (sym entries) (record { count = size_is; blocks = λ k lt. ap (λ (b : LogicalBlocks). b k) (blocks_is (slot g s i) (logical_block g s i) kind.Directory are.kind_is) ∙ sym (block_is k lt) })

      places_same : start.blocks.places.items ≡ places
      places_same = ap (λ b. b.places.items) blocks_are ∙ places_are

      pub is_started : IsStarted g s Kept i start
      is_started = record {
        kind_is = are.kind_is;
        names_is = names ∙ sym names_are;
        owner_is = ap (λ d. d.owner) entries;
        entries_are = entries_of;
        uses = λ t k. ap (λ r. use_in r start.blocks.places.items t k) (ap (λ b. b.root) blocks_are ∙ root_is) ∙ ap (λ ps. use_in (root_of x.slot Fast) ps t k) places_same ∙ parts.uses g s i x are places is t k;
        held = subst (λ bs. HoldPlaces (s Fast) start.blocks.places.items (length start.blocks.places.items) bs) (sym (ap (λ d. d.blocks) entries)) (subst (λ ps. HoldPlaces (s Fast) ps (length ps) held) (sym places_same) holds);
        list_is = list;
      }

      pub is_sound : IsSoundStart g start
      is_sound = record {
        names_fit = subst (λ n. n ≤ MAX_NAMES) (sym names) (parts.slot_limits g x.slot (λ k. []) (parts.its_slot g s i x are) are.fits).names;
        blocks_are = subst (AreSound g) (sym blocks_are) (parts.sound g s i x are places is blocks root_is places_are);
        long = ap (λ ps. length ps) places_same ∙ sym holds.long ∙ sym (ap (λ d. length d.blocks) entries);
      }
