-- An inode that is written anew for a change of it.
use Rattle.std.proofs.Common.{◌≡◌, ◌<◌, inl, inr, ℕ, List, [], refl, sym, ap, subst, ◌∙◌, Option, Some, true, false}
use Rattle.std.specs.Prelude.{get_or}
use Rattle.std.proofs.lemmas.Bool.{cases_Bool}
use Rattle.tier_device.specs.declared.media.Tier.{Tier}
use Rattle.tier_device.specs.declared.media.Tier.TheVariants.{Fast, Block, Slow}
use Rattle.area_reader.specs.file_graph.declared.effect.Kind.TheVariants as kind
use Rattle.area_reader.specs.graph_change.Net.{Base, Kept, Made, Gone}
use Rattle.area_reader.specs.graph_change.Change.{Change, Patch, blank, patch_at, writes_block}
use Rattle.area_reader.specs.layout.declared.slot.Slot.{Slot}
use Rattle.area_reader.specs.layout.declared.slot.Slot.TheVariants as slots
use Rattle.area_reader.specs.layout.Places.{Sizes}
use Rattle.area_reader.specs.tree_blocks.Inode.{LogicalBlocks, inode_of, blocks_for}
use Rattle.area_reader.specs.tree_blocks.After.{start_node}
use Rattle.area_reader.specs.tree_blocks.Directory.{EntryBlocks, numbered_blocks}
use Rattle.area_reader.specs.tree_blocks.FileBlock.{ReadsAfter, is_cut_off, AreWritten}
use Rattle.area_reader.proofs.tree_blocks_lemmas.FileBlocks.{hole_stays}
use Rattle.area_reader.specs.tree_blocks.InodeRewrite.{IsFileRewritten, IsDirectoryRewritten}
use Rattle.area_reader.specs.extent_tree.Map.{TierRuns, lies_at}
use Rattle.area_reader.specs.Store.{Store, slot, place, at_or, logical_block, inode}
use Rattle.area_commit.specs.InodeRewrite.{logical_by}
use Rattle.area_commit.specs.InodeChange.{place_from, places_from, writes_over, LieAsChanged, IsFileWritten, IsDirectoryWritten}
use Rattle.area_commit.proofs.Holes.{nowhere, over_out, hole, unput, cut_begins}
use Rattle.area_commit.proofs.Places.{by_nowhere, by_same}

-- an inode that is some node has the blocks of its slot
blocks_of_kind : (y : Slot) (b : LogicalBlocks) → (inode_of y b).kind ≡ Some kind.File → (inode_of y b).blocks ≡ b
blocks_of_kind slots.Free b is = absurd cc
blocks_of_kind (slots.File names size touch fast block slow) b is = refl
blocks_of_kind (slots.Directory names entries touch root) b is = refl

module _ (g : Sizes) (old new : Store) (i : ℕ) (m : TierRuns) (k : ℕ) (same : (t : Tier) (p : ℕ) → lies_at m t k ≡ Some p → new t p ≡ old t p) where
  other_block : (base : Base) → (start_node base (inode g old i)).kind ≡ Some kind.File → ((t : Tier) → lies_at m t k ≡ place_from base (place g old i t k)) → logical_by new m k ≡ (start_node base (inode g old i)).blocks k
  other_block Kept is there = by_same g old new i m k there (λ t p at. same t p (there t ∙ at)) ∙ ap (λ (b : LogicalBlocks). b k) (sym (blocks_of_kind (slot g old i) (logical_block g old i) is))
  other_block (Made kind) is there = by_nowhere new m k there
  other_block Gone is there = by_nowhere new m k there

module _ (g : Sizes) (c : Change) (old new : Store) (i : ℕ) (m : TierRuns) (is : (start_node c.base (inode g old i)).kind ≡ Some kind.File) (lie : LieAsChanged g c old new i m) where
  abbrev lay : Tier → ℕ → Option ℕ
  lay = places_from g old i c.base

  same_block : (k : ℕ) → writes_over lay c k ≡ false → is_cut_off c.length k ≡ false → logical_by new m k ≡ (start_node c.base (inode g old i)).blocks k
  same_block k out on = other_block g old new i m k (λ t p at. lie.same t k p out at) c.base is (λ t. lie.others t k out on)

  -- a block that lay nowhere, and is cut within, lies nowhere then
  hole_reads : (k : ℕ) → writes_over lay c k ≡ false → writes_block c k ≡ true → ReadsAfter c.length (patch_at c.patches k) k ((start_node c.base (inode g old i)).blocks k) (logical_by new m k)
  hole_reads k out cut =
      let h = hole lay k c out cut in
      let on = cut_begins c.length k h.1 in
      let none : logical_by new m k ≡ [] = by_nowhere new m k (λ t. lie.others t k out on ∙ nowhere lay k h.2 t) in
      let blocks : [] ≡ (start_node c.base (inode g old i)).blocks k = sym none ∙ same_block k out on in
      subst (λ (q : Patch). ReadsAfter c.length q k ((start_node c.base (inode g old i)).blocks k) (logical_by new m k)) (sym (unput c k h.0))
      (subst (λ (b : List ℕ). ReadsAfter c.length blank k b (logical_by new m k)) blocks (subst (λ (b : List ℕ). ReadsAfter c.length blank k [] b) (sym none) (hole_stays c.length k)))

  blocks_written : AreWritten c (start_node c.base (inode g old i)).blocks (logical_by new m)
  blocks_written = record {
    written = λ k put. elim (cases_Bool (writes_over lay c k)) [ inl over ↦ lie.written k over | inr out ↦ hole_reads k out put ];
    gone = λ k p kept cut lt. ap (λ l. get_or l p 0) (by_nowhere new m k (λ t. lie.gone t k (over_out lay k c kept) cut));
    others = λ k p kept before lt. ap (λ l. get_or l p 0) (same_block k (over_out lay k c kept) before);
  }

pub file_rewritten : (g : Sizes) (c : Change) (old new : Store) (i : ℕ) (x : Slot) (m : TierRuns) → IsFileWritten g c old new i x m → IsFileRewritten c (start_node c.base (inode g old i)) (inode_of x (logical_by new m))
file_rewritten g c old new i x m written = subst (λ (y : Slot). IsFileRewritten c (start_node c.base (inode g old i)) (inode_of y (logical_by new m))) (sym written.slot_is) (record {
  is_file = written.is_file;
  slot = record { kind = sym written.is_file; names = refl };
  size = refl;
  blocks = blocks_written g c old new i m written.is_file written.blocks;
})

pub directory_rewritten : (g : Sizes) (c : Change) (before after : EntryBlocks) (old new : Store) (i : ℕ) (x : Slot) (m : TierRuns) → IsDirectoryWritten g c before after old new i x m → IsDirectoryRewritten i c before after (start_node c.base (inode g old i)) (inode_of x (logical_by new m))
directory_rewritten g c before after old new i x m written = subst (λ (y : Slot). IsDirectoryRewritten i c before after (start_node c.base (inode g old i)) (inode_of y (logical_by new m))) (sym written.slot_is) (record {
  is_directory = written.is_directory;
  slot = record { kind = sym written.is_directory; names = refl };
  read = written.read;
  changed = written.changed;
  written = record { count = refl; blocks = held };
})
  where
    held : (k : ℕ) → k < blocks_for after.count → logical_by new m k ≡ numbered_blocks after.blocks k
    held k lt =
        let at = written.blocks k lt in
        ap (λ o. at_or (new Fast) o (at_or (new Block) (lies_at m Block k) (at_or (new Slow) (lies_at m Slow k) []))) at.1 ∙ at.2
