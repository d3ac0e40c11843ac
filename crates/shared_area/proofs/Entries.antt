-- The entries of a directory, block by block.
use Rattle.std.proofs.Common.{◌≡◌, ◌<◌, ◌+◌, ◌*◌, ◌/◌, ◌%◌, ◌∙◌, ℕ, List, length, get_or, false, refl, sym, ap, subst, arith, Option, Some, None, inr}
use Rattle.std.specs.Prelude.{min, slice_get, option_map}
use Rattle.std.specs.FinMap as fin
use Rattle.std.proofs.lemmas.List.{ext_get_or}
use Rattle.std.proofs.lemmas.List.FromFn.{length-map-range_with_len}
use Rattle.std.proofs.lemmas.Option.{get_or_from_slice_get}
use Rattle.record_validation.specs.file_graph.Graph.{directory_in}
use Rattle.record_validation.specs.call_effects.NodeView.{FileView, view_at, view_of_node}
use Rattle.record_validation.specs.Counts.{counts_of}
use Rattle.record_validation.specs.declared.node_counts.NodeCounts.{NodeCounts}
use Rattle.record_validation.specs.declared.node_counts.NodeCounts.TheVariants as counts
use Rattle.area_reader.specs.layout.declared.directory.DirEntry.{DirEntry}
use Rattle.area_reader.specs.layout.declared.slot.Slot.{Slot}
use Rattle.area_reader.specs.layout.declared.slot.Slot.TheVariants as slots
use Rattle.area_reader.specs.layout.Places.{Sizes, is_inode}
use Rattle.area_reader.specs.layout.Directory.{EntryList, AreEntries, block_entries, entry_of, no_entry}
use Rattle.area_reader.proofs.layout_lemmas.DirChanges.{listed_now}
use Rattle.area_reader.specs.tree_blocks.Inode.{LogicalBlocks, Entry, plain, entry_at, entries_in, blocks_for, named_entries, byte_of, AreDistinct, AreDirectoryBlocks, IsConsistent, inode_of, node_of}
use Rattle.area_reader.specs.tree_blocks.After.{IsEntered}
use Rattle.area_reader.proofs.tree_blocks_lemmas.Directories.{len_named}
use Rattle.area_reader.proofs.tree_blocks_lemmas.Entering.{named_entered}
use Rattle.area_reader.proofs.tree_blocks_lemmas.Held.{entry_is}
use Rattle.area_reader.specs.Store.{Store, slot_read, logical_block, graph}
use Rattle.area_reader.specs.Format.{SpellsInode}
use Rattle.area_reader.proofs.Parts.{slot_as}
use Rattle.shared_area.specs.DirectoryReads.{AreNext}
use Rattle.shared_area.specs.FileReads.{ShowsBytes}
use Rattle.shared_area.specs.Parts.{slot_counts}
use Rattle.shared_area.proofs.Sound.{no_slot}

-- ---- a block

byte_in : (blocks : LogicalBlocks) (k j : ℕ) → j < 4096 → byte_of blocks (4096 * k + j) ≡ get_or (blocks k) j 0
unfolding byte_of
byte_in blocks k j lt =
    let block : (4096 * k + j) / 4096 ≡ k = omega (arith, lt) in
    let place : (4096 * k + j) % 4096 ≡ j = omega (arith, lt) in
    λ p. get_or (blocks (block p)) (place p) 0

-- what shows the bytes of a block of entries is that block
pub block_shown : (blocks : LogicalBlocks) (k : ℕ) (out : List ℕ) → AreEntries (blocks k) → length out ≡ 4096 → ShowsBytes blocks (4096 * k) out → out ≡ blocks k
block_shown blocks k out are long shows =
    let whole : length (blocks k) ≡ 4096 = (listed_now (blocks k) are).long in
    ext_get_or 0 out (blocks k) (long ∙ sym whole) (λ j lt. shows j lt ∙ byte_in blocks k j (omega (arith, lt, long)))

-- ---- one entry more

module _ (entry : ℕ → Entry) (n : ℕ) (v : EntryList) (next : AreNext entry n v) (k : ℕ) (lt : k < length v.entries) where
  below : AreDistinct entry (n + k)
  below i j li lj same = next.distinct i j (omega (arith, li, lt)) (omega (arith, lj, lt)) same

  entered : IsEntered (n + k) (entry (n + k)) (n + k) entry (n + k + 1) entry
  entered = record {
    at_name = inr (refl, (λ i li same. absurd (let is = next.distinct i (n + k) (omega (arith, li, lt)) (omega (arith, lt)) same in omega (arith, is, li))), refl);
    there = refl;
    others = λ i li other. refl;
  }

  pub next_entry : (x : DirEntry) → slice_get v.entries k ≡ Some x → named_entries entry (n + (k + 1)) ≡ fin.insert (named_entries entry (n + k)) x.name (x.inode, x.kind)
  next_entry x is =
      let here : entry (n + k) ≡ plain x = next.each k lt ∙ ap plain (get_or_from_slice_get v.entries k x no_entry is) in
      let more : n + (k + 1) ≡ n + k + 1 = omega arith in
      ap (named_entries entry) more
      ∙ named_entered (n + k) entry (n + k) below (entry (n + k)) (n + k + 1) entry entered
      ∙ ap (λ (e : Entry). fin.insert (named_entries entry (n + k)) e.0 e.1) here

-- ---- the entries of a block behind those before it

module _ (owner n : ℕ) (blocks : LogicalBlocks) (is : AreDirectoryBlocks owner n blocks) (k : ℕ) (lt : k < blocks_for n) where
  some : 56 * k < n
  some = omega (arith, lt)

  count : length (block_entries (blocks k)).entries ≡ entries_in n k
  count = (is.parts k lt).count_is

  each : (j : ℕ) → j < length (block_entries (blocks k)).entries → entry_at blocks (56 * k + j) ≡ plain (entry_of (block_entries (blocks k)) j)
  each j lt' =
      let few : j < 56 = omega (arith, lt', count) in
      let block : (56 * k + j) / 56 ≡ k = omega (arith, few) in
      let place : (56 * k + j) % 56 ≡ j = omega (arith, few) in
      entry_is blocks (56 * k + j) (block_entries (blocks k)) (ap (λ b. block_entries (blocks b)) block) ∙ ap (λ i. plain (entry_of (block_entries (blocks k)) i)) place

  pub next_block : AreNext (entry_at blocks) (56 * k) (block_entries (blocks k))
  next_block = record { each = each; distinct = λ i j li lj same. is.distinct i j (omega (arith, li, count, some)) (omega (arith, lj, count, some)) same }

  pub so_far : min n (56 * k) ≡ 56 * k
  so_far = omega (arith, some)

  pub and_more : 56 * k + length (block_entries (blocks k)).entries ≡ min n (56 * (k + 1))
  and_more = omega (arith, some, count)

-- ---- what stands at an inode

module _ (g : Sizes) (s : Store) (i : ℕ) where
  view_by : (x : Slot) → slot_read g s i ≡ Some x → view_at (graph g s) i ≡ option_map view_of_node (node_of (inode_of x (logical_block g s i)))
  view_by x read = ap (λ (x : Slot). option_map view_of_node (node_of (inode_of x (logical_block g s i)))) (slot_as g s i x read)

  pub file_view : (names size touch fast block slow : ℕ) → slot_read g s i ≡ Some (slots.File names size touch fast block slow) → Some (FileView names size) ≡ view_at (graph g s) i
  file_view names size touch fast block slow read =
      sym (view_by (slots.File names size touch fast block slow) read ∙ ap (λ n. Some (FileView names n)) (length-map-range_with_len (byte_of (logical_block g s i)) 0 size))

  pub no_view : is_inode i ≡ false → None ≡ view_at (graph g s) i
  no_view none = sym (ap (λ (x : Slot). option_map view_of_node (node_of (inode_of x (logical_block g s i)))) (no_slot g s i none))

  pub no_directory : is_inode i ≡ false → None ≡ directory_in (graph g s i)
  no_directory none = sym (ap (λ (x : Slot). directory_in (node_of (inode_of x (logical_block g s i)))) (no_slot g s i none))

-- ---- its numbers

same_counts : (names m n : ℕ) → m ≡ n → ◌≡◌ {A = Option NodeCounts} (Some (counts.Directory names n)) (Some (counts.Directory names m))
same_counts names m n is = ap (λ (k : ℕ). Some (counts.Directory names k)) (sym is)

counts_by : (i : ℕ) (x : Slot) (blocks : LogicalBlocks) → IsConsistent i (inode_of x blocks) → slot_counts x ≡ option_map counts_of (option_map view_of_node (node_of (inode_of x blocks)))
counts_by i slots.Free blocks is = refl
counts_by i (slots.File names size touch fast block slow) blocks is = ap (λ (n : ℕ). Some (counts.File names n)) (sym (length-map-range_with_len (byte_of blocks) 0 size))
counts_by i (slots.Directory names entries touch root) blocks is = same_counts names (fin.len (named_entries (entry_at blocks) entries)) entries (len_named (entry_at blocks) entries is.distinct)

-- a slot has the numbers of the node that it tells of
pub counts_are : (g : Sizes) (s : Store) (i : ℕ) (x : Slot) → slot_read g s i ≡ Some x → SpellsInode g s i → slot_counts x ≡ option_map counts_of (view_at (graph g s) i)
counts_are g s i x read spells =
    counts_by i x (logical_block g s i) (subst (λ (y : Slot). IsConsistent i (inode_of y (logical_block g s i))) (slot_as g s i x read) spells.consistent)
    ∙ sym (ap (option_map counts_of) (view_by g s i x read))
