-- The directories of media that can be opened lead to inodes.
use Rattle.std.proofs.Common.{◌≡◌, inl, inr, ℕ, ◌<◌, ◌/◌, ◌%◌, List, true, false, Option, sym, subst, arith}
use Rattle.std.specs.Prelude.{IfSome}
use Rattle.std.specs.FinMap as fin
use Rattle.std.specs.List.{list_all}
use Rattle.std.specs.Ordering.{nat_cmp}
use Rattle.std.specs.Cmp.Lexicographic.{slice_cmp}
use Rattle.std.proofs.lemmas.Bool.{cases_Bool, and_parts}
use Rattle.posix_calls.specs.Name.{is_name}
use Rattle.record_validation.specs.file_graph.Graph.{Node, node_entries, child_at}
use Rattle.record_validation.specs.file_graph.declared.effect.Kind.{Kind}
use Rattle.area_reader.specs.layout.Places.{Sizes, is_inode}
use Rattle.area_reader.specs.layout.declared.directory.DirEntry.{DirEntry}
use Rattle.area_reader.specs.layout.declared.slot.Slot.{Slot}
use Rattle.area_reader.specs.layout.declared.slot.Slot.TheVariants as slots
use Rattle.area_reader.specs.layout.Directory.{EntryList, block_entries, no_entry, entry_of, fits_entry, are_distinct}
use Rattle.area_reader.proofs.layout_lemmas.Pairs.{all_at}
use Rattle.area_reader.specs.tree_blocks.Inode.{LogicalBlocks, entry_at, named_entries, node_of, inode_of, IsConsistent, IsDirectoryBlock, AreDirectoryBlocks}
use Rattle.area_reader.proofs.tree_blocks_lemmas.Directories.{get_there, get_missing, place_of}
use Rattle.area_reader.specs.Store.{Store, slot, logical_block, graph}
use Rattle.area_reader.specs.Format.{IsOpenable}
use Rattle.shared_area.proofs.Sound.{no_slot}

abbrev IsLed : Option (ℕ × Kind) → Type 0
IsLed o = IfSome o (λ child. is_inode child.0 ≡ true)

none_led : (name : List ℕ) → IsLed (fin.get {R = slice_cmp nat_cmp} fin.empty name)
none_led name = subst IsLed (sym (fin.get-empty (slice_cmp nat_cmp) name)) tt

-- ---- the entries of a directory

module _ (owner n : ℕ) (b : LogicalBlocks) (is : AreDirectoryBlocks owner n b) where
  entry_fits : (e : ℕ) → e < n → fits_entry (entry_of (block_entries (b (e / 56))) (e % 56)) ≡ true
  entry_fits e lt =
      let part : IsDirectoryBlock owner n (e / 56) (b (e / 56)) = is.parts (e / 56) (omega (arith, lt)) in
      let count = part.count_is in
      let v : EntryList = block_entries (b (e / 56)) in
      let p = and_parts _ (are_distinct v.entries) part.entries.fit in
      let q = and_parts _ (list_all fits_entry v.entries) p.0 in
      all_at fits_entry v.entries (e % 56) no_entry q.1 (omega (arith, lt, count))

  number_at : (e : ℕ) → e < n → is_inode (entry_at b e).1.0 ≡ true
  unfolding entry_at
  number_at e lt = let x : DirEntry = entry_of (block_entries (b (e / 56))) (e % 56) in (and_parts (is_inode x.inode) (is_name x.name) (entry_fits e lt)).0

  entries_lead : (name : List ℕ) → IsLed (fin.get (named_entries (entry_at b) n) name)
  entries_lead name = elim (place_of (entry_at b) n name) [
    | inl at ↦ subst IsLed (sym (get_there (entry_at b) n at.0 name is.distinct at.1 at.2)) (number_at at.0 at.1)
    | inr none ↦ subst IsLed (sym (get_missing (entry_at b) n name none)) tt
  ]

-- ---- one inode

abbrev Leads : Option Node → Type 0
Leads o = (name : List ℕ) → IsLed (fin.get (node_entries o) name)

node_leads : (i : ℕ) (x : Slot) (b : LogicalBlocks) → IsConsistent i (inode_of x b) → Leads (node_of (inode_of x b))
node_leads i slots.Free b consistent = none_led
node_leads i (slots.File names size touch fast block slow) b consistent = none_led
node_leads i (slots.Directory names entries touch root) b consistent = entries_lead i entries b consistent

pub names_lead : (g : Sizes) (s : Store) → IsOpenable g s → (d : ℕ) (name : List ℕ) → IfSome (child_at (graph g s) d name) (λ child. is_inode child.0 ≡ true)
names_lead g s opens d = elim (cases_Bool (is_inode d)) [
  | inl is ↦ node_leads d (slot g s d) (logical_block g s d) (opens.spelled.inodes d is).consistent
  | inr other ↦ subst (λ (x : Slot). Leads (node_of (inode_of x (logical_block g s d)))) (sym (no_slot g s d other)) none_led
]
