-- What the slots and the blocks of an inode spell is within the limits.
use Rattle.std.proofs.Common.{◌≡◌, inl, inr, ℕ, ◌≤◌, ◌<◌, ◌/◌, ◌%◌, ◌^◌, List, true, false, Some, None, refl, sym, ap, subst, ◌∙◌, arith}
use Rattle.std.specs.Prelude.{nat_le, nat_lt, unwrap_or}
use Rattle.std.specs.FinMap as fin
use Rattle.std.specs.List.{list_all}
use Rattle.std.proofs.lemmas.Bool.{cases_Bool, cond-false, and_parts, leb-true}
use Rattle.posix_calls.specs.Name.{is_name}
use Rattle.posix_calls.specs.declared.limits.TheConstants.{MAX_FILE}
use Rattle.layout.specs.file_graph.declared.effect.Kind.{Kind}
use Rattle.layout.specs.Places.{Sizes, is_inode}
use Rattle.layout.specs.Slot.{slot_of, fits_slot, is_root_block, roots_apart}
use Rattle.layout.specs.declared.slot.Slot.{Slot}
use Rattle.layout.specs.declared.slot.Slot.TheVariants as slots
use Rattle.layout.specs.declared.directory.DirEntry.{DirEntry}
use Rattle.layout.specs.Directory.{EntryList, block_entries, no_entry, entry_of, fits_entry, are_distinct}
use Rattle.layout.proofs.Pairs.{all_at}
use Rattle.digester.specs.tree_blocks.Inode.{LogicalBlocks, Entry, entry_at, named_entries, node_of, inode_of, IsConsistent, IsDirectoryBlock, AreDirectoryBlocks}
use Rattle.digester.proofs.tree_blocks_lemmas.Directories.{get_there, get_missing, len_named, place_of}
use Rattle.digester.proofs.tree_blocks_lemmas.Files.{length_file}
use Rattle.digester.specs.area_reader.Store.{Store, slot_bytes, slot_read, slot, logical_block, graph}
use Rattle.digester.specs.area_reader.Format.{IsOpenable}
use Rattle.digester.proofs.area_reader_lemmas.Lists.{slot_here_fits}
use Rattle.world_invariant.specs.Limits.{AreEntriesWithin, IsWithin, AreWithin}

-- ---- numbers

record IsNumber (i : ℕ) : Type 0 where
  low : 1 ≤ i
  high : i ≤ 1024

number_is : (i : ℕ) → is_inode i ≡ true → IsNumber i
number_is i is =
    let p = and_parts (nat_le 1 i) (nat_le i 1024) is in
    record { low = leb-true 1 i p.0; high = leb-true i 1024 p.1 }

-- ---- the entries of a directory

module _ (owner n : ℕ) (b : LogicalBlocks) (is : AreDirectoryBlocks owner n b) where
  entry_fits : (e : ℕ) → e < n → fits_entry (entry_of (block_entries (b (e / 56))) (e % 56)) ≡ true
  entry_fits e lt =
      let part : IsDirectoryBlock owner n (e / 56) (b (e / 56)) = is.parts (e / 56) (omega (arith, lt)) in
      let count = part.count_is in
      let v : EntryList = block_entries (b (e / 56)) in
      let p = and_parts _ (are_distinct v.entries) part.entries.fit in
      let q = and_parts _ (list_all fits_entry v.entries) p.0 in
      all_at fits_entry v.entries (e % 56) no_entry q.1 (omega (arith, lt, count))

  -- what stands at a place, by its name and its inode number
  record Fits (x : Entry) : Type 0 where
    name : is_name x.0 ≡ true
    number : is_inode x.1.0 ≡ true

  fits_at : (e : ℕ) → e < n → Fits (entry_at b e)
  unfolding entry_at
  fits_at e lt = let x : DirEntry = entry_of (block_entries (b (e / 56))) (e % 56) in let p = and_parts (is_inode x.inode) (is_name x.name) (entry_fits e lt) in record { name = p.1; number = p.0 }

  found : (name : List ℕ) (x : ℕ × Kind) → fin.get (named_entries (entry_at b) n) name ≡ Some x → Fits (name, x)
  found name x there = elim (place_of (entry_at b) n name) [
    | inl at ↦
        let same : (entry_at b at.0).1 ≡ x = (let e : Some (entry_at b at.0).1 ≡ Some x = sym (get_there (entry_at b) n at.0 name is.distinct at.1 at.2) ∙ there in cc) in
        subst (λ (k : List ℕ). Fits (k, x)) at.2 (subst (λ (y : ℕ × Kind). Fits ((entry_at b at.0).0, y)) same (fits_at at.0 at.1))
    | inr none ↦ absurd (let e : None ≡ Some x = sym (get_missing (entry_at b) n name none) ∙ there in cc)
  ]

  pub entries_within : n ≤ 3584 → AreEntriesWithin (named_entries (entry_at b) n)
  entries_within few = record {
    few = (let long = len_named (entry_at b) n is.distinct in omega (arith, long, few));
    valid = λ name x there. (found name x there).name;
    numbered = λ name x there. (let i = number_is x.0 (found name x there).number in (i.low, i.high));
  }

-- ---- one inode

module _ (g : Sizes) (s : Store) (i : ℕ) where
  node_within : is_inode i ≡ true → (x : Slot) → slot g s i ≡ x → fits_slot g x ≡ true → IsConsistent i (inode_of x (logical_block g s i)) → IsWithin i (node_of (inode_of x (logical_block g s i)))
  node_within number slots.Free is fits consistent = tt
  node_within number (slots.File names size touch fast block slow) is fits consistent =
      let p = and_parts (nat_lt touch (2 ^ 64)) _ fits in
      let a = and_parts _ (roots_apart block slow) p.1 in
      let b = and_parts _ (roots_apart fast slow) a.0 in
      let c = and_parts _ (roots_apart fast block) b.0 in
      let d = and_parts _ (is_root_block g slow) c.0 in
      let f = and_parts _ (is_root_block g block) d.0 in
      let h = and_parts _ (is_root_block g fast) f.0 in
      let q = and_parts (nat_le names 1000) (nat_le size MAX_FILE) h.0 in
      let most : size ≤ MAX_FILE = leb-true size MAX_FILE q.1 in
      let n = number_is i number in
      record { low = n.low; high = n.high; names = leb-true names 1000 q.0; body = (let long = length_file (logical_block g s i) size in omega (arith, long, most)) }
  node_within number (slots.Directory names entries touch root) is fits consistent =
      let p = and_parts (nat_lt touch (2 ^ 64)) _ fits in
      let a = and_parts _ (is_root_block g root) p.1 in
      let q = and_parts (nat_le names 1000) (nat_le entries 3584) a.0 in
      let n = number_is i number in
      record { low = n.low; high = n.high; names = leb-true names 1000 q.0; body = entries_within i entries (logical_block g s i) consistent (leb-true entries 3584 q.1) }

  none_other : is_inode i ≡ false → slot g s i ≡ slots.Free
  unfolding slot_read
  none_other other = ap (λ o. unwrap_or o slots.Free) (cond-false (is_inode i) (slot_of g (slot_bytes s i)) None other)

  inode_within : IsOpenable g s → IsWithin i (graph g s i)
  inode_within is = elim (cases_Bool (is_inode i)) [
    | inl number ↦ node_within number (slot g s i) refl (slot_here_fits g s i) (is.spelled.inodes i number).consistent
    | inr other ↦ subst (λ (x : Slot). IsWithin i (node_of (inode_of x (logical_block g s i)))) (sym (none_other other)) tt
  ]

pub area_within : (g : Sizes) (s : Store) → IsOpenable g s → AreWithin (graph g s)
area_within g s is i = inode_within g s i is
