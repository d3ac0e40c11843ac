-- The blocks of a directory, as the last entry takes the place of another.
use Rattle.std.proofs.Common.{◌≡◌, ◌≢◌, ◌⊎◌, inl, inr, ℕ, ◌+◌, ◌-◌, ◌*◌, ◌/◌, ◌%◌, ◌≤◌, ◌<◌, List, length, true, refl, sym, ◌∙◌, ap, subst, arith}
use Rattle.std.proofs.lemmas.Bool.{cases_eq}
use Rattle.std.proofs.lemmas.List.{length-set, length-take}
use Rattle.layout.specs.declared.directory.DirEntry.{DirEntry}
use Rattle.layout.specs.Directory.{EntryList, AreEntries, block_entries, entry_of, are_distinct, with_entry_at, without_entry, without_last}
use Rattle.tree_blocks.specs.Inode.{LogicalBlocks, plain, entry_at, entries_in, blocks_for, IsDirectoryBlock, AreDirectoryBlocks}
use Rattle.tree_blocks.specs.After.{IsTakenOut}
use Rattle.tree_blocks.specs.Directory.{HaveOneLess}
use Rattle.tree_blocks.proofs.Alike.{entries_same}
use Rattle.tree_blocks.proofs.Distinct.{distinct_names}
use Rattle.tree_blocks.proofs.Entering.{distinct_left}
use Rattle.tree_blocks.proofs.Held.{same_block, entry_is, set_same, set_other, less_same, taken_there, taken_other, part_stays}

length_less : (v : EntryList) → length (without_last v).entries ≡ length v.entries - 1
length_less v = omega (arith, length-take (length v.entries - 1) v.entries)

length_taken : (v : EntryList) (i : ℕ) → length (without_entry v i).entries ≡ length v.entries - 1
length_taken v i = omega (arith, length-take (length v.entries - 1) (with_entry_at v i (entry_of v (length v.entries - 1))).entries, length-set v.entries i (entry_of v (length v.entries - 1)))

module _ (owner last : ℕ) (b : LogicalBlocks) (is : AreDirectoryBlocks owner (last + 1) b) where
  -- what stands in the block of the last entry
  abbrev pub own : EntryList
  own = block_entries (b (last / 56))

  -- the block of the last entry ends with it
  pub last_part : IsDirectoryBlock owner (last + 1) (last / 56) (b (last / 56))
  last_part = is.parts (last / 56) (omega arith)

  pub last_long : length (block_entries (b (last / 56))).entries ≡ last % 56 + 1
  last_long = let n = last_part.count_is in omega (arith, n)

  last_is : (i : ℕ) → i ≡ last % 56 → entry_at b last ≡ plain (entry_of (block_entries (b (last / 56))) i)
  last_is i same = entry_is b last (block_entries (b (last / 56))) refl ∙ ap (λ j. plain (entry_of (block_entries (b (last / 56))) j)) (sym same)

  -- the blocks before it are full
  full_stays : (k : ℕ) (c : List ℕ) → k < last / 56 → c ≡ b k → IsDirectoryBlock owner last k c
  full_stays k c low same = part_stays owner (last + 1) last k (b k) c same (omega (arith, low)) (is.parts k (omega (arith, low)))

  -- ---- within one block

  module _ (c : LogicalBlocks) (place : ℕ) (le : place ≤ last) (here : place / 56 ≡ last / 56) (others : (k : ℕ) → k ≢ last / 56 → c k ≡ b k) (entries : AreEntries (c (last / 56)))
      (now : block_entries (c (last / 56)) ≡ without_entry (block_entries (b (last / 56))) (place % 56)) where
    taken_within : IsTakenOut place (last + 1) (entry_at b) last (entry_at c)
    taken_within = record {
      inside = omega (arith, le);
      count = omega arith;
      moved = λ low.
          let before : place % 56 < length own.entries - 1 = omega (arith, last_long, here, le, low) in
          let end : length own.entries - 1 ≡ last % 56 = omega (arith, last_long) in
          let final : last ≡ last + 1 - 1 = omega arith in
          entry_is c place (without_entry own (place % 56)) (ap (λ k. block_entries (c k)) here ∙ now) ∙ ap plain (taken_there own (place % 56) before) ∙ sym (last_is (length own.entries - 1) end) ∙ ap (entry_at b) final;
      others = λ e low off. beside e (omega (arith, low)) off (cases_eq (e / 56) (last / 56));
    } where
      beside : (e : ℕ) → e < last → e ≢ place → (e / 56 ≡ last / 56) ⊎ (e / 56 ≢ last / 56) → entry_at c e ≡ entry_at b e
      beside e low off (inr away) = same_block b c e (others (e / 56) away)
      beside e low off (inl at) =
          let before : e % 56 < length own.entries - 1 = omega (arith, last_long, at, low) in
          entry_is c e (without_entry own (place % 56)) (ap (λ k. block_entries (c k)) at ∙ now)
          ∙ ap plain (taken_other own (place % 56) (e % 56) (λ same. off (omega (arith, same, at, here))) before)
          ∙ sym (entry_is b e own (ap (λ k. block_entries (b k)) at))

    parts_within : (k : ℕ) → k < blocks_for last → IsDirectoryBlock owner last k (c k)
    parts_within k low = elim (cases_eq k (last / 56)) [
      | inl at ↦
          let count : length own.entries - 1 ≡ entries_in last (last / 56) = omega (arith, last_long) in
          subst (λ j. IsDirectoryBlock owner last j (c j)) (sym at) (record {
            entries = entries;
            owner_is = ap (λ v. v.owner) now ∙ last_part.owner_is;
            count_is = ap (λ v. length v.entries) now ∙ length_taken own (place % 56) ∙ count;
          })
      | inr off ↦ full_stays k (c k) (omega (arith, low, off)) (others k off)
    ]

    pub less_within : HaveOneLess owner last place b c
    less_within = record { directory = record { parts = parts_within; distinct = distinct_left place (entry_at b) (last + 1) is.distinct last (entry_at c) taken_within }; taken = taken_within }

  -- ---- from one block into another

  module _ (place : ℕ) (before : place / 56 < last / 56) where
    abbrev pub target : EntryList
    target = block_entries (b (place / 56))

    abbrev pub moved : DirEntry
    moved = entry_of own (length own.entries - 1)

    moved_is : entry_at b last ≡ plain moved
    moved_is = last_is (length own.entries - 1) (omega (arith, last_long))

    target_part : IsDirectoryBlock owner (last + 1) (place / 56) (b (place / 56))
    target_part = is.parts (place / 56) (omega (arith, before))

    pub target_long : length target.entries ≡ 56
    target_long = let n = target_part.count_is in omega (arith, n, before)

    -- where an entry of the new block stood
    record Source (i : ℕ) : Type 0 where
      was : ℕ
      below : was < last + 1
      name : (entry_of (with_entry_at target (place % 56) moved) i).name ≡ (entry_at b was).0
      at : ((i ≡ place % 56) × (was ≡ last)) ⊎ ((i ≢ place % 56) × (was ≡ 56 * (place / 56) + i))

    source : (i : ℕ) → i < 56 → Source i
    source i low = elim (cases_eq i (place % 56)) [
      | inl here ↦ record {
        was = last;
        below = omega arith;
        name = ap (λ j. (entry_of (with_entry_at target (place % 56) moved) j).name) here ∙ ap (λ e. e.name) (set_same target (place % 56) moved (omega (arith, target_long))) ∙ ap (λ e. e.0) (sym moved_is);
        at = inl (here, refl);
      }
      | inr off ↦
          let number : ℕ = 56 * (place / 56) + i in
          let block : number / 56 ≡ place / 56 = omega (arith, low) in
          let index : number % 56 ≡ i = omega (arith, low) in
          record {
            was = number;
            below = omega (arith, low, before);
            name = ap (λ e. e.name) (set_other target (place % 56) i moved off)
                ∙ sym (ap (λ e. e.0) (entry_is b number target (ap (λ k. block_entries (b k)) block)) ∙ ap (λ j. (entry_of target j).name) index);
            at = inr (off, refl);
          }
    ]

    pub distinct_target : are_distinct (with_entry_at target (place % 56) moved).entries ≡ true
    distinct_target = distinct_names (with_entry_at target (place % 56) moved).entries (λ i j li lj same.
        let long = length-set target.entries (place % 56) moved in
        by i j (source i (omega (arith, li, long, target_long))) (source j (omega (arith, lj, long, target_long))) (omega (arith, li, long, target_long)) (omega (arith, lj, long, target_long)) same) where
          by : (i j : ℕ) → Source i → Source j → i < 56 → j < 56 → (entry_of (with_entry_at target (place % 56) moved) i).name ≡ (entry_of (with_entry_at target (place % 56) moved) j).name → i ≡ j
          by i j s t li lj same =
              let one : s.was ≡ t.was = is.distinct s.was t.was s.below t.below (sym s.name ∙ same ∙ t.name) in
              elim (s.at) [
                | inl a ↦ elim (t.at) [ inl x ↦ a.0 ∙ sym x.0 | inr x ↦ absurd (omega (arith, one, a.1, x.1, before, lj)) ]
                | inr a ↦ elim (t.at) [ inl x ↦ absurd (omega (arith, one, a.1, x.1, before, li)) | inr x ↦ omega (arith, one, a.1, x.1) ]
              ]

    module _ (c : LogicalBlocks) (others : (k : ℕ) → k ≢ place / 56 → k ≢ last / 56 → c k ≡ b k) (entries : AreEntries (c (place / 56))) (left : AreEntries (c (last / 56)))
        (now : block_entries (c (place / 56)) ≡ with_entry_at target (place % 56) moved) (less : block_entries (c (last / 56)) ≡ without_last own) where
      taken_across : IsTakenOut place (last + 1) (entry_at b) last (entry_at c)
      taken_across = record {
        inside = omega (arith, before);
        count = omega arith;
        moved = λ low.
            let final : last ≡ last + 1 - 1 = omega arith in
            entry_is c place (with_entry_at target (place % 56) moved) now ∙ ap plain (set_same target (place % 56) moved (omega (arith, target_long))) ∙ sym moved_is ∙ ap (entry_at b) final;
        others = λ e low off. beside e (omega (arith, low)) off (cases_eq (e / 56) (last / 56)) (cases_eq (e / 56) (place / 56));
      } where
        beside : (e : ℕ) → e < last → e ≢ place → (e / 56 ≡ last / 56) ⊎ (e / 56 ≢ last / 56) → (e / 56 ≡ place / 56) ⊎ (e / 56 ≢ place / 56) → entry_at c e ≡ entry_at b e
        beside e low off (inl at) any =
            entry_is c e (without_last own) (ap (λ k. block_entries (c k)) at ∙ less)
            ∙ ap plain (less_same own (e % 56) (omega (arith, last_long, at, low)))
            ∙ sym (entry_is b e own (ap (λ k. block_entries (b k)) at))
        beside e low off (inr away) (inl at) =
            entry_is c e (with_entry_at target (place % 56) moved) (ap (λ k. block_entries (c k)) at ∙ now)
            ∙ ap plain (set_other target (place % 56) (e % 56) moved (λ same. off (omega (arith, same, at))))
            ∙ sym (entry_is b e target (ap (λ k. block_entries (b k)) at))
        beside e low off (inr away) (inr apart) = same_block b c e (others (e / 56) apart away)

      parts_across : (k : ℕ) → k < blocks_for last → IsDirectoryBlock owner last k (c k)
      parts_across k low = by (cases_eq k (last / 56)) (cases_eq k (place / 56)) where
        by : (k ≡ last / 56) ⊎ (k ≢ last / 56) → (k ≡ place / 56) ⊎ (k ≢ place / 56) → IsDirectoryBlock owner last k (c k)
        by (inl at) any =
            let count : length own.entries - 1 ≡ entries_in last (last / 56) = omega (arith, last_long) in
            subst (λ j. IsDirectoryBlock owner last j (c j)) (sym at) (record {
              entries = left;
              owner_is = ap (λ v. v.owner) less ∙ last_part.owner_is;
              count_is = ap (λ v. length v.entries) less ∙ length_less own ∙ count;
            })
        by (inr off) (inl at) =
            let count : 56 ≡ entries_in last (place / 56) = omega (arith, before) in
            subst (λ j. IsDirectoryBlock owner last j (c j)) (sym at) (record {
              entries = entries;
              owner_is = ap (λ v. v.owner) now ∙ target_part.owner_is;
              count_is = ap (λ v. length v.entries) now ∙ length-set target.entries (place % 56) moved ∙ target_long ∙ count;
            })
        by (inr off) (inr apart) = full_stays k (c k) (omega (arith, low, off)) (others k apart off)

      pub less_across : HaveOneLess owner last place b c
      less_across = record { directory = record { parts = parts_across; distinct = distinct_left place (entry_at b) (last + 1) is.distinct last (entry_at c) taken_across }; taken = taken_across }

-- only the blocks count that have entries
pub less_cut : (owner last place : ℕ) (b c d : LogicalBlocks) → HaveOneLess owner last place b c → ((k : ℕ) → k < blocks_for last → d k ≡ c k) → HaveOneLess owner last place b d
less_cut owner last place b c d less same = record {
  directory = record {
    parts = λ k lt. subst (IsDirectoryBlock owner last k) (sym (same k lt)) (less.directory.parts k lt);
    distinct = λ i j li lj e.
        less.directory.distinct i j li lj (ap (λ x. x.0) (sym (entries_same last c d same i li)) ∙ e ∙ ap (λ x. x.0) (entries_same last c d same j lj));
  };
  taken = record {
    inside = less.taken.inside;
    count = less.taken.count;
    moved = λ low. entries_same last c d same place (omega (arith, low)) ∙ less.taken.moved low;
    others = λ e low off. entries_same last c d same e (omega (arith, low)) ∙ less.taken.others e low off;
  };
}
