-- The entries of a directory, as the entries of one block or two change.
use Rattle.std.proofs.Common.{◌≡◌, ◌≢◌, inl, inr, ℕ, ◌+◌, ◌-◌, ◌/◌, ◌%◌, ◌<◌, List, [], ◌∷◌, ◌++◌, length, refl, sym, ◌∙◌, ap, subst, arith}
use Rattle.std.proofs.lemmas.Bool.{cases_eq}
use Rattle.std.proofs.lemmas.List.{get_or-set_same, get_or-set_other, length-set, length-append, get_or-take, get_or_append_left, get_or_push}
use Rattle.layout.specs.declared.directory.DirEntry.{DirEntry}
use Rattle.layout.specs.Directory.{EntryList, AreEntries, block_entries, no_entry, entry_of, with_entry_at, with_last, without_entry, without_last}
use Rattle.tree_blocks.specs.Inode.{LogicalBlocks, plain, entry_at, entries_in, blocks_for, IsAbsent, IsDirectoryBlock, AreDirectoryBlocks}
use Rattle.tree_blocks.specs.After.{IsEntered}

-- an entry by the list of its block
pub entry_is : (b : LogicalBlocks) (e : ℕ) (v : EntryList) → block_entries (b (e / 56)) ≡ v → entry_at b e ≡ plain (entry_of v (e % 56))
unfolding entry_at
entry_is b e v is = ap (λ l. plain (entry_of l (e % 56))) is

-- the same block leaves the same entries
pub same_block : (b c : LogicalBlocks) (e : ℕ) → c (e / 56) ≡ b (e / 56) → entry_at c e ≡ entry_at b e
unfolding entry_at
same_block b c e same = ap (λ l. plain (entry_of (block_entries l) (e % 56))) same

-- one block lists others than it did
module _ (b c : LogicalBlocks) (place : ℕ) (v : EntryList) (others : (k : ℕ) → k ≢ place / 56 → c k ≡ b k) (is : block_entries (c (place / 56)) ≡ v) where
  pub entry_there : entry_at c place ≡ plain (entry_of v (place % 56))
  unfolding entry_at
  entry_there = ap (λ l. plain (entry_of l (place % 56))) is

  -- an entry beside it that the lists have in common
  pub entry_beside : (e : ℕ) → (e / 56 ≡ place / 56 → entry_of v (e % 56) ≡ entry_of (block_entries (b (place / 56))) (e % 56)) → entry_at c e ≡ entry_at b e
  unfolding entry_at
  entry_beside e same = elim (cases_eq (e / 56) (place / 56)) [
    | inl at ↦
        ap (λ k. plain (entry_of (block_entries (c k)) (e % 56))) at ∙ ap (λ l. plain (entry_of l (e % 56))) is ∙ ap plain (same at)
        ∙ ap (λ k. plain (entry_of (block_entries (b k)) (e % 56))) (sym at)
    | inr off ↦ same_block b c e (others (e / 56) off)
  ]

-- ---- one entry for another

pub set_same : (v : EntryList) (i : ℕ) (x : DirEntry) → i < length v.entries → entry_of (with_entry_at v i x) i ≡ x
set_same v i x lt = get_or-set_same v.entries i x no_entry lt

pub set_other : (v : EntryList) (i j : ℕ) (x : DirEntry) → j ≢ i → entry_of (with_entry_at v i x) j ≡ entry_of v j
set_other v i j x off = get_or-set_other v.entries i j x no_entry off

module _ (b c : LogicalBlocks) (place : ℕ) (x : DirEntry) (others : (k : ℕ) → k ≢ place / 56 → c k ≡ b k) (is : block_entries (c (place / 56)) ≡ with_entry_at (block_entries (b (place / 56))) (place % 56) x)
    (inside : place % 56 < length (block_entries (b (place / 56))).entries) where
  pub set_there : entry_at c place ≡ plain x
  set_there = entry_there b c place (with_entry_at (block_entries (b (place / 56))) (place % 56) x) others is ∙ ap plain (set_same (block_entries (b (place / 56))) (place % 56) x inside)

  pub set_beside : (e : ℕ) → e ≢ place → entry_at c e ≡ entry_at b e
  set_beside e off =
      entry_beside b c place (with_entry_at (block_entries (b (place / 56))) (place % 56) x) others is e (λ at. set_other (block_entries (b (place / 56))) (place % 56) (e % 56) x (λ same. off (omega (arith, at, same))))

-- ---- one entry more, behind the last

module _ (b c : LogicalBlocks) (n : ℕ) (v : EntryList) (x : DirEntry) (others : (k : ℕ) → k ≢ n / 56 → c k ≡ b k) (is : block_entries (c (n / 56)) ≡ with_last v x)
    (long : length v.entries ≡ n % 56) (before : (i : ℕ) → i < n % 56 → entry_of v i ≡ entry_of (block_entries (b (n / 56))) i) where
  pub last_there : entry_at c n ≡ plain x
  last_there = entry_there b c n (with_last v x) others is ∙ ap plain (get_or_push v.entries x no_entry (n % 56) long)

  pub last_beside : (e : ℕ) → e < n → entry_at c e ≡ entry_at b e
  last_beside e lt = entry_beside b c n (with_last v x) others is e (λ at.
      let low : e % 56 < n % 56 = omega (arith, at, lt) in
      get_or_append_left v.entries (x ∷ []) no_entry (e % 56) (omega (arith, long, low)) ∙ before (e % 56) low)

-- ---- the last entry takes the place of another

pub less_same : (v : EntryList) (j : ℕ) → j < length v.entries - 1 → entry_of (without_last v) j ≡ entry_of v j
less_same v j lt = get_or-take (length v.entries - 1) v.entries j no_entry lt

pub taken_there : (v : EntryList) (i : ℕ) → i < length v.entries - 1 → entry_of (without_entry v i) i ≡ entry_of v (length v.entries - 1)
taken_there v i lt =
    get_or-take (length v.entries - 1) _ i no_entry lt ∙ get_or-set_same v.entries i (entry_of v (length v.entries - 1)) no_entry (omega (arith, lt))

pub taken_other : (v : EntryList) (i j : ℕ) → j ≢ i → j < length v.entries - 1 → entry_of (without_entry v i) j ≡ entry_of v j
taken_other v i j off lt = get_or-take (length v.entries - 1) _ j no_entry lt ∙ get_or-set_other v.entries i j (entry_of v (length v.entries - 1)) no_entry off

-- ---- the blocks of a directory

-- a part of a directory stays one where it has as many entries as before
pub part_stays : (owner n m k : ℕ) (b c : List ℕ) → c ≡ b → entries_in n k ≡ entries_in m k → IsDirectoryBlock owner n k b → IsDirectoryBlock owner m k c
part_stays owner n m k b c same count part = subst (IsDirectoryBlock owner m k) (sym same) (record { entries = part.entries; owner_is = part.owner_is; count_is = part.count_is ∙ count })

module _ (owner n : ℕ) (b : LogicalBlocks) (is : AreDirectoryBlocks owner n b) where
  -- the part in which an entry stands
  pub part_of : (e : ℕ) → e < n → IsDirectoryBlock owner n (e / 56) (b (e / 56))
  part_of e lt = is.parts (e / 56) (omega (arith, lt))

  pub within_part : (e : ℕ) → e < n → e % 56 < length (block_entries (b (e / 56))).entries
  within_part e lt = let p = (part_of e lt).count_is in omega (arith, lt, p)

  -- ---- an entry leads elsewhere

  module _ (c : LogicalBlocks) (place : ℕ) (lt : place < n) (x : DirEntry) (others : (k : ℕ) → k ≢ place / 56 → c k ≡ b k) (entries : AreEntries (c (place / 56)))
      (now : block_entries (c (place / 56)) ≡ with_entry_at (block_entries (b (place / 56))) (place % 56) x) where
    pub is_set : (name : List ℕ) → (entry_at b place).0 ≡ name → x.name ≡ name → IsEntered place (name, (x.inode, x.kind)) n (entry_at b) n (entry_at c)
    is_set name old new = record {
      at_name = inl (lt, old, refl);
      there = set_there b c place x others now (within_part place lt) ∙ ap (λ s. (s, (x.inode, x.kind))) new;
      others = λ e below off. set_beside b c place x others now (within_part place lt) e off;
    }

    pub parts_set : (k : ℕ) → k < blocks_for n → IsDirectoryBlock owner n k (c k)
    parts_set k low = elim (cases_eq k (place / 56)) [
      | inl here ↦
          let part = part_of place lt in
          subst (λ j. IsDirectoryBlock owner n j (c j)) (sym here) (record {
            entries = entries;
            owner_is = ap (λ v. v.owner) now ∙ part.owner_is;
            count_is = ap (λ v. length v.entries) now ∙ length-set (block_entries (b (place / 56))).entries (place % 56) x ∙ part.count_is;
          })
      | inr off ↦ part_stays owner n n k (b k) (c k) (others k off) refl (is.parts k low)
    ]

  -- ---- one entry more

  module _ (c : LogicalBlocks) (v : EntryList) (x : DirEntry) (others : (k : ℕ) → k ≢ n / 56 → c k ≡ b k) (entries : AreEntries (c (n / 56))) (now : block_entries (c (n / 56)) ≡ with_last v x)
      (long : length v.entries ≡ n % 56) (by : v.owner ≡ owner) where
    pub parts_more : (k : ℕ) → k < blocks_for (n + 1) → IsDirectoryBlock owner (n + 1) k (c k)
    parts_more k low = elim (cases_eq k (n / 56)) [
      | inl here ↦ subst (λ j. IsDirectoryBlock owner (n + 1) j (c j)) (sym here) (record {
        entries = entries;
        owner_is = ap (λ l. l.owner) now ∙ by;
        count_is =
            let one : length (v.entries ++ x ∷ []) ≡ n % 56 + 1 = omega (arith, length-append v.entries (x ∷ []), long) in
            let all : n % 56 + 1 ≡ entries_in (n + 1) (n / 56) = omega arith in
            ap (λ l. length l.entries) now ∙ one ∙ all;
      })
      | inr off ↦
          let full : entries_in n k ≡ entries_in (n + 1) k = omega (arith, low, off) in
          part_stays owner n (n + 1) k (b k) (c k) (others k off) full (is.parts k (omega (arith, low, off)))
    ]

    pub is_more : ((i : ℕ) → i < n % 56 → entry_of v i ≡ entry_of (block_entries (b (n / 56))) i) → IsAbsent x.name (entry_at b) n → IsEntered n (plain x) n (entry_at b) (n + 1) (entry_at c)
    is_more before absent = record {
      at_name = inr (refl, absent, refl);
      there = last_there b c n v x others now long before;
      others = λ e below off. last_beside b c n v x others now long before e below;
    }
