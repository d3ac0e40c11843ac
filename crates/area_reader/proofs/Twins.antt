-- A directory, block by block.
use Rattle.std.proofs.Common.{◌≡◌, ◌≤◌, ◌<◌, ◌+◌, ◌*◌, ◌/◌, ◌%◌, ℕ, zero, suc, [], ◌∷◌, List, length, get_or, Bool, true, false, refl, sym, ap, subst, ◌∙◌, arith, Option, Some, None, inl, inr}
use Rattle.std.specs.Prelude.{◌⊎◌, ◌↔◌, Result, Ok, Err, min, not, IsSome, is_some, nat_lt, nat_le}
use Rattle.std.specs.List.{list_all}
use Rattle.std.specs.Str.{bytes_eq}
use Rattle.std.proofs.lemmas.Bool.{cases_eq, cases_lt, and_parts, or_right, le-leb, false≢true, true≢false}
use Rattle.std.proofs.lemmas.Slice.Eq.{bytes_eq-Decides}
use Rattle.tier_device.specs.declared.media.Tier.{Tier}
use Rattle.tier_device.specs.declared.media.Tier.TheVariants.{Fast, Block, Slow}
use Rattle.batch_journal.specs.file_graph.declared.effect.Kind.TheVariants as kind
use Rattle.batch_journal.specs.Blocks.{is_home}
use Rattle.batch_journal.proofs.layout_lemmas.Pairs.{all_at}
use Rattle.batch_journal.proofs.layout_lemmas.DirChanges.{fit_parts, listed_now}
use Rattle.batch_journal.proofs.layout_lemmas.DirPlaces.{names_differ}
use Rattle.batch_journal.specs.layout.Bytes.{all_pairs}
use Rattle.batch_journal.specs.layout.Directory.{EntryList, AreEntries, block_entries, entry_list_of, entry_of, no_entry, differ, are_distinct}
use Rattle.batch_journal.specs.layout.declared.directory.DirEntry.{DirEntry}
use Rattle.batch_journal.specs.layout.Answers.{or_damaged}
use Rattle.batch_journal.specs.layout.declared.error.LayoutError.{LayoutError}
use Rattle.batch_journal.specs.layout.declared.error.What.{What}
use Rattle.batch_journal.specs.layout.declared.error.What.TheVariants as what
use Rattle.batch_journal.specs.layout.Places.{Sizes, slot_block}
use Rattle.tree_blocks.specs.Inode.{LogicalBlocks, Entry, IsDirectoryBlock, AreDirectoryBlocks, AreDistinct, entry_at, entries_in, blocks_for}
use Rattle.tree_blocks.proofs.Held.{entry_is}
use Rattle.area_reader.specs.Store.{Store, extents_read, place, logical_block, inode}
use Rattle.area_reader.specs.Reads.{IsRoom}
use Rattle.area_reader.proofs.Damages.{at_fast, other_place}
use Rattle.area_reader.specs.Checks.{IsEntries, IsSlotDamageOf, IsEntryDamageOf, HasName, HasSameName, HasPart, AreFirstParts}
use Rattle.area_reader.specs.Names.{IsAmong, name_at, SharesName, AddsNames}

-- what is entries is read as such
pub entries_read : (block : List ℕ) → AreEntries block → entry_list_of block ≡ Some (block_entries block)
entries_read block are = names_differ block (listed_now block are) (fit_parts (block_entries block) are.fit).distinct

err_ok : (r : Result EntryList LayoutError) (e : LayoutError) (v : EntryList) → r ≡ Err e → r ≡ Ok v → ⊥
err_ok r e v err ok = cc

pub not_read : (w : What) (at : ℕ) (block : List ℕ) (e : LayoutError) → AreEntries block → Err e ≡ or_damaged w at (entry_list_of block) → ⊥
not_read w at block e are is = err_ok (or_damaged w at (entry_list_of block)) e (block_entries block) (sym is) (ap (or_damaged w at) (entries_read block are))

same_names : (a b : DirEntry) → differ a b ≡ true → a.name ≡ b.name → ⊥
same_names a b apart same = true≢false (sym ((bytes_eq-Decides a.name b.name).1 same) ∙ flip (bytes_eq a.name b.name) apart) where
  flip : (t : Bool) → not t ≡ true → t ≡ false
  flip true e = sym e
  flip false e = refl

-- two entries of one block have two names
one_name : (es : List DirEntry) → are_distinct es ≡ true → (i j : ℕ) → i < length es → j < length es → (get_or es i no_entry).name ≡ (get_or es j no_entry).name → i ≡ j
one_name [] d i j li lj same = absurd (omega arith)
one_name (x ∷ es) d zero zero li lj same = refl
one_name (x ∷ es) d zero (suc j) li lj same = absurd (same_names x (get_or es j no_entry) (all_at (differ x) es j no_entry (and_parts (list_all (differ x) es) (all_pairs differ es) d).0 (omega arith)) same)
one_name (x ∷ es) d (suc i) zero li lj same = absurd (same_names x (get_or es i no_entry) (all_at (differ x) es i no_entry (and_parts (list_all (differ x) es) (all_pairs differ es) d).0 (omega arith)) (sym same))
one_name (x ∷ es) d (suc i) (suc j) li lj same = ap suc (one_name es (and_parts (list_all (differ x) es) (all_pairs differ es) d).1 i j (omega arith) (omega arith) same)

pub name_of : (b : LogicalBlocks) (e : ℕ) → (entry_at b e).0 ≡ (entry_of (block_entries (b (e / 56))) (e % 56)).name
name_of b e = ap (λ (x : Entry). x.0) (entry_is b e (block_entries (b (e / 56))) refl)

pub count_small : (n k e : ℕ) → e < n → e / 56 ≡ k → e % 56 < entries_in n k
count_small n k e lt at = omega (arith, lt, at)

module _ (i n : ℕ) (b : LogicalBlocks) where
  entry_inside : (e : ℕ) → e < n → IsDirectoryBlock i n (e / 56) (b (e / 56)) → e % 56 < length (block_entries (b (e / 56))).entries
  entry_inside e lt part = let small : e % 56 < entries_in n (e / 56) = count_small n (e / 56) e lt refl in subst (λ m. e % 56 < m) (sym part.count_is) small

  module _ (k : ℕ) (parts : (j : ℕ) → j < k + 1 → IsDirectoryBlock i n j (b j)) (new : HasSameName b k (b k) → ⊥) where
    -- an entry of block k, and one before it
    apart : (e f : ℕ) → e < n → f < n → e / 56 ≡ k → f / 56 < k → (entry_at b e).0 ≡ (entry_at b f).0 → ⊥
    apart e f le lf here before same =
        let inside_e = entry_inside e le (parts (e / 56) (omega (arith, here))) in
        let inside_f = entry_inside f lf (parts (f / 56) (omega (arith, before))) in
        new (record {
          entry = e % 56;
          inside = subst (λ j. e % 56 < length (block_entries (b j)).entries) here inside_e;
          other = record {
            block = f / 56;
            within = before;
            entry = f % 56;
            inside = inside_f;
            same = sym (name_of b f) ∙ sym same ∙ name_of b e ∙ ap (λ j. (entry_of (block_entries (b j)) (e % 56)).name) here;
          };
        })

    inside_one : (e f : ℕ) → e < n → f < n → e / 56 ≡ k → f / 56 ≡ k → (entry_at b e).0 ≡ (entry_at b f).0 → e ≡ f
    inside_one e f le lf here there same =
        let part = parts k (omega arith) in
        let inside_e = subst (λ j. e % 56 < length (block_entries (b j)).entries) here (entry_inside e le (parts (e / 56) (omega (arith, here)))) in
        let inside_f = subst (λ j. f % 56 < length (block_entries (b j)).entries) there (entry_inside f lf (parts (f / 56) (omega (arith, there)))) in
        let names : (entry_of (block_entries (b k)) (e % 56)).name ≡ (entry_of (block_entries (b k)) (f % 56)).name =
        sym (ap (λ j. (entry_of (block_entries (b j)) (e % 56)).name) here) ∙ sym (name_of b e) ∙ same ∙ name_of b f ∙ ap (λ j. (entry_of (block_entries (b j)) (f % 56)).name) there in
        let rest : e % 56 ≡ f % 56 = one_name (block_entries (b k)).entries (fit_parts (block_entries (b k)) part.entries.fit).distinct (e % 56) (f % 56) inside_e inside_f names in
        omega (arith, here, there, rest)

    pub distinct_on : AreDistinct (entry_at b) (min n (56 * k)) → AreDistinct (entry_at b) (min n (56 * (k + 1)))
    distinct_on old e f le lf same =
        let e_in : e < n = omega (arith, le) in
        let f_in : f < n = omega (arith, lf) in
        let e_last : e / 56 ≤ k = omega (arith, le) in
        let f_last : f / 56 ≤ k = omega (arith, lf) in
        elim (cases_lt (e / 56) k) [
          | inl e_before ↦ elim (cases_lt (f / 56) k) [
            | inl f_before ↦ old e f (omega (arith, e_in, e_before)) (omega (arith, f_in, f_before)) same
            | inr f_here ↦ absurd (apart f e f_in e_in (omega (arith, f_here, f_last)) e_before (sym same))
          ]
          | inr e_here ↦ elim (cases_lt (f / 56) k) [
            | inl f_before ↦ absurd (apart e f e_in f_in (omega (arith, e_here, e_last)) f_before same)
            | inr f_here ↦ inside_one e f e_in f_in (omega (arith, e_here, e_last)) (omega (arith, f_here, f_last)) same
          ]
        ]

-- ---- where its blocks lie

none_some : (o : Option ℕ) (p : ℕ) → o ≡ None → o ≡ Some p → ⊥
none_some o p none some = let e : None ≡ Some p = sym none ∙ some in false≢true (ap is_some e)

pub directory_tier : (g : Sizes) (s : Store) (i : ℕ) (t : Tier) (k p : ℕ) → (inode g s i).kind ≡ Some kind.Directory → place g s i t k ≡ Some p → t ≡ Fast
directory_tier g s i Fast k p dir is = refl
directory_tier g s i Block k p dir is = absurd (none_some (place g s i Block k) p (other_place g s i Block k (λ e. cc) dir) is)
directory_tier g s i Slow k p dir is = absurd (none_some (place g s i Slow k) p (other_place g s i Slow k (λ e. cc) dir) is)

pub block_at : (g : Sizes) (s : Store) (i : ℕ) (t : Tier) (k p : ℕ) → (inode g s i).kind ≡ Some kind.Directory → place g s i t k ≡ Some p → logical_block g s i k ≡ s t p
block_at g s i t k p dir is =
    let fast = directory_tier g s i t k p dir is in
    at_fast g s i k p (subst (λ (u : Tier). place g s i u k ≡ Some p) fast is) ∙ ap (λ (u : Tier). s u p) (sym fast)

pub room_home : (g : Sizes) (t : Tier) (k : ℕ) → IsRoom g t k → t ≡ Fast → is_home k ≡ true
room_home g t k room fast =
    let r : IsRoom g Fast k = subst (λ (u : Tier). IsRoom g u k) fast room in
    let first : 292 ≤ k = r.first in
    or_right (nat_lt k 34) (nat_le 292 k) (le-leb 292 k first)

-- ---- damage

module _ (g : Sizes) (s : Store) (i n : ℕ) (dir : IsEntries g s i n) where
  pub lacks : (k : ℕ) → k < blocks_for n → IsSome (extents_read g s i Fast) → place g s i Fast k ≡ None → IsSlotDamageOf g s i what.Slot (slot_block i)
  lacks k lt read none = record {
    damage = record {
      structure = refl;
      inode = i;
      is = dir.number;
      at = refl;
      wrong = inr (record { kind = dir.kind_is; block = k; within = subst (λ m. k < m) (sym dir.blocks) lt; read = read; none = none });
    };
    of_it = refl;
  }

  pub no_part : (k p : ℕ) → k < blocks_for n → place g s i Fast k ≡ Some p → (IsDirectoryBlock i n k (logical_block g s i k) → ⊥) → IsEntryDamageOf g s i what.DirBlock p
  no_part k p lt at wrong = record {
    damage = record {
      structure = refl;
      inode = i;
      is = dir.number;
      kind = dir.kind_is;
      number = k;
      within = subst (λ m. k < m) (sym dir.blocks) lt;
      at = at;
      wrong = inl (λ part. wrong (subst (λ m. IsDirectoryBlock i m k (logical_block g s i k)) dir.size_is part));
    };
    of_it = refl;
  }

  pub twin : (k p : ℕ) → k < blocks_for n → place g s i Fast k ≡ Some p → IsDirectoryBlock i n k (logical_block g s i k) → ((j : ℕ) → j < k → IsDirectoryBlock i n j (logical_block g s i j)) → HasSameName (logical_block g s i) k (logical_block g s i k) → IsEntryDamageOf g s i what.DirBlock p
  twin k p lt at part parts same =
      let x = same in
      let o = same.other in
      let mine = part.count_is in
      let count_o = (parts o.block o.within).count_is in
      let inside_e : x.entry < entries_in n k = subst (λ m. x.entry < m) mine x.inside in
      let inside_f : o.entry < entries_in n o.block = subst (λ m. o.entry < m) count_o o.inside in
      let e : ℕ = 56 * k + x.entry in
      let f : ℕ = 56 * o.block + o.entry in
      let e_block : e / 56 ≡ k = omega (arith, inside_e) in
      let f_block : f / 56 ≡ o.block = omega (arith, inside_f) in
      let e_rest : e % 56 ≡ x.entry = omega (arith, inside_e) in
      let f_rest : f % 56 ≡ o.entry = omega (arith, inside_f) in
      let b : LogicalBlocks = logical_block g s i in
      let name_e : (entry_at b e).0 ≡ (entry_of (block_entries (b k)) x.entry).name = name_of b e ∙ (λ q. (entry_of (block_entries (b (e_block q))) (e_rest q)).name) in
      let name_f : (entry_at b f).0 ≡ (entry_of (block_entries (b o.block)) o.entry).name = name_of b f ∙ (λ q. (entry_of (block_entries (b (f_block q))) (f_rest q)).name) in
      let e_in : e < n = omega (arith, inside_e) in
      let f_in : f < n = omega (arith, inside_f) in
      let size : (inode g s i).size ≡ n = dir.size_is in
      let before = o.within in
      record {
        damage = record {
          structure = refl;
          inode = i;
          is = dir.number;
          kind = dir.kind_is;
          number = k;
          within = subst (λ m. k < m) (sym dir.blocks) lt;
          at = at;
          wrong = inr (record {
            entry = e;
            other = f;
            in_block = e_block;
            one_within = subst (λ m. e < m) (sym size) e_in;
            other_within = subst (λ m. f < m) (sym size) f_in;
            differ = λ is. omega (arith, e_block, f_block, before, is);
            here = subst (λ m. IsDirectoryBlock i m k (b k)) (sym size) part;
            there = subst (λ m. IsDirectoryBlock i m (f / 56) (b (f / 56))) (sym size) (subst (λ j. IsDirectoryBlock i n j (b j)) (sym f_block) (parts o.block o.within));
            same = name_e ∙ sym o.same ∙ sym name_f;
          });
        };
        of_it = refl;
      }

-- ---- names of the first entries of a block

pub adds_none : (block : List ℕ) (old : List (List ℕ)) → AddsNames block 0 old old
adds_none block old = record {
  fresh = λ e lt. absurd (omega (arith, lt));
  all = λ name. (λ is. inl is, λ is. elim is [ inl there ↦ there | inr (e, lt, same) ↦ absurd (omega (arith, lt)) ]);
}

module _ (block : List ℕ) (are : AreEntries block) (k : ℕ) (inside : k < length (block_entries block).entries) (old mid : List (List ℕ)) (adds : AddsNames block k old mid) where
  -- one more, which is new
  pub adds_more : (new : List (List ℕ)) → (IsAmong mid (name_at block k) → ⊥) → ((n : List ℕ) → IsAmong new n ↔ (IsAmong mid n ⊎ (n ≡ name_at block k))) → AddsNames block (k + 1) old new
  adds_more new fresh more = record {
    fresh = λ e lt is. elim (cases_eq e k) [
      | inl here ↦ fresh ((adds.all (name_at block k)).1 (inl (subst (λ j. IsAmong old (name_at block j)) here is)))
      | inr off ↦ adds.fresh e (omega (arith, lt, off)) is
    ];
    all = λ name. (
      λ is. elim ((more name).0 is) [
        | inl before ↦ elim ((adds.all name).0 before) [ inl there ↦ inl there | inr (e, lt, same) ↦ inr (e, omega (arith, lt), same) ]
        | inr here ↦ inr (k, omega arith, sym here)
      ],
      λ is. (more name).1 (elim is [
        | inl there ↦ inl ((adds.all name).1 (inl there))
        | inr (e, lt, same) ↦ elim (cases_eq e k) [
          | inl here ↦ inr (sym same ∙ ap (name_at block) here)
          | inr off ↦ inl ((adds.all name).1 (inr (e, omega (arith, lt, off), same)))
        ]
      ]),
    );
  }

  -- one that was there: another entry of the block has another name
  pub shares_name : IsAmong mid (name_at block k) → SharesName block old
  shares_name is = elim ((adds.all (name_at block k)).0 is) [
    | inl there ↦ record { entry = k; inside = inside; among = there }
    | inr (e, lt, same) ↦ (
        let one : e ≡ k = one_name (block_entries block).entries (fit_parts (block_entries block) are.fit).distinct e k (omega (arith, lt, inside)) inside same in
        absurd (omega (arith, lt, one))
        )
  ]

-- ---- the first blocks, one more and all

module _ (g : Sizes) (s : Store) (i n : ℕ) where
  pub first_none : AreFirstParts g s i n 0 []
  first_none = record {
    parts = λ k lt. absurd (omega (arith, lt));
    distinct = λ e f le lf same. absurd (omega (arith, le));
    all = λ name. (λ none. absurd none, λ has. (let lt = has.within in absurd (omega (arith, lt))));
  }

  pub part_held : (k : ℕ) → IsEntries g s i n → k < blocks_for n → IsDirectoryBlock i n k (logical_block g s i k) → HasPart g s i
  part_held k dir lt part = record {
    kind_is = dir.kind_is;
    number = k;
    within = subst (λ m. k < m) (sym dir.blocks) lt;
    part = subst (λ m. IsDirectoryBlock i m k (logical_block g s i k)) (sym dir.size_is) part;
  }

  module _ (k : ℕ) (names : List (List ℕ)) (old : AreFirstParts g s i n k names) where
    pub first_all : k ≡ blocks_for n → AreDirectoryBlocks i n (logical_block g s i)
    first_all long = record {
      parts = λ j lt. old.parts j (omega (arith, long, lt));
      distinct = λ e f le lf same. old.distinct e f (omega (arith, long, le)) (omega (arith, long, lf)) same;
    }

    pub same_name : SharesName (logical_block g s i k) names → HasSameName (logical_block g s i) k (logical_block g s i k)
    same_name shares = record { entry = shares.entry; inside = shares.inside; other = (old.all (name_at (logical_block g s i k) shares.entry)).0 shares.among }

    module _ (part : IsDirectoryBlock i n k (logical_block g s i k)) (new : List (List ℕ)) (adds : AddsNames (logical_block g s i k) (length (block_entries (logical_block g s i k)).entries) names new) where
      parts_more : (j : ℕ) → j < k + 1 → IsDirectoryBlock i n j (logical_block g s i j)
      parts_more j lt = elim (cases_eq j k) [
        | inl here ↦ subst (λ m. IsDirectoryBlock i n m (logical_block g s i m)) (sym here) part
        | inr off ↦ old.parts j (omega (arith, lt, off))
      ]

      no_same : HasSameName (logical_block g s i) k (logical_block g s i k) → ⊥
      no_same same = adds.fresh same.entry same.inside ((old.all (name_at (logical_block g s i k) same.entry)).1 same.other)

      named_more : (name : List ℕ) → IsAmong new name → HasName (logical_block g s i) (k + 1) name
      named_more name is = elim ((adds.all name).0 is) [
        | inl there ↦ (
            let has = (old.all name).0 there in
            let within = has.within in
            record { block = has.block; within = omega (arith, within); entry = has.entry; inside = has.inside; same = has.same }
            )
        | inr (e, lt, same) ↦ record { block = k; within = omega arith; entry = e; inside = lt; same = same }
      ]

      among_more : (name : List ℕ) → HasName (logical_block g s i) (k + 1) name → IsAmong new name
      among_more name has =
          let within = has.within in
          elim (cases_eq has.block k) [
            | inl here ↦ (adds.all name).1 (inr (has.entry, subst (λ j. has.entry < length (block_entries (logical_block g s i j)).entries) here has.inside, ap (λ j. name_at (logical_block g s i j) has.entry) (sym here) ∙ has.same))
            | inr off ↦ (adds.all name).1 (inl ((old.all name).1 (record { block = has.block; within = omega (arith, within, off); entry = has.entry; inside = has.inside; same = has.same })))
          ]

      pub first_more : AreFirstParts g s i n (k + 1) new
      first_more = record { parts = parts_more; distinct = distinct_on i n (logical_block g s i) k parts_more no_same old.distinct; all = λ name. (named_more name, among_more name) }
