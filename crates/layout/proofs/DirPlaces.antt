-- The entries that stand in a block, each at its place.
use Rattle.std.proofs.Common.{◌≡◌, ℕ, zero, suc, ◌+◌, ◌*◌, ◌-◌, ◌<◌, ◌≤◌, Bool, true, false, cond, leb, ◌&&◌, List, [], ◌∷◌, ◌++◌, length, take, drop, get_or, Option, Some, None, refl, sym, ap, subst, ◌∙◌, append_assoc, arith}
use Rattle.std.specs.List.{flat_map, list_all, position, position_or_len}
use Rattle.std.proofs.lemmas.List.Sums.{position_or_len_is}
use Rattle.std.specs.Prelude.{unwrap_or, slice_get, slice_set, option_map, not}
use Rattle.std.specs.Str.{bytes_eq}
use Rattle.std.proofs.lemmas.Bool.{leb-true, eq-eqb, lt-ltb, le-ltb}
use Rattle.std.proofs.lemmas.List.{length-append, length-take, take_at, drop_at, take-append-drop, drop_more, take_all, length-drop, length-set, take-set, drop-set-lt, get_or-set_same, get_or-drop}
use Rattle.std.proofs.lemmas.List.Folds.{list_all-append}
use Rattle.std.proofs.lemmas.Option.{slice_get-get_or}
use Rattle.std.proofs.lemmas.Grind.{flat_map-append}
use Rattle.std.proofs.Math.Seq.{drop-append-add}
use Rattle.file_graph.specs.declared.effect.Kind.TheVariants as kind
use Rattle.layout.specs.declared.directory.DirEntry.{DirEntry}
use Rattle.layout.specs.Places.{is_inode}
use Rattle.layout.specs.Bytes.{◌>>=◌, AreBytes, Field, u32, zeros, padded_text, with_text, number_at, text_at, items_at, are_zero, within}
use Rattle.layout.specs.Directory.{EntryList, entry_text, entries_text, entries_spelling, fits_entry, fits_entries, head_at, entry_at, fields_at, entries_field, entry_list_of, block_entries, IsEntryList, are_distinct, with_entry_at}
use Rattle.file_graph.specs.Kinds.{kind_byte}
use Rattle.layout.proofs.Limits.{and_parts}
use Rattle.layout.proofs.Fields.{bind_some, test_some, some_is, u32_long}
use Rattle.layout.proofs.Pairs.{all_at}
use Rattle.layout.proofs.DirectoryLaws.{head_text, head_text_long, entry_fits, fits_list, list_fits, list_takes, entry_again, entry_text_long, entry_texts_long, short_name}

-- the test of another name
abbrev pub is_other : List ℕ → DirEntry → Bool
is_other name e = not (bytes_eq name e.name)

-- an entry stands at a byte of a block
pub record Stands (block : List ℕ) (at : ℕ) (e : DirEntry) : Type 0 where
  pub front : List ℕ
  pub rest : List ℕ
  pub parts : block ≡ front ++ (entry_text e ++ rest)
  pub long : length front ≡ at
  pub fit : fits_entry e ≡ true

-- the texts of entries, around the one at a place
texts_around : (es : List DirEntry) (i : ℕ) (d : DirEntry) → i < length es → flat_map entry_text es ≡ flat_map entry_text (take i es) ++ (entry_text (get_or es i d) ++ flat_map entry_text (drop (i + 1) es))
texts_around es i d lt =
    ap (flat_map entry_text) (sym (take-append-drop i es) ∙ ap (λ (t : List DirEntry). take i es ++ t) (drop_more es i d lt))
    ∙ flat_map-append entry_text (take i es) (get_or es i d ∷ drop (i + 1) es)

list_all_take : {A : Type 0} (p : A → Bool) (n : ℕ) (xs : List A) → list_all p xs ≡ true → list_all p (take n xs) ≡ true
list_all_take p n xs h = (and_parts (list_all p (take n xs)) (list_all p (drop n xs)) (sym (list_all-append p (take n xs) (drop n xs)) ∙ ap (list_all p) (take-append-drop n xs) ∙ h)).0

-- the bytes in front of a place
abbrev pub front_text : EntryList → ℕ → List ℕ
front_text v i = head_text v.owner (length v.entries) ++ flat_map entry_text (take i v.entries)

pub front_long : (v : EntryList) (i : ℕ) → list_all fits_entry v.entries ≡ true → i ≤ length v.entries → length (front_text v i) ≡ 64 + 72 * i
front_long v i each le =
    omega (arith, length-append (head_text v.owner (length v.entries)) (flat_map entry_text (take i v.entries)), head_text_long v.owner (length v.entries), entry_texts_long (take i v.entries) (list_all_take fits_entry i v.entries each), length-take i v.entries)

-- the text of entries, around the one at a place
pub text_around : (v : EntryList) (i : ℕ) (d : DirEntry) → i < length v.entries → entries_text v ≡ front_text v i ++ (entry_text (get_or v.entries i d) ++ flat_map entry_text (drop (i + 1) v.entries))
text_around v i d lt =
    ap (λ (t : List ℕ). head_text v.owner (length v.entries) ++ t) (texts_around v.entries i d lt)
    ∙ sym (append_assoc (head_text v.owner (length v.entries)) (flat_map entry_text (take i v.entries)) (entry_text (get_or v.entries i d) ++ flat_map entry_text (drop (i + 1) v.entries)))

pub stands_spelled : (block : List ℕ) (v : EntryList) (i : ℕ) (d : DirEntry) → fits_list v ≡ true → block ≡ entries_spelling v → i < length v.entries → Stands block (64 + 72 * i) (get_or v.entries i d)
unfolding padded_text
stands_spelled block v i d fit is lt =
    let f = list_fits v fit in
    let x : DirEntry = get_or v.entries i d in
    let behind : List ℕ = flat_map entry_text (drop (i + 1) v.entries) in
    let gap : List ℕ = zeros (4096 - length (entries_text v)) in
    let whole : (front_text v i ++ (entry_text x ++ behind)) ++ gap ≡ front_text v i ++ (entry_text x ++ (behind ++ gap)) =
    append_assoc (front_text v i) (entry_text x ++ behind) gap ∙ ap (λ (w : List ℕ). front_text v i ++ w) (append_assoc (entry_text x) behind gap) in
    record {
      front = front_text v i;
      rest = behind ++ gap;
      parts = is ∙ ap (λ (w : List ℕ). w ++ gap) (text_around v i d lt) ∙ whole;
      long = front_long v i f.each (omega arith);
      fit = all_at fits_entry v.entries i d f.each lt;
    }

pub stands : (block : List ℕ) (v : EntryList) (i : ℕ) (d : DirEntry) → AreBytes block → within 4096 entries_field block ≡ Some v → i < length v.entries → Stands block (64 + 72 * i) (get_or v.entries i d)
stands block v i d are e lt =
    let t = list_takes block v are e in
    stands_spelled block v i d t.0 t.1 lt

-- ---- the fields of an entry at its place

abbrev tags : DirEntry → List ℕ → List ℕ
tags e rest = kind_byte e.kind ∷ length e.name ∷ 0 ∷ 0 ∷ (padded_text 64 e.name ++ rest)

pub whole_at : (block : List ℕ) (at : ℕ) (e : DirEntry) (s : Stands block at e) → drop at block ≡ entry_text e ++ s.rest
whole_at block at e s = ap (drop at) s.parts ∙ drop_at s.front (entry_text e ++ s.rest) at s.long

flat_text : (e : DirEntry) (rest : List ℕ) → entry_text e ++ rest ≡ u32 e.inode ++ tags e rest
flat_text e rest = append_assoc (u32 e.inode) (kind_byte e.kind ∷ length e.name ∷ 0 ∷ 0 ∷ padded_text 64 e.name) rest

tags_at : (block : List ℕ) (at n k : ℕ) (e : DirEntry) (s : Stands block at e) → at + (4 + n) ≡ k → drop k block ≡ drop n (tags e s.rest)
tags_at block at n k e s byte =
    let inner : drop (4 + n) (u32 e.inode ++ tags e s.rest) ≡ drop n (tags e s.rest) = ap (λ (k : ℕ). drop (k + n) (u32 e.inode ++ tags e s.rest)) (sym (u32_long e.inode)) ∙ drop-append-add (u32 e.inode) (tags e s.rest) n in
    ap (λ (m : ℕ). drop m block) (sym byte)
    ∙ ap (drop (at + (4 + n))) s.parts
    ∙ ap (λ (k : ℕ). drop (k + (4 + n)) (s.front ++ (entry_text e ++ s.rest))) (sym s.long)
    ∙ drop-append-add s.front (entry_text e ++ s.rest) (4 + n)
    ∙ ap (drop (4 + n)) (flat_text e s.rest)
    ∙ inner

pub record NameThere (block : List ℕ) (at : ℕ) (name : List ℕ) : Type 0 where
  pub count : get_or block (at + 5) 0 ≡ length name
  pub short : length name ≤ 64
  pub text : take (length name) (drop (at + 8) block) ≡ name

name_there : (block : List ℕ) (at : ℕ) (e : DirEntry) → Stands block at e → NameThere block at e.name
unfolding padded_text
name_there block at e s =
    let gap : List ℕ = zeros (64 - length e.name) in
    let here : at + 5 ≡ (at + 5) + 0 = omega arith in
    let head : drop (at + 5) block ≡ length e.name ∷ 0 ∷ 0 ∷ (padded_text 64 e.name ++ s.rest) = tags_at block at 1 (at + 5) e s (omega arith) in
    let name : drop (at + 8) block ≡ padded_text 64 e.name ++ s.rest = tags_at block at 4 (at + 8) e s (omega arith) in
    record {
      count = ap (λ (k : ℕ). get_or block k 0) here ∙ sym (get_or-drop (at + 5) block 0 0) ∙ ap (λ (t : List ℕ). get_or t 0 0) head;
      short = short_name e.name (entry_fits e s.fit).name;
      text = ap (take (length e.name)) (name ∙ append_assoc e.name gap s.rest) ∙ take_at e.name (gap ++ s.rest) (length e.name) refl;
    }

pub same_entry : (f : Option (DirEntry × List ℕ)) (e x : DirEntry) (rest after : List ℕ) → f ≡ Some (e, rest) → f ≡ Some (x, after) → e ≡ x
same_entry f e x rest after p q = ap (λ (y : DirEntry × List ℕ). y.0) (some_is (e, rest) (x, after) (sym p ∙ q))

-- what a block that spells entries has at a place
pub listed_name : (block : List ℕ) (i : ℕ) (d : DirEntry) → AreBytes block → IsEntryList block → i < length (block_entries block).entries → NameThere block (64 + 72 * i) (get_or (block_entries block).entries i d).name
listed_name block i d are l lt = name_there block (64 + 72 * i) (get_or (block_entries block).entries i d) (stands block (block_entries block) i d are l.spelled lt)

pub listed_fields : (block : List ℕ) (i : ℕ) (d : DirEntry) → AreBytes block → IsEntryList block → i < length (block_entries block).entries → (rest : List ℕ) × (fields_at (drop (64 + 72 * i) block) ≡ Some (get_or (block_entries block).entries i d, rest))
unfolding entry_at
listed_fields block i d are l lt =
    let e : DirEntry = get_or (block_entries block).entries i d in
    let s = stands block (block_entries block) i d are l.spelled lt in
    let read : entry_at (drop (64 + 72 * i) block) ≡ Some (e, s.rest) = ap entry_at (whole_at block (64 + 72 * i) e s) ∙ entry_again e s.rest s.fit in
    let f = bind_some (fields_at (drop (64 + 72 * i) block)) _ (e, s.rest) read in
    let t = test_some (fits_entry f.0.0) f.0 (e, s.rest) f.2 in
    (s.rest, f.1 ∙ ap Some t.1)

tail_at : (at : ℕ) (block : List ℕ) → take (length block - at) (drop at block) ≡ drop at block
tail_at at block = take_all (length block - at) (drop at block) (omega (arith, length-drop at block))

pub fields_there : (block : List ℕ) (i : ℕ) → AreBytes block → IsEntryList block → i < length (block_entries block).entries
    → (e : DirEntry) × (rest : List ℕ) × (fields_at (take (length block - (64 + 72 * i)) (drop (64 + 72 * i) block)) ≡ Some (e, rest)) × (slice_get (block_entries block).entries i ≡ Some e) × (fits_entry e ≡ true)
fields_there block i are l lt =
    let none : DirEntry = record { inode = 0; kind = kind.File; name = [] } in
    let f = listed_fields block i none are l lt in
    (get_or (block_entries block).entries i none, f.0, ap fields_at (tail_at (64 + 72 * i) block) ∙ f.1, slice_get-get_or (block_entries block).entries i none lt, (stands block (block_entries block) i none are l.spelled lt).fit)

-- the name, as two cuts read it
pub cut_name : (block : List ℕ) (at k : ℕ) (name : List ℕ) → NameThere block at name → length name ≡ k → at + 8 + 64 ≤ length block → (k ≤ length (take (length block - (at + 8)) (drop (at + 8) block))) × (take k (take (length block - (at + 8)) (drop (at + 8) block)) ≡ name)
cut_name block at k name n long fits = rw (tail_at (at + 8) block) (omega (arith, length-drop (at + 8) block, n.short, long), ap (λ (m : ℕ). take m (drop (at + 8) block)) (sym long) ∙ n.text)

-- ---- one entry for another

replaced : (a x w c : List ℕ) → length w ≡ length x → with_text (length a) w (a ++ (x ++ c)) ≡ a ++ (w ++ c)
replaced a x w c long =
    let front : take (length a) (a ++ (x ++ c)) ≡ a = take_at a (x ++ c) (length a) refl in
    let far : drop (length a + length w) (a ++ (x ++ c)) ≡ c = drop-append-add a (x ++ c) (length w) ∙ drop_at x c (length w) (sym long) in
    rw (front, far) (append_assoc a w c)

-- bytes around a place, filled up
pub around_place : (n : ℕ) (a x w c : List ℕ) → length w ≡ length x → with_text (length a) w (padded_text n (a ++ (x ++ c))) ≡ padded_text n (a ++ (w ++ c))
unfolding padded_text
around_place n a x w c long =
    let gap : List ℕ = zeros (n - length (a ++ (x ++ c))) in
    let same : length (a ++ (x ++ c)) ≡ length (a ++ (w ++ c)) = omega (arith, length-append a (x ++ c), length-append x c, length-append a (w ++ c), length-append w c, long) in
    let split : (a ++ (x ++ c)) ++ gap ≡ a ++ (x ++ (c ++ gap)) = simp append_assoc in
    let back : a ++ (w ++ (c ++ gap)) ≡ (a ++ (w ++ c)) ++ gap = simp append_assoc in
    ap (with_text (length a) w) split ∙ replaced a x w (c ++ gap) long ∙ back ∙ ap (λ (k : ℕ). (a ++ (w ++ c)) ++ zeros (n - k)) same

set_parts : (es : List DirEntry) (i : ℕ) (e : DirEntry) → i < length es → slice_set es i e ≡ take i es ++ e ∷ drop (i + 1) es
set_parts es i e lt =
    let new : List DirEntry = slice_set es i e in
    let room : i < length new = omega (arith, length-set es i e, lt) in
    sym (take-append-drop i new)
    ∙ ap (λ (t : List DirEntry). t ++ drop i new) (take-set es i e)
    ∙ ap (λ (t : List DirEntry). take i es ++ t) (drop_more new i e room ∙ ap (λ (x : DirEntry). x ∷ drop (i + 1) new) (get_or-set_same es i e e lt) ∙ ap (λ (t : List DirEntry). e ∷ t) (drop-set-lt (i + 1) es i e (omega arith)))

-- the text of entries with another one at a place
pub text_set : (v : EntryList) (i : ℕ) (e : DirEntry) → i < length v.entries → front_text v i ++ (entry_text e ++ flat_map entry_text (drop (i + 1) v.entries)) ≡ entries_text (with_entry_at v i e)
text_set v i e lt =
    let behind : List ℕ = flat_map entry_text (drop (i + 1) v.entries) in
    let n : ℕ = length v.entries in
    let count : length (slice_set v.entries i e) ≡ n = length-set v.entries i e in
    let texts : flat_map entry_text (slice_set v.entries i e) ≡ flat_map entry_text (take i v.entries) ++ (entry_text e ++ behind) =
    ap (flat_map entry_text) (set_parts v.entries i e lt) ∙ flat_map-append entry_text (take i v.entries) (e ∷ drop (i + 1) v.entries) in
    append_assoc (head_text v.owner n) (flat_map entry_text (take i v.entries)) (entry_text e ++ behind)
    ∙ ap (λ (t : List ℕ). head_text v.owner n ++ t) (sym texts)
    ∙ ap (λ (k : ℕ). head_text v.owner k ++ flat_map entry_text (slice_set v.entries i e)) (sym count)

pub entry_set : (v : EntryList) (i : ℕ) (e : DirEntry) → fits_entries v ≡ true → i < length v.entries → length e.name ≤ 64 → with_text (64 + 72 * i) (entry_text e) (entries_spelling v) ≡ entries_spelling (with_entry_at v i e)
entry_set v i e fit lt short =
    let p = and_parts (fits_list v) (are_distinct v.entries) fit in
    let f = list_fits v p.0 in
    let x : DirEntry = get_or v.entries i e in
    let fx = entry_fits x (all_at fits_entry v.entries i e f.each lt) in
    let same : length (entry_text e) ≡ length (entry_text x) = entry_text_long e short ∙ sym (entry_text_long x (short_name x.name fx.name)) in
    let behind : List ℕ = flat_map entry_text (drop (i + 1) v.entries) in
    ap (λ (t : List ℕ). with_text (64 + 72 * i) (entry_text e) (padded_text 4096 t)) (text_around v i e lt)
    ∙ ap (λ (k : ℕ). with_text k (entry_text e) (padded_text 4096 (front_text v i ++ (entry_text x ++ behind)))) (sym (front_long v i f.each (omega arith)))
    ∙ around_place 4096 (front_text v i) (entry_text x) (entry_text e) behind same
    ∙ ap (padded_text 4096) (text_set v i e lt)

-- ---- the list of a block, as it is read

list_from : (block : List ℕ) → length block ≡ 4096 → within 4096 entries_field block ≡ (entries_field block >>= λ x. cond (are_zero x.1) (Some x.0) None)
list_from block long = rw (eq-eqb (length block) 4096 long) refl

pub no_head : (block : List ℕ) → length block ≡ 4096 → head_at block ≡ None → within 4096 entries_field block ≡ None
unfolding entries_field
no_head block long e = list_from block long ∙ rw e refl

none_from : {A B : Type 0} (f : A → B) (o : Option A) → option_map f o ≡ None → o ≡ None
none_from f (Some x) e = absurd cc
none_from f None e = refl

some_from : {A B : Type 0} (f : A → B) (o : Option A) (y : B) → option_map f o ≡ Some y → (x : A) × (o ≡ Some x) × (f x ≡ y)
some_from f (Some x) y e = (x, refl, cc)
some_from f None y e = absurd cc

pub no_items : (block : List ℕ) (owner count : ℕ) (rest : List ℕ) → length block ≡ 4096 → head_at block ≡ Some ((owner, count), rest) → option_map (λ x. x.1) (items_at entry_at count rest) ≡ None → within 4096 entries_field block ≡ None
unfolding entries_field
no_items block owner count rest long h e = list_from block long ∙ rw (h, none_from (λ x. x.1) (items_at entry_at count rest) e) refl

pub no_end : (block : List ℕ) (owner count : ℕ) (rest after : List ℕ) → length block ≡ 4096 → head_at block ≡ Some ((owner, count), rest) → option_map (λ x. x.1) (items_at entry_at count rest) ≡ Some after → are_zero after ≡ false → within 4096 entries_field block ≡ None
unfolding entries_field
no_end block owner count rest after long h e z =
    let s = some_from (λ x. x.1) (items_at entry_at count rest) after e in
    let zero : are_zero s.0.1 ≡ false = ap are_zero s.2 ∙ z in
    list_from block long ∙ rw (h, s.1, zero) refl

pub record IsList (block : List ℕ) (owner count : ℕ) : Type 0 where
  pub list : IsEntryList block
  pub owner_is : owner ≡ (block_entries block).owner
  pub count_is : count ≡ length (block_entries block).entries

head_few : (block : List ℕ) (owner count : ℕ) (rest : List ℕ) → head_at block ≡ Some ((owner, count), rest) → count ≤ 56
unfolding head_at
head_few block owner count rest e =
    let o = bind_some (number_at 4 block) _ ((owner, count), rest) e in
    let n = bind_some (number_at 4 o.0.1) _ ((owner, count), rest) o.2 in
    let z = bind_some (text_at (zeros 56) n.0.1) _ ((owner, count), rest) n.2 in
    let made : (ℕ × ℕ) × List ℕ = ((o.0.0, n.0.0), z.0) in
    let t = test_some (is_inode o.0.0 && leb n.0.0 56) made ((owner, count), rest) z.2 in
    let p = and_parts (is_inode o.0.0) (leb n.0.0 56) t.0 in
    let few : n.0.0 ≤ 56 = leb-true _ _ p.1 in
    subst (λ (y : (ℕ × ℕ) × List ℕ). y.0.1 ≤ 56) t.1 few

items_long : {A : Type 0} (field : Field A) (n : ℕ) (bytes : List ℕ) (x : List A × List ℕ) → items_at field n bytes ≡ Some x → length x.0 ≡ n
unfolding items_at
items_long {A = A} field zero bytes x e = subst (λ (y : List A × List ℕ). length y.0 ≡ 0) (some_is ([], bytes) x e) refl
items_long {A = A} field (suc n) bytes x e =
    let a = bind_some (field bytes) _ x e in
    let b = bind_some (items_at field n a.0.1) _ x a.2 in
    let made : List A × List ℕ = (a.0.0 ∷ b.0.0, b.0.1) in
    subst (λ (y : List A × List ℕ). length y.0 ≡ suc n) (some_is made x b.2) (ap suc (items_long field n a.0.1 b.0 b.1))

whole_list : (block : List ℕ) (owner count : ℕ) (rest : List ℕ) (x : List DirEntry × List ℕ) → length block ≡ 4096 → head_at block ≡ Some ((owner, count), rest) → items_at entry_at count rest ≡ Some x → are_zero x.1 ≡ true → within 4096 entries_field block ≡ Some (record { owner = owner; entries = x.0 })
unfolding entries_field
whole_list block owner count rest x long h i z = list_from block long ∙ rw (h, i, z) refl

pub list_there : (block : List ℕ) (owner count : ℕ) (rest after : List ℕ) → length block ≡ 4096 → head_at block ≡ Some ((owner, count), rest) → option_map (λ x. x.1) (items_at entry_at count rest) ≡ Some after → are_zero after ≡ true → IsList block owner count
unfolding entries_field block_entries
list_there block owner count rest after long h e z =
    let s = some_from (λ x. x.1) (items_at entry_at count rest) after e in
    let v : EntryList = record { owner = owner; entries = s.0.0 } in
    let whole = whole_list block owner count rest s.0 long h s.1 (ap are_zero s.2 ∙ z) in
    let is : block_entries block ≡ v = ap (λ (o : Option EntryList). unwrap_or o (record { owner = 0; entries = [] })) whole in
    let n : length s.0.0 ≡ count = items_long entry_at count rest s.0 s.1 in
    let few = head_few block owner count rest h in
    record {
      list = record { spelled = whole ∙ ap Some (sym is); few = subst (λ (w : EntryList). length w.entries ≤ 56) (sym is) (omega (arith, n, few)); long = long };
      owner_is = ap (λ (w : EntryList). w.owner) (sym is);
      count_is = sym n ∙ ap (λ (w : EntryList). length w.entries) (sym is);
    }

pub no_list : (block : List ℕ) → within 4096 entries_field block ≡ None → entry_list_of block ≡ None
unfolding entry_list_of
no_list block e = rw e refl

abbrev pub some_pair : ℕ → ℕ → Option (ℕ × ℕ)
some_pair a b = Some (a, b)

-- what a head tells of a list
abbrev pub counts : EntryList → ℕ × ℕ
counts v = (v.owner, length v.entries)

pub counts_none : (o : Option EntryList) → o ≡ None → option_map counts o ≡ None
counts_none o e = rw e refl

pub counts_some : (block : List ℕ) (owner count : ℕ) → IsList block owner count → some_pair owner count ≡ option_map counts (within 4096 entries_field block)
counts_some block owner count l = rw (l.list.spelled, l.owner_is, l.count_is) refl

pub counts_more : (block : List ℕ) (owner count : ℕ) → IsList block owner count → entry_list_of block ≡ Some (block_entries block) → some_pair owner count ≡ option_map counts (entry_list_of block)
counts_more block owner count l e = rw (e, l.owner_is, l.count_is) refl

pub no_counts : (block : List ℕ) → None ≡ option_map counts (within 4096 entries_field block) → entry_list_of block ≡ None
no_counts block e = no_list block (none_from counts (within 4096 entries_field block) (sym e))

pub list_counted : (block : List ℕ) (owner count : ℕ) → some_pair owner count ≡ option_map counts (within 4096 entries_field block) → IsEntryList block → IsList block owner count
list_counted block owner count e l =
    let is : (owner, count) ≡ counts (block_entries block) = some_is (owner, count) (counts (block_entries block)) (e ∙ ap (option_map counts) l.spelled) in
    record { list = l; owner_is = ap (λ (p : ℕ × ℕ). p.0) is; count_is = ap (λ (p : ℕ × ℕ). p.1) is }

-- ---- the test of names

pub names_meet : (block : List ℕ) → IsEntryList block → are_distinct (block_entries block).entries ≡ false → entry_list_of block ≡ None
unfolding entry_list_of
names_meet block l e = rw (l.spelled, e) refl

pub names_differ : (block : List ℕ) → IsEntryList block → are_distinct (block_entries block).entries ≡ true → entry_list_of block ≡ Some (block_entries block)
unfolding entry_list_of
names_differ block l e = rw (l.spelled, e) refl

-- ---- loops over names

pub other_more : (name : List ℕ) (es : List DirEntry) (i : ℕ) (d : DirEntry) → i < length es → list_all (is_other name) (drop i es) ≡ (is_other name (get_or es i d) && list_all (is_other name) (drop (i + 1) es))
other_more name es i d lt = ap (list_all (is_other name)) (drop_more es i d lt)

pub distinct_more : (es : List DirEntry) (i : ℕ) (d : DirEntry) → i < length es → are_distinct (drop i es) ≡ (list_all (is_other (get_or es i d).name) (drop (i + 1) es) && are_distinct (drop (i + 1) es))
distinct_more es i d lt = ap are_distinct (drop_more es i d lt)

pub found_at : (name : List ℕ) (es : List DirEntry) (i : ℕ) → i < length es → ((k : ℕ) (d : DirEntry) → k < i → bytes_eq (get_or es k d).name name ≡ false) → ((d : DirEntry) → bytes_eq (get_or es i d).name name ≡ true) → position (λ e. bytes_eq e.name name) es ≡ Some i
found_at name es i lt before there =
    let none : DirEntry = record { inode = 0; kind = kind.File; name = [] } in
    let is : position_or_len (λ (e : DirEntry). bytes_eq e.name name) es ≡ i = position_or_len_is (λ (e : DirEntry). bytes_eq e.name name) es i none (omega arith) (λ k l. before k none l) (λ l. there none) in
    rw (is, lt-ltb i (length es) lt) refl

pub found_nowhere : (name : List ℕ) (es : List DirEntry) → ((k : ℕ) (d : DirEntry) → k < length es → bytes_eq (get_or es k d).name name ≡ false) → position (λ e. bytes_eq e.name name) es ≡ None
found_nowhere name es none =
    let d : DirEntry = record { inode = 0; kind = kind.File; name = [] } in
    let is : position_or_len (λ (e : DirEntry). bytes_eq e.name name) es ≡ length es = position_or_len_is (λ (e : DirEntry). bytes_eq e.name name) es (length es) d (omega arith) (λ k l. none k d l) (λ l. absurd (omega (arith, l))) in
    rw (is, le-ltb (length es) (length es) (omega arith)) refl
