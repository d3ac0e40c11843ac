-- Blocks of entries of which one is changed.
use Rattle.std.proofs.Common.{◌≡◌, ℕ, zero, suc, ◌+◌, ◌*◌, ◌-◌, ◌<◌, ◌≤◌, Bool, true, ◌&&◌, List, [], ◌∷◌, ◌++◌, length, take, drop, get_or, Option, Some, None, refl, sym, ap, subst, ◌∙◌, append_assoc, arith}
use Rattle.std.specs.List.{flat_map, list_all, position, position_or_len, swap_remove}
use Rattle.std.specs.Prelude.{unwrap_or, slice_set, not}
use Rattle.std.specs.Str.{bytes_eq}
use Rattle.std.specs.List.Sorted.{IsPermutation}
use Rattle.std.proofs.lemmas.Bool.{and_from, leb-true, le-leb}
use Rattle.std.proofs.lemmas.List.{length-append, length-take, take_at, length-set, get_or_default, drop_all, append-nil}
use Rattle.std.proofs.lemmas.List.Folds.{list_all-append}
use Rattle.std.proofs.lemmas.List.Sorted.{IsPermutation-swap_remove, IsPermutation-sym}
use Rattle.std.proofs.lemmas.Bool.Decides.{Decides-not}
use Rattle.std.proofs.lemmas.Slice.Eq.{bytes_eq-Decides}
use Rattle.std.proofs.lemmas.Grind.{flat_map-append, common_steps}
use Rattle.std.proofs.lemmas.List.Sums.{fails_before_first}
use Rattle.file_graph.specs.declared.effect.Kind.{Kind}
use Rattle.layout.specs.declared.directory.DirEntry.{DirEntry}
use Rattle.layout.specs.Places.{is_inode}
use Rattle.layout.specs.Bytes.{u32, zeros, padded_text, with_text, within, all_pairs}
use Rattle.layout.specs.Directory.{EntryList, entry_text, entries_text, entries_spelling, fits_entry, fits_entries, differ, are_distinct, head_at, entries_field, block_entries, AreEntries, IsEntryList, no_entry, entry_of, with_entry_at, with_last, with_target, without_entry, without_last}
use Rattle.file_graph.specs.Kinds.{kind_byte}
use Rattle.layout.proofs.Limits.{and_parts}
use Rattle.layout.proofs.Fields.{u32_long}
use Rattle.layout.proofs.Blocks.{zeros_long, zeros_more, filled_long, written_on, overwritten_then}
use Rattle.layout.proofs.Pairs.{all_at, all_from, same_all, same_pairs}
use Rattle.layout.proofs.DirectoryLaws.{head_text, head_text_long, head_parts, head_again, entry_fits, fits_list, list_fits, list_again, entry_text_long, entry_texts_long, short_name}
use Rattle.layout.proofs.DirPlaces.{front_text, front_long, text_around, around_place, text_set, entry_set, stands_spelled, whole_at}

-- ---- a block that spells entries

pub entries_now : (block : List ℕ) (v : EntryList) → fits_entries v ≡ true → block ≡ entries_spelling v → AreEntries block × (block_entries block ≡ v)
unfolding block_entries
entries_now block v fit is =
    let p = and_parts (fits_list v) (are_distinct v.entries) fit in
    let read : within 4096 entries_field block ≡ Some v = ap (within 4096 entries_field) is ∙ list_again v p.0 in
    let list : block_entries block ≡ v = ap (λ (o : Option EntryList). unwrap_or o (record { owner = 0; entries = [] })) read in
    (record { fit = ap fits_entries list ∙ fit; spelled = is ∙ ap entries_spelling (sym list) }, list)

-- what holds of entries that fit
pub record Fit (v : EntryList) : Type 0 where
  pub owner : is_inode v.owner ≡ true
  pub few : length v.entries ≤ 56
  pub each : list_all fits_entry v.entries ≡ true
  pub distinct : are_distinct v.entries ≡ true

pub fit_parts : (v : EntryList) → fits_entries v ≡ true → Fit v
fit_parts v fit =
    let p = and_parts (fits_list v) (are_distinct v.entries) fit in
    let f = list_fits v p.0 in
    record { owner = f.owner; few = leb-true _ _ f.few; each = f.each; distinct = p.1 }

pub fit_from : (v : EntryList) → Fit v → fits_entries v ≡ true
fit_from v f = and_from _ _ (and_from _ _ (and_from _ _ f.owner (le-leb _ _ f.few)) f.each) f.distinct

text_short : (v : EntryList) → Fit v → length (entries_text v) ≤ 4096
text_short v f =
    omega (arith, length-append (head_text v.owner (length v.entries)) (flat_map entry_text v.entries), head_text_long v.owner (length v.entries), entry_texts_long v.entries f.each, f.few)

pub spelling_long : (v : EntryList) → Fit v → length (entries_spelling v) ≡ 4096
spelling_long v f = filled_long 4096 (entries_text v) (text_short v f)

pub listed_now : (block : List ℕ) → AreEntries block → IsEntryList block
listed_now block e =
    let f = fit_parts (block_entries block) e.fit in
    let p = and_parts (fits_list (block_entries block)) (are_distinct (block_entries block).entries) e.fit in
    record { spelled = ap (within 4096 entries_field) e.spelled ∙ list_again (block_entries block) p.0; few = f.few; long = ap length e.spelled ∙ spelling_long (block_entries block) f }

-- what its head tells
pub head_now : (block : List ℕ) → AreEntries block → (rest : List ℕ) × (head_at block ≡ Some (((block_entries block).owner, length (block_entries block).entries), rest))
unfolding padded_text
head_now block e =
    let v : EntryList = block_entries block in
    let f = fit_parts v e.fit in
    let texts : List ℕ = flat_map entry_text v.entries in
    let gap : List ℕ = zeros (4096 - length (entries_text v)) in
    (texts ++ gap, ap head_at (e.spelled ∙ append_assoc (head_text v.owner (length v.entries)) texts gap) ∙ head_again v.owner (length v.entries) (texts ++ gap) f.owner (le-leb _ _ f.few))

-- ---- another count

count_set : (owner n m : ℕ) (texts : List ℕ) → with_text 4 (u32 m) (padded_text 4096 (head_text owner n ++ texts)) ≡ padded_text 4096 (head_text owner m ++ texts)
count_set owner n m texts =
    let split : (k : ℕ) → head_text owner k ++ texts ≡ u32 owner ++ (u32 k ++ (zeros 56 ++ texts)) = λ k. ap (λ (t : List ℕ). t ++ texts) (sym (head_parts owner k)) ∙ simp append_assoc in
    ap (λ (t : List ℕ). with_text 4 (u32 m) (padded_text 4096 t)) (split n)
    ∙ ap (λ (k : ℕ). with_text k (u32 m) (padded_text 4096 (u32 owner ++ (u32 n ++ (zeros 56 ++ texts))))) (sym (u32_long owner))
    ∙ around_place 4096 (u32 owner) (u32 n) (u32 m) (zeros 56 ++ texts) (u32_long m ∙ sym (u32_long n))
    ∙ ap (padded_text 4096) (sym (split m))

-- ---- one entry more

pub entry_added : (v : EntryList) (e : DirEntry) → Fit v → length v.entries < 56 → length e.name ≤ 64
    → with_text 4 (u32 (length v.entries + 1)) (with_text (64 + 72 * length v.entries) (entry_text e) (entries_spelling v)) ≡ entries_spelling (with_last v e)
entry_added v e f room short =
    let n : ℕ = length v.entries in
    let head : ℕ → List ℕ = head_text v.owner in
    let texts : List ℕ = flat_map entry_text v.entries in
    let long : length (entries_text v) ≡ 64 + 72 * n = omega (arith, length-append (head n) texts, head_text_long v.owner n, entry_texts_long v.entries f.each) in
    let behind : with_text (64 + 72 * n) (entry_text e) (entries_spelling v) ≡ padded_text 4096 (entries_text v ++ entry_text e) =
    written_on 4096 (64 + 72 * n) (entries_text v) (entry_text e) (entries_spelling v) refl (sym long) (omega (arith, long, room, entry_text_long e short)) in
    let all : flat_map entry_text (v.entries ++ e ∷ []) ≡ texts ++ entry_text e = flat_map-append entry_text v.entries (e ∷ []) ∙ ap (λ (t : List ℕ). texts ++ t) (append-nil (entry_text e)) in
    let more : n + 1 ≡ length (v.entries ++ e ∷ []) = omega (arith, length-append v.entries (e ∷ [])) in
    ap (with_text 4 (u32 (n + 1))) (behind ∙ ap (padded_text 4096) (append_assoc (head n) texts (entry_text e)))
    ∙ count_set v.owner n (n + 1) (texts ++ entry_text e)
    ∙ ap (λ (k : ℕ). padded_text 4096 (head k ++ (texts ++ entry_text e))) more
    ∙ ap (λ (t : List ℕ). padded_text 4096 (head (length (v.entries ++ e ∷ [])) ++ t)) (sym all)

-- an entry that differs from each may stand behind them
distinct_more : (es : List DirEntry) (e : DirEntry) → list_all (λ x. differ x e) es ≡ true → are_distinct es ≡ true → are_distinct (es ++ e ∷ []) ≡ true
distinct_more [] e off is = refl
distinct_more (x ∷ xs) e off is =
    let o = and_parts (differ x e) (list_all (λ y. differ y e) xs) off in
    let i = and_parts (list_all (differ x) xs) (are_distinct xs) is in
    and_from _ _ (list_all-append (differ x) xs (e ∷ []) ∙ and_from _ _ i.0 (and_from _ _ o.0 refl)) (distinct_more xs e o.1 i.1)

not_found : (p : DirEntry → Bool) (es : List DirEntry) → position p es ≡ None → length es ≤ position_or_len p es
not_found p es none = grind (arith, common_steps)

-- where none is found, none has the name
none_has : (name : List ℕ) (es : List DirEntry) → position (λ e. bytes_eq e.name name) es ≡ None → list_all (λ e. not (bytes_eq e.name name)) es ≡ true
none_has name es none =
    let has = λ (e : DirEntry). bytes_eq e.name name in
    let late : length es ≤ position_or_len has es = not_found has es none in
    all_from (λ e. not (has e)) es (λ k d lt. ap not (fails_before_first has es k d (omega (arith, late, lt))))

pub fit_added : (v : EntryList) (e : DirEntry) → Fit v → length v.entries < 56 → fits_entry e ≡ true → position (λ x. bytes_eq x.name e.name) v.entries ≡ None → fits_entries (with_last v e) ≡ true
fit_added v e f room fit new = fit_from (with_last v e) (record {
  owner = f.owner;
  few = omega (arith, length-append v.entries (e ∷ []), room);
  each = list_all-append fits_entry v.entries (e ∷ []) ∙ and_from _ _ f.each (and_from _ _ fit refl);
  distinct = distinct_more v.entries e (none_has e.name v.entries new) f.distinct;
})

-- ---- the last one goes

cut_off : (n : ℕ) (a x : List ℕ) → length a + length x ≤ n → with_text (length a) (zeros (length x)) (padded_text n (a ++ (x ++ []))) ≡ padded_text n a
unfolding padded_text
cut_off n a x fits =
    let w : List ℕ = zeros (length x) in
    let rest : n - length (a ++ (w ++ [])) ≡ n - (length a + length x) = omega (arith, length-append a (w ++ []), length-append w [], zeros_long (length x)) in
    let split : n - length a ≡ length x + (n - (length a + length x)) = omega (arith, fits) in
    around_place n a x w [] (zeros_long (length x))
    ∙ ap (λ (k : ℕ). (a ++ (w ++ [])) ++ zeros k) rest
    ∙ ap (λ (t : List ℕ). (a ++ t) ++ zeros (n - (length a + length x))) (append-nil w)
    ∙ append_assoc a w (zeros (n - (length a + length x)))
    ∙ ap (λ (t : List ℕ). a ++ t) (zeros_more (length x) (n - (length a + length x)))
    ∙ ap (λ (k : ℕ). a ++ zeros k) (sym split)

pub entry_removed : (v : EntryList) (n : ℕ) → length v.entries ≡ n → list_all fits_entry v.entries ≡ true → 0 < n → n ≤ 56
    → with_text 4 (u32 (n - 1)) (with_text (64 + 72 * (n - 1)) (zeros 72) (entries_spelling v)) ≡ entries_spelling (without_last v)
entry_removed v n count each some few =
    let i : ℕ = n - 1 in
    let es : List DirEntry = v.entries in
    let within : i < length es = omega (arith, count, some) in
    let last : DirEntry = get_or es i no_entry in
    let fit = entry_fits last (all_at fits_entry es i no_entry each within) in
    let size : length (entry_text last) ≡ 72 = entry_text_long last (short_name last.name fit.name) in
    let nothing : drop (i + 1) es ≡ [] = drop_all (i + 1) es (omega (arith, count, some)) in
    let front : List ℕ = front_text v i in
    let long : length front ≡ 64 + 72 * i = front_long v i each (omega (arith, within)) in
    let whole : entries_text v ≡ front ++ (entry_text last ++ []) = text_around v i no_entry within ∙ ap (λ (t : List DirEntry). front ++ (entry_text last ++ flat_map entry_text t)) nothing in
    let cut : with_text (64 + 72 * i) (zeros 72) (entries_spelling v) ≡ padded_text 4096 front =
    ap (λ (t : List ℕ). with_text (64 + 72 * i) (zeros 72) (padded_text 4096 t)) whole
    ∙ ap (λ (k : ℕ). with_text k (zeros 72) (padded_text 4096 (front ++ (entry_text last ++ [])))) (sym long)
    ∙ ap (λ (k : ℕ). with_text (length front) (zeros k) (padded_text 4096 (front ++ (entry_text last ++ [])))) (sym size)
    ∙ cut_off 4096 front (entry_text last) (omega (arith, long, size, few, some)) in
    let left : length (take i es) ≡ i = omega (arith, length-take i es, within) in
    let one : length es - 1 ≡ i = omega (arith, count) in
    ap (with_text 4 (u32 i)) cut
    ∙ count_set v.owner (length es) i (flat_map entry_text (take i es))
    ∙ ap (λ (k : ℕ). padded_text 4096 (head_text v.owner k ++ flat_map entry_text (take i es))) (sym left)
    ∙ ap (λ (k : ℕ). entries_spelling (record { owner = v.owner; entries = take k es })) (sym one)

all_front : {A : Type 0} (p : A → Bool) (n : ℕ) (xs : List A) → list_all p xs ≡ true → list_all p (take n xs) ≡ true
all_front p zero xs h = refl
all_front p (suc n) [] h = refl
all_front p (suc n) (x ∷ xs) h =
    let a = and_parts (p x) (list_all p xs) h in
    and_from _ _ a.0 (all_front p n xs a.1)

pairs_front : {A : Type 0} (test : A → A → Bool) (n : ℕ) (xs : List A) → all_pairs test xs ≡ true → all_pairs test (take n xs) ≡ true
pairs_front test zero xs h = refl
pairs_front test (suc n) [] h = refl
pairs_front test (suc n) (x ∷ xs) h =
    let a = and_parts (list_all (test x) xs) (all_pairs test xs) h in
    and_from _ _ (all_front (test x) n xs a.0) (pairs_front test n xs a.1)

pub fit_removed : (v : EntryList) → Fit v → fits_entries (without_last v) ≡ true
fit_removed v f = fit_from (without_last v) (record {
  owner = f.owner;
  few = omega (arith, length-take (length v.entries - 1) v.entries, f.few);
  each = all_front fits_entry (length v.entries - 1) v.entries f.each;
  distinct = pairs_front differ (length v.entries - 1) v.entries f.distinct;
})

-- ---- the last one takes another's place

pub entry_bytes : (block : List ℕ) (i : ℕ) → AreEntries block → i < length (block_entries block).entries → take 72 (drop (64 + 72 * i) block) ≡ entry_text (entry_of (block_entries block) i)
entry_bytes block i e lt =
    let v : EntryList = block_entries block in
    let x : DirEntry = entry_of v i in
    let p = and_parts (fits_list v) (are_distinct v.entries) e.fit in
    let s = stands_spelled block v i no_entry p.0 e.spelled lt in
    let size : length (entry_text x) ≡ 72 = entry_text_long x (short_name x.name (entry_fits x s.fit).name) in
    ap (take 72) (whole_at block (64 + 72 * i) x s) ∙ take_at (entry_text x) s.rest 72 size

pub entry_copied : (v : EntryList) (i j : ℕ) → fits_entries v ≡ true → i < length v.entries → j < length v.entries
    → with_text (64 + 72 * i) (entry_text (entry_of v j)) (entries_spelling v) ≡ entries_spelling (with_entry_at v i (entry_of v j))
entry_copied v i j fit li lj =
    let f = fit_parts v fit in
    let x : DirEntry = entry_of v j in
    entry_set v i x fit li (short_name x.name (entry_fits x (all_at fits_entry v.entries j no_entry f.each lj)).name)

all_set : {A : Type 0} (p : A → Bool) (xs : List A) (i : ℕ) (x : A) → list_all p xs ≡ true → p x ≡ true → list_all p (slice_set xs i x) ≡ true
all_set p [] i x h is = refl
all_set p (y ∷ ys) zero x h is = and_from _ _ is (and_parts (p y) (list_all p ys) h).1
all_set p (y ∷ ys) (suc i) x h is =
    let a = and_parts (p y) (list_all p ys) h in
    and_from _ _ a.0 (all_set p ys i x a.1 is)

pub copied_fit : (v : EntryList) (i j : ℕ) → Fit v → j < length v.entries → list_all fits_entry (with_entry_at v i (entry_of v j)).entries ≡ true
copied_fit v i j f lj = all_set fits_entry v.entries i (entry_of v j) f.each (all_at fits_entry v.entries j no_entry f.each lj)

-- the last one goes from the end once it stands at the place
pub taken_is : (v : EntryList) (i n : ℕ) → length v.entries ≡ n → without_last (with_entry_at v i (entry_of v (n - 1))) ≡ without_entry v i
taken_is v i n count =
    let es : List DirEntry = v.entries in
    let long : length (slice_set es i (get_or es (n - 1) no_entry)) - 1 ≡ length es - 1 = omega (arith, length-set es i (get_or es (n - 1) no_entry)) in
    ap (λ (k : ℕ). record { owner = v.owner; entries = take k (slice_set es i (get_or es (n - 1) no_entry)) }) long
    ∙ ap (λ (k : ℕ). record { owner = v.owner; entries = take (length es - 1) (slice_set es i (get_or es (k - 1) no_entry)) }) (sym count)

differ_both : (a b : DirEntry) → differ a b ≡ true → differ b a ≡ true
differ_both a b is =
    (Decides-not (bytes_eq b.name a.name) (bytes_eq-Decides b.name a.name)).1 (λ same. (Decides-not (bytes_eq a.name b.name) (bytes_eq-Decides a.name b.name)).0 is (sym same))

taken_perm : (es : List DirEntry) (i : ℕ) → i < length es → IsPermutation es (get_or es i no_entry ∷ swap_remove es i no_entry)
taken_perm es i lt =
    let n : ℕ = length es - 1 in
    let x : DirEntry = get_or es i no_entry in
    let same : get_or es n x ≡ get_or es n no_entry = get_or_default es n x no_entry (omega (arith, lt)) in
    subst (λ (l : DirEntry). IsPermutation es (x ∷ take n (slice_set es i l))) same (IsPermutation-swap_remove es i x lt (get_or_default es i no_entry x lt))

pub fit_taken : (v : EntryList) (i : ℕ) → Fit v → i < length v.entries → fits_entries (without_entry v i) ≡ true
fit_taken v i f lt =
    let es : List DirEntry = v.entries in
    let x : DirEntry = get_or es i no_entry in
    let left : List DirEntry = swap_remove es i no_entry in
    let perm = taken_perm es i lt in
    let each = and_parts (fits_entry x) (list_all fits_entry left) (same_all fits_entry es (x ∷ left) perm f.each) in
    let pairs = and_parts (list_all (differ x) left) (are_distinct left) (same_pairs differ differ_both (x ∷ left) es (IsPermutation-sym es (x ∷ left) perm) f.distinct) in
    fit_from (without_entry v i) (record {
      owner = f.owner;
      few = omega (arith, length-take (length es - 1) (slice_set es i (get_or es (length es - 1) no_entry)), f.few);
      each = each.1;
      distinct = pairs.1;
    })

-- ---- an entry that leads elsewhere

names_all : (name : List ℕ) (xs : List DirEntry) (i : ℕ) (e : DirEntry) → e.name ≡ (get_or xs i no_entry).name → i < length xs → list_all (λ x. not (bytes_eq name x.name)) (slice_set xs i e) ≡ list_all (λ x. not (bytes_eq name x.name)) xs
names_all name [] i e same lt = refl
names_all name (x ∷ xs) zero e same lt = ap (λ n. not (bytes_eq name n) && list_all (λ y. not (bytes_eq name y.name)) xs) same
names_all name (x ∷ xs) (suc i) e same lt = ap (λ b. not (bytes_eq name x.name) && b) (names_all name xs i e same (omega (arith, lt)))

pub names_kept : (xs : List DirEntry) (i : ℕ) (e : DirEntry) → e.name ≡ (get_or xs i no_entry).name → i < length xs → are_distinct (slice_set xs i e) ≡ are_distinct xs
names_kept [] i e same lt = refl
names_kept (x ∷ xs) zero e same lt = ap (λ n. list_all (λ y. not (bytes_eq n y.name)) xs && are_distinct xs) same
names_kept (x ∷ xs) (suc i) e same lt =
    ap (λ b. b && are_distinct (slice_set xs i e)) (names_all x.name xs i e same (omega (arith, lt)))
    ∙ ap (λ b. list_all (differ x) xs && b) (names_kept xs i e same (omega (arith, lt)))

pub fit_set : (v : EntryList) (i : ℕ) (e : DirEntry) → Fit v → fits_entry e ≡ true → are_distinct (with_entry_at v i e).entries ≡ true → fits_entries (with_entry_at v i e) ≡ true
fit_set v i e f fit distinct = fit_from (with_entry_at v i e) (record {
  owner = f.owner;
  few = omega (arith, length-set v.entries i e, f.few);
  each = all_set fits_entry v.entries i e f.each fit;
  distinct = distinct;
})

pub target_set : (v : EntryList) (i inode : ℕ) (k : Kind) → Fit v → i < length v.entries
    → with_text (64 + 72 * i + 4) (kind_byte k ∷ []) (with_text (64 + 72 * i) (u32 inode) (entries_spelling v)) ≡ entries_spelling (with_target v i inode k)
target_set v i inode k f lt =
    let at : ℕ = 64 + 72 * i in
    let old : DirEntry = entry_of v i in
    let new : DirEntry = record { inode = inode; kind = k; name = old.name } in
    let name : List ℕ = length old.name ∷ 0 ∷ 0 ∷ padded_text 64 old.name in
    let x : List ℕ = u32 old.inode ++ (kind_byte old.kind ∷ []) in
    let w : List ℕ = u32 inode ++ (kind_byte k ∷ []) in
    let behind : List ℕ = flat_map entry_text (drop (i + 1) v.entries) in
    let front : List ℕ = front_text v i in
    let long : length front ≡ at = front_long v i f.each (omega (arith, lt)) in
    let same : length w ≡ length x = omega (arith, length-append (u32 inode) (kind_byte k ∷ []), length-append (u32 old.inode) (kind_byte old.kind ∷ []), u32_long inode, u32_long old.inode) in
    let parts : (n : ℕ) (b : ℕ) → (u32 n ++ (b ∷ name)) ++ behind ≡ (u32 n ++ (b ∷ [])) ++ (name ++ behind) = λ n b. simp append_assoc in
    overwritten_then at (at + 4) (u32 inode) (kind_byte k ∷ []) (entries_spelling v) (omega (arith, u32_long inode)) (omega (arith, spelling_long v f, f.few, lt))
    ∙ ap (λ (t : List ℕ). with_text at w (padded_text 4096 t)) (text_around v i no_entry lt ∙ ap (λ (t : List ℕ). front ++ t) (parts old.inode (kind_byte old.kind)))
    ∙ ap (λ (n : ℕ). with_text n w (padded_text 4096 (front ++ (x ++ (name ++ behind))))) (sym long)
    ∙ around_place 4096 front x w (name ++ behind) same
    ∙ ap (λ (t : List ℕ). padded_text 4096 (front ++ t)) (sym (parts inode (kind_byte k)))
    ∙ ap (padded_text 4096) (text_set v i new lt)
