-- Marks of bytes that are put into a block, and how many of them are set.
use Rattle.std.proofs.Common.{◌≡◌, ◌↔◌, inl, inr, if◌then◌else◌, ◌≤◌, ◌<◌, ◌+◌, ◌-◌, ◌*◌, ℕ, zero, suc, Bool, true, false, cond, List, [], ◌∷◌, ◌++◌, length, get_or, take, drop, refl, ap, sym, subst, ◌∙◌, arith, Some, None, Option}
use Rattle.std.specs.Prelude.{replicate, map, nat_le, nat_lt, ◌&&◌, ◌==◌, IsSome, unwrap_or, vec_capacity}
use Rattle.std.specs.Global.{Vec}
use Rattle.std.specs.List.{count_by, sum_by}
use Rattle.std.proofs.lemmas.Bool.{and_from, le-leb, cond-true, cond-false, false≢true}
use Rattle.std.proofs.lemmas.Bool.Decides.{eqb_tells, leb_tells}
use Rattle.std.proofs.lemmas.Grind.{common_steps}
use Rattle.std.proofs.lemmas.List.{append-nil, drop-drop, length-append, drop-append-le, drop-map, drop-replicate, drop_all, ext_get_or, get_or-replicate, get_or_past, length-drop, length-map, length-replicate, length-take-le, map-append, take-append-le, take-map, take_all}
use Rattle.std.proofs.lemmas.List.Folds.{sum_by-replicate}
use Rattle.std.proofs.lemmas.List.Sums.{count_by-le-length, sum_by-append, sum_by-take-drop}
use Rattle.posix_calls.specs.declared.limits.TheConstants.{UNIT_BYTES}
use Rattle.graph_change.specs.Bytes.{in_run}
use Rattle.graph_change.specs.Change.{patched_bytes, put_patch, cut_patch, IsWhole}
use Rattle.graph_change.specs.KeptBytes.{bytes_in, is_set, kept_marks, marks_in, IsKept}
use Rattle.graph_change.specs.View.{patch_of}
use Rattle.graph_change.proofs.Overs.{patched_long, patched_at}

one_more : (ms : List Bool) → count_by (λ m. m) (true ∷ ms) ≡ 1 + count_by (λ m. m) ms
one_more ms = sum_by-append (λ m. cond m 1 0) (true ∷ []) ms

no_more : (ms : List Bool) → count_by (λ m. m) (false ∷ ms) ≡ 0 + count_by (λ m. m) ms
no_more ms = sum_by-append (λ m. cond m 1 0) (false ∷ []) ms

-- where all are set they are alike, and so they are where none is
all_set : (ms : List Bool) → count_by (λ m. m) ms ≡ length ms → ms ≡ replicate (length ms) true
all_set [] e = refl
all_set (true ∷ ms) e = let more = one_more ms in ap (λ rest. true ∷ rest) (all_set ms (omega (arith, e, more)))
all_set (false ∷ ms) e =
    let more = no_more ms in
    let few = count_by-le-length (λ m. m) ms in
    absurd (omega (arith, e, few, more))

none_set : (ms : List Bool) → count_by (λ m. m) ms ≡ 0 → ms ≡ replicate (length ms) false
none_set [] e = refl
none_set (true ∷ ms) e = let more = one_more ms in absurd (omega (arith, e, more))
none_set (false ∷ ms) e = let more = no_more ms in ap (λ rest. false ∷ rest) (none_set ms (omega (arith, e, more)))

-- where each is set, as many are as there are
each_set : (ms : List Bool) → ((p : ℕ) → p < length ms → get_or ms p false ≡ true) → count_by (λ m. m) ms ≡ length ms
each_set [] each = refl
each_set (true ∷ ms) each =
    let more = one_more ms in
    let rest = each_set ms (λ p lt. each (suc p) (omega (arith, lt))) in
    omega (arith, rest, more)
each_set (false ∷ ms) each = absurd (false≢true (each 0 (omega arith)))

-- ---- how many are set

abbrev one_if : ℕ → ℕ
one_if m = cond (is_set m) 1 0

length-take-at-most : (n : ℕ) (ms : List ℕ) → length (take n ms) ≤ n
length-take-at-most n ms = grind (arith, common_steps)

-- where so many from a place on are set, those of them that were not set come to the others
pub more_set : (ms new : List ℕ) (at n m set : ℕ) → m ≡ n → new ≡ take at ms ++ replicate n 1 ++ drop (at + n) ms → set ≡ count_by is_set (take m (drop at ms)) → count_by is_set ms + (n - set) ≡ count_by is_set new
more_set ms new at n m set same is told =
    let front : count_by is_set (take at ms) + count_by is_set (drop at ms) ≡ count_by is_set ms = sum_by-take-drop one_if ms at in
    let part : count_by is_set (take m (drop at ms)) + count_by is_set (drop m (drop at ms)) ≡ count_by is_set (drop at ms) = sum_by-take-drop one_if (drop at ms) m in
    let behind : count_by is_set (drop m (drop at ms)) ≡ count_by is_set (drop (at + n) ms) = ap (count_by is_set) (drop-drop m at ms ∙ ap (λ k. drop (at + k) ms) same) in
    let joined : count_by is_set new ≡ count_by is_set (take at ms ++ replicate n 1) + count_by is_set (drop (at + n) ms) = ap (count_by is_set) is ∙ sum_by-append one_if (take at ms ++ replicate n 1) (drop (at + n) ms) in
    let rest : count_by is_set (take at ms ++ replicate n 1) ≡ count_by is_set (take at ms) + count_by is_set (replicate n 1) = sum_by-append one_if (take at ms) (replicate n 1) in
    let all : count_by is_set (replicate n 1) ≡ n * 1 = sum_by-replicate one_if n 1 in
    let few = count_by-le-length is_set (take m (drop at ms)) in
    let short = length-take-at-most m (drop at ms) in
    omega (arith, same, told, front, part, behind, joined, rest, all, few, short)

-- where all from a place on are taken out, those of them that were set go
pub fewer_set : (ms new : List ℕ) (at m set : ℕ) → m ≡ length ms - at → new ≡ take at ms ++ replicate (length ms - at) 0 → set ≡ count_by is_set (take m (drop at ms)) → count_by is_set new + set ≡ count_by is_set ms
fewer_set ms new at m set same is told =
    let long = length-drop at ms in
    let front : count_by is_set (take at ms) + count_by is_set (drop at ms) ≡ count_by is_set ms = sum_by-take-drop one_if ms at in
    let whole : count_by is_set (take m (drop at ms)) ≡ count_by is_set (drop at ms) = ap (count_by is_set) (take_all m (drop at ms) (omega (arith, long, same))) in
    let joined : count_by is_set new ≡ count_by is_set (take at ms) + count_by is_set (replicate (length ms - at) 0) = ap (count_by is_set) is ∙ sum_by-append one_if (take at ms) (replicate (length ms - at) 0) in
    let none : count_by is_set (replicate (length ms - at) 0) ≡ (length ms - at) * 0 = sum_by-replicate one_if (length ms - at) 0 in
    omega (arith, told, front, whole, joined, none)

-- as many as are set among what is kept
pub marks_counted : (ms : List ℕ) → count_by (λ b. b) (map is_set ms) ≡ count_by is_set ms
marks_counted [] = refl
marks_counted (m ∷ ms) =
    sum_by-append (λ b. cond b 1 0) (is_set m ∷ []) (map is_set ms)
    ∙ ap (λ k. sum_by one_if (m ∷ []) + k) (marks_counted ms)
    ∙ sym (sum_by-append one_if (m ∷ []) ms)

-- what stands behind a place is filled
pub filled : (old cut : List ℕ) (n place gap x : ℕ) → cut ≡ take place old → place ≤ length old → place ≤ n → gap ≡ place → take n cut ++ replicate (n - gap) x ≡ take place old ++ replicate (n - place) x
filled old cut n place gap x is there within same =
    let long = length-take-le place old there in
    ap (λ k. take n cut ++ replicate (n - k) x) same
    ∙ ap (λ xs. take n xs ++ replicate (n - place) x) is
    ∙ ap (λ xs. xs ++ replicate (n - place) x) (take_all n (take place old) (omega (arith, long, within)))

-- the two parts of a list
pub front_is : (n : ℕ) (xs ys : List ℕ) → length xs ≡ n → take n (xs ++ ys) ≡ xs
front_is n xs ys long = take-append-le n xs ys (omega (arith, long)) ∙ take_all n xs (omega (arith, long))

pub back_is : (n : ℕ) (xs ys : List ℕ) → length xs ≡ n → drop n (xs ++ ys) ≡ ys
back_is n xs ys long = drop-append-le n xs ys (omega (arith, long)) ∙ ap (λ zs. zs ++ ys) (drop_all n xs (omega (arith, long)))

-- ---- what is kept

marks_none : (kept : List Bool) → marks_in 0 kept ≡ replicate UNIT_BYTES false
marks_none kept = refl

pub marks_all : (n : ℕ) (kept : List Bool) → n ≡ UNIT_BYTES → marks_in n kept ≡ replicate UNIT_BYTES true
marks_all n kept e = ap (λ k. marks_in k kept) e

-- the marks that are kept are those that count, whatever is said of them where they are alike
pub settled : (ms : List Bool) (n : ℕ) → length ms ≡ UNIT_BYTES → count_by (λ m. m) ms ≡ n → marks_in n ms ≡ ms
settled ms n long is = elim (eqb_tells n 0) [
  | inl none ↦ cond-true (n == 0) _ _ none.0 ∙ ap (λ k. replicate k false) (sym long) ∙ sym (none_set ms (is ∙ none.1))
  | inr some ↦ cond-false (n == 0) _ _ some.0 ∙ elim (eqb_tells n UNIT_BYTES) [
    | inl all ↦ cond-true (n == UNIT_BYTES) _ _ all.0 ∙ ap (λ k. replicate k true) (sym long) ∙ sym (all_set ms (is ∙ all.1 ∙ sym long))
    | inr few ↦ cond-false (n == UNIT_BYTES) _ _ few.0
  ]
]

pub kept_some : (slots : Vec ℕ) (n : ℕ) → 2 * UNIT_BYTES ≤ vec_capacity slots → length slots.items ≡ 2 * UNIT_BYTES → count_by is_set (drop UNIT_BYTES slots.items) ≡ n → IsKept slots n
kept_some slots n room slots_long is =
    let ms = kept_marks slots.items in
    let behind = length-drop UNIT_BYTES slots.items in
    let marks = length-map (drop UNIT_BYTES slots.items) is_set in
    let long : length ms ≡ UNIT_BYTES = omega (arith, slots_long, behind, marks) in
    let counted = marks_counted (drop UNIT_BYTES slots.items) ∙ is in
    let same = settled ms n long counted in (record {
      room = room;
      long = ap length same ∙ long;
      counted = ap (count_by (λ m. m)) same ∙ counted;
      bytes_long = λ some. omega (arith, slots_long);
    })

pub kept_none : (slots : Vec ℕ) → 2 * UNIT_BYTES ≤ vec_capacity slots → IsKept slots 0
kept_none slots room = record {
  room = room;
  long = length-replicate UNIT_BYTES false;
  counted = sum_by-replicate (λ m. cond m 1 0) UNIT_BYTES false;
  bytes_long = λ some. absurd (omega (arith, some));
}

pub kept_all : (slots : Vec ℕ) (n : ℕ) → n ≡ UNIT_BYTES → 2 * UNIT_BYTES ≤ vec_capacity slots → UNIT_BYTES ≤ length slots.items → IsKept slots n
kept_all slots n is room bytes_long =
    let all = marks_all n (kept_marks slots.items) is in (record {
      room = room;
      long = ap length all ∙ length-replicate UNIT_BYTES true;
      counted = ap (count_by (λ m. m)) all ∙ sum_by-replicate (λ m. cond m 1 0) UNIT_BYTES true ∙ sym is;
      bytes_long = λ some. bytes_long;
    })

all_alike : (n value : ℕ) → map is_set (replicate n value) ≡ replicate n (is_set value)
all_alike zero value = refl
all_alike (suc n) value = ap (λ rest. is_set value ∷ rest) (all_alike n value)

-- where some bytes are put and not all, the marks that are kept are those that count
pub not_alike : (n : ℕ) (ms : List Bool) → (n ≡ 0 → ⊥) → (n ≡ UNIT_BYTES → ⊥) → marks_in n ms ≡ ms
not_alike n ms some few = elim (eqb_tells n 0) [
  | inl none ↦ absurd (some none.1)
  | inr more ↦ cond-false (n == 0) _ _ more.0 ∙ elim (eqb_tells n UNIT_BYTES) [
    | inl all ↦ absurd (few all.1)
    | inr part ↦ cond-false (n == UNIT_BYTES) _ _ part.0
  ]
]

pub each_there : (slots : Vec ℕ) (n : ℕ) → IsKept slots n → (n ≡ 0 → ⊥) → (n ≡ UNIT_BYTES → ⊥) → length slots.items ≡ 2 * UNIT_BYTES
each_there slots n kept some few =
    let long = sym (ap length (not_alike n (kept_marks slots.items) some few)) ∙ kept.long in
    let behind = length-drop UNIT_BYTES slots.items in
    let marks = length-map (drop UNIT_BYTES slots.items) is_set in
    omega (arith, long, behind, marks)

-- the marks that are written where all are alike
pub spread_alike : (old new : List ℕ) (place value : ℕ) → place ≤ UNIT_BYTES → place ≤ length old → new ≡ take place old ++ replicate (2 * UNIT_BYTES - place) value → kept_marks new ≡ replicate UNIT_BYTES (is_set value)
spread_alike old new place value within there made =
    let front = take place old in
    let back = replicate (2 * UNIT_BYTES - place) value in
    let gap = UNIT_BYTES - place in
    let front_long = length-take-le place old there in
    let end : place + gap ≡ UNIT_BYTES = omega (arith, within) in
    let rest : (2 * UNIT_BYTES - place) - gap ≡ UNIT_BYTES = omega (arith, within) in
    let behind : drop UNIT_BYTES (front ++ back) ≡ replicate UNIT_BYTES value =
    ap (λ k. drop k (front ++ back)) (sym end)
    ∙ sym (drop-drop gap place (front ++ back))
    ∙ ap (drop gap) (drop-append-le place front back (omega (arith, front_long)) ∙ ap (λ xs. xs ++ back) (drop_all place front (omega (arith, front_long))))
    ∙ drop-replicate gap (2 * UNIT_BYTES - place) value
    ∙ ap (λ k. replicate k value) rest in
    ap kept_marks made ∙ ap (map is_set) behind ∙ all_alike UNIT_BYTES value

-- each slot is there then
pub spread_long : (old new : List ℕ) (place value : ℕ) → place ≤ UNIT_BYTES → place ≤ length old → new ≡ take place old ++ replicate (2 * UNIT_BYTES - place) value → length new ≡ 2 * UNIT_BYTES
spread_long old new place value within there made =
    let whole = ap length made ∙ length-append (take place old) (replicate (2 * UNIT_BYTES - place) value) in
    let front = length-take-le place old there in
    let back = length-replicate (2 * UNIT_BYTES - place) value in
    omega (arith, whole, front, back, within)

-- where all are put, those that were put stay
pub spread_bytes : (old new : List ℕ) (n : ℕ) → n ≤ length old → new ≡ take n old ++ replicate (2 * UNIT_BYTES - n) 1 → n ≡ UNIT_BYTES → bytes_in new ≡ bytes_in old
spread_bytes old new n there made is =
    let long = length-take-le n old there in
    ap (λ k. take k new) (sym is)
    ∙ ap (take n) made
    ∙ take-append-le n (take n old) (replicate (2 * UNIT_BYTES - n) 1) (omega (arith, long))
    ∙ take_all n (take n old) (omega (arith, long))
    ∙ ap (λ k. take k old) is

-- ---- what is put

-- a byte is put where its mark is set
marked : (bytes : List ℕ) (marks : List Bool) (p : ℕ) → get_or marks p false ≡ true → patch_of (bytes, marks) p ≡ Some (get_or bytes p 0)
marked bytes marks p set = cond-true (get_or marks p false) _ _ set

pub empty : (o : Option ℕ) → o ≡ None → IsSome o → ⊥
empty o none some = cc

put_there : (bytes : List ℕ) (marks : List Bool) (p : ℕ) (b : Bool) → get_or marks p false ≡ b → IsSome (patch_of (bytes, marks) p) → get_or marks p false ≡ true
put_there bytes marks p true is some = is
put_there bytes marks p false is some = absurd (empty _ (cond-false (get_or marks p false) (Some (get_or bytes p 0)) None is) some)

-- so many bytes are put as a block has, or not each of them
pub whole_by_count : (slots : Vec ℕ) (n : ℕ) → IsKept slots n → (n ≡ UNIT_BYTES) ↔ IsWhole (patch_of (bytes_in slots.items, marks_in n (kept_marks slots.items)))
whole_by_count slots n kept = (there, back)
  where
    there : n ≡ UNIT_BYTES → IsWhole (patch_of (bytes_in slots.items, marks_in n (kept_marks slots.items)))
    there is p lt =
        let ms = kept_marks slots.items in
        let set = ap (λ xs. get_or xs p false) (marks_all n ms is) ∙ get_or-replicate UNIT_BYTES p true false lt in
        subst IsSome (sym (marked (bytes_in slots.items) (marks_in n ms) p set)) cc

    back : IsWhole (patch_of (bytes_in slots.items, marks_in n (kept_marks slots.items))) → n ≡ UNIT_BYTES
    back whole =
        let ms = marks_in n (kept_marks slots.items) in
        let long = kept.long in
        sym kept.counted ∙ each_set ms (λ p lt. put_there (bytes_in slots.items) ms p (get_or ms p false) refl (whole p (omega (arith, lt, long)))) ∙ long

-- where so many bytes are put as a block has, each is put at its place
pub whole_byte : (bytes : List ℕ) (marks : List Bool) (n p : ℕ) → n ≡ UNIT_BYTES → p < UNIT_BYTES → patch_of (bytes, marks_in n marks) p ≡ Some (get_or bytes p 0)
whole_byte bytes marks n p is lt = marked bytes (marks_in n marks) p (ap (λ ms. get_or ms p false) (marks_all n marks is) ∙ get_or-replicate UNIT_BYTES p true false lt)

pub all_put_over : (bytes : List ℕ) (marks : List Bool) (n : ℕ) (old : List ℕ) → n ≡ UNIT_BYTES → length bytes ≡ UNIT_BYTES → length old ≡ UNIT_BYTES → bytes ≡ patched_bytes (patch_of (bytes, marks_in n marks)) old
all_put_over bytes marks n old is long old_long =
    let patch = patch_of (bytes, marks_in n marks) in
    ext_get_or 0 _ _ (long ∙ sym old_long ∙ sym (patched_long patch old)) (λ p lt.
    let within : p < UNIT_BYTES = omega (arith, lt, long) in
    sym (patched_at patch old p (omega (arith, within, old_long)) ∙ ap (λ o. unwrap_or o (get_or old p 0)) (whole_byte bytes marks n p is within)))

unset : (n p : ℕ) → get_or (replicate n false) p false ≡ false
unset zero p = refl
unset (suc n) zero = refl
unset (suc n) (suc p) = unset n p

pub none_put_over : (bytes : List ℕ) (marks : List Bool) (n : ℕ) (old : List ℕ) → n ≡ 0 → old ≡ patched_bytes (patch_of (bytes, marks_in n marks)) old
none_put_over bytes marks n old is =
    let patch = patch_of (bytes, marks_in n marks) in
    ext_get_or 0 _ _ (sym (patched_long patch old)) (λ p lt.
    sym (patched_at patch old p lt ∙ ap (λ o. unwrap_or o (get_or old p 0)) (cond-false (get_or (marks_in n marks) p false) _ _ (ap (λ k. get_or (marks_in k marks) p false) is ∙ unset UNIT_BYTES p))))

-- ---- what is put at a place, and what is cut

-- a vector that was lent as a slice has the bytes of the slice
pub written_back : {A : Type 0} (n : ℕ) (new old : List A) → n ≡ length old → length new ≡ length old → take n (new ++ drop (length new) old) ≡ new
written_back n new old long same =
    ap (λ rest. take n (new ++ rest)) (drop_all (length new) old (omega (arith, same))) ∙ ap (take n) (append-nil new) ∙ take_all n new (omega (arith, long, same))

-- where none is put, it makes no difference which bytes there are
same_patch : (count : ℕ) (old now : List ℕ) (kept : List Bool) → (0 < count → now ≡ old) → (p : ℕ) → patch_of (now, marks_in count kept) p ≡ patch_of (old, marks_in count kept) p
same_patch zero old now kept same p =
    let none = unset UNIT_BYTES p in
    cond-false (get_or (marks_in 0 kept) p false) (Some (get_or now p 0)) None none ∙ sym (cond-false (get_or (marks_in 0 kept) p false) (Some (get_or old p 0)) None none)
same_patch (suc count) old now kept same p = ap (λ bytes. patch_of (bytes, marks_in (suc count) kept) p) (same (omega arith))

put_at : (bs part nb : List ℕ) (ms nm : List Bool) (at : ℕ) → at + length part ≤ length bs → length bs ≡ length ms → nb ≡ take at bs ++ part ++ drop (at + length part) bs → nm ≡ take at ms ++ replicate (length part) true ++ drop (at + length part) ms
    → (p : ℕ) → patch_of (nb, nm) p ≡ put_patch at part (patch_of (bs, ms)) p
put_at bs part nb ms nm at within long bytes marks p = grind (arith, common_steps)

cut_at : (bs : List ℕ) (ms nm : List Bool) (at : ℕ) → at ≤ length ms → nm ≡ take at ms ++ replicate (length ms - at) false → (p : ℕ) → patch_of (bs, nm) p ≡ cut_patch at (patch_of (bs, ms)) p
cut_at bs ms nm at within marks p = grind (arith, common_steps)

pub put_settled : (count more at : ℕ) (old bs nb part : List ℕ) (kept ms nm : List Bool)
    → ms ≡ marks_in count kept → (0 < count → bs ≡ old) → length bs ≡ UNIT_BYTES → length ms ≡ UNIT_BYTES → count_by (λ b. b) ms ≡ count → at + length part ≤ UNIT_BYTES
    → nb ≡ take at bs ++ part ++ drop (at + length part) bs → nm ≡ take at ms ++ replicate (length part) true ++ drop (at + length part) ms → length nm ≡ length ms → count_by (λ b. b) ms + more ≡ count_by (λ b. b) nm
    → (p : ℕ) → patch_of (nb, marks_in (count + more) nm) p ≡ put_patch at part (patch_of (old, marks_in count kept)) p
put_settled count more at old bs nb part kept ms nm spread same bs_long ms_long counted within bytes marks nm_long sum p =
    let settle = settled nm (count + more) (nm_long ∙ ms_long) (omega (arith, sum, counted)) in
    ap (λ m. patch_of (nb, m) p) settle
    ∙ put_at bs part nb ms nm at (omega (arith, within, bs_long)) (bs_long ∙ sym ms_long) bytes marks p
    ∙ ap (λ m. put_patch at part (patch_of (bs, m)) p) spread
    ∙ ap (λ o. if in_run at (length part) p then Some (get_or part (p - at) 0) else o) (same_patch count old bs kept same p)

pub cut_settled : (count less at : ℕ) (old bs : List ℕ) (kept ms nm : List Bool)
    → ms ≡ marks_in count kept → (0 < count → bs ≡ old) → length ms ≡ UNIT_BYTES → count_by (λ b. b) ms ≡ count → at ≤ UNIT_BYTES
    → nm ≡ take at ms ++ replicate (length ms - at) false → length nm ≡ length ms → count_by (λ b. b) nm + less ≡ count_by (λ b. b) ms
    → (p : ℕ) → patch_of (bs, marks_in (count - less) nm) p ≡ cut_patch at (patch_of (old, marks_in count kept)) p
cut_settled count less at old bs kept ms nm spread same ms_long counted within marks nm_long sum p =
    let settle = settled nm (count - less) (nm_long ∙ ms_long) (omega (arith, sum, counted)) in
    ap (λ m. patch_of (bs, m) p) settle
    ∙ cut_at bs ms nm at (omega (arith, within, ms_long)) marks p
    ∙ ap (λ m. cut_patch at (patch_of (bs, m)) p) spread
    ∙ ap (λ o. if nat_lt p at then o else None) (same_patch count old bs kept same p)

-- the marks behind the bytes are those of a block
marks_edited : (ms new : List ℕ) (at n : ℕ) → new ≡ take at ms ++ replicate n 1 ++ drop (at + n) ms → map is_set new ≡ take at (map is_set ms) ++ replicate n true ++ drop (at + n) (map is_set ms)
marks_edited ms new at n is =
    ap (map is_set) is
    ∙ map-append is_set (take at ms ++ replicate n 1) (drop (at + n) ms)
    ∙ ap (λ xs. xs ++ map is_set (drop (at + n) ms)) (map-append is_set (take at ms) (replicate n 1))
    ∙ ap (λ xs. xs ++ map is_set (replicate n 1) ++ map is_set (drop (at + n) ms)) (sym (take-map is_set at ms))
    ∙ ap (λ xs. take at (map is_set ms) ++ xs ++ map is_set (drop (at + n) ms)) (all_alike n 1)
    ∙ ap (λ xs. take at (map is_set ms) ++ replicate n true ++ xs) (sym (drop-map is_set (at + n) ms))

marks_cut : (ms new : List ℕ) (at n : ℕ) → new ≡ take at ms ++ replicate n 0 → map is_set new ≡ take at (map is_set ms) ++ replicate n false
marks_cut ms new at n is =
    ap (map is_set) is
    ∙ map-append is_set (take at ms) (replicate n 0)
    ∙ ap (λ xs. xs ++ map is_set (replicate n 0)) (sym (take-map is_set at ms))
    ∙ ap (λ xs. take at (map is_set ms) ++ xs) (all_alike n 0)

marks_long : (slots : List ℕ) → length slots ≡ 2 * UNIT_BYTES → length (kept_marks slots) ≡ UNIT_BYTES
marks_long slots is =
    let behind = length-drop UNIT_BYTES slots in
    let marks = length-map (drop UNIT_BYTES slots) is_set in
    omega (arith, is, behind, marks)

pub put_kept : (count more at : ℕ) (old slots lent new part : List ℕ)
    → kept_marks slots ≡ marks_in count (kept_marks old) → (0 < count → bytes_in slots ≡ bytes_in old) → length slots ≡ 2 * UNIT_BYTES → count_by (λ b. b) (marks_in count (kept_marks old)) ≡ count → at + length part ≤ UNIT_BYTES → lent ≡ slots
    → bytes_in new ≡ take at (bytes_in lent) ++ part ++ drop (at + length part) (bytes_in lent) → drop UNIT_BYTES new ≡ take at (drop UNIT_BYTES lent) ++ replicate (length part) 1 ++ drop (at + length part) (drop UNIT_BYTES lent)
    → count_by is_set (drop UNIT_BYTES lent) + more ≡ count_by is_set (drop UNIT_BYTES new) → length new ≡ length lent
    → (p : ℕ) → patch_of (bytes_in new, marks_in (count + more) (kept_marks new)) p ≡ put_patch at part (patch_of (bytes_in old, marks_in count (kept_marks old))) p
put_kept count more at old slots lent new part spread same long counted within is bytes marks sum new_long p =
    let n = length part in
    let lent_long = ap length is ∙ long in
    let new_marks = marks_long new (new_long ∙ lent_long) in
    let old_marks = marks_long slots long in
    put_settled count more at (bytes_in old) (bytes_in slots) (bytes_in new) part (kept_marks old) (kept_marks slots) (kept_marks new) spread same
    (length-take-le UNIT_BYTES slots (omega (arith, long)))
    old_marks
    (ap (count_by (λ b. b)) spread ∙ counted)
    within
    (bytes ∙ ap (λ xs. take at (bytes_in xs) ++ part ++ drop (at + n) (bytes_in xs)) is)
    (marks_edited (drop UNIT_BYTES lent) (drop UNIT_BYTES new) at n marks ∙ ap (λ xs. take at (kept_marks xs) ++ replicate n true ++ drop (at + n) (kept_marks xs)) is)
    (new_marks ∙ sym old_marks)
    (ap (λ xs. count_by (λ b. b) (kept_marks xs) + more) (sym is) ∙ ap (λ k. k + more) (marks_counted (drop UNIT_BYTES lent)) ∙ sum ∙ sym (marks_counted (drop UNIT_BYTES new)))
    p

pub cut_kept : (count less at : ℕ) (old slots lent new : List ℕ)
    → kept_marks slots ≡ marks_in count (kept_marks old) → (0 < count → bytes_in slots ≡ bytes_in old) → length slots ≡ 2 * UNIT_BYTES → count_by (λ b. b) (marks_in count (kept_marks old)) ≡ count → at ≤ UNIT_BYTES → lent ≡ slots
    → bytes_in new ≡ bytes_in lent → drop UNIT_BYTES new ≡ take at (drop UNIT_BYTES lent) ++ replicate (UNIT_BYTES - at) 0
    → count_by is_set (drop UNIT_BYTES new) + less ≡ count_by is_set (drop UNIT_BYTES lent) → length new ≡ length lent
    → (p : ℕ) → patch_of (bytes_in new, marks_in (count - less) (kept_marks new)) p ≡ cut_patch at (patch_of (bytes_in old, marks_in count (kept_marks old))) p
cut_kept count less at old slots lent new spread same long counted within is bytes marks sum new_long p =
    let lent_long = ap length is ∙ long in
    let new_marks = marks_long new (new_long ∙ lent_long) in
    let old_marks = marks_long slots long in
    ap (λ bs. patch_of (bs, marks_in (count - less) (kept_marks new)) p) (bytes ∙ ap bytes_in is)
    ∙ cut_settled count less at (bytes_in old) (bytes_in slots) (kept_marks old) (kept_marks slots) (kept_marks new) spread same
    old_marks
    (ap (count_by (λ b. b)) spread ∙ counted)
    within
    (marks_cut (drop UNIT_BYTES lent) (drop UNIT_BYTES new) at (UNIT_BYTES - at) marks ∙ ap (λ xs. take at (kept_marks xs) ++ replicate (UNIT_BYTES - at) false) is ∙ ap (λ k. take at (kept_marks slots) ++ replicate (k - at) false) (sym old_marks))
    (new_marks ∙ sym old_marks)
    (ap (λ k. k + less) (marks_counted (drop UNIT_BYTES new)) ∙ sum ∙ sym (marks_counted (drop UNIT_BYTES lent)) ∙ ap (λ xs. count_by (λ b. b) (kept_marks xs)) is)
    p

and_no : (b : Bool) → (b && false) ≡ false
and_no true = refl
and_no false = refl

-- where a whole block is put, what was put before makes no difference
pub all_settled : (count n at : ℕ) (old nb part : List ℕ) (kept nm : List Bool) → length (marks_in count kept) ≡ UNIT_BYTES → n ≡ UNIT_BYTES → length part ≡ UNIT_BYTES → at + length part ≤ UNIT_BYTES → nb ≡ part
    → (p : ℕ) → patch_of (nb, marks_in n nm) p ≡ put_patch at part (patch_of (old, marks_in count kept)) p
all_settled count n at old nb part kept nm long is part_long within bytes p = elim (leb_tells (suc p) (at + length part)) [
  | inl there ↦
      let lt = there.1 in
      let here : p < UNIT_BYTES = omega (arith, lt, within) in
      let set = ap (λ ms. get_or ms p false) (marks_all n nm is) ∙ get_or-replicate UNIT_BYTES p true false here in
      let run = and_from (nat_le at p) (nat_lt p (at + length part)) (le-leb at p (omega (arith, part_long, within))) there.0 in
      let place : p ≡ p - at = omega (arith, part_long, within) in
      marked nb (marks_in n nm) p set
      ∙ ap Some (ap (λ bs. get_or bs p 0) bytes ∙ ap (λ k. get_or part k 0) place)
      ∙ sym (cond-true (in_run at (length part) p) (Some (get_or part (p - at) 0)) (patch_of (old, marks_in count kept) p) run)
  | inr out ↦
      let past = out.1 in
      let new_long = ap length (marks_all n nm is) ∙ length-replicate UNIT_BYTES true in
      let none_new = get_or_past (marks_in n nm) p false (omega (arith, past, part_long, new_long)) in
      let none_old = get_or_past (marks_in count kept) p false (omega (arith, past, part_long, long)) in
      let run = ap (λ b. nat_le at p && b) out.0 ∙ and_no (nat_le at p) in
      cond-false (get_or (marks_in n nm) p false) (Some (get_or nb p 0)) None none_new
      ∙ sym (cond-false (get_or (marks_in count kept) p false) (Some (get_or old p 0)) None none_old)
      ∙ sym (cond-false (in_run at (length part) p) (Some (get_or part (p - at) 0)) (patch_of (old, marks_in count kept) p) run)
]
