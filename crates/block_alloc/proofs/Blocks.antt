-- Runs and their blocks.
use Rattle.std.proofs.Common.{◌≡◌, ◌≤◌, ◌<◌, inl, inr, ℕ, zero, suc, ◌+◌, ◌-◌, List, [], ◌∷◌, ◌++◌, length, take, drop, get_or, set, Bool, true, false, sym, ap, ◌∙◌, refl, arith, subst, append_assoc, length-append}
use Rattle.std.specs.List.{range_with_len, AllByRecursion}
use Rattle.std.proofs.lemmas.List.{take_at, drop_at, take_more, drop_more, take-append-drop, append-nil, drop-set}
use Rattle.std.proofs.lemmas.List.Concat.{flat_map-append}
use Rattle.std.proofs.lemmas.List.FromFn.{length-range_with_len}
use Rattle.std.proofs.Math.Seq.{take-append-add, drop-append-add}
use Rattle.std.proofs.lemmas.Bool.{cases_lt}
use Rattle.block_alloc.specs.declared.runs.Run.{Run}
use Rattle.block_alloc.specs.Runs.{run_blocks, blocks_of, unmarked_blocks, AreNormalRuns, EndsBefore, Rising}

-- ---- ranges

pub range-split : (a m n : ℕ) → range_with_len a (m + n) ≡ range_with_len a m ++ range_with_len (a + m) n
range-split a zero n =
    let e : zero + n ≡ n = omega arith in
    let q : a ≡ a + zero = omega arith in
    ap (range_with_len a) e ∙ ap (λ b. range_with_len b n) q
range-split a (suc m) n =
    let e : suc m + n ≡ suc (m + n) = omega arith in
    let q : a + 1 + m ≡ a + suc m = omega arith in
    ap (range_with_len a) e ∙ ap (λ xs. a ∷ xs) (range-split (a + 1) m n ∙ ap (λ b. range_with_len (a + 1) m ++ range_with_len b n) q)

range_parts : (a left n : ℕ) (ys : List ℕ) → left ≤ n → range_with_len a n ++ ys ≡ range_with_len a left ++ (range_with_len (a + left) (n - left) ++ ys)
range_parts a left n ys below =
    let e : n ≡ left + (n - left) = omega (arith, below) in
    ap (λ k. range_with_len a k ++ ys) e ∙ ap (λ xs. xs ++ ys) (range-split a left (n - left)) ∙ append_assoc (range_with_len a left) (range_with_len (a + left) (n - left)) ys

pub take-range : (a left n : ℕ) (ys : List ℕ) → left ≤ n → take left (range_with_len a n ++ ys) ≡ range_with_len a left
take-range a left n ys below = ap (take left) (range_parts a left n ys below) ∙ take_at (range_with_len a left) (range_with_len (a + left) (n - left) ++ ys) left (length-range_with_len a left)

pub drop-range : (a left n : ℕ) (ys : List ℕ) → left ≤ n → drop left (range_with_len a n ++ ys) ≡ range_with_len (a + left) (n - left) ++ ys
drop-range a left n ys below = ap (drop left) (range_parts a left n ys below) ∙ drop_at (range_with_len a left) (range_with_len (a + left) (n - left) ++ ys) left (length-range_with_len a left)

-- ---- lists of runs

pub length-blocks-more : (runs : List Run) (i : ℕ) (d : Run) → i < length runs → length (blocks_of (take (i + 1) runs)) ≡ length (blocks_of (take i runs)) + (get_or runs i d).count
length-blocks-more runs i d below =
    ap (λ rs. length (blocks_of rs)) (take_more runs i d below) ∙ ap length (flat_map-append run_blocks (take i runs) (get_or runs i d ∷ []))
    ∙ length-append (blocks_of (take i runs)) (blocks_of (get_or runs i d ∷ []))
    ∙ ap (λ n. length (blocks_of (take i runs)) + n) (ap length (append-nil (run_blocks (get_or runs i d))) ∙ length-range_with_len (get_or runs i d).first (get_or runs i d).count)

pub split_blocks : (runs : List Run) (i : ℕ) → blocks_of runs ≡ blocks_of (take i runs) ++ blocks_of (drop i runs)
split_blocks runs i = ap blocks_of (sym (take-append-drop i runs)) ∙ flat_map-append run_blocks (take i runs) (drop i runs)

pub front_whole : (runs : List Run) (i : ℕ) → blocks_of (take i runs) ≡ take (length (blocks_of (take i runs)) + 0) (blocks_of runs)
front_whole runs i =
    let b = blocks_of (take i runs) in
    let e : length b ≡ length b + 0 = omega arith in
    sym (take_at b (blocks_of (drop i runs)) (length b) refl) ∙ ap (take (length b)) (sym (split_blocks runs i)) ∙ ap (λ n. take n (blocks_of runs)) e

pub rest_whole : (runs : List Run) (i : ℕ) → blocks_of (drop i runs) ≡ drop (length (blocks_of (take i runs)) + 0) (blocks_of runs)
rest_whole runs i =
    let b = blocks_of (take i runs) in
    let e : length b ≡ length b + 0 = omega arith in
    sym (drop_at b (blocks_of (drop i runs)) (length b) refl) ∙ ap (drop (length b)) (sym (split_blocks runs i)) ∙ ap (λ n. drop n (blocks_of runs)) e

pub front_part : (runs : List Run) (i left : ℕ) (d : Run) → i < length runs → left ≤ (get_or runs i d).count → blocks_of (take i runs ++ record { first = (get_or runs i d).first; count = left } ∷ []) ≡ take (length (blocks_of (take i runs)) + left) (blocks_of runs)
front_part runs i left d below part =
    let r = get_or runs i d in
    let b = blocks_of (take i runs) in
    let rest = blocks_of (drop (i + 1) runs) in
    flat_map-append run_blocks (take i runs) (record { first = r.first; count = left } ∷ [])
    ∙ ap (λ xs. b ++ xs) (append-nil (range_with_len r.first left) ∙ sym (take-range r.first left r.count rest part) ∙ ap (λ xs. take left (blocks_of xs)) (sym (drop_more runs i d below)))
    ∙ sym (take-append-add b (blocks_of (drop i runs)) left)
    ∙ ap (take (length b + left)) (sym (split_blocks runs i))

pub rest_part : (runs : List Run) (i left : ℕ) (d : Run) → i < length runs → left ≤ (get_or runs i d).count → blocks_of (record { first = (get_or runs i d).first + left; count = (get_or runs i d).count - left } ∷ drop (i + 1) runs) ≡ drop (length (blocks_of (take i runs)) + left) (blocks_of runs)
rest_part runs i left d below part =
    let r = get_or runs i d in
    let b = blocks_of (take i runs) in
    let rest = blocks_of (drop (i + 1) runs) in
    sym (drop-range r.first left r.count rest part) ∙ ap (λ xs. drop left (blocks_of xs)) (sym (drop_more runs i d below))
    ∙ sym (drop-append-add b (blocks_of (drop i runs)) left)
    ∙ ap (drop (length b + left)) (sym (split_blocks runs i))

-- ---- runs in normal form

pub normal-weaker : (low low' end : ℕ) (runs : List Run) → low ≤ low' → AreNormalRuns low' end runs → AreNormalRuns low end runs
normal-weaker low low' end [] below is = tt
normal-weaker low low' end (r ∷ rs) below is = (omega (arith, below, is.0), is.1, is.2, is.3)

pub normal-drop : (low end i : ℕ) (runs : List Run) → AreNormalRuns low end runs → AreNormalRuns low end (drop i runs)
normal-drop low end zero runs is = is
normal-drop low end (suc i) [] is = tt
normal-drop low end (suc i) (r ∷ rs) is = normal-weaker low (r.first + r.count + 1) end (drop i rs) (omega (arith, is.0)) (normal-drop (r.first + r.count + 1) end i rs is.3)

pub normal-trim : (low end left : ℕ) (r : Run) (rs : List Run) → left < r.count → AreNormalRuns low end (r ∷ rs) → AreNormalRuns low end (record { first = r.first + left; count = r.count - left } ∷ rs)
normal-trim low end left r rs part is =
    let same : r.first + r.count + 1 ≡ r.first + left + (r.count - left) + 1 = omega (arith, part) in
    (omega (arith, is.0), omega (arith, part), omega (arith, part, is.2), subst (λ n. AreNormalRuns n end rs) same is.3)

pub normal-push : (low end start count : ℕ) (runs : List Run) → AreNormalRuns low end runs → EndsBefore start runs → low ≤ start → 0 < count → start + count ≤ end → AreNormalRuns low end (runs ++ record { first = start; count = count } ∷ [])
normal-push low end start count [] is before above some within = (above, some, within, tt)
normal-push low end start count (r ∷ rs) is before above some within = (is.0, is.1, is.2, normal-push (r.first + r.count + 1) end start count rs is.3 before.1 (omega (arith, before.0)) some within)

pub ends-weaker : (a b : ℕ) (runs : List Run) → a ≤ b → EndsBefore a runs → EndsBefore b runs
ends-weaker a b [] below is = tt
ends-weaker a b (r ∷ rs) below is = (omega (arith, below, is.0), ends-weaker a b rs below is.1)

pub ends-push : (block start count : ℕ) (runs : List Run) → EndsBefore start runs → start + count < block → EndsBefore block (runs ++ record { first = start; count = count } ∷ [])
ends-push block start count [] is below = (below, tt)
ends-push block start count (r ∷ rs) is below = (omega (arith, is.0, below), ends-push block start count rs is.1 below)

pub blocks-push : (runs : List Run) (r : Run) → blocks_of (runs ++ r ∷ []) ≡ blocks_of runs ++ run_blocks r
blocks-push runs r = flat_map-append run_blocks runs (r ∷ []) ∙ ap (λ xs. blocks_of runs ++ xs) (append-nil (run_blocks r))

-- ---- rising lists

pub rising-weaker : (low low' end : ℕ) (ks : List ℕ) → low ≤ low' → Rising low' end ks → Rising low end ks
rising-weaker low low' end [] below is = tt
rising-weaker low low' end (k ∷ ks) below is = (omega (arith, below, is.0), is.1, is.2)

pub rising-range : (low end a n : ℕ) (ys : List ℕ) → low ≤ a → a + n ≤ end → Rising (a + n) end ys → Rising low end (range_with_len a n ++ ys)
rising-range low end a zero ys below within is = rising-weaker low (a + zero) end ys (omega (arith, below)) is
rising-range low end a (suc n) ys below within is =
    let same : a + suc n ≡ a + 1 + n = omega arith in
    (below, omega (arith, within), rising-range (a + 1) end (a + 1) n ys (omega arith) (omega (arith, within)) (subst (λ b. Rising b end ys) same is))

pub normal-rising : (low end : ℕ) (runs : List Run) → AreNormalRuns low end runs → Rising low end (blocks_of runs)
normal-rising low end [] is = tt
normal-rising low end (r ∷ rs) is = rising-range low end r.first r.count (blocks_of rs) is.0 is.2 (rising-weaker (r.first + r.count) (r.first + r.count + 1) end (blocks_of rs) (omega arith) (normal-rising (r.first + r.count + 1) end rs is.3))

pub length-rising : (low end : ℕ) (ks : List ℕ) → low ≤ end → Rising low end ks → length ks + low ≤ end
length-rising low end [] below is = omega (arith, below)
length-rising low end (k ∷ ks) below is = omega (arith, length-rising (k + 1) end ks (omega (arith, is.1)) is.2, is.0)

-- each run ends within the range
pub normal-fits : (low end bound : ℕ) (runs : List Run) → end < bound → AreNormalRuns low end runs → AllByRecursion (λ r. r.first + r.count < bound) runs
normal-fits low end bound [] below is = tt
normal-fits low end bound (r ∷ rs) below is = (omega (arith, below, is.2), normal-fits (r.first + r.count + 1) end bound rs below is.3)

pub length-blocks-le : (runs : List Run) (i : ℕ) → length (blocks_of (take i runs)) ≤ length (blocks_of runs)
length-blocks-le runs i = omega (arith, ap length (split_blocks runs i), length-append (blocks_of (take i runs)) (blocks_of (drop i runs)))

-- ---- a run that is trimmed in its place

pub trimmed_blocks : (runs new : List Run) (i left : ℕ) (r : Run) → i < length runs → r ≡ get_or runs i r → left ≤ r.count → new ≡ drop i (set runs i (record { first = r.first + left; count = r.count - left })) → blocks_of new ≡ drop (length (blocks_of (take i runs)) + left) (blocks_of runs)
trimmed_blocks runs new i left r below is part trimmed =
    let place = drop-set runs i (record { first = r.first + left; count = r.count - left }) below in
    let count_is : left ≤ (get_or runs i r).count = subst (λ x. left ≤ x.count) is part in
    ap blocks_of (trimmed ∙ place ∙ ap (λ x. record { first = x.first + left; count = x.count - left } ∷ drop (i + 1) runs) is) ∙ rest_part runs i left r below count_is

pub trimmed_normal : (runs new : List Run) (i left low end : ℕ) (r : Run) → i < length runs → r ≡ get_or runs i r → left < r.count → new ≡ drop i (set runs i (record { first = r.first + left; count = r.count - left })) → AreNormalRuns low end runs → AreNormalRuns low end new
trimmed_normal runs new i left low end r below is part trimmed normal =
    let place = drop-set runs i (record { first = r.first + left; count = r.count - left }) below in
    let front : drop i runs ≡ r ∷ drop (i + 1) runs = drop_more runs i r below ∙ ap (λ x. x ∷ drop (i + 1) runs) (sym is) in
    subst (AreNormalRuns low end) (sym (trimmed ∙ place)) (normal-trim low end left r (drop (i + 1) runs) part (subst (AreNormalRuns low end) front (normal-drop low end i runs normal)))

pub nothing_left : (ks : List ℕ) (n left : ℕ) → left ≡ 0 → take (n + 0) ks ≡ take (n + left) ks
nothing_left ks n left none = ap (λ k. take (n + k) ks) (sym none)

pub nothing_dropped : (ks : List ℕ) (n left : ℕ) → left ≡ 0 → drop (n + 0) ks ≡ drop (n + left) ks
nothing_dropped ks n left none = ap (λ k. drop (n + k) ks) (sym none)

-- ---- marks of used blocks

pub unused-cons : (first place : ℕ) (used : List Bool) → place < length used → get_or used place true ≡ false → unmarked_blocks (first + place) (drop place used) ≡ (first + place) ∷ unmarked_blocks (first + (place + 1)) (drop (place + 1) used)
unused-cons first place used below is =
    let next : first + place + 1 ≡ first + (place + 1) = omega arith in
    ap (unmarked_blocks (first + place)) (drop_more used place true below ∙ ap (λ b. b ∷ drop (place + 1) used) is) ∙ ap (λ n. (first + place) ∷ unmarked_blocks n (drop (place + 1) used)) next

-- the open run takes one block more
pub run_grows : (first place count : ℕ) (front : List ℕ) (used : List Bool) → count ≤ place → place < length used → get_or used place true ≡ false
    → front ++ range_with_len (first + place - count) count ++ unmarked_blocks (first + place) (drop place used) ≡ front ++ range_with_len (first + (place + 1) - (count + 1)) (count + 1) ++ unmarked_blocks (first + (place + 1)) (drop (place + 1) used)
run_grows first place count front used few below is =
    let start : first + place - count ≡ first + (place + 1) - (count + 1) = omega (arith, few) in
    let last : first + place - count + count ≡ first + place = omega (arith, few) in
    let longer : range_with_len (first + place - count) (count + 1) ≡ range_with_len (first + place - count) count ++ (first + place) ∷ [] =
    range-split (first + place - count) count 1 ∙ ap (λ b. range_with_len (first + place - count) count ++ b ∷ []) last in
    ap (λ xs. front ++ range_with_len (first + place - count) count ++ xs) (unused-cons first place used below is)
    ∙ append_assoc front (range_with_len (first + place - count) count) ((first + place) ∷ unmarked_blocks (first + (place + 1)) (drop (place + 1) used))
    ∙ ap (λ xs. front ++ xs) (sym (append_assoc (range_with_len (first + place - count) count) ((first + place) ∷ []) (unmarked_blocks (first + (place + 1)) (drop (place + 1) used))))
    ∙ ap (λ xs. front ++ (xs ++ unmarked_blocks (first + (place + 1)) (drop (place + 1) used))) (sym longer ∙ ap (λ a. range_with_len a (count + 1)) start)
    ∙ sym (append_assoc front (range_with_len (first + (place + 1) - (count + 1)) (count + 1)) (unmarked_blocks (first + (place + 1)) (drop (place + 1) used)))

-- a place that is left over stands within the list
pub inside : (n place left : ℕ) → (n ≤ place → left ≡ 0) → (left ≡ 0 → ⊥) → place < n
inside n place left none some = elim (cases_lt place n) [ inl below ↦ below | inr past ↦ absurd (some (none past)) ]
