-- Blocks that are made with their parts of some bytes, and set one after the other.
use Rattle.std.proofs.Common.{◌≡◌, ◌≢◌, ◌⊎◌, inl, inr, ℕ, ◌+◌, ◌-◌, ◌*◌, ◌/◌, ◌<◌, ◌≤◌, if◌then◌else◌, cond, Bool, true, false, List, [], ◌∷◌, ◌++◌, length, get_or, take, drop, Some, ap, sym, ◌∙◌, arith}
use Rattle.std.specs.Prelude.{nat_lt, nat_le, nat_eq, ◌&&◌, ◌==◌, min}
use Rattle.std.specs.List.{range_with_len, list_any}
use Rattle.std.specs.Cmp.{nat_cmp_total}
use Rattle.std.specs.FinMap as fin
use Rattle.std.proofs.lemmas.Bool.{cases_lt, cond-false}
use Rattle.std.proofs.lemmas.Bool.Decides.{eqb_tells, nat_tests}
use Rattle.std.proofs.lemmas.Grind.{common_steps}
use Rattle.std.proofs.lemmas.List.{get_or_append_left, get_or-take, length-append, take-append-le, take_all}
use Rattle.std.proofs.Math.Seq.{get_or-append_seam}
use Rattle.posix_calls.specs.declared.limits.TheConstants.{UNIT_BYTES}
use Rattle.graph_change.specs.Bytes.{in_run}
use Rattle.graph_change.specs.Change.{Patch, Patches, patch_at, span, put_patch, over_patch, put_blocks}
use Rattle.graph_change.specs.BlockChanges.{block_at, ChangedFrom, SetFrom}
use Rattle.graph_change.specs.Memory.{AddsBlanks}
use Rattle.graph_change.specs.View.{patch_of}
use Rattle.graph_change.proofs.Blocks.{get_put, any_range}
use Rattle.graph_change.proofs.Pieces.{any_outside, get_blocks, piece_byte, piece_length}

-- ---- one block

-- a block's part of some bytes, put at its place of the block
pub part_is : (at b place from count : ℕ) (bytes : List ℕ) (old : Patch) (p : ℕ) → place ≡ at - UNIT_BYTES * b → from ≡ UNIT_BYTES * b - at → count ≤ UNIT_BYTES - place → count ≤ length bytes - from → (count ≡ UNIT_BYTES - place) ⊎ (count ≡ length bytes - from) → at / UNIT_BYTES ≤ b → UNIT_BYTES * b < at + length bytes
    → put_patch place (take count (drop from bytes)) old p ≡ over_patch at bytes b old p
part_is at b place from count bytes old p is_place is_from within fits least low high =
    let part = take count (drop from bytes) in
    let there : from + count ≤ length bytes = omega (arith, is_from, fits, high) in
    ap (λ n. if in_run place n p then Some (get_or part (p - place) 0) else old p) (piece_length count from bytes there)
    ∙ elim (cases_lt p place) [
      | inl before ↦
          (let z : in_run place count p ≡ false = grind (arith, nat_tests, before) in ap (λ t. cond t (Some (get_or part (p - place) 0)) (old p)) z)
          ∙ sym (let z : (nat_lt p UNIT_BYTES && in_run at (length bytes) (UNIT_BYTES * b + p)) ≡ false = grind (arith, nat_tests, before, is_place) in ap (λ t. cond t (Some (get_or bytes (UNIT_BYTES * b + p - at) 0)) (old p)) z)
      | inr from_place ↦ elim (cases_lt p (place + count)) [
        | inl inside ↦
            (let z : in_run place count p ≡ true = grind (arith, nat_tests, from_place, inside) in ap (λ t. cond t (Some (get_or part (p - place) 0)) (old p)) z)
            ∙ ap Some (piece_byte count from (p - place) bytes (omega (arith, from_place, inside)) ∙ ap (λ k. get_or bytes k 0) (let e : from + (p - place) ≡ UNIT_BYTES * b + p - at = omega (arith, from_place, inside, is_place, is_from) in e))
            ∙ sym (let z : (nat_lt p UNIT_BYTES && in_run at (length bytes) (UNIT_BYTES * b + p)) ≡ true = tests (omega (arith, inside, within, is_place, low)) (omega (arith, from_place, is_place)) (omega (arith, inside, is_place, is_from, fits, high)) in ap (λ t. cond t (Some (get_or bytes (UNIT_BYTES * b + p - at) 0)) (old p)) z)
        | inr past ↦
            (let z : in_run place count p ≡ false = grind (arith, nat_tests, past) in ap (λ t. cond t (Some (get_or part (p - place) 0)) (old p)) z)
            ∙ sym (let z : (nat_lt p UNIT_BYTES && in_run at (length bytes) (UNIT_BYTES * b + p)) ≡ false = outside past in ap (λ t. cond t (Some (get_or bytes (UNIT_BYTES * b + p - at) 0)) (old p)) z)
      ]
    ]
  where
    tests : p < UNIT_BYTES → at ≤ UNIT_BYTES * b + p → UNIT_BYTES * b + p < at + length bytes → (nat_lt p UNIT_BYTES && in_run at (length bytes) (UNIT_BYTES * b + p)) ≡ true
    tests a1 a2 a3 = grind (arith, nat_tests, a1, a2, a3)

    outside : place + count ≤ p → (nat_lt p UNIT_BYTES && in_run at (length bytes) (UNIT_BYTES * b + p)) ≡ false
    outside past = elim least [
      | inl all ↦ (let far : UNIT_BYTES ≤ p = omega (arith, past, all) in grind (arith, nat_tests, far))
      | inr rest ↦ (let far : at + length bytes ≤ UNIT_BYTES * b + p = omega (arith, past, rest, is_place, is_from) in grind (arith, nat_tests, far))
    ]

least_is : (c a b : ℕ) → c ≡ min a b → (c ≡ a) ⊎ (c ≡ b)
least_is c a b e = elim (cases_lt b a) [
  | inl low ↦ inr (omega (arith, e, low))
  | inr high ↦ inl (omega (arith, e, high))
]

-- the same, as the code cuts the part out
pub part_put : (at b place from count n : ℕ) (bytes part : List ℕ) (old : Patch) (p : ℕ) → place ≡ at - b * UNIT_BYTES → from ≡ b * UNIT_BYTES - at → n ≡ length bytes → count ≡ min (UNIT_BYTES - place) (n - from) → part ≡ take count (drop from bytes) → at / UNIT_BYTES ≤ b → UNIT_BYTES * b < at + length bytes
    → put_patch place part old p ≡ over_patch at bytes b old p
part_put at b place from count n bytes part old p is_place is_from is_long least is low high =
    let all = least_is count (UNIT_BYTES - place) (length bytes - from) (least ∙ ap (λ k. min (UNIT_BYTES - place) (k - from)) is_long) in
    ap (λ xs. put_patch place xs old p) is
    ∙ part_is at b place from count bytes old p (omega (arith, is_place)) (omega (arith, is_from)) (omega (arith, least)) (omega (arith, least, is_long)) all low high

-- ---- all of them

-- the blocks that at least one byte lies in
pub span_some : (at n : ℕ) → 0 < n → span at n ≡ range_with_len (at / UNIT_BYTES) ((at + n - 1) / UNIT_BYTES + 1 - at / UNIT_BYTES)
span_some at n some = elim (eqb_tells n 0) [
  | inl none ↦ (let e = none.1 in absurd (omega (arith, e, some)))
  | inr more ↦ cond-false (n == 0) _ _ more.0
]

-- one block more is made
pub one_changed : (first at : ℕ) (bytes : List ℕ) (old : Patches) (changed : List (List ℕ × List Bool)) (new : List ℕ × List Bool) → ChangedFrom first at bytes old changed → ((p : ℕ) → patch_of new p ≡ over_patch at bytes (first + length changed) (patch_at old (first + length changed)) p) → ChangedFrom first at bytes old (changed ++ new ∷ [])
one_changed first at bytes old changed new each last k lt p = elim (cases_lt k (length changed)) [
  | inl before ↦ ap (λ x. patch_of x p) (get_or_append_left changed (new ∷ []) ([], []) k before) ∙ each k before p
  | inr here ↦
      let long = length-append changed (new ∷ []) in
      let is : length changed ≡ k = omega (arith, here, lt, long) in
      ap (λ x. patch_of x p) (sym (ap (get_or_of (changed ++ new ∷ [])) is) ∙ get_or-append_seam changed new [] ([], []))
      ∙ last p
      ∙ ap (λ n. over_patch at bytes (first + n) (patch_at old (first + n)) p) is
] where
  get_or_of : List (List ℕ × List Bool) → ℕ → List ℕ × List Bool
  get_or_of xs j = get_or xs j ([], [])

-- the last of a list's first elements
pub popped : {X : Type 0} (all now left : List X) (x d : X) → now ≡ left ++ x ∷ [] → now ≡ take (length now) all → length now ≤ length all → (left ≡ take (length left) all) × (length left < length all) × (x ≡ get_or all (length left) d)
popped all now left x d is front most =
    let long : length now ≡ length left + 1 = ap length is ∙ length-append left (x ∷ []) in
    let less : length left < length now = omega (arith, long) in (
      sym (take-append-le (length left) left (x ∷ []) (omega arith) ∙ take_all (length left) left (omega arith)) ∙ ap (take (length left)) (sym is ∙ front) ∙ take_take (length left) (length now) all (omega (arith, less)),
      omega (arith, less, most),
      sym (get_or-append_seam left x [] d) ∙ ap (λ xs. get_or xs (length left) d) (sym is ∙ front) ∙ get_or-take (length now) all (length left) d less,
    )
  where
    take_take : {X : Type 0} (k m : ℕ) (xs : List X) → k ≤ m → take k (take m xs) ≡ take k xs
    take_take k m xs le = grind (arith, common_steps)

-- those of the blocks from a place of the list on are set
abbrev pub SetDown : ℕ → ℕ → List (List ℕ × List Bool) → Patches → Patches → Type 0
SetDown first n changed old now = (b : ℕ) → fin.get now b ≡ (if nat_le (first + n) b && nat_lt b (first + length changed) then Some (patch_of (block_at changed (b - first))) else fin.get old b)

pub none_set : (first : ℕ) (changed : List (List ℕ × List Bool)) (old : Patches) → SetDown first (length changed) changed old old
none_set first changed old b =
    let z : (nat_le (first + length changed) b && nat_lt b (first + length changed)) ≡ false = both first (length changed) b in
    sym (ap (λ t. cond t (Some (patch_of (block_at changed (b - first)))) (fin.get old b)) z)
  where
    both : (first n b : ℕ) → (nat_le (first + n) b && nat_lt b (first + n)) ≡ false
    both first n b = grind (arith, nat_tests)

pub one_set : (first n : ℕ) (changed : List (List ℕ × List Bool)) (old now : Patches) → n < length changed → SetDown first (n + 1) changed old now → SetDown first n changed old (fin.insert now (first + n) (patch_of (block_at changed n)))
one_set first n changed old now within set b =
    get_put now (first + n) (patch_of (block_at changed n)) b ∙ elim (eqb_tells b (first + n)) [
      | inl here ↦
          let e = here.1 in
          ap (λ t. cond t (Some (patch_of (block_at changed n))) (fin.get now b)) here.0
          ∙ ap (λ k. Some (patch_of (block_at changed k))) (let k : n ≡ b - first = omega (arith, e) in k)
          ∙ sym (ap (λ t. cond t (Some (patch_of (block_at changed (b - first)))) (fin.get old b)) (let z : (nat_le (first + n) b && nat_lt b (first + length changed)) ≡ true = among (omega (arith, e)) (omega (arith, e, within)) in z))
      | inr off ↦
          let o = off.1 in
          ap (λ t. cond t (Some (patch_of (block_at changed n))) (fin.get now b)) off.0
          ∙ set b
          ∙ ap (λ t. cond (t && nat_lt b (first + length changed)) (Some (patch_of (block_at changed (b - first)))) (fin.get old b)) (past o)
    ]
  where
    among : first + n ≤ b → b < first + length changed → (nat_le (first + n) b && nat_lt b (first + length changed)) ≡ true
    among low high = grind (arith, nat_tests, low, high)

    past : b ≢ first + n → nat_le (first + (n + 1)) b ≡ nat_le (first + n) b
    past other = elim (cases_lt b (first + n)) [
      | inl before ↦ grind (arith, nat_tests, before)
      | inr after ↦ (let behind : first + n < b = omega (arith, after, other) in grind (arith, nat_tests, behind))
    ]

pub all_set : (first : ℕ) (changed : List (List ℕ × List Bool)) (old now : Patches) → SetDown first 0 changed old now → SetFrom first changed old now
all_set first changed old now set b = set b ∙ ap (λ k. cond (nat_le k b && nat_lt b (first + length changed)) (Some (patch_of (block_at changed (b - first)))) (fin.get old b)) (let k : first + 0 ≡ first = omega arith in k)

-- what they are then
pub all_changed : (at first : ℕ) (bytes : List ℕ) (changed : List (List ℕ × List Bool)) (old blanks new : Patches) → span at (length bytes) ≡ range_with_len first (length changed) → ChangedFrom first at bytes old changed → AddsBlanks (range_with_len first (length changed)) old blanks → SetFrom first changed blanks new
    → new ≡ put_blocks at bytes (span at (length bytes)) old
all_changed at first bytes changed old blanks new is parts adds set = fin.same_map nat_cmp_total fin.nat_cmp-IsAntisymmetric _ _ (λ b.
    set b ∙ by b ∙ sym (get_blocks at bytes (span at (length bytes)) old b ∙ ap (λ bs. cond (list_any (nat_eq b) bs) (Some (over_patch at bytes b (patch_at old b))) (fin.get old b)) is))
  where
    inside : (b : ℕ) → first ≤ b → b < first + length changed → (nat_le first b && nat_lt b (first + length changed)) ≡ true
    inside b low high = grind (arith, nat_tests, low, high)

    outside : (b : ℕ) → (b < first) ⊎ (first + length changed ≤ b) → (nat_le first b && nat_lt b (first + length changed)) ≡ false
    outside b (inl low) = grind (arith, nat_tests, low)
    outside b (inr high) = grind (arith, nat_tests, high)

    apart : (b : ℕ) → (b < first) ⊎ (first + length changed ≤ b) → cond (nat_le first b && nat_lt b (first + length changed)) (Some (patch_of (block_at changed (b - first)))) (fin.get blanks b) ≡ cond (list_any (nat_eq b) (range_with_len first (length changed))) (Some (over_patch at bytes b (patch_at old b))) (fin.get old b)
    apart b out =
        let none = any_outside (length changed) first b out in
        ap (λ t. cond t (Some (patch_of (block_at changed (b - first)))) (fin.get blanks b)) (outside b out)
        ∙ adds.others b none
        ∙ sym (ap (λ t. cond t (Some (over_patch at bytes b (patch_at old b))) (fin.get old b)) none)

    by : (b : ℕ) → cond (nat_le first b && nat_lt b (first + length changed)) (Some (patch_of (block_at changed (b - first)))) (fin.get blanks b) ≡ cond (list_any (nat_eq b) (range_with_len first (length changed))) (Some (over_patch at bytes b (patch_at old b))) (fin.get old b)
    by b = elim (cases_lt b first) [
      | inl low ↦ apart b (inl low)
      | inr from ↦ elim (cases_lt b (first + length changed)) [
        | inl within ↦
            ap (λ t. cond t (Some (patch_of (block_at changed (b - first)))) (fin.get blanks b)) (inside b from within)
            ∙ ap Some (λ t p. parts (b - first) (omega (arith, from, within)) p t)
            ∙ ap (λ k. Some (over_patch at bytes k (patch_at old k))) (let k : first + (b - first) ≡ b = omega (arith, from) in k)
            ∙ sym (ap (λ t. cond t (Some (over_patch at bytes b (patch_at old b))) (fin.get old b)) (any_range (length changed) first b from within))
        | inr past ↦ apart b (inr past)
      ]
    ]
