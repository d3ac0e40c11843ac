-- Bytes that are put into the blocks of a file one part after the other, each into one block.
use Rattle.std.proofs.Common.{◌≡◌, ◌≢◌, ◌⊎◌, inl, inr, ℕ, zero, suc, ◌+◌, ◌-◌, ◌*◌, ◌/◌, ◌%◌, ◌<◌, ◌≤◌, if◌then◌else◌, cond, Bool, true, false, List, [], ◌∷◌, length, get_or, take, drop, refl, Some, Option, ap, sym, subst, ◌∙◌, arith}
use Rattle.std.specs.Prelude.{nat_lt, nat_le, nat_eq, ◌&&◌, ◌||◌, unwrap_or}
use Rattle.std.specs.List.{range_with_len, list_any}
use Rattle.std.specs.Cmp.{nat_cmp_total}
use Rattle.std.specs.FinMap as fin
use Rattle.std.proofs.lemmas.Bool.{cases_lt}
use Rattle.std.proofs.lemmas.List.{take_all}
use Rattle.std.proofs.lemmas.Bool.Decides.{eqb_tells, nat_tests}
use Rattle.std.proofs.lemmas.Grind.{common_steps}
use Rattle.posix_calls.specs.declared.limits.TheConstants.{UNIT_BYTES}
use Rattle.graph_change.specs.Bytes.{in_run}
use Rattle.graph_change.specs.Change.{Patch, Patches, blank, patch_at, span, put_patch, over_patch, put_block, put_blocks}
use Rattle.graph_change.proofs.Blocks.{get_put, value_put, either, any_range}

-- a block with its part of the first bytes that are put at an offset of the file
abbrev pub so_far : ℕ → ℕ → List ℕ → ℕ → Patch → Patch
so_far at done bytes b old p = if nat_lt p UNIT_BYTES && in_run at done (UNIT_BYTES * b + p) then Some (get_or bytes (UNIT_BYTES * b + p - at) 0) else old p

-- the blocks after the first bytes are put
abbrev pub PutSoFar : ℕ → ℕ → List ℕ → Patches → Patches → Type 0
PutSoFar at done bytes old now = (b : ℕ) → fin.get now b ≡ (if list_any (nat_eq b) (span at done) then Some (so_far at done bytes b (patch_at old b)) else fin.get old b)

-- ---- all blocks at once

twice : (b : Bool) (x : Option ℕ) (y : Option ℕ) → (if b then x else (if b then x else y)) ≡ (if b then x else y)
twice true x y = refl
twice false x y = refl

over_twice : (at : ℕ) (bytes : List ℕ) (b : ℕ) (old : Patch) → over_patch at bytes b (over_patch at bytes b old) ≡ over_patch at bytes b old
over_twice at bytes b old = λ t p. twice (nat_lt p UNIT_BYTES && in_run at (length bytes) (UNIT_BYTES * b + p)) (Some (get_or bytes (UNIT_BYTES * b + p - at) 0)) (old p) t

same_both : {A : Type 0} (b : Bool) (x : A) → (if b then x else x) ≡ x
same_both true x = refl
same_both false x = refl

pub get_blocks : (at : ℕ) (bytes : List ℕ) (bs : List ℕ) (ps : Patches) (b : ℕ) → fin.get (put_blocks at bytes bs ps) b ≡ (if list_any (nat_eq b) bs then Some (over_patch at bytes b (patch_at ps b)) else fin.get ps b)
get_blocks at bytes [] ps b = refl
get_blocks at bytes (x ∷ bs) ps b =
    let new = over_patch at bytes x (patch_at ps x) in
    let next = put_block at bytes x ps in
    get_blocks at bytes bs next b ∙ elim (eqb_tells b x) [
      | inl here ↦
          ap (λ f. if list_any (nat_eq b) bs then Some (over_patch at bytes b f) else fin.get next b) (value_put blank x new ps b ∙ ap (λ t. cond t new (patch_at ps b)) here.0 ∙ ap (λ k. over_patch at bytes k (patch_at ps k)) (sym here.1))
          ∙ ap (λ o. if list_any (nat_eq b) bs then Some (over_patch at bytes b (over_patch at bytes b (patch_at ps b))) else o) (get_put ps x new b ∙ ap (λ t. cond t (Some new) (fin.get ps b)) here.0 ∙ ap (λ k. Some (over_patch at bytes k (patch_at ps k))) (sym here.1))
          ∙ ap (λ f. if list_any (nat_eq b) bs then Some f else Some (over_patch at bytes b (patch_at ps b))) (over_twice at bytes b (patch_at ps b))
          ∙ same_both (list_any (nat_eq b) bs) (Some (over_patch at bytes b (patch_at ps b)))
          ∙ sym (ap (λ t. if t || list_any (nat_eq b) bs then Some (over_patch at bytes b (patch_at ps b)) else fin.get ps b) here.0)
      | inr off ↦
          ap (λ f. if list_any (nat_eq b) bs then Some (over_patch at bytes b f) else fin.get next b) (value_put blank x new ps b ∙ ap (λ t. cond t new (patch_at ps b)) off.0)
          ∙ ap (λ o. if list_any (nat_eq b) bs then Some (over_patch at bytes b (patch_at ps b)) else o) (get_put ps x new b ∙ ap (λ t. cond t (Some new) (fin.get ps b)) off.0)
          ∙ sym (ap (λ t. if t || list_any (nat_eq b) bs then Some (over_patch at bytes b (patch_at ps b)) else fin.get ps b) off.0)
    ]

pub all_put : (at : ℕ) (bytes : List ℕ) (old now : Patches) → PutSoFar at (length bytes) bytes old now → now ≡ put_blocks at bytes (span at (length bytes)) old
all_put at bytes old now put = fin.same_map nat_cmp_total fin.nat_cmp-IsAntisymmetric _ _ (λ b. put b ∙ sym (get_blocks at bytes (span at (length bytes)) old b))

pub none_yet : (at : ℕ) (bytes : List ℕ) (old : Patches) → PutSoFar at 0 bytes old old
none_yet at bytes old b = refl

-- ---- which blocks so many bytes lie in

abbrev lies_in : ℕ → ℕ → ℕ → Bool
lies_in at n b = nat_lt 0 n && (nat_le (at / UNIT_BYTES) b && nat_le b ((at + n - 1) / UNIT_BYTES))

pub any_outside : (k a j : ℕ) → (j < a) ⊎ (a + k ≤ j) → list_any (nat_eq j) (range_with_len a k) ≡ false
any_outside zero a j out = refl
any_outside (suc k) a j out =
    elim (eqb_tells j a) [
      | inl here ↦ let e = here.1 in absurd (elim out [ inl low ↦ omega (arith, e, low) | inr high ↦ omega (arith, e, high) ])
      | inr off ↦ ap (λ t. t || list_any (nat_eq j) (range_with_len (a + 1) k)) off.0 ∙ any_outside k (a + 1) j (elim out [ inl low ↦ inl (omega (arith, low)) | inr high ↦ inr (omega (arith, high)) ])
    ]

span_is : (at n b : ℕ) → list_any (nat_eq b) (span at n) ≡ lies_in at n b
span_is at n b =
    elim (eqb_tells n 0) [
      | inl none ↦ let e = none.1 in ap (λ t. list_any (nat_eq b) (cond t [] (range_with_len (at / UNIT_BYTES) ((at + n - 1) / UNIT_BYTES + 1 - at / UNIT_BYTES)))) none.0 ∙ (let z : lies_in at n b ≡ false = grind (arith, nat_tests, e) in sym z)
      | inr some ↦
          let o = some.1 in
          ap (λ t. list_any (nat_eq b) (cond t [] (range_with_len (at / UNIT_BYTES) ((at + n - 1) / UNIT_BYTES + 1 - at / UNIT_BYTES)))) some.0
          ∙ in_range at n b (omega (arith, o))
    ]
  where
    in_range : (at n b : ℕ) → 0 < n → list_any (nat_eq b) (range_with_len (at / UNIT_BYTES) ((at + n - 1) / UNIT_BYTES + 1 - at / UNIT_BYTES)) ≡ lies_in at n b
    in_range at n b pos =
        let first = at / UNIT_BYTES in
        let count = (at + n - 1) / UNIT_BYTES + 1 - at / UNIT_BYTES in
        elim (cases_lt b (at / UNIT_BYTES)) [
          | inl low ↦ any_outside count first b (inl low) ∙ (let z : lies_in at n b ≡ false = grind (arith, nat_tests) in sym z)
          | inr high ↦ elim (cases_lt ((at + n - 1) / UNIT_BYTES) b) [
            | inl past ↦ any_outside count first b (inr (omega (arith, past, high))) ∙ (let z : lies_in at n b ≡ false = grind (arith, nat_tests) in sym z)
            | inr inside ↦ any_range count first b high (omega (arith, inside, high)) ∙ (let z : lies_in at n b ≡ true = grind (arith, nat_tests) in sym z)
          ]
        ]

-- ---- one more part

-- what is there of a block so far
block_so_far : (at done : ℕ) (bytes : List ℕ) (old now : Patches) (b p : ℕ) → PutSoFar at done bytes old now → patch_at now b p ≡ so_far at done bytes b (patch_at old b) p
block_so_far at done bytes old now b p put =
    ap (λ o. unwrap_or o blank p) (put b) ∙ elim (either (list_any (nat_eq b) (span at done))) [
      | inl there ↦ ap (λ t. unwrap_or (cond t (Some (so_far at done bytes b (patch_at old b))) (fin.get old b)) blank p) there
      | inr none ↦
          ap (λ t. unwrap_or (cond t (Some (so_far at done bytes b (patch_at old b))) (fin.get old b)) blank p) none
          ∙ sym (not_so_far at done bytes b (patch_at old b) p (sym (span_is at done b) ∙ none))
    ]
  where
    not_so_far : (at done : ℕ) (bytes : List ℕ) (b : ℕ) (old : Patch) (p : ℕ) → lies_in at done b ≡ false → so_far at done bytes b old p ≡ old p
    not_so_far at done bytes b old p out =
        let z : (nat_lt p UNIT_BYTES && in_run at done (UNIT_BYTES * b + p)) ≡ false = grind (arith, nat_tests, out) in
        ap (λ t. cond t (Some (get_or bytes (UNIT_BYTES * b + p - at) 0)) (old p)) z

pub piece_byte : (count done k : ℕ) (bytes : List ℕ) → k < count → get_or (take count (drop done bytes)) k 0 ≡ get_or bytes (done + k) 0
piece_byte count done k bytes h = grind (arith, common_steps)

pub piece_length : (count done : ℕ) (bytes : List ℕ) → done + count ≤ length bytes → length (take count (drop done bytes)) ≡ count
piece_length count done bytes h = grind (arith, common_steps)

-- the block that the part is put into
in_block : (at done count : ℕ) (bytes : List ℕ) (old now : Patch) (p : ℕ) → done + count ≤ length bytes → (at + done) % UNIT_BYTES + count ≤ UNIT_BYTES → now p ≡ so_far at done bytes ((at + done) / UNIT_BYTES) old p → put_patch ((at + done) % UNIT_BYTES) (take count (drop done bytes)) now p ≡ so_far at (done + count) bytes ((at + done) / UNIT_BYTES) old p
in_block at done count bytes old now p fits within is =
    let place = (at + done) % UNIT_BYTES in
    let b = (at + done) / UNIT_BYTES in
    let part = take count (drop done bytes) in
    let new = so_far at (done + count) bytes b old p in
    ap (λ n. if in_run place n p then Some (get_or part (p - place) 0) else now p) (piece_length count done bytes fits)
    ∙ elim (cases_lt p place) [
      | inl low ↦
          (let z : in_run place count p ≡ false = grind (arith, nat_tests, low) in ap (λ t. cond t (Some (get_or part (p - place) 0)) (now p)) z)
          ∙ is ∙ (let z : (nat_lt p UNIT_BYTES && in_run at done (UNIT_BYTES * b + p)) ≡ (nat_lt p UNIT_BYTES && in_run at (done + count) (UNIT_BYTES * b + p)) = grind (arith, nat_tests, low, within) in ap (λ t. cond t (Some (get_or bytes (UNIT_BYTES * b + p - at) 0)) (old p)) z)
      | inr high ↦ elim (cases_lt p (place + count)) [
        | inl inside ↦
            (let z : in_run place count p ≡ true = grind (arith, nat_tests, high, inside) in ap (λ t. cond t (Some (get_or part (p - place) 0)) (now p)) z)
            ∙ ap Some (piece_byte count done (p - place) bytes (omega (arith, high, inside)) ∙ ap (λ k. get_or bytes k 0) (let e : done + (p - place) ≡ UNIT_BYTES * b + p - at = omega (arith, high, inside) in e))
            ∙ sym (let z : (nat_lt p UNIT_BYTES && in_run at (done + count) (UNIT_BYTES * b + p)) ≡ true = grind (arith, nat_tests, high, inside, within) in ap (λ t. cond t (Some (get_or bytes (UNIT_BYTES * b + p - at) 0)) (old p)) z)
        | inr past ↦
            (let z : in_run place count p ≡ false = grind (arith, nat_tests, past) in ap (λ t. cond t (Some (get_or part (p - place) 0)) (now p)) z)
            ∙ is ∙ (let z : (nat_lt p UNIT_BYTES && in_run at done (UNIT_BYTES * b + p)) ≡ (nat_lt p UNIT_BYTES && in_run at (done + count) (UNIT_BYTES * b + p)) = grind (arith, nat_tests, past, within) in ap (λ t. cond t (Some (get_or bytes (UNIT_BYTES * b + p - at) 0)) (old p)) z)
      ]
    ]

-- every other block
other_block : (at done count : ℕ) (bytes : List ℕ) (b : ℕ) (old : Patch) → (at + done) % UNIT_BYTES + count ≤ UNIT_BYTES → b ≢ (at + done) / UNIT_BYTES → so_far at done bytes b old ≡ so_far at (done + count) bytes b old
other_block at done count bytes b old within other = λ t p.
    (let z : (nat_lt p UNIT_BYTES && in_run at done (UNIT_BYTES * b + p)) ≡ (nat_lt p UNIT_BYTES && in_run at (done + count) (UNIT_BYTES * b + p)) = elsewhere p in
    ap (λ c. cond c (Some (get_or bytes (UNIT_BYTES * b + p - at) 0)) (old p)) z) t
  where
    elsewhere : (p : ℕ) → (nat_lt p UNIT_BYTES && in_run at done (UNIT_BYTES * b + p)) ≡ (nat_lt p UNIT_BYTES && in_run at (done + count) (UNIT_BYTES * b + p))
    elsewhere p = elim (cases_lt p UNIT_BYTES) [
      | inl low ↦ elim (cases_lt b ((at + done) / UNIT_BYTES)) [
        | inl before ↦ grind (arith, nat_tests, within, low, before)
        | inr after ↦ let behind : (at + done) / UNIT_BYTES < b = omega (arith, after, other) in grind (arith, nat_tests, within, low, behind)
      ]
      | inr high ↦ grind (arith, nat_tests, high)
    ]

lies_more : (at done count b : ℕ) → 0 < count → (at + done) % UNIT_BYTES + count ≤ UNIT_BYTES → b ≢ (at + done) / UNIT_BYTES → lies_in at (done + count) b ≡ lies_in at done b
lies_more at done count b pos within other = elim (cases_lt b ((at + done) / UNIT_BYTES)) [
  | inl before ↦ grind (arith, nat_tests, pos, within, before)
  | inr after ↦ let behind : (at + done) / UNIT_BYTES < b = omega (arith, after, other) in grind (arith, nat_tests, pos, within, behind)
]

lies_last : (at done count : ℕ) → 0 < count → (at + done) % UNIT_BYTES + count ≤ UNIT_BYTES → lies_in at (done + count) ((at + done) / UNIT_BYTES) ≡ true
lies_last at done count pos within = grind (arith, nat_tests, pos, within)

pub one_part : (at done count : ℕ) (bytes : List ℕ) (old now : Patches) → 0 < count → done + count ≤ length bytes → (at + done) % UNIT_BYTES + count ≤ UNIT_BYTES → PutSoFar at done bytes old now → PutSoFar at (done + count) bytes old (fin.insert now ((at + done) / UNIT_BYTES) (put_patch ((at + done) % UNIT_BYTES) (take count (drop done bytes)) (patch_at now ((at + done) / UNIT_BYTES))))
one_part at done count bytes old now pos fits within put b =
    let x = (at + done) / UNIT_BYTES in
    let new = put_patch ((at + done) % UNIT_BYTES) (take count (drop done bytes)) (patch_at now x) in
    get_put now x new b ∙ elim (eqb_tells b x) [
      | inl here ↦
          ap (λ t. cond t (Some new) (fin.get now b)) here.0
          ∙ ap Some (λ t p. in_block at done count bytes (patch_at old x) (patch_at now x) p fits within (block_so_far at done bytes old now x p put) t)
          ∙ ap (λ k. Some (so_far at (done + count) bytes k (patch_at old k))) (sym here.1)
          ∙ sym (ap (λ t. cond t (Some (so_far at (done + count) bytes b (patch_at old b))) (fin.get old b)) (span_is at (done + count) b ∙ ap (lies_in at (done + count)) here.1 ∙ lies_last at done count pos within))
      | inr off ↦
          ap (λ t. cond t (Some new) (fin.get now b)) off.0
          ∙ put b
          ∙ ap (λ t. cond t (Some (so_far at done bytes b (patch_at old b))) (fin.get old b)) (span_is at done b ∙ sym (lies_more at done count b pos within off.1) ∙ sym (span_is at (done + count) b))
          ∙ ap (λ f. if list_any (nat_eq b) (span at (done + count)) then Some f else fin.get old b) (other_block at done count bytes b (patch_at old b) within off.1)
    ]

-- ---- all in one block

pub in_one_block : (at place : ℕ) (bytes : List ℕ) (old : Patches) → place ≡ at % UNIT_BYTES → 0 < length bytes → place + length bytes ≤ UNIT_BYTES → fin.insert old (at / UNIT_BYTES) (put_patch place bytes (patch_at old (at / UNIT_BYTES))) ≡ put_blocks at bytes (span at (length bytes)) old
in_one_block at place bytes old is some within =
    let n = length bytes in
    let here : at + 0 ≡ at = omega arith in
    let nothing : 0 + n ≡ n = omega arith in
    let all : take n (drop 0 bytes) ≡ bytes = take_all n bytes (omega arith) in
    let new = fin.insert old ((at + 0) / UNIT_BYTES) (put_patch ((at + 0) % UNIT_BYTES) (take n (drop 0 bytes)) (patch_at old ((at + 0) / UNIT_BYTES))) in
    ap (λ k. fin.insert old (at / UNIT_BYTES) (put_patch k bytes (patch_at old (at / UNIT_BYTES)))) is
    ∙ sym (ap (λ k. fin.insert old (k / UNIT_BYTES) (put_patch (k % UNIT_BYTES) (take n (drop 0 bytes)) (patch_at old (k / UNIT_BYTES)))) here
    ∙ ap (λ xs. fin.insert old (at / UNIT_BYTES) (put_patch (at % UNIT_BYTES) xs (patch_at old (at / UNIT_BYTES)))) all)
    ∙ all_put at bytes old new (subst (λ k. PutSoFar at k bytes old new) nothing (one_part at 0 n bytes old old some (omega arith) (omega (arith, is, within)) (none_yet at bytes old)))
