-- What is put into the blocks of a file is what is put at its places.
use Rattle.std.proofs.Common.{◌≡◌, ◌≢◌, ◌⊎◌, inl, inr, ℕ, zero, suc, ◌+◌, ◌-◌, ◌*◌, ◌/◌, ◌%◌, ◌<◌, ◌≤◌, ◌==◌, if◌then◌else◌, cond, Bool, true, false, List, [], ◌∷◌, length, get_or, refl, Some, None, Option, ap, sym, ◌∙◌, arith}
use Rattle.std.specs.Prelude.{nat_lt, nat_eq, ◌&&◌, ◌||◌, unwrap_or}
use Rattle.std.specs.List.{range_with_len, list_any}
use Rattle.std.specs.Ordering.{nat_cmp, eq_by_cmp}
use Rattle.std.specs.Cmp.{nat_cmp_total, unsigned_tied}
use Rattle.std.specs.FinMap as fin
use Rattle.std.specs.declared.cmp.Ordering.TheVariants.{Equal}
use Rattle.std.proofs.lemmas.Bool.{cases_lt, false≢true}
use Rattle.std.proofs.lemmas.Bool.Decides.{eqb_tells, nat_tests}
use Rattle.posix_calls.specs.declared.limits.TheConstants.{UNIT_BYTES}
use Rattle.graph_change.specs.Bytes.{in_run}
use Rattle.graph_change.specs.Change.{Patch, Patches, blank, patch_at, new_in, span, over_patch, put_block, put_blocks, cut_patch, cut_patches}

pub either : (b : Bool) → (b ≡ true) ⊎ (b ≡ false)
either true = inl refl
either false = inr refl

-- what a map has at a number, or else, after one was put
same_number : (j i : ℕ) → eq_by_cmp nat_cmp j i ≡ (j == i)
same_number j i = unsigned_tied j i

pub get_put : {A : Type 0} (m : fin.FinMap nat_cmp A) (i : ℕ) (a : A) (j : ℕ) → fin.get (fin.insert m i a) j ≡ (if j == i then Some a else fin.get m j)
get_put m i a j = fin.get-insert nat_cmp_total m i a j ∙ ap (λ b. cond b (Some a) (fin.get m j)) (same_number j i)

or_else : {A : Type 0} (b : Bool) (a none : A) (o : Option A) → unwrap_or (if b then Some a else o) none ≡ (if b then a else unwrap_or o none)
or_else true a none o = refl
or_else false a none o = refl

pub value_put : {A : Type 0} (none : A) (i : ℕ) (a : A) (m : fin.FinMap nat_cmp A) (j : ℕ) → unwrap_or (fin.get (fin.insert m i a) j) none ≡ (if j == i then a else unwrap_or (fin.get m j) none)
value_put none i a m j = ap (λ o. unwrap_or o none) (get_put m i a j) ∙ or_else (j == i) a none (fin.get m j)

less : {m n : ℕ} → m < n → nat_lt m n ≡ true
less {m} {n} h = grind (arith, nat_tests)

not_less : {m n : ℕ} → n ≤ m → nat_lt m n ≡ false
not_less {m} {n} h = grind (arith, nat_tests)

whole : (i : ℕ) → UNIT_BYTES * (i / UNIT_BYTES) + i % UNIT_BYTES ≡ i
whole i = omega arith

at_block : (b : ℕ) (new : Patch) (ps : Patches) (i : ℕ) → new_in (fin.insert ps b new) i ≡ (if i / UNIT_BYTES == b then new else patch_at ps (i / UNIT_BYTES)) (i % UNIT_BYTES)
at_block b new ps i = ap (λ (f : Patch). f (i % UNIT_BYTES)) (value_put blank b new ps (i / UNIT_BYTES))

one_other : (at : ℕ) (bytes : List ℕ) (b : ℕ) (ps : Patches) (i : ℕ) → (i / UNIT_BYTES == b) ≡ false → new_in (put_block at bytes b ps) i ≡ new_in ps i
one_other at bytes b ps i off =
    let new = over_patch at bytes b (patch_at ps b) in
    at_block b new ps i ∙ ap (λ t. cond t new (patch_at ps (i / UNIT_BYTES)) (i % UNIT_BYTES)) off

one_there : (at : ℕ) (bytes : List ℕ) (b : ℕ) (ps : Patches) (i : ℕ) → (i / UNIT_BYTES == b) ≡ true → i / UNIT_BYTES ≡ b → new_in (put_block at bytes b ps) i ≡ (if in_run at (length bytes) i then Some (get_or bytes (i - at) 0) else new_in ps i)
one_there at bytes b ps i here same =
    let new = over_patch at bytes b (patch_at ps b) in
    at_block b new ps i ∙ ap (λ t. cond t new (patch_at ps (i / UNIT_BYTES)) (i % UNIT_BYTES)) here
    ∙ ap (λ k. over_patch at bytes k (patch_at ps k) (i % UNIT_BYTES)) (sym same)
    ∙ ap (λ t. if t && in_run at (length bytes) (UNIT_BYTES * (i / UNIT_BYTES) + i % UNIT_BYTES) then Some (get_or bytes (UNIT_BYTES * (i / UNIT_BYTES) + i % UNIT_BYTES - at) 0) else new_in ps i) (less {m = i % UNIT_BYTES} {n = UNIT_BYTES} (omega arith))
    ∙ ap (λ k. if in_run at (length bytes) k then Some (get_or bytes (k - at) 0) else new_in ps i) (whole i)

one_out : (at : ℕ) (bytes : List ℕ) (b : ℕ) (ps : Patches) (i : ℕ) → in_run at (length bytes) i ≡ false → new_in (put_block at bytes b ps) i ≡ new_in ps i
one_out at bytes b ps i out =
    elim (eqb_tells (i / UNIT_BYTES) b) [
      | inl here ↦ one_there at bytes b ps i here.0 here.1 ∙ ap (λ t. cond t (Some (get_or bytes (i - at) 0)) (new_in ps i)) out
      | inr off ↦ one_other at bytes b ps i off.0
    ]

all_out : (at : ℕ) (bytes : List ℕ) (bs : List ℕ) (ps : Patches) (i : ℕ) → in_run at (length bytes) i ≡ false → new_in (put_blocks at bytes bs ps) i ≡ new_in ps i
all_out at bytes [] ps i out = refl
all_out at bytes (b ∷ bs) ps i out = all_out at bytes bs (put_block at bytes b ps) i out ∙ one_out at bytes b ps i out

all_stays : (at : ℕ) (bytes : List ℕ) (bs : List ℕ) (ps : Patches) (i : ℕ) → in_run at (length bytes) i ≡ true → new_in ps i ≡ Some (get_or bytes (i - at) 0) → new_in (put_blocks at bytes bs ps) i ≡ Some (get_or bytes (i - at) 0)
all_stays at bytes [] ps i inside done = done
all_stays at bytes (b ∷ bs) ps i inside done = all_stays at bytes bs (put_block at bytes b ps) i inside (elim (eqb_tells (i / UNIT_BYTES) b) [
  | inl here ↦ one_there at bytes b ps i here.0 here.1 ∙ ap (λ t. cond t (Some (get_or bytes (i - at) 0)) (new_in ps i)) inside
  | inr off ↦ one_other at bytes b ps i off.0 ∙ done
])

all_in : (at : ℕ) (bytes : List ℕ) (bs : List ℕ) (ps : Patches) (i : ℕ) → in_run at (length bytes) i ≡ true → list_any (nat_eq (i / UNIT_BYTES)) bs ≡ true → new_in (put_blocks at bytes bs ps) i ≡ Some (get_or bytes (i - at) 0)
all_in at bytes [] ps i inside has = absurd (false≢true has)
all_in at bytes (b ∷ bs) ps i inside has =
    elim (eqb_tells (i / UNIT_BYTES) b) [
      | inl here ↦ all_stays at bytes bs (put_block at bytes b ps) i inside (one_there at bytes b ps i here.0 here.1 ∙ ap (λ t. cond t (Some (get_or bytes (i - at) 0)) (new_in ps i)) inside)
      | inr off ↦ all_in at bytes bs (put_block at bytes b ps) i inside (sym (ap (λ t. t || list_any (nat_eq (i / UNIT_BYTES)) bs) off.0) ∙ has)
    ]

pub any_range : (k a j : ℕ) → a ≤ j → j < a + k → list_any (nat_eq j) (range_with_len a k) ≡ true
any_range zero a j low high = absurd (omega arith)
any_range (suc k) a j low high =
    elim (eqb_tells j a) [
      | inl here ↦ ap (λ t. t || list_any (nat_eq j) (range_with_len (a + 1) k)) here.0
      | inr off ↦ ap (λ t. t || list_any (nat_eq j) (range_with_len (a + 1) k)) off.0 ∙ any_range k (a + 1) j (let o = off.1 in omega (arith, o)) (omega arith)
    ]

pub in_span : (at n i : ℕ) → at ≤ i → i < at + n → list_any (nat_eq (i / UNIT_BYTES)) (span at n) ≡ true
in_span at n i low high =
    elim (eqb_tells n 0) [
      | inl none ↦ let e = none.1 in absurd (omega (arith, e))
      | inr some ↦
          ap (λ t. list_any (nat_eq (i / UNIT_BYTES)) (cond t [] (range_with_len (at / UNIT_BYTES) ((at + n - 1) / UNIT_BYTES + 1 - at / UNIT_BYTES)))) some.0
          ∙ any_range ((at + n - 1) / UNIT_BYTES + 1 - at / UNIT_BYTES) (at / UNIT_BYTES) (i / UNIT_BYTES) (omega arith) (omega arith)
    ]

is_in : (at n i : ℕ) → in_run at n i ≡ true → (at ≤ i) × (i < at + n)
is_in at n i h = (grind (arith, nat_tests), grind (arith, nat_tests))

pub write_written : (at : ℕ) (bytes : List ℕ) (ps : Patches) (i : ℕ) → new_in (put_blocks at bytes (span at (length bytes)) ps) i ≡ (if in_run at (length bytes) i then Some (get_or bytes (i - at) 0) else new_in ps i)
write_written at bytes ps i =
    elim (either (in_run at (length bytes) i)) [
      | inl inside ↦
          let h = is_in at (length bytes) i inside in
          all_in at bytes (span at (length bytes)) ps i inside (in_span at (length bytes) i h.0 h.1)
          ∙ sym (ap (λ t. cond t (Some (get_or bytes (i - at) 0)) (new_in ps i)) inside)
      | inr out ↦ all_out at bytes (span at (length bytes)) ps i out ∙ sym (ap (λ t. cond t (Some (get_or bytes (i - at) 0)) (new_in ps i)) out)
    ]

-- ---- a new length

-- the blocks that begin before a size
abbrev pub begun : ℕ → Patches → Patches
begun n ps = fin.retain_keys ps (λ b. nat_lt (UNIT_BYTES * b) n)

equal_keys : (n q x : ℕ) → nat_cmp q x ≡ Equal → nat_lt (UNIT_BYTES * x) n ≡ nat_lt (UNIT_BYTES * q) n
equal_keys n q x e = ap (λ k. nat_lt (UNIT_BYTES * k) n) (sym (fin.nat_cmp-IsAntisymmetric q x e))

pub get_begun : (n : ℕ) (ps : Patches) (b : ℕ) → fin.get (begun n ps) b ≡ cond (nat_lt (UNIT_BYTES * b) n) (fin.get ps b) None
get_begun n ps b = fin.get-retain_keys ps (λ x. nat_lt (UNIT_BYTES * x) n) b (λ x e. equal_keys n b x e)

-- what is left of a block
abbrev cut_at : ℕ → Option Patch → ℕ → Option ℕ
cut_at place o p = if nat_lt p place then unwrap_or o blank p else None

no_cut : (t : Bool) → ◌≡◌ {A = Option ℕ} None (if t then None else None)
no_cut true = refl
no_cut false = refl

at_place : (t : Bool) (f g : Patch) (p : ℕ) → (if t then f else g) p ≡ (if t then f p else g p)
at_place true f g p = refl
at_place false f g p = refl

last_get : (n : ℕ) (ps : Patches) (o : Option Patch) (b p : ℕ) → fin.get ps (n / UNIT_BYTES) ≡ o → patch_at (elim o [ None ↦ ps | Some old ↦ fin.insert ps (n / UNIT_BYTES) (cut_patch (n % UNIT_BYTES) old) ]) b p ≡ (if b == n / UNIT_BYTES then cut_at (n % UNIT_BYTES) o p else patch_at ps b p)
last_get n ps None b p is =
    elim (eqb_tells b (n / UNIT_BYTES)) [
      | inl here ↦
          ap (λ k. patch_at ps k p) here.1 ∙ ap (λ o. unwrap_or o blank p) is ∙ no_cut (nat_lt p (n % UNIT_BYTES))
          ∙ sym (ap (λ t. cond t (cut_at (n % UNIT_BYTES) None p) (patch_at ps b p)) here.0)
      | inr off ↦ sym (ap (λ t. cond t (cut_at (n % UNIT_BYTES) None p) (patch_at ps b p)) off.0)
    ]
last_get n ps (Some old) b p is =
    ap (λ (f : Patch). f p) (value_put blank (n / UNIT_BYTES) (cut_patch (n % UNIT_BYTES) old) ps b)
    ∙ at_place (b == n / UNIT_BYTES) (cut_patch (n % UNIT_BYTES) old) (patch_at ps b) p

same_block : (n : ℕ) (ps : Patches) (i : ℕ) → i / UNIT_BYTES ≡ n / UNIT_BYTES → cut_at (n % UNIT_BYTES) (cond (nat_lt (UNIT_BYTES * (n / UNIT_BYTES)) n) (fin.get ps (n / UNIT_BYTES)) None) (i % UNIT_BYTES) ≡ (if nat_lt i n then new_in ps i else None)
same_block n ps i same =
    elim (cases_lt i n) [
      | inl low ↦
          ap (λ t. cond t (unwrap_or (cond (nat_lt (UNIT_BYTES * (n / UNIT_BYTES)) n) (fin.get ps (n / UNIT_BYTES)) None) blank (i % UNIT_BYTES)) None) (less {m = i % UNIT_BYTES} {n = n % UNIT_BYTES} (omega (arith, same, low)))
          ∙ ap (λ t. unwrap_or (cond t (fin.get ps (n / UNIT_BYTES)) None) blank (i % UNIT_BYTES)) (less {m = UNIT_BYTES * (n / UNIT_BYTES)} {n = n} (omega (arith, same, low)))
          ∙ ap (λ k. unwrap_or (fin.get ps k) blank (i % UNIT_BYTES)) (sym same)
          ∙ sym (ap (λ t. cond t (new_in ps i) None) (less low))
      | inr high ↦
          ap (λ t. cond t (unwrap_or (cond (nat_lt (UNIT_BYTES * (n / UNIT_BYTES)) n) (fin.get ps (n / UNIT_BYTES)) None) blank (i % UNIT_BYTES)) None) (not_less {m = i % UNIT_BYTES} {n = n % UNIT_BYTES} (omega (arith, same, high)))
          ∙ sym (ap (λ t. cond t (new_in ps i) None) (not_less high))
    ]

other_block : (n : ℕ) (ps : Patches) (i : ℕ) → i / UNIT_BYTES ≢ n / UNIT_BYTES → unwrap_or (cond (nat_lt (UNIT_BYTES * (i / UNIT_BYTES)) n) (fin.get ps (i / UNIT_BYTES)) None) blank (i % UNIT_BYTES) ≡ (if nat_lt i n then new_in ps i else None)
other_block n ps i other =
    elim (cases_lt i n) [
      | inl low ↦
          ap (λ t. unwrap_or (cond t (fin.get ps (i / UNIT_BYTES)) None) blank (i % UNIT_BYTES)) (less {m = UNIT_BYTES * (i / UNIT_BYTES)} {n = n} (omega (arith, low)))
          ∙ sym (ap (λ t. cond t (new_in ps i) None) (less low))
      | inr high ↦
          ap (λ t. unwrap_or (cond t (fin.get ps (i / UNIT_BYTES)) None) blank (i % UNIT_BYTES)) (not_less {m = UNIT_BYTES * (i / UNIT_BYTES)} {n = n} (omega (arith, other, high)))
          ∙ sym (ap (λ t. cond t (new_in ps i) None) (not_less high))
    ]

pub cut_new : (n : ℕ) (ps : Patches) (i : ℕ) → new_in (cut_patches n ps) i ≡ (if nat_lt i n then new_in ps i else None)
cut_new n ps i =
    let u = UNIT_BYTES in
    last_get n (begun n ps) (fin.get (begun n ps) (n / UNIT_BYTES)) (i / UNIT_BYTES) (i % UNIT_BYTES) refl
    ∙ elim (eqb_tells (i / UNIT_BYTES) (n / UNIT_BYTES)) [
      | inl here ↦
          ap (λ t. cond t (cut_at (n % UNIT_BYTES) (fin.get (begun n ps) (n / UNIT_BYTES)) (i % UNIT_BYTES)) (patch_at (begun n ps) (i / UNIT_BYTES) (i % UNIT_BYTES))) here.0
          ∙ ap (λ o. cut_at (n % UNIT_BYTES) o (i % UNIT_BYTES)) (get_begun n ps (n / UNIT_BYTES))
          ∙ same_block n ps i here.1
      | inr off ↦
          ap (λ t. cond t (cut_at (n % UNIT_BYTES) (fin.get (begun n ps) (n / UNIT_BYTES)) (i % UNIT_BYTES)) (patch_at (begun n ps) (i / UNIT_BYTES) (i % UNIT_BYTES))) off.0
          ∙ ap (λ o. unwrap_or o blank (i % UNIT_BYTES)) (get_begun n ps (i / UNIT_BYTES))
          ∙ other_block n ps i off.1
    ]
