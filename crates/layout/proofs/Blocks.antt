-- Bytes that are filled up with zeros.
use Rattle.std.proofs.Common.{◌≡◌, ℕ, zero, suc, ◌+◌, ◌-◌, ◌≤◌, true, cond, eqb, List, [], ◌∷◌, ◌++◌, length, take, drop, Some, None, refl, sym, ap, ◌∙◌, append_assoc, arith}
use Rattle.std.proofs.lemmas.Bool.{eqb-true}
use Rattle.std.proofs.Math.Seq.{drop-append-add}
use Rattle.std.proofs.lemmas.List.{take_at, length-append, length-take, drop-drop, length-replicate, drop-replicate, drop-append-le, replicate-append-replicate}
use Rattle.std.specs.Prelude.{replicate}
use Rattle.layout.specs.Bytes.{◌>>=◌, Field, u32, u64, zeros, padded_text, with_text, are_zero, within}
use Rattle.layout.proofs.Fields.{Takes, u32_long, u64_long, eqb-same, guard_some, test_some, bind_some}
use Rattle.layout.proofs.Limits.{and_parts}

pub zeros_long : (n : ℕ) → length (zeros n) ≡ n
unfolding zeros
zeros_long n = length-replicate n 0

pub zeros_are_zero : (n : ℕ) → are_zero (zeros n) ≡ true
unfolding zeros
zeros_are_zero zero = refl
zeros_are_zero (suc n) = zeros_are_zero n

pub are_zero_zeros : (bytes : List ℕ) → are_zero bytes ≡ true → bytes ≡ zeros (length bytes)
unfolding zeros
are_zero_zeros [] e = refl
are_zero_zeros (b ∷ bytes) e =
    let p = and_parts (eqb b 0) (are_zero bytes) e in
    let behind : bytes ≡ replicate (length bytes) 0 = are_zero_zeros bytes p.1 in
    ap (λ (k : ℕ). k ∷ bytes) (eqb-true b 0 p.0) ∙ ap (λ (t : List ℕ). 0 ∷ t) behind

pub zeros_drop : (m n : ℕ) → drop m (zeros n) ≡ zeros (n - m)
unfolding zeros
zeros_drop m n = drop-replicate m n 0

pub zeros_more : (m n : ℕ) → zeros m ++ zeros n ≡ zeros (m + n)
unfolding zeros
zeros_more m n = replicate-append-replicate m n 0

-- ---- writing on

pub filled_nothing : (n : ℕ) → zeros n ≡ padded_text n []
unfolding padded_text
filled_nothing n = ap zeros (omega arith)

-- zero bytes are nothing, filled up
pub blank_filled : (n : ℕ) (bytes : List ℕ) → length bytes ≡ n → are_zero bytes ≡ true → bytes ≡ padded_text n []
blank_filled n bytes long blank = are_zero_zeros bytes blank ∙ ap zeros long ∙ filled_nothing n

pub written_on : (n at : ℕ) (text w old : List ℕ) → old ≡ padded_text n text → at ≡ length text → length text + length w ≤ n → with_text at w old ≡ padded_text n (text ++ w)
unfolding padded_text
written_on n at text w old is there fits =
    let front : take at (text ++ zeros (n - length text)) ≡ text = take_at text (zeros (n - length text)) at (sym there) in
    let far : drop (at + length w) (text ++ zeros (n - length text)) ≡ zeros (n - length (text ++ w)) =
    ap (λ (k : ℕ). drop k (text ++ zeros (n - length text))) (omega (arith, there)) ∙ drop-append-add text (zeros (n - length text)) (length w) ∙ zeros_drop (length w) (n - length text) ∙ ap zeros (omega (arith, length-append text w)) in
    rw (is, front, far) refl

-- two texts, one behind the other, are one
pub overwritten_then : (at next : ℕ) (u v old : List ℕ) → at + length u ≡ next → next + length v ≤ length old → with_text next v (with_text at u old) ≡ with_text at (u ++ v) old
overwritten_then at next u v old there fits =
    let front : List ℕ = take at old ++ u in
    let rest : List ℕ = drop (at + length u) old in
    let long : length front ≡ next = omega (arith, there, fits, length-append (take at old) u, length-take at old) in
    let before : take next (front ++ rest) ≡ front = take_at front rest next long in
    let after : drop (next + length v) (front ++ rest) ≡ drop (at + length (u ++ v)) old =
    ap (λ (k : ℕ). drop k (front ++ rest)) (omega (arith, long)) ∙ drop-append-add front rest (length v)
    ∙ drop-drop (length v) (at + length u) old
    ∙ ap (λ (k : ℕ). drop k old) (omega (arith, length-append u v)) in
    rw (before, after) (ap (λ (t : List ℕ). t ++ drop (at + length (u ++ v)) old) (append_assoc (take at old) u v))

-- and three are
pub overwritten_thrice : (at second third : ℕ) (u v w old : List ℕ) → at + length u ≡ second → second + length v ≡ third → third + length w ≤ length old
    → with_text third w (with_text second v (with_text at u old)) ≡ with_text at (u ++ (v ++ w)) old
overwritten_thrice at second third u v w old there next fits =
    ap (with_text third w) (overwritten_then at second u v old there (omega (arith, next, fits)))
    ∙ overwritten_then at third (u ++ v) w old (omega (arith, there, next, length-append u v)) fits
    ∙ ap (λ (t : List ℕ). with_text at t old) (append_assoc u v w)

pub written_u32 : (n at x : ℕ) (text old : List ℕ) → old ≡ padded_text n text → length text ≡ at → at + 4 ≤ n → (with_text at (u32 x) old ≡ padded_text n (text ++ u32 x)) × (length (text ++ u32 x) ≡ at + 4)
written_u32 n at x text old is long fits =
    (written_on n at text (u32 x) old is (sym long) (omega (arith, u32_long x)), omega (arith, length-append text (u32 x), u32_long x))

pub written_u64 : (n at x : ℕ) (text old : List ℕ) → old ≡ padded_text n text → length text ≡ at → at + 8 ≤ n → (with_text at (u64 x) old ≡ padded_text n (text ++ u64 x)) × (length (text ++ u64 x) ≡ at + 8)
written_u64 n at x text old is long fits =
    (written_on n at text (u64 x) old is (sym long) (omega (arith, u64_long x)), omega (arith, length-append text (u64 x), u64_long x))

-- a text over zeros is the text filled up with zeros
pub over_zeros : (n at : ℕ) (text old : List ℕ) → at + n ≤ length old → length text ≤ n → with_text at text (with_text at (zeros n) old) ≡ with_text at (padded_text n text) old
unfolding padded_text
over_zeros n at text old fits short =
    let front : List ℕ = take at old in
    let rest : List ℕ = drop (at + n) old in
    let gap : List ℕ = zeros (n - length text) in
    let long : length front ≡ at = omega (arith, fits, length-take at old) in
    let first : with_text at (zeros n) old ≡ front ++ (zeros n ++ rest) =
    ap (λ (k : ℕ). (front ++ zeros n) ++ drop (at + k) old) (zeros_long n) ∙ append_assoc front (zeros n) rest in
    let before : take at (front ++ (zeros n ++ rest)) ≡ front = take_at front (zeros n ++ rest) at long in
    let after : drop (at + length text) (front ++ (zeros n ++ rest)) ≡ gap ++ rest =
    ap (λ (k : ℕ). drop (k + length text) (front ++ (zeros n ++ rest))) (sym long)
    ∙ drop-append-add front (zeros n ++ rest) (length text)
    ∙ drop-append-le (length text) (zeros n) rest (omega (arith, short, zeros_long n))
    ∙ ap (λ (t : List ℕ). t ++ rest) (zeros_drop (length text) n) in
    let same_end : rest ≡ drop (at + length (text ++ gap)) old = ap (λ (k : ℕ). drop k old) (omega (arith, length-append text gap, zeros_long (n - length text), short)) in
    let shifted : (front ++ text) ++ (gap ++ rest) ≡ (front ++ (text ++ gap)) ++ rest = simp append_assoc in
    rw (first, before, after) (shifted ∙ ap (λ (t : List ℕ). (front ++ (text ++ gap)) ++ t) same_end)

-- filled up in two steps
pub filled_twice : (m n : ℕ) (text : List ℕ) → length text ≤ m → m ≤ n → padded_text n text ≡ padded_text n (padded_text m text)
unfolding padded_text
filled_twice m n text few le =
    let gap : List ℕ = zeros (m - length text) in
    let long : length (text ++ gap) ≡ m = omega (arith, few, length-append text gap, zeros_long (m - length text)) in
    let parts : zeros (n - length text) ≡ gap ++ zeros (n - length (text ++ gap)) =
    ap zeros (omega (arith, few, le, long)) ∙ sym (zeros_more (m - length text) (n - length (text ++ gap))) in
    ap (λ (t : List ℕ). text ++ t) parts ∙ sym (append_assoc text gap (zeros (n - length (text ++ gap))))

-- ---- reading

pub within_parts : {A : Type 0} (n : ℕ) (field : Field A) (bytes : List ℕ) (x : A) → within n field bytes ≡ Some x → (rest : List ℕ) × (length bytes ≡ n) × (field bytes ≡ Some (x, rest)) × (are_zero rest ≡ true)
within_parts {A = A} n field bytes x e =
    let g = guard_some (eqb (length bytes) n) (field bytes >>= λ y. cond (are_zero y.1) (Some y.0) None) x e in
    let b = bind_some (field bytes) (λ y. cond (are_zero y.1) (Some y.0) None) x g.1 in
    let t = test_some (are_zero b.0.1) b.0.0 x b.2 in
    (b.0.1, eqb-true _ _ g.0, b.1 ∙ ap (λ (y : A). Some (y, b.0.1)) t.1, t.0)

-- what a field took is all that is not zero
pub filled_from : (n : ℕ) (bytes text rest : List ℕ) → length bytes ≡ n → Takes bytes text rest → are_zero rest ≡ true → bytes ≡ padded_text n text
unfolding padded_text
filled_from n bytes text rest long takes empty =
    let count : length rest ≡ n - length text = omega (arith, long, ap length takes.parts, length-append text rest) in
    takes.parts ∙ ap (λ (t : List ℕ). text ++ t) (are_zero_zeros rest empty ∙ ap zeros count)

pub filled_long : (n : ℕ) (text : List ℕ) → length text ≤ n → length (padded_text n text) ≡ n
unfolding padded_text
filled_long n text few = omega (arith, length-append text (zeros (n - length text)), zeros_long (n - length text))

pub within_again : {A : Type 0} (n : ℕ) (field : Field A) (text : List ℕ) (x : A) → length text ≤ n → field (text ++ zeros (n - length text)) ≡ Some (x, zeros (n - length text)) → within n field (padded_text n text) ≡ Some x
unfolding padded_text
within_again n field text x few e =
    let long : eqb (length (text ++ zeros (n - length text))) n ≡ true = ap (λ (k : ℕ). eqb k n) (filled_long n text few) ∙ eqb-same n in
    rw (long, e, zeros_are_zero (n - length text)) refl
