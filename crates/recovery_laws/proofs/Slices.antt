-- Slices of texts that are filled up with zeros.
use Rattle.std.proofs.Common.{◌≡◌, ℕ, ◌+◌, ◌-◌, ◌≤◌, List, ◌++◌, length, take, drop, ap, ◌∙◌, arith}
use Rattle.std.proofs.Math.Seq.{drop-append-add}
use Rattle.std.proofs.lemmas.List.{length-drop, take-append-le, drop-append-le, take-replicate, drop-replicate, drop-drop, drop-take, take-take, take_all}
use Rattle.layout.specs.Bytes.{zeros}
use Rattle.digester.specs.batch_journal.Images.{slice}

pub slice_zeros : (at n m : ℕ) → at + n ≤ m → slice at n (zeros m) ≡ zeros n
unfolding zeros
slice_zeros at n m le = ap (take n) (drop-replicate at m 0) ∙ take-replicate n (m - at) 0 (omega (arith, le))

pub slice_front : (at n : ℕ) (a b : List ℕ) → at + n ≤ length a → slice at n (a ++ b) ≡ slice at n a
slice_front at n a b le =
    let inside : at ≤ length a = omega (arith, le) in
    let left : n ≤ length (drop at a) = omega (arith, le, length-drop at a) in
    ap (take n) (drop-append-le at a b inside) ∙ take-append-le n (drop at a) b left

pub slice_behind : (at k n : ℕ) (a b : List ℕ) → at ≡ length a + k → slice at n (a ++ b) ≡ slice k n b
slice_behind at k n a b is = ap (λ j. take n (drop j (a ++ b))) is ∙ ap (take n) (drop-append-add a b k)

pub slice_whole : (n : ℕ) (a : List ℕ) → length a ≡ n → slice 0 n a ≡ a
slice_whole n a long = take_all n a (omega (arith, long))

-- a slice of a slice
pub slice_slice : (o n at m : ℕ) (c : List ℕ) → o + n ≤ m → slice o n (slice at m c) ≡ slice (at + o) n c
slice_slice o n at m c le =
    let split : m ≡ o + (m - o) = omega (arith, le) in
    let room : n ≤ m - o = omega (arith, le) in
    ap (λ j. take n (drop o (take j (drop at c)))) split ∙ ap (take n) (drop-take o (m - o) (drop at c) ∙ ap (take (m - o)) (drop-drop o at c)) ∙ take-take n (m - o) (drop (at + o) c) room
